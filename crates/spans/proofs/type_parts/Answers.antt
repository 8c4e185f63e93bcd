-- `spans::type_parts` meets its contract, word by word of the table. Assumes nothing.
use Rattle.std.proofs.Common.{rules}
use Rattle.spans.specs.Behind.Types.{parts-two, parts-one, parts-none}
use Rattle.spans.proofs.type_parts.Goals as goal

pub returns-in-2 : goal.returns-in-2
returns-in-2 c = search (rules, parts-two)

pub returns-in-3 : goal.returns-in-3
returns-in-3 c = search (rules, parts-one)

pub returns-in_default : goal.returns-in_default
returns-in_default c = search (rules, parts-none)

pub returns-in_default-2 : goal.returns-in_default-2
returns-in_default-2 c = search (rules, parts-none)
