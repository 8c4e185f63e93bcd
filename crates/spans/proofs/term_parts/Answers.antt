-- `spans::term_parts` meets its contract, word by word of the table. Assumes nothing.
use Rattle.std.proofs.Common.{rules}
use Rattle.spans.specs.Behind.Terms.{parts-two, parts-none}
use Rattle.spans.proofs.term_parts.Goals as goal

pub returns-in-2 : goal.returns-in-2
returns-in-2 c = search (rules, parts-two)

pub returns-in_default : goal.returns-in_default
returns-in_default c = search (rules, parts-none)

pub returns-in_default-2 : goal.returns-in_default-2
returns-in_default-2 c = search (rules, parts-none)
