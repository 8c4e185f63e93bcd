-- `spans::process_parts` meets its contract, word by word of the table. Assumes nothing.
use Rattle.std.proofs.Common.{rules}
use Rattle.spans.specs.Behind.Processes.{parts-two, parts-none, parts-one}
use Rattle.spans.proofs.process_parts.Goals as goal

pub returns-in-4 : goal.returns-in-4
returns-in-4 c = search (rules, parts-two)

pub returns-in-5 : goal.returns-in-5
returns-in-5 c = search (rules, parts-none)

pub returns-in_default : goal.returns-in_default
returns-in_default c = search (rules, parts-one)
