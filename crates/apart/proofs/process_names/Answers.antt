-- `apart::process_names` meets its contract, word by word of the table. Assumes nothing.
use Rattle.std.proofs.Common.{rules}
use Rattle.apart.specs.Bound.Asked.{names-two, names-one, names-one-too, names-none}
use Rattle.apart.proofs.process_names.Goals as goal

pub returns-in-6 : goal.returns-in-6
returns-in-6 c = search (rules, names-two)

pub returns-in_default : goal.returns-in_default
returns-in_default c = search (rules, names-none)

pub returns-in_default-2 : goal.returns-in_default-2
returns-in_default-2 c = search (rules, names-none)

pub returns-in-1 : goal.returns-in-1
returns-in-1 c = search (rules, names-one)

pub returns-in-1-2 : goal.returns-in-1-2
returns-in-1-2 c = search (rules, names-one-too)
