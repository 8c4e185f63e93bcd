-- `spans::term_own` meets its contract, word by word of the table. Assumes nothing.
use Rattle.std.proofs.Common.{rules}
use Rattle.spans.specs.Behind.Terms.{term-leaf, term-cut, term-two, term-none}
use Rattle.spans.proofs.term_own.Goals as goal

pub returns-in-1 : goal.returns-in-1
returns-in-1 c = search term-leaf

pub returns-in-2 : goal.returns-in-2
returns-in-2 c = search (rules, term-two)

pub returns-in_default : goal.returns-in_default
returns-in_default c = search term-cut

pub returns-in_default-2 : goal.returns-in_default-2
returns-in_default-2 c = search (rules, term-none)

pub returns-in_default-3 : goal.returns-in_default-3
returns-in_default-3 c = search (rules, term-none)
