-- `words::put` meets its contract: the word is set at its place, and past the end `set` does nothing (`set_out`).
-- Assumes nothing.
use lib.Seq.{set_out}
use native.Mathlib.Omega.{arith}
use borrow.Author.Rules.{rules}
use Rattle.words.proofs.put.Goals as goal

pub returns-then-at-lt-CAP : goal.returns-then-at-lt-CAP
returns-then-at-lt-CAP c = search (set_out, rules)

-- past the end and past the cap: nothing is written, and the place stays
pub returns : goal.returns
returns c = record { list = search (set_out, rules); next = omega arith; room = λ z. omega arith }
