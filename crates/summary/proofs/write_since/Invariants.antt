-- `summary::write_since` meets its contract: one row more, by its entry. Assumes nothing.
use Rattle.words.specs.Overlay.{Wrote}
use Rattle.summary.specs.Writing.{since_words}
use Rattle.summary.proofs.write_since.Given as goal

abbrev pub invariant-loop-entry : goal.invariant-loop-entry
invariant-loop-entry l = Wrote (since_words l.entries l.never l.entry-index) l.initial.out l.at l.out l.next
