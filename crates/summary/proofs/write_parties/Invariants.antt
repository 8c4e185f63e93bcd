-- `summary::write_parties` meets its contract: the words of the parties passed are written, and each turn adds one's.
-- Assumes nothing.
use Rattle.words.specs.Overlay.{Wrote}
use Rattle.summary.specs.Summary.{held_to}
use Rattle.summary.proofs.write_parties.Given as goal

abbrev pub invariant-loop-party : goal.invariant-loop-party
invariant-loop-party l = Wrote (held_to l.book l.party) l.initial.out l.at l.out l.next
