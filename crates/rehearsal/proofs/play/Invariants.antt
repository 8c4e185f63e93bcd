-- `rehearsal::play` meets its contract: the counts are those of the moves that were passed, and each turn adds one
-- move (`played-on`). Assumes nothing.
use mathlib.Core.Path.{◌≡◌}
use lib.ListN.{length, take}
use Rattle.playing.specs.Counting.{ticked_all}
use Rattle.rehearsal.specs.Kept.{places, counts}
use Rattle.rehearsal.proofs.play.Given as goal

abbrev pub invariant-loop-party : goal.invariant-loop-party
invariant-loop-party l =
    (counts l.done ≡ ticked_all l.book (places l.sends l.receives l.ends) (take l.party-index l.schedule) (counts l.initial.done))
    × (length l.done ≡ 16)
