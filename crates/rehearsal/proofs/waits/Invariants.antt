-- `rehearsal::waits` meets its contract: the party waits for none of the steps that were passed. Assumes nothing.
use Prim.Native.Nat.{ℕ, ◌<◌}
use mathlib.Core.Path.{◌≡◌}
use mathlib.Core.List.{[]}
use mathlib.Core.Bool.{false}
use Rattle.playing.specs.Counting.{waits_for}
use Rattle.rehearsal.specs.Kept.{places, counts}
use Rattle.rehearsal.proofs.waits.Given as goal

abbrev pub invariant-loop-step : goal.invariant-loop-step
invariant-loop-step l = (k : ℕ) → k < l.step → waits_for l.book (places l.sends l.receives []) (counts l.done) l.party k ≡ false
