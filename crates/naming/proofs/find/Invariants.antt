-- `naming::find` meets its contract: none of the placeholders before is the one. Assumes nothing.
use Prim.Native.Nat.{◌<◌, ℕ}
use mathlib.Core.Bool.{false}
use mathlib.Core.Path.{◌≡◌}
use Rattle.naming.specs.Called.{is_placeholder}
use Rattle.naming.proofs.find.Given as goal

abbrev pub invariant-loop-k : goal.invariant-loop-k
invariant-loop-k l = (j : ℕ) → j < l.k → is_placeholder l.log l.x j ≡ false
