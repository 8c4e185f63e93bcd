-- Who sends a step of a valid book is a party. Assumes nothing.
use Prim.Native.Nat.{ℕ, ◌<◌}
use mathlib.Core.List.{List}
use Rattle.book.specs.Layout.{parties, steps, sender}
use Rattle.book.specs.Valid.{Valid}

-- each step's sender is a party
pub party-sends : (b : List ℕ) (s : ℕ) → Valid b → s < steps b → sender b s < parties b
party-sends b s v l = (v.steps_keep s l).sends
