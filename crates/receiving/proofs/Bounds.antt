-- How much a valid book holds. Assumes nothing.
use Prim.Native.Nat.{ℕ, ◌≤◌, ◌<◌}
use native.Mathlib.Omega.{arith}
use mathlib.Core.List.{List}
use mathlib.Core.Path.{◌≡◌}
use Rattle.book.specs.Layout.{rows, kind, row_count}
use Rattle.book.specs.Valid.{Valid}
use Rattle.book.specs.Span.Laws.{some-part}

-- a cipher has a key among its c parts
pub some_key : (b : List ℕ) → Valid b → (r c : ℕ) → r < rows b → kind b r ≡ 2 → c ≡ row_count b r → 1 ≤ c
some_key b v r c h k d = let s = some-part b v r h (omega arith) in omega arith
