-- The parts of a row that keeps its rule.
use Rattle.std.specs.Prelude.{ℕ, ◌+◌, ◌≤◌, ◌<◌, List}
use Rattle.book.specs.Layout.{pool, pooled}
pub mod Laws

-- those of row k, which begin at f in the pool: at most 9, all in the pool, and all rows before it
pub record Parts (b : List ℕ) (k f n : ℕ) : Type 0 where
  pub few : n ≤ 9
  pub inside : f + n ≤ pool b
  pub earlier : (j : ℕ) → j < n → pooled b f j < k
