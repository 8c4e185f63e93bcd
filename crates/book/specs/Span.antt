-- A list of rows in the pool, as code goes through it: the first of them, and the rest.
use Rattle.std.specs.Prelude.{ℕ, ◌+◌, ◌≤◌, ◌<◌, List}
use Rattle.words.specs.Run.{All}
use Rattle.book.specs.Layout.{pool, pooled, list_at}
pub mod Laws

-- the row that stands at f in the pool
abbrev pub entry : List ℕ → ℕ → ℕ
entry b f = pooled b f 0

-- the n rows from f on lie in the pool, are at most nine, and are rows below a bound
pub record Span (b : List ℕ) (bound f n : ℕ) : Type 0 where
  pub inside : f + n ≤ pool b
  pub below : All (λ p. p < bound) (list_at b f n)
  pub few : n ≤ 9
