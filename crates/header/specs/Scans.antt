-- A loop over numbered places that looks for the first of them that breaks a rule.
use Rattle.std.specs.Prelude.{ℕ, ◌≤◌, ◌<◌, Bool, false, Option, Some, None, ◌≡◌}
use Rattle.words.specs.First.{first}
pub mod Laws

-- no place before k breaks the rule
abbrev pub Passed : (ℕ → Bool) → ℕ → Type 0
Passed t k = (j : ℕ) → j < k → t j ≡ false

-- a loop over n places has come to place k
pub record Scanning (t : ℕ → Bool) (n k : ℕ) : Type 0 where
  pub passed : Passed t k
  pub within : k ≤ n

-- the smallest of n places that breaks the rule, where there is one
abbrev pub Found : (ℕ → Bool) → ℕ → Option ℕ → Type 0
Found t n None = n ≡ first t n
Found t n (Some k) = (k ≡ first t n) × (k < n)
