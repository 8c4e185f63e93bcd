-- What the reader has established on its way behind the header: what a walk over the rows, the parties or the steps knows as it goes and
-- when it stops.
use Rattle.std.specs.Prelude.{ℕ, ◌≤◌, ◌<◌, Bool, List, Some, None, Result, Ok, Err, ◌≡◌}
use Rattle.book.specs.Layout.{rows, pool}
use Rattle.book.specs.Rules.{RowRule}
use Rattle.header.specs.Scans.{Passed, Found}
use Rattle.rows.specs.declared.Stopped.{Stopped}
pub mod Laws

-- a walk has come to `place`: no place before it breaks its rule, and the counts before it are `sum`
pub record Summed (b : List ℕ) (breaks : ℕ → Bool) (before : ℕ → ℕ) (place sum : ℕ) : Type 0 where
  pub passed : Passed breaks place
  pub summed : sum ≡ before place
  pub inside : sum ≤ pool b

-- it stopped at the smallest of n places that breaks the rule, or behind the last; the counts before that place are its sum, and lie in the
-- pool
abbrev pub Scanned : List ℕ → (ℕ → Bool) → (ℕ → ℕ) → ℕ → Result ℕ Stopped → Type 0
Scanned b breaks before n (Ok sum) = Found breaks n None × (sum ≡ before n) × (sum ≤ pool b)
Scanned b breaks before n (Err s) = Found breaks n (Some s.place) × (s.sum ≡ before s.place) × (s.sum ≤ pool b)

-- every row keeps its rule
abbrev pub RowsKeep : List ℕ → Type 0
RowsKeep b = (r : ℕ) → r < rows b → RowRule b r
