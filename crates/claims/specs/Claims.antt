-- "Taken", computed once for a book. Document 01: "An atom is taken at a step if it is a party's name, or occurs at any depth in any
-- party's starting knowledge or in a message of an earlier step."
use Rattle.std.specs.Prelude.{ℕ, ◌+◌, ◌≤◌, List, ◌≡◌, length, get_or}
use Rattle.words.specs.Run.{values}
use Rattle.translation.specs.Narration.{Narration, narration, step_at}
use Rattle.translation.specs.Taken.{taken}
use Rattle.claims.specs.Since.{taken_in}
pub mod Laws

-- the table l says of every step and every row what the narration says
abbrev pub Claims : List ℕ → List ℕ → Type 0
Claims b l = (s q : ℕ) → taken_in l s q ≡ taken (narration b) s q

-- ---- on the way there
-- the book's narration with the first k steps only
unfoldable pub cut : List ℕ → ℕ → Narration
cut b k = record { names = (narration b).names; knows = (narration b).knows; makes = (narration b).makes; says = values (step_at b) 0 k }

-- the table once k steps are gone through: no entry is of a later step
pub record ClaimsBefore (b : List ℕ) (k : ℕ) (l : List ℕ) : Type 0 where
  pub sized : length l ≡ 1024
  pub early : (q : ℕ) → get_or l q 0 ≤ k + 1
  pub claims : (s q : ℕ) → taken_in l s q ≡ taken (cut b k) s q
