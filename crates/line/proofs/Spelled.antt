-- What `put_words` knows in its loop: the words that were passed stand in the line, up to eleven bytes each. Assumes nothing.
use Prim.Native.Nat.{ℕ, ◌+◌, ◌*◌, ◌≤◌, ◌<◌}
use mathlib.Core.Path.{◌≡◌, refl, ◌∙◌, ap}
use mathlib.Core.List.{List, ◌++◌}
use native.Mathlib.Omega.{arith}
use lib.ListN.{length, get_or, take}
use lib.Seq.{take-length}
use Rattle.line.specs.Line.{spaced, spaced_all, Put}
use Rattle.line.specs.Line.Laws.{spelled-next}

-- the first i words stand in front of place `at`
pub record Spelled (words : List ℕ) (i : ℕ) (line : List ℕ) (at : ℕ) : Type 0 where
  pub front : take at line ≡ spaced_all (take i words)
  pub low : at ≤ 11 * i

module _ (words : List ℕ) where
  pub spelled_none : (line : List ℕ) → Spelled words 0 line 0
  unfolding spaced_all
  spelled_none line = record { front = refl; low = omega arith }

  -- one word more
  pub spelled-more : {i at r : ℕ} {line new : List ℕ} → i < length words → Spelled words i line at → Put (spaced (get_or words i 0)) line at new r
      → r ≤ at + 11 → Spelled words (i + 1) new r
  spelled-more {i} l h put few =
      record {
        front = put.front ∙ ap (λ (t : List ℕ). t ++ spaced (get_or words i 0)) h.front ∙ spelled-next words i l;
        low = let m = h.low in omega arith;
      }

  -- all of them
  pub spelled-all : {i at : ℕ} {line : List ℕ} → i ≡ length words → Spelled words i line at
      → (take at line ≡ spaced_all words) × (at ≤ 11 * length words)
  spelled-all e h =
      let m = h.low in
      (h.front ∙ ap (λ (n : ℕ). spaced_all (take n words)) e ∙ ap spaced_all (take-length words), omega arith)
