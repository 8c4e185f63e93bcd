-- What marking does to the table of the steps from which on atoms are taken: an atom that occurs in one of some terms and has the entry
-- 0 gets a new one. Every other entry stays: the first step at which an atom is taken is never written over.
use Rattle.std.specs.Prelude.{ℕ, zero, suc, Bool, true, false, List, ◌≡◌, length, get_or}
use Rattle.words.specs.Choice.{pick}
use Rattle.terms.specs.Term.{Term, occurs}
use Rattle.terms.specs.Table.{term}
use Rattle.book.specs.Layout.{table}
use Rattle.translation.specs.Taken.{occurs_in_one}
pub mod Laws

-- an entry afterwards, of an atom that occurs or doesn't, where x is the new one
unfoldable pub marked : ℕ → Bool → ℕ → ℕ
marked zero o x = pick o x 0
marked (suc e) o x = suc e

-- the table l became m: the terms ts were marked with x
pub record Marked (ts : List Term) (x : ℕ) (l m : List ℕ) : Type 0 where
  pub sized : length m ≡ 1024
  pub each : (q : ℕ) → get_or m q 0 ≡ marked (get_or l q 0) (occurs_in_one q ts) x

-- ---- rows gone through
-- k marks rows of which all atoms have an entry in l, so that they need not be gone through again
abbrev pub Seen : List ℕ → List Bool → List ℕ → Type 0
Seen b k l = (r q : ℕ) → get_or k r false ≡ true → occurs q (term (table b) r) ≡ true → get_or l q 0 ≡ 0 → ⊥

pub record Ready (b l : List ℕ) (k : List Bool) : Type 0 where
  pub sized : length l ≡ 1024
  pub room : length k ≡ 1024
  pub seen : Seen b k l
