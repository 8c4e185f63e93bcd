-- Where the answer to a question stands, by a summary's length and its first three words alone, so that the words may lie anywhere.
use Rattle.std.specs.Prelude.{ℕ, ◌+◌, List, [], ◌∷◌, ◌≡◌, length, get_or, leb, Result, Ok, Err}
use Rattle.words.specs.Choice.{pick}
use Rattle.book.specs.Said.{said, refusal_says}
use Rattle.summary.specs.Summary.{asked}
use Rattle.book.specs.declared.Refusal.{Refusal}
pub mod Laws

-- the words s are n, and begin with q, w and l, each 0 where there is none
pub record Begins (s : List ℕ) (n q w l : ℕ) : Type 0 where
  pub many : length s ≡ n
  pub parties : get_or s 0 0 ≡ q
  pub rows : get_or s 1 0 ≡ w
  pub steps : get_or s 2 0 ≡ l

-- where a summary has the answer: the place of a word, or why there is none
abbrev pub Found : Type 0
Found = Result ℕ Refusal

-- the word at the place decides, or the refusal is given
abbrev pub Decides : List ℕ → ℕ → ℕ → ℕ → Found → Type 0
Decides s p r t (Ok i) = asked s p r t ≡ said 0 (pick (leb (get_or s i 0) (t + 1)) 1 0 ∷ [])
Decides s p r t (Err f) = asked s p r t ≡ refusal_says f

-- of all words that begin so
abbrev pub Finds : ℕ → ℕ → ℕ → ℕ → ℕ → ℕ → ℕ → Found → Type 0
Finds n q w l p r t f = (s : List ℕ) → Begins s n q w l → Decides s p r t f
