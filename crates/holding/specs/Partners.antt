-- The partners of a book's rows as a table, an entry for each row. The partner of a key is the other half of its part, which need not be
-- a row; a key that is no half is its own partner (document 01).
use Rattle.std.specs.Prelude.{ℕ, ◌≤◌, ◌<◌, List, ◌≡◌, length, get_or, Option, None, Some}
use Rattle.terms.specs.Term.{partner}
use Rattle.terms.specs.Table.{term}
use Rattle.book.specs.Layout.{table, rows, kind, row_first}
use Rattle.book.specs.Span.{entry}
use Rattle.holding.specs.View.{row_of}
pub mod Laws

-- the table l names for each row the row of its partner, and the number of rows where that is no row
pub record Partners (b l : List ℕ) : Type 0 where
  pub names : (r : ℕ) → r < rows b → get_or l r 0 ≡ row_of b (partner (term (table b) r))

-- the row of the partner of row r, if that is a row
abbrev pub PartnerRow : List ℕ → ℕ → Option ℕ → Type 0
PartnerRow b r None = rows b ≤ row_of b (partner (term (table b) r))
PartnerRow b r (Some o) = (o < rows b) × (o ≡ row_of b (partner (term (table b) r)))

-- ---- on the way there
-- row r is a half of row p
pub record HalfOf (b : List ℕ) (p r : ℕ) : Type 0 where
  pub half : 3 ≤ kind b r
  pub part : entry b (row_first b r) ≡ p

-- once the first i rows are passed: the table l names for each of them its partner, and s for each row a half of it among the first i.
-- Where either has the number of rows, there is none among the first i.
pub record PartnersBefore (b : List ℕ) (i : ℕ) (l s : List ℕ) : Type 0 where
  pub within : i ≤ rows b
  pub size : length l ≡ 1024
  pub seen_size : length s ≡ 1024
  pub found : (r : ℕ) → r < i → get_or l r 0 < rows b → term (table b) (get_or l r 0) ≡ partner (term (table b) r)
  pub absent : (r : ℕ) → r < i → rows b ≤ get_or l r 0
      → (get_or l r 0 ≡ rows b) × ((j : ℕ) → j < i → term (table b) j ≡ partner (term (table b) r) → ⊥)
  pub seen : (p : ℕ) → p < rows b → get_or s p 0 < rows b → (get_or s p 0 < i) × HalfOf b p (get_or s p 0)
  pub unseen : (p : ℕ) → p < rows b → rows b ≤ get_or s p 0 → (get_or s p 0 ≡ rows b) × ((j : ℕ) → j < i → HalfOf b p j → ⊥)
