-- What "given exactly when" is said in: a line of the table with the rule that its test stands for, and the cause of a refusal, the
-- smallest place that breaks the rule. Document 01: "The first that applies, from top to bottom, is given. It carries its number and
-- a place."
use Rattle.std.specs.Prelude.{ℕ, zero, suc, ◌<◌, false, List, [], ◌∷◌, ◌↔◌, ◌≡◌}
use Rattle.book.specs.Refusals.{Line}

-- a line with the rule that it tests
pub record Ruled : Type 1 where
  pub line : Line
  pub rule : ℕ → Type 0
  pub exact : (i : ℕ) → (line.breaks i ≡ false) ↔ rule i

-- the rule is kept at every place
abbrev pub Keeps : Ruled → Type 0
Keeps x = (i : ℕ) → i < x.line.among → x.rule i

abbrev pub AllKeep : List Ruled → Type 0
AllKeep [] = Unit {0}
AllKeep (x ∷ xs) = Keeps x × AllKeep xs

abbrev pub lines : List Ruled → List Line
lines [] = []
lines (x ∷ xs) = x.line ∷ lines xs

-- ---- the cause of a refusal: the smallest place that breaks the rule
pub record Cause (x : Ruled) (vs : List ℕ) : Type 0 where
  pub place : ℕ
  pub within : place < x.line.among
  pub broken : x.rule place → ⊥
  pub smallest : (k : ℕ) → k < place → x.rule k
  pub says : vs ≡ x.line.place place

-- no line of the list has that number, at any place
abbrev pub Apart : ℕ → List Ruled → Type 0
Apart n [] = Unit {0}
Apart n (x ∷ xs) = ((i : ℕ) → x.line.number i ≡ n → ⊥) × Apart n xs

-- ---- a table by its lines' places
-- the lines above place i, the line there (or d where there is none), and those below
abbrev pub above : ℕ → List Ruled → List Ruled
above i [] = []
above zero (x ∷ xs) = []
above (suc i) (x ∷ xs) = x ∷ above i xs

abbrev pub line_at : ℕ → List Ruled → Ruled → Ruled
line_at i [] d = d
line_at zero (x ∷ xs) d = x
line_at (suc i) (x ∷ xs) d = line_at i xs d

abbrev pub below : ℕ → List Ruled → List Ruled
below i [] = []
below zero (x ∷ xs) = xs
below (suc i) (x ∷ xs) = below i xs

-- the lines have the numbers n, n + 1, ..
abbrev pub Numbered : ℕ → List Ruled → Type 0
Numbered n [] = Unit {0}
Numbered n (x ∷ xs) = ((i : ℕ) → x.line.number i ≡ n) × Numbered (suc n) xs
