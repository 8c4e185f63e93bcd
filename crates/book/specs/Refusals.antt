-- The refusals and their order. Document 01: "The first that applies, from top to bottom, is given. It carries its number and a
-- place." The table of refusals 1 to 9 is one list, a line each.
use Rattle.std.specs.Prelude.{ℕ, ◌+◌, ◌*◌, min, Bool, true, false, List, [], ◌∷◌, length, ltb}
use Rattle.words.specs.First.{first, any}
use Rattle.book.specs.Layout.{header, sections, rows, parties, steps}
use Rattle.book.specs.Rules.{count_breaks, offset_breaks, row_breaks, size_breaks, repeats, party_breaks, step_breaks, total_breaks}
use Rattle.book.specs.Said.{Said, said, accepted}
pub mod Laws

-- A line: among how many places it looks, which of them breaks the rule, and what it gives of the smallest: the refusal's number, which
-- may be the place's own, and the values.
pub record Line : Type 0 where
  pub number : ℕ → ℕ
  pub among : ℕ
  pub breaks : ℕ → Bool
  pub place : ℕ → List ℕ

-- a line with one number for all places
abbrev pub line : ℕ → ℕ → (ℕ → Bool) → (ℕ → List ℕ) → Line
line n m t f = record { number = λ i. n; among = m; breaks = t; place = f }

unfoldable pub applies : Line → Bool
applies l = any l.breaks l.among

unfoldable pub gives : Line → Said
gives l = let i = first l.breaks l.among in said (l.number i) (l.place i)

-- what the first line that applies gives, or else `rest`
unfoldable pub first_of : List Line → Said → Said
first_of [] rest = rest
first_of (l ∷ ls) rest = elim (applies l) [ true ↦ gives l | false ↦ first_of ls rest ]

-- the place is the number itself; there is one place, 0
abbrev pub here : ℕ → List ℕ
here i = i ∷ []

abbrev pub zero_place : ℕ → List ℕ
zero_place i = 0 ∷ []

unfoldable pub reading_table : List ℕ → List Line
reading_table b =
    -- fewer than 8 words
    line 1 1 (λ i. ltb (length b) header) zero_place
    -- a count outside its bounds: smallest header word
    ∷ line 2 sections (count_breaks b) (λ i. here (2 * i))
    -- an offset or the total length differs: smallest header word, or 8 for the length
    ∷ line 3 (sections + 1) (offset_breaks b) (λ i. here (min header (2 * i + 1)))
    -- a row breaks its rule, or its list leaves the pool
    ∷ line 4 (rows b) (row_breaks b) here
    -- a size over 1,024
    ∷ line 5 (rows b) (size_breaks b) here
    -- a row repeats an earlier one
    ∷ line 6 (rows b) (repeats b) here
    -- a party breaks its rule
    ∷ line 7 (parties b) (party_breaks b) here
    -- a step breaks its rule
    ∷ line 8 (steps b) (step_breaks b) here
    -- the counts don't add up to W
    ∷ line 9 1 (λ i. total_breaks b) zero_place
    ∷ []

-- what the reader says of the words of a book
unfoldable pub verdict : List ℕ → Said
verdict b = first_of (reading_table b) accepted
