-- The line of what is found in a derivation. Document 02, [14]: "The verdict is "safe" .. else the smallest bad line; if none is bad, that
-- the last doesn't give that"; so is it printed, in a word and, of a bad line, in decimal its number. Refusal 24 is printed as any other.
use Rattle.std.specs.Prelude.{ℕ, List, [], ◌∷◌, eqb, get_or}
use Rattle.words.specs.Choice.{pick}
use Rattle.book.specs.Said.{Said}
use Rattle.line.specs.Line.{refusal_line}
use Rattle.telling.specs.Numbered.{numbered_line}
pub mod Laws

-- the words "safe" and "another", each with a newline
abbrev pub safe_line : List ℕ
safe_line = 115 ∷ 97 ∷ 102 ∷ 101 ∷ 10 ∷ []

abbrev pub another_line : List ℕ
another_line = 97 ∷ 110 ∷ 111 ∷ 116 ∷ 104 ∷ 101 ∷ 114 ∷ 10 ∷ []

-- the word "bad" and a space
abbrev pub bad : List ℕ
bad = 98 ∷ 97 ∷ 100 ∷ 32 ∷ []

-- of what is said of a derivation, where 1 is safe, 2 another, and 0 has the bad line behind it
unfoldable pub found_line : Said → List ℕ
found_line s =
    pick (eqb s.number 0)
    (pick (eqb (get_or s.values 0 0) 1) safe_line
    (pick (eqb (get_or s.values 0 0) 2) another_line (numbered_line bad (get_or s.values 1 0))))
    (refusal_line s)
