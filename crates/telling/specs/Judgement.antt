-- The line of a verdict on a listing. Document 02, [7], has it say that the listing is ours up to a renaming, or the place at which no
-- renaming can agree; so is it printed, in a word and, in decimal, that place.
use Rattle.std.specs.Prelude.{ℕ, List, [], ◌∷◌, eqb, get_or}
use Rattle.words.specs.Choice.{pick}
use Rattle.book.specs.Said.{Said}
use Rattle.line.specs.Line.{refusal_line}
use Rattle.telling.specs.Numbered.{numbered_line}
pub mod Laws

-- the word "same" and a newline
abbrev pub same_line : List ℕ
same_line = 115 ∷ 97 ∷ 109 ∷ 101 ∷ 10 ∷ []

-- the word "differs" and a space
abbrev pub differs : List ℕ
differs = 100 ∷ 105 ∷ 102 ∷ 102 ∷ 101 ∷ 114 ∷ 115 ∷ 32 ∷ []

-- of what is said of a listing, where 1 is the same, and 0 is not and has the place behind it
unfoldable pub judgement_line : Said → List ℕ
judgement_line s =
    pick (eqb s.number 0) (pick (eqb (get_or s.values 0 0) 1) same_line (numbered_line differs (get_or s.values 1 0))) (refusal_line s)
