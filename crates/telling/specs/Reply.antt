-- The line of what is replied to a question. Document 02, [4], has it answered yes or no; so is it printed.
use Rattle.std.specs.Prelude.{ℕ, List, [], ◌∷◌, eqb, get_or}
use Rattle.words.specs.Choice.{pick}
use Rattle.book.specs.Said.{Said}
use Rattle.line.specs.Line.{refusal_line}
pub mod Laws

-- the words "yes" and "no", each with a newline
abbrev pub yes_line : List ℕ
yes_line = 121 ∷ 101 ∷ 115 ∷ 10 ∷ []

abbrev pub no_line : List ℕ
no_line = 110 ∷ 111 ∷ 10 ∷ []

-- of what is said of a question, where 1 is yes and 0 is no
unfoldable pub reply_line : Said → List ℕ
reply_line s = pick (eqb s.number 0) (pick (eqb (get_or s.values 0 0) 1) yes_line no_line) (refusal_line s)
