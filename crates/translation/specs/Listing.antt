-- The listing's words. Document 01: "Word 0 is Q; then for each party offset and count of its listing; then the listings in party
-- order."
use Rattle.std.specs.Prelude.{ℕ, ◌+◌, ◌*◌, List, [], ◌∷◌, ◌++◌, length}
use Rattle.words.specs.Run.{values}
use Rattle.terms.specs.Term.{Term}
use Rattle.terms.specs.Image.{count_images, words, words_of}
use Rattle.terms.specs.Table.{number}
use Rattle.book.specs.Layout.{table, rows, parties}
use Rattle.translation.specs.Receive.{Event, Stored}
use Rattle.translation.specs.Narration.{narration, program_of}

-- `row` gives the row of a term
module _ (row : Term → ℕ) where
  -- "triples of row, placeholder, step"
  unfoldable pub triple_words : List Stored → List ℕ
  triple_words [] = []
  triple_words (p ∷ ps) = row p.0 ∷ p.1 ∷ p.2 ∷ triple_words ps

  unfoldable pub event_words : Event → List ℕ
  event_words (Event.new r) = 1 ∷ r ∷ []
  event_words (Event.sends s is) = 2 ∷ s ∷ count_images is ∷ words_of row is
  event_words (Event.receives s f n) = 3 ∷ s ∷ f ∷ n ∷ []
  event_words (Event.checks x i) = 4 ∷ x ∷ words row i
  event_words (Event.opens x f n k) = 5 ∷ x ∷ f ∷ n ∷ words row k
  event_words (Event.ends ps) = 6 ∷ length ps ∷ triple_words ps

  unfoldable pub program_words : List Event → List ℕ
  program_words [] = []
  program_words (e ∷ es) = event_words e ++ program_words es

-- offset and count of each part, the first of which begins at o
unfoldable pub heads : ℕ → List (List ℕ) → List ℕ
heads o [] = []
heads o (l ∷ ls) = o ∷ length l ∷ heads (o + length l) ls

unfoldable pub bodies : List (List ℕ) → List ℕ
bodies [] = []
bodies (l ∷ ls) = l ++ bodies ls

unfoldable pub framed : List (List ℕ) → List ℕ
framed ls = length ls ∷ (heads (1 + 2 * length ls) ls ++ bodies ls)

-- the words of party p's program in a book
unfoldable pub part_words : List ℕ → ℕ → List ℕ
part_words b p = program_words (number (table b) (rows b)) (program_of (narration b) p)

unfoldable pub listing : List ℕ → List ℕ
listing b = framed (values (part_words b) 0 (parties b))
