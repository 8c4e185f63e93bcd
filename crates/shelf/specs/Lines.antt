-- What the program over the shelf prints of a book: the line of its translation, and of its rehearsal under six schedules. Rules G4 and
-- G5 are the program's, as `nghiralum` keeps them.
use Rattle.std.specs.Prelude.{ℕ, ◌+◌, Bool, true, false, List, ◌++◌, replicate}
use Rattle.words.specs.Run.{values}
use Rattle.octets.specs.Octets.{words_in}
use Rattle.translation.specs.Outcome.{outcome}
use Rattle.playing.specs.Rehearsal.{rehearsal}
use Rattle.line.specs.Line.{line_of}
use Rattle.shelf.specs.Turns.{turn, seats}
pub mod Laws

-- of the translation, for which 16,384 words are lent
unfoldable pub translated_line : List ℕ → List ℕ
translated_line b = line_of (outcome b (replicate 16384 0))

-- of the rehearsal, for which 16 words are lent, under so many moves of q parties
unfoldable pub rehearsed_line : List ℕ → ℕ → ℕ → ℕ → Bool → List ℕ
rehearsed_line b moves q times back = line_of (rehearsal b (values (turn q times back) 0 moves) (replicate 16 0))

-- under the schedules that are in order where the book is: on, back, 32 times in a row, and a short one
unfoldable pub played_lines : List ℕ → ℕ → List ℕ
played_lines b q = rehearsed_line b 4096 q 1 false ++ rehearsed_line b 4096 q 1 true ++ rehearsed_line b 4096 q 32 false ++ rehearsed_line b 48 q 1 false

-- under those that are refused: one has a party too many in its round, and one a move too many
unfoldable pub refused_lines : List ℕ → ℕ → List ℕ
refused_lines b q = rehearsed_line b 48 (q + 1) 1 false ++ rehearsed_line b 4097 q 1 false

-- a book's seven lines
unfoldable pub book_lines : List ℕ → List ℕ
book_lines b = translated_line b ++ played_lines b (seats b) ++ refused_lines b (seats b)

-- of the book that the bytes make
abbrev pub bytes_lines : List ℕ → List ℕ
bytes_lines bytes = book_lines (words_in bytes)
