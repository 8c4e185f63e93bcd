-- What the program prints of the bytes that it read. Rule G1: "words of four bytes, low byte first". G3: "If the number of bytes read
-- is no multiple of four it says refusal 1, place 0". G4: "A listing is printed as its words". G5: "It lends 16,384 words".
use Rattle.std.specs.Prelude.{ℕ, ◌%◌, Option, IfSome, Result, Ok, Err, List, [], ◌∷◌, length, replicate, take, eqb}
use Rattle.std.specs.Io.KnownBytes.{Appends}
use Rattle.words.specs.Choice.{pick}
use Rattle.book.specs.Said.{said}
use Rattle.book.specs.Layout.{loaded_bytes}
use Rattle.octets.specs.Octets.{words_in}
use Rattle.translation.specs.Outcome.{Outcome, outcome}
use Rattle.input.specs.declared.Failed.{Failed}
use Rattle.line.specs.Line.{line_of}
pub mod Laws

-- refusal 1, place 0: no lent word changes
abbrev pub odd_bytes : List ℕ → Outcome
odd_bytes lent = record { says = said 1 (0 ∷ []); lent = lent }

-- of the bytes bs and the lent words
unfoldable pub outcome_of_bytes : List ℕ → List ℕ → Outcome
outcome_of_bytes bs lent = pick (eqb (length bs % 4) 0) (outcome (words_in bs) lent) (odd_bytes lent)

-- the words that the program lends, and their bytes
abbrev pub lent_words : List ℕ
lent_words = replicate 16384 0

abbrev pub lent_bytes : List ℕ
lent_bytes = replicate 65536 0

-- the line that is printed of the bytes bs
unfoldable pub reply_line : List ℕ → List ℕ
reply_line bs = line_of (outcome_of_bytes bs lent_words)

-- all was read and printed: where a reader has bytes left, the line of these, as far as there is room for them, is written behind
-- what the writer held, or where a read or a write failed, a front of that line
abbrev pub Replied : Result (Unit {0}) Failed → Option (List ℕ) → Option (List ℕ) → Option (List ℕ) → Type 0
Replied (Ok u) left old new = IfSome left (λ bs. Appends old new (reply_line (take loaded_bytes bs)))
Replied (Err f) left old new = IfSome left (λ bs. (n : ℕ) × Appends old new (take n (reply_line (take loaded_bytes bs))))
