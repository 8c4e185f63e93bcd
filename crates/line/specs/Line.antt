-- The line that the program prints, as bytes. Document 01: "A listing is printed as its words, a refusal as the word "refused", its
-- number and its place, all in decimal on one line with single spaces."
use Rattle.std.specs.Prelude.{ℕ, ◌+◌, ◌-◌, ◌^◌, ◌≤◌, ◌<◌, ◌≡◌, Option, Result, Ok, Err, List, [], ◌∷◌, ◌++◌, length, get_or, take, ltb, eqb}
use Rattle.std.specs.Io.KnownBytes.{Appends}
use Rattle.io.specs.Digits.{last_digits}
use Rattle.words.specs.Choice.{pick}
use Rattle.words.specs.First.{first}
use Rattle.book.specs.Said.{Said}
use Rattle.input.specs.declared.Failed.{Failed}
use Rattle.translation.specs.Outcome.{Outcome, Answer}
pub mod Laws

-- how many digits a number below 10^20 takes
unfoldable pub places : ℕ → ℕ
places x = first (λ k. ltb x (10 ^ (k + 1))) 19 + 1

unfoldable pub decimal : ℕ → List ℕ
decimal x = last_digits 10 (places x) x

-- a space behind it
unfoldable pub spaced : ℕ → List ℕ
spaced x = decimal x ++ 32 ∷ []

unfoldable pub spaced_all : List ℕ → List ℕ
spaced_all [] = []
spaced_all (x ∷ xs) = spaced x ++ spaced_all xs

-- a newline in the last space's place
unfoldable pub ended : List ℕ → List ℕ
ended t = take (length t - 1) t ++ 10 ∷ []

unfoldable pub listing_line : List ℕ → List ℕ
listing_line words = ended (spaced_all words)

-- the word "refused" and a space
abbrev pub refused : List ℕ
refused = 114 ∷ 101 ∷ 102 ∷ 117 ∷ 115 ∷ 101 ∷ 100 ∷ 32 ∷ []

-- and then number and values
abbrev pub refusal_text : Said → List ℕ
refusal_text s = refused ++ spaced_all (s.number ∷ s.values)

unfoldable pub refusal_line : Said → List ℕ
refusal_line s = ended (refusal_text s)

-- the word "accepted" and a newline
abbrev pub accepted_line : List ℕ
accepted_line = 97 ∷ 99 ∷ 99 ∷ 101 ∷ 112 ∷ 116 ∷ 101 ∷ 100 ∷ 10 ∷ []

-- the line of a reading, which has no output: on acceptance, that word
unfoldable pub reading_line : Said → List ℕ
reading_line s = pick (eqb s.number 0) accepted_line (refusal_line s)

-- the line of an outcome: on acceptance, of so many of the lent words as its value says, from the front on
unfoldable pub line_of : Outcome → List ℕ
line_of o = pick (eqb o.says.number 0) (listing_line (take (get_or o.says.values 0 0) o.lent)) (refusal_line o.says)

-- what is said to be written lies in the lent words
abbrev pub Inside : Answer → ℕ → Type 0
Inside (Ok n) room = n ≤ room
Inside (Err f) room = Unit {0}

-- a text was put at a place of a line: what stands before the next place is what stood before the first, and then the text
pub record Put (text old : List ℕ) (at : ℕ) (new : List ℕ) (r : ℕ) : Type 0 where
  pub front : take r new ≡ take at old ++ text
  pub next : r ≡ at + length text

-- a number was put, with a space behind it: in up to twenty-one bytes, and a word in up to eleven
pub record PutNumber (x : ℕ) (old : List ℕ) (at : ℕ) (new : List ℕ) (r : ℕ) : Type 0 where
  pub put : Put (spaced x) old at new r
  pub low : r ≤ at + 21
  pub word : x < 2 ^ 32 → r ≤ at + 11

-- a line was printed: all of it was written behind what the writer held, or where a write failed, what came before that
abbrev pub Printed : Result (Unit {0}) Failed → Option (List ℕ) → Option (List ℕ) → List ℕ → Type 0
Printed (Ok u) old new line = Appends old new line
Printed (Err f) old new line = (n : ℕ) × (n ≤ length line) × Appends old new (take n line)
