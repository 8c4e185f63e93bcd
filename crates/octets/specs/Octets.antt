-- Words and bytes. Document 02, [1]: "on plain byte slices, low byte first".
use Rattle.std.specs.Prelude.{ℕ, ◌+◌, ◌*◌, ◌/◌, ◌%◌, Bool, not, List, [], ◌∷◌, ◌++◌, eqb, length, get_or, drop}
use Rattle.words.specs.Run.{values}
pub mod Laws

-- the word of four bytes
abbrev pub word_of : ℕ → ℕ → ℕ → ℕ → ℕ
word_of a b c d = a + 256 * b + 65536 * c + 16777216 * d

-- word i of the bytes
unfoldable pub word_at : List ℕ → ℕ → ℕ
word_at bs i = word_of (get_or bs (4 * i) 0) (get_or bs (4 * i + 1) 0) (get_or bs (4 * i + 2) 0) (get_or bs (4 * i + 3) 0)

-- the words that the bytes make, four bytes a word
abbrev pub words_in : List ℕ → List ℕ
words_in bs = values (word_at bs) 0 (length bs / 4)

-- the bytes make no whole words
abbrev pub uneven : List ℕ → Bool
uneven bs = not (eqb (length bs % 4) 0)

-- the one to three bytes behind them that make no word
abbrev pub spare : List ℕ → List ℕ
spare bs = drop (4 * (length bs / 4)) bs

-- the four bytes of a word
unfoldable pub bytes_of : ℕ → List ℕ
bytes_of w = w % 256 ∷ w / 256 % 256 ∷ w / 65536 % 256 ∷ w / 16777216 % 256 ∷ []

-- and of words, one behind another
unfoldable pub bytes_of_all : List ℕ → List ℕ
bytes_of_all [] = []
bytes_of_all (w ∷ ws) = bytes_of w ++ bytes_of_all ws
