-- What the program prints of all that it reads: of each book its lines, as long as whole books stand there. Assumes nothing.
use Rattle.std.specs.Prelude.{ℕ, zero, suc, ◌+◌, ◌*◌, ◌<◌, ◌≡◌, Bool, true, false, ◌&&◌, Option, Some, None, Ok, Err, IfSome, List, [], ◌++◌, length, take, drop, nat_le}
use Rattle.std.specs.Io.KnownBytes.{Appends, Consumes}
use Rattle.words.specs.Choice.{pick}
use Rattle.octets.specs.Octets.{word_at}
use Rattle.book.specs.Layout.{loaded_bytes}
use Rattle.shelf.specs.Lines.{bytes_lines}
use Rattle.shelf.specs.Next.{Next}
pub mod Laws

-- the bytes of a book behind its count of words, which is the word of the first four bytes
abbrev pub size_in : List ℕ → ℕ
size_in bs = 4 * word_at bs 0

-- a whole book stands at the front of the bytes, of no more words than are read
unfoldable pub has_book : List ℕ → Bool
has_book bs = nat_le 4 (length bs) && nat_le (size_in bs) loaded_bytes && nat_le (4 + size_in bs) (length bs)

-- its bytes, and what stands behind it
abbrev pub book_in : List ℕ → List ℕ
book_in bs = take (size_in bs) (drop 4 bs)

abbrev pub behind_book : List ℕ → List ℕ
behind_book bs = drop (4 + size_in bs) bs

-- the lines of the first n books, or of as many as stand there one behind another
unfoldable pub shelf_lines : ℕ → List ℕ → List ℕ
shelf_lines zero bs = []
shelf_lines (suc n) bs = pick (has_book bs) (bytes_lines (book_in bs) ++ shelf_lines n (behind_book bs)) []

-- the bytes that were asked for came, or the reader had fewer
abbrev pub Filled : Next → Option (List ℕ) → Option (List ℕ) → List ℕ → Type 0
Filled (Ok (Some n)) left rest bytes = (n ≡ length bytes) × Consumes left rest bytes
Filled (Ok None) left rest bytes = IfSome left (λ bs. length bs < length bytes)
Filled (Err f) left rest bytes = Unit {0}

-- a book and its count
pub record Counted (head book : List ℕ) : Type 0 where
  pub four : length head ≡ 4
  pub size : length book ≡ size_in head

-- a book came, behind its count, or none stands there
abbrev pub Found : Next → Option (List ℕ) → Option (List ℕ) → List ℕ → Type 0
Found (Ok (Some n)) left rest bytes = (head : List ℕ) × Counted head (take n bytes) × Consumes left rest (head ++ take n bytes)
Found (Ok None) left rest bytes = IfSome left (λ bs. has_book bs ≡ false)
Found (Err f) left rest bytes = Unit {0}

-- where no read and no write failed, the lines of all books were printed, of no more than 65,536
abbrev pub Ran : Bool → Option (List ℕ) → Option (List ℕ) → Option (List ℕ) → Type 0
Ran true left old new = IfSome left (λ bs. Appends old new (shelf_lines 65536 bs))
Ran false left old new = Unit {0}
