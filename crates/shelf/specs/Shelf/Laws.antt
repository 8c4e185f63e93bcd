-- Laws of a shelf that is read: a book that came behind its count is the book that stands there, and its lines go in front of the
-- others'. Assumes nothing.
use Rattle.std.specs.Prelude.{ℕ, zero, suc, ◌+◌, ◌*◌, ◌<◌, ◌≤◌, ◌≡◌, refl, true, false, Option, None, Some, IfSome, Ok, Err, List, [], ◌++◌, length, take, drop, get_or}
use Rattle.std.proofs.Common.{arith, sym, ap, ap₂, ◌∙◌, subst, length-append}
use Rattle.std.proofs.lemmas.Bool.{le-leb, lt-leb}
use Rattle.std.proofs.KnownBytes.{Consumes-trans}
use Rattle.std.specs.Io.KnownBytes.{Consumes}
use lib.Seq.{take-append_seam, drop-append_seam, drop-append-add}
use lib.ListN.{get_or-append}
use Rattle.words.specs.Choice.Laws.{pick_true, pick-false}
use Rattle.octets.specs.Octets.{word_at}
use Rattle.book.specs.Layout.{loaded_bytes}
use Rattle.shelf.specs.Lines.{bytes_lines}
use Rattle.shelf.specs.Shelf.{size_in, has_book, book_in, behind_book, shelf_lines, Filled, Counted, Found}
use Rattle.shelf.specs.Next.{Next}

-- ---- the first word is that of the first four bytes
word_front : (head rest : List ℕ) → length head ≡ 4 → word_at (head ++ rest) 0 ≡ word_at head 0
unfolding word_at
word_front head rest e =
    let at : (i : ℕ) → i < 4 → get_or (head ++ rest) i 0 ≡ get_or head i 0 = λ i h. get_or-append head rest 0 i (omega arith) in
    omega (arith, at 0 (omega arith), at 1 (omega arith), at 2 (omega arith), at 3 (omega arith))

size_front : (head rest : List ℕ) → length head ≡ 4 → size_in (head ++ rest) ≡ size_in head
size_front head rest e = ap (λ n. 4 * n) (word_front head rest e)

-- ---- has_book
module _ (bs : List ℕ) where
  has-whole : 4 ≤ length bs → size_in bs ≤ loaded_bytes → 4 + size_in bs ≤ length bs → has_book bs ≡ true
  unfolding has_book
  has-whole few most whole = rw (le-leb 4 (length bs) few, le-leb (size_in bs) loaded_bytes most, le-leb (4 + size_in bs) (length bs) whole) refl

  -- too few bytes for a count
  pub none_counted : length bs < 4 → has_book bs ≡ false
  unfolding has_book
  none_counted few = rw (lt-leb 4 (length bs) few) refl

  none_most : 4 ≤ length bs → loaded_bytes < size_in bs → has_book bs ≡ false
  unfolding has_book
  none_most few most = rw (le-leb 4 (length bs) few, lt-leb (size_in bs) loaded_bytes most) refl

  none_whole : 4 ≤ length bs → size_in bs ≤ loaded_bytes → length bs < 4 + size_in bs → has_book bs ≡ false
  unfolding has_book
  none_whole few most whole = rw (le-leb 4 (length bs) few, le-leb (size_in bs) loaded_bytes most, lt-leb (4 + size_in bs) (length bs) whole) refl

-- a count of more words than are read, or of more than come
pub none_above : (head rest : List ℕ) → length head ≡ 4 → loaded_bytes < size_in head → has_book (head ++ rest) ≡ false
none_above head rest e most =
    none_most (head ++ rest) (omega (arith, length-append head rest)) (omega (arith, size_front head rest e))

pub none_short : (head rest : List ℕ) → length head ≡ 4 → size_in head ≤ loaded_bytes → length rest < size_in head
    → has_book (head ++ rest) ≡ false
none_short head rest e most short =
    none_whole (head ++ rest) (omega (arith, length-append head rest)) (omega (arith, size_front head rest e))
    (omega (arith, size_front head rest e, length-append head rest))

-- ---- Found
pub found_none : (next : Next) (left rest : Option (List ℕ)) (bytes : List ℕ) → next ≡ Ok None → IfSome left (λ bs. has_book bs ≡ false)
    → Found next left rest bytes
found_none next left rest bytes e none = subst (λ n. Found n left rest bytes) (sym e) none

-- no whole count came
pub found_short : (left : Option (List ℕ)) → IfSome left (λ bs. length bs < 4) → IfSome left (λ bs. has_book bs ≡ false)
found_short None few = tt
found_short (Some bs) few = none_counted bs few

-- a count of more words than are read
pub found_above : (left rest : Option (List ℕ)) (head : List ℕ) → Consumes left rest head → length head ≡ 4 → loaded_bytes < size_in head
    → IfSome left (λ bs. has_book bs ≡ false)
found_above None rest head came e most = tt
found_above (Some bs) None head came e most = absurd came
found_above (Some bs) (Some rest) head came e most = subst (λ l. has_book l ≡ false) (sym came) (none_above head rest e most)

-- the bytes behind the count were asked for
pub found_filled : (next : Next) (left mid rest : Option (List ℕ)) (head bytes behind : List ℕ) → Consumes left mid head → length head ≡ 4
    → length bytes ≡ size_in head → size_in head ≤ loaded_bytes → Filled next mid rest bytes → Found next left rest (bytes ++ behind)
found_filled (Ok (Some n)) left mid rest head bytes behind came e size most filled =
    let all : bytes ≡ take n (bytes ++ behind) = sym (ap (λ m. take m (bytes ++ behind)) filled.0 ∙ take-append_seam bytes behind) in
    let counted : Counted head bytes = record { four = e; size = size } in (
      head,
      subst (Counted head) all counted,
      subst (λ l. Consumes left rest (head ++ l)) all (Consumes-trans left mid rest head bytes came filled.1),
    )
found_filled (Ok None) None mid rest head bytes behind came e size most filled = tt
found_filled (Ok None) (Some bs) None rest head bytes behind came e size most filled = absurd came
found_filled (Ok None) (Some bs) (Some mid) rest head bytes behind came e size most filled =
    subst (λ l. has_book l ≡ false) (sym came) (none_short head mid e most (omega arith))
found_filled (Err f) left mid rest head bytes behind came e size most filled = tt

-- ---- a book that came
module _ (head book rest : List ℕ) (counted : Counted head book) where
  size : size_in (head ++ (book ++ rest)) ≡ length book
  size = size_front head (book ++ rest) counted.four ∙ sym counted.size

  has-counted : length book ≤ loaded_bytes → has_book (head ++ (book ++ rest)) ≡ true
  has-counted most =
      let long = length-append head (book ++ rest) in
      let more = length-append book rest in
      let four = counted.four in
      has-whole (head ++ (book ++ rest)) (omega arith) (omega (arith, size)) (omega (arith, size))

  book-counted : book_in (head ++ (book ++ rest)) ≡ book
  book-counted =
      ap₂ take size (ap (λ n. drop n (head ++ (book ++ rest))) (sym counted.four) ∙ drop-append_seam head (book ++ rest)) ∙ take-append_seam book rest

  behind-counted : behind_book (head ++ (book ++ rest)) ≡ rest
  behind-counted =
      ap₂ (λ n m. drop (n + m) (head ++ (book ++ rest))) (sym counted.four) size
      ∙ drop-append-add head (book ++ rest) (length book) ∙ drop-append_seam book rest

  -- its lines, and the lines of what stands behind it
  pub lines-counted : (n : ℕ) → length book ≤ loaded_bytes → shelf_lines (suc n) (head ++ (book ++ rest)) ≡ bytes_lines book ++ shelf_lines n rest
  unfolding shelf_lines
  lines-counted n most =
      pick_true _ _ _ (has-counted most) ∙ ap₂ (λ b bs. bytes_lines b ++ shelf_lines n bs) book-counted behind-counted

-- none, where no book stands there
pub lines_none : (n : ℕ) (bs : List ℕ) → has_book bs ≡ false → shelf_lines n bs ≡ []
unfolding shelf_lines
lines_none zero bs none = refl
lines_none (suc n) bs none = pick-false _ _ _ none
