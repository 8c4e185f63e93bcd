-- Laws of answers as document 01 counts them: a refusal's number is not acceptance's, and different answers say different things.
-- Assumes nothing.
use Rattle.std.specs.Prelude.{ℕ, [], ◌∷◌, ◌≡◌, refl, get_or, Ok, Err}
use Rattle.std.proofs.Common.{sym, ap, ◌∙◌, arith}
use Rattle.book.specs.declared.Refusal.{Refusal}
use Rattle.book.specs.declared.Refusal.TheVariants.{Short, Count, Offset, Row, Size, Repeat, Party, Step, Sum, Taken, Move, Room, Summary, Question, Maker, Nobody, Large}
use Rattle.book.specs.Said.{Said, Reading, refusal_says, reading_says}

pub refusal-number : (f : Refusal) → (refusal_says f).number ≡ 0 → ⊥
refusal-number Short e = omega arith
refusal-number (Count w) e = omega arith
refusal-number (Offset w) e = omega arith
refusal-number (Row r) e = omega arith
refusal-number (Size r) e = omega arith
refusal-number (Repeat r) e = omega arith
refusal-number (Party p) e = omega arith
refusal-number (Step s) e = omega arith
refusal-number Sum e = omega arith
refusal-number (Taken s r) e = omega arith
refusal-number (Move m) e = omega arith
refusal-number (Room n) e = omega arith
refusal-number (Summary n) e = omega arith
refusal-number (Question n) e = omega arith
refusal-number (Maker s r) e = omega arith
refusal-number (Nobody p) e = omega arith
refusal-number (Large n) e = omega arith

-- ---- an answer is read back from what it says, so no two say the same
-- value i
abbrev pub value_at : Said → ℕ → ℕ
value_at s i = get_or s.values i 0

-- by number: 0 is no refusal's, nor are 14 to 19 and 23
abbrev pub refusal_of : Said → Refusal
refusal_of s =
    get_or
    (Short ∷ Short ∷ Count (value_at s 0) ∷ Offset (value_at s 0) ∷ Row (value_at s 0) ∷ Size (value_at s 0) ∷ Repeat (value_at s 0)
    ∷ Party (value_at s 0) ∷ Step (value_at s 0) ∷ Sum ∷ Taken (value_at s 0) (value_at s 1) ∷ Move (value_at s 0) ∷ Room (value_at s 0)
    ∷ Maker (value_at s 0) (value_at s 1) ∷ Short ∷ Short ∷ Short ∷ Short ∷ Short ∷ Short
    ∷ Summary (value_at s 0) ∷ Question (value_at s 0) ∷ Nobody (value_at s 0) ∷ Short ∷ Large (value_at s 0) ∷ [])
    s.number Short

pub refusal-back : (f : Refusal) → refusal_of (refusal_says f) ≡ f
refusal-back Short = refl
refusal-back (Count w) = refl
refusal-back (Offset w) = refl
refusal-back (Row r) = refl
refusal-back (Size r) = refl
refusal-back (Repeat r) = refl
refusal-back (Party p) = refl
refusal-back (Step s) = refl
refusal-back Sum = refl
refusal-back (Taken s r) = refl
refusal-back (Move m) = refl
refusal-back (Room n) = refl
refusal-back (Summary n) = refl
refusal-back (Question n) = refl
refusal-back (Maker s r) = refl
refusal-back (Nobody p) = refl
refusal-back (Large n) = refl

pub refusal-injective : (f g : Refusal) → refusal_says f ≡ refusal_says g → f ≡ g
refusal-injective f g e = sym (refusal-back f) ∙ ap refusal_of e ∙ refusal-back g

pub reading-injective : (r s : Reading) → reading_says r ≡ reading_says s → r ≡ s
reading-injective (Ok u) (Ok v) e = refl
reading-injective (Ok u) (Err g) e = absurd (refusal-number g (sym (ap (λ (x : Said). x.number) e)))
reading-injective (Err f) (Ok v) e = absurd (refusal-number f (ap (λ (x : Said). x.number) e))
reading-injective (Err f) (Err g) e = ap Err (refusal-injective f g e)
