-- The words of images: a row's, held or not, and a list's, one after another. Assumes nothing.
use Prim.Native.Nat.{ℕ, ◌+◌, ◌-◌, ◌<◌}
use mathlib.Core.Bool.{Bool, true, false}
use mathlib.Core.List.{List, ◌++◌}
use mathlib.Core.Path.{◌≡◌, sym, ap, ◌∙◌}
use native.Mathlib.Omega.{arith}
use lib.ListN.{get_or}
use Rattle.words.specs.Overlay.{Wrote}
use Rattle.words.specs.Overlay.Laws.{wrote_then, wrote_as, wrote_none}
use Rattle.book.specs.Layout.{rows, row_first, row_count}
use Rattle.book.specs.Valid.{Valid}
use Rattle.book.specs.Span.{entry}
use Rattle.translation.specs.Dictionary.{is_held}
use Rattle.holding.specs.Entry.{held_of}
use Rattle.holding.specs.Entry.Laws.{held_at}
use Rattle.holding.specs.AtRow.{image_at, images_at, head_words, entry_words}
use Rattle.holding.specs.AtRow.Laws.{image-held, image-free, images-none, images-more}

-- ---- a row, of which the code reads the entry at w, and of which t tells whether it is held
pub held-wrote : (b e : List ℕ) (r w : ℕ) {t : Bool} → Valid b → r < rows b → w ≡ r → t ≡ is_held (held_of (get_or e w 0)) → t ≡ true
    → {o s : List ℕ} {a j : ℕ} → Wrote (entry_words r (held_of (get_or e w 0))) o a s j → Wrote (image_at b e r) o a s j
held-wrote b e r w v h d n z x = wrote_as (rw d at x) (image-held b e v r h (held_at e r w d n z))

pub free-wrote : (b e : List ℕ) (r w f n : ℕ) {t : Bool} → Valid b → r < rows b → w ≡ r → t ≡ is_held (held_of (get_or e w 0)) → t ≡ false
    → f ≡ row_first b r → n ≡ row_count b r → {o m s : List ℕ} {a i j : ℕ} → Wrote (head_words b r) o a m i → Wrote (images_at b e f n) m i s j
    → Wrote (image_at b e r) o a s j
unfolding images_at
free-wrote b e r w f n v h d t z p q x y = wrote_as (wrote_then x y) (image-free b e v r h (held_at e r w d t z) ∙ rw (p, q))

-- ---- a list: none is left, or one and the rest
pub none-wrote : (b e : List ℕ) (f n : ℕ) (o : List ℕ) (a : ℕ) → n ≡ 0 → Wrote (images_at b e f n) o a o a
none-wrote b e f n o a z = wrote_as wrote_none (images-none b e f n z)

pub more-wrote : (b e : List ℕ) (f n x : ℕ) → (n ≡ 0 → ⊥) → x ≡ entry b f → {o m s : List ℕ} {a i j : ℕ}
    → Wrote (image_at b e x) o a m i → Wrote (images_at b e (f + 1) (n - 1)) m i s j → Wrote (images_at b e f n) o a s j
more-wrote b e f n x h d p q =
    wrote_as (wrote_then p q)
    (images-more b e f n (omega arith) ∙ ap (λ y. image_at b e y ++ images_at b e (f + 1) (n - 1)) (sym d))
