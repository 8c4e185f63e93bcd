-- The words of CHECK and OPEN, as they are put one behind another. Assumes nothing.
use Prim.Native.Nat.{ℕ, ◌+◌, ◌-◌, ◌<◌}
use mathlib.Core.List.{List, [], ◌∷◌, append-nil}
use mathlib.Core.Path.{◌≡◌, ap, ◌∙◌}
use Rattle.words.specs.Overlay.{Wrote}
use Rattle.words.specs.Overlay.Laws.{wrote_then, wrote_as}
use Rattle.terms.specs.Term.{partner}
use Rattle.terms.specs.Image.{words}
use Rattle.terms.specs.Table.{term}
use Rattle.book.specs.Layout.{table, rows, kind, row_first, row_count}
use Rattle.book.specs.Valid.{Valid}
use Rattle.book.specs.Span.{entry}
use Rattle.translation.specs.Dictionary.{image}
use Rattle.translation.specs.Receive.{compared}
use Rattle.translation.specs.Listing.{event_words, program_words}
use Rattle.holding.specs.View.{row_of, view}
use Rattle.holding.specs.AtRow.{image_at}
use Rattle.receiving.specs.Turn.{unlocked}
use Rattle.receiving.specs.Turn.Laws.{cipher-row, terms-count}

-- ---- CHECK
pub check-wrote : (b e : List ℕ) (r p : ℕ) {o m s : List ℕ} {a i j : ℕ} → Wrote (4 ∷ p ∷ []) o a m i → Wrote (image_at b e r) m i s j
    → Wrote (program_words (row_of b) (compared (term (table b) r) p (view b e)).events) o a s j
unfolding program_words event_words
check-wrote b e r p x y = wrote_as (wrote_then x y) (append-nil _)

-- ---- OPEN
-- the words of the image of the partner of row k
abbrev partner_words : List ℕ → List ℕ → ℕ → List ℕ
partner_words b e k = words (row_of b) (image (view b e) (partner (term (table b) k)))

open-words : (b e : List ℕ) → Valid b → (r p n : ℕ) → r < rows b → kind b r ≡ 2
    → program_words (row_of b) (unlocked (term (table b) r) p (view b e) n).events
    ≡ 5 ∷ p ∷ n ∷ (row_count b r - 1) ∷ partner_words b e (entry b (row_first b r))
unfolding program_words event_words unlocked
open-words b e v r p n h k =
    ap (λ t. program_words (row_of b) (unlocked t p (view b e) n).events) (cipher-row b v r h k) ∙ append-nil _
    ∙ ap (λ c. 5 ∷ p ∷ n ∷ c ∷ partner_words b e (entry b (row_first b r))) (terms-count b (row_first b r + 1) (row_count b r - 1))

pub open-wrote : (b e : List ℕ) → Valid b → (r p n c q x : ℕ) → r < rows b → kind b r ≡ 2
    → c ≡ row_count b r → q ≡ c - 1 → x ≡ entry b (row_first b r)
    → {o m s : List ℕ} {a i j : ℕ} → Wrote (5 ∷ p ∷ n ∷ q ∷ []) o a m i → Wrote (partner_words b e x) m i s j
    → Wrote (program_words (row_of b) (unlocked (term (table b) r) p (view b e) n).events) o a s j
open-wrote b e v r p n c q x h k d g y f w = wrote_as (wrote_then f w) (open-words b e v r p n h k ∙ rw (g, d, y))
