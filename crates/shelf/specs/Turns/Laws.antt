-- Laws of turns: who moves, and how many parties there are. Assumes nothing.
use Rattle.std.specs.Prelude.{ℕ, zero, suc, ◌-◌, ◌/◌, ◌%◌, ◌≤◌, ◌<◌, Bool, true, false, ◌≡◌, refl, List, [], ◌∷◌, length, get_or}
use Rattle.std.proofs.Math.Path.{sym, ap}
use Rattle.std.proofs.Common.{◌∙◌, arith, mod-lt, lt-ltb, le-ltb}
use Rattle.words.specs.Choice.Laws.{pick_true, pick-false}
use Rattle.book.specs.Layout.{least, most, parties}
use Rattle.book.specs.Rules.{outside, count_breaks}
use Rattle.book.specs.Rules.Laws.{outside-in}
use Rattle.shelf.specs.Turns.{turn, seats}

-- ---- turn, where the code has the number of the parties as w, and who would move from the first on as p
module _ (q times i : ℕ) (back : Bool) (w p : ℕ) (same : w ≡ q) (e : p ≡ i / times % w) where
  -- who would move from the first on
  asked : p ≡ i / times % q
  asked = e ∙ ap (λ (k : ℕ). i / times % k) same

  pub turn_below : 0 < q → p < q
  turn_below h = let l : i / times % q < q = mod-lt (i / times) h in omega (arith, asked)

  pub turn_on : back ≡ false → p ≡ turn q times back i
  unfolding turn
  turn_on n = asked ∙ sym (pick-false back (q - 1 - i / times % q) (i / times % q) n)

  pub turn-back : back ≡ true → q - 1 - p ≡ turn q times back i
  unfolding turn
  turn-back y = ap (λ (k : ℕ). q - 1 - k) asked ∙ sym (pick_true back (q - 1 - i / times % q) (i / times % q) y)

-- ---- seats
-- past a list's end there are zeros
pub no_word : (l : List ℕ) (k : ℕ) → length l ≤ k → get_or l k 0 ≡ 0
no_word [] k h = refl
no_word (x ∷ l) zero h = absurd (omega arith)
no_word (x ∷ l) (suc k) h = no_word l k (omega arith)

-- a book may have `least 1` to `most 1` parties
pub seats-below : (b : List ℕ) → parties b < least 1 → 1 ≡ seats b
unfolding seats count_breaks outside
seats-below b h = sym (pick_true _ _ _ (rw (lt-ltb (parties b) (least 1) h)))

pub seats-above : (b : List ℕ) → least 1 ≤ parties b → most 1 < parties b → 1 ≡ seats b
unfolding seats count_breaks outside
seats-above b h k = sym (pick_true _ _ _ (rw (le-ltb (parties b) (least 1) h, lt-ltb (most 1) (parties b) k)))

pub seats-own : (b : List ℕ) → least 1 ≤ parties b → parties b ≤ most 1 → parties b ≡ seats b
unfolding seats count_breaks
seats-own b h k = sym (pick-false _ _ _ (outside-in (least 1) (most 1) (parties b) h k))
