-- Laws of waiting, as the code asks: of a step its receiver, its place and its SEND; and of a party step by step. Assumes nothing.
use Prim.Native.Nat.{ℕ, ◌≤◌, ◌<◌}
use native.Mathlib.Omega.{arith}
use mathlib.Core.Bool.{Bool, true, false}
use mathlib.Core.List.{List, []}
use mathlib.Core.Path.{◌≡◌, refl, sym, ap, ◌∙◌}
use lib.Dec.{leb}
use lib.ListN.{get_or}
use borrow.Author.Tests.{eq-eqb, ne_eqb}
use Rattle.words.specs.Choice.Laws.{pick_true, pick-false}
use Rattle.words.specs.First.Laws.{any_at, any_none}
use Rattle.book.specs.Layout.{steps, sender, receiver}
use Rattle.playing.specs.Counting.{waits_for, waits}
use Rattle.rehearsal.specs.Kept.{places, counts}

-- ---- waits_for: party p and step s
module _ (b x y d : List ℕ) (p s : ℕ) where
  -- what the code answers
  abbrev asked : Bool
  asked = waits_for b (places x y []) (counts d) p s

  -- another party receives the step
  pub other-receiver : {r : ℕ} → r ≡ receiver b s → (r ≡ p → ⊥) → false ≡ asked
  unfolding waits_for
  other-receiver e n = sym (pick-false _ _ _ (ne_eqb (receiver b s) p (λ z. n (e ∙ z))))

  -- party p receives it; w and v are s and p as the code's indices
  module _ {r v w : ℕ} (e : r ≡ receiver b s) (z : r ≡ p) (f : w ≡ s) (g : v ≡ p) where
    -- but its next event is another
    pub other_place : (get_or y w 0 ≡ get_or d v 0 → ⊥) → false ≡ asked
    unfolding waits_for
    other_place n =
        let differs : get_or y s 0 ≡ get_or d p 0 → ⊥ = λ h. n (ap (λ i. get_or y i 0) f ∙ h ∙ ap (λ i. get_or d i 0) (sym g)) in
        sym (pick_true _ _ _ (eq-eqb (receiver b s) p (sym e ∙ z)) ∙ pick-false _ _ _ (ne_eqb (get_or y s 0) (get_or d p 0) differs))

    -- and that is its next event: it waits while the SEND is not done
    pub by-send : {k u t : ℕ} → k ≡ sender b s → u ≡ k → t ≡ s → get_or y w 0 ≡ get_or d v 0 → leb (get_or d u 0) (get_or x t 0) ≡ asked
    unfolding waits_for
    by-send h i k n =
        let next : get_or y s 0 ≡ get_or d p 0 = ap (λ i. get_or y i 0) (sym f) ∙ n ∙ ap (λ i. get_or d i 0) g in
        rw (i, h, k)
        (sym (pick_true _ _ _ (eq-eqb (receiver b s) p (sym e ∙ z)) ∙ pick_true _ _ _ (eq-eqb (get_or y s 0) (get_or d p 0) next)))

-- ---- waits: party p
module _ (b x y d : List ℕ) (p : ℕ) where
  -- where its END stands doesn't matter
  pub ends-apart : (z : List ℕ) → waits b (places x y []) (counts d) p ≡ waits b (places x y z) (counts d) p
  unfolding waits waits_for
  ends-apart z = refl

  -- it waits for step i
  pub some-step : {n i : ℕ} {t : Bool} → n ≡ steps b → i < n → t ≡ waits_for b (places x y []) (counts d) p i → t ≡ true
      → true ≡ waits b (places x y []) (counts d) p
  unfolding waits
  some-step {i = i} e l h k = sym (any_at (waits_for b (places x y []) (counts d) p) (steps b) i (omega arith) (sym h ∙ k))

  -- it waits for none
  pub no_step : {n i : ℕ} → n ≡ steps b → n ≤ i → ((k : ℕ) → k < i → waits_for b (places x y []) (counts d) p k ≡ false)
      → false ≡ waits b (places x y []) (counts d) p
  unfolding waits
  no_step e l h = sym (any_none (waits_for b (places x y []) (counts d) p) (steps b) (λ k j. h k (omega arith)))
