-- Laws of a schedule's moves, in the book b with the places P: none, one more, all. Assumes nothing.
use Prim.Native.Nat.{ℕ, zero, suc, ◌+◌, ◌<◌}
use native.Mathlib.Numerals.{add-one}
use native.Mathlib.Omega.{arith}
use mathlib.Core.List.{List, [], ◌∷◌}
use mathlib.Core.Path.{◌≡◌, refl, sym, ap, ◌∙◌}
use lib.ListN.{length, get_or, take}
use Rattle.translation.specs.Places.{Places}
use Rattle.playing.specs.Counting.{ticked, ticked_all}

module _ (b : List ℕ) (P : Places) where
  -- the last of the first i + 1 moves is made when the others are
  counted_next : (ms : List ℕ) (i : ℕ) (d : ℕ → ℕ) → i < length ms
      → ticked_all b P (take (suc i) ms) d ≡ ticked b P (get_or ms i 0) (ticked_all b P (take i ms) d)
  unfolding ticked_all
  counted_next [] i d l = absurd (omega arith)
  counted_next (p ∷ ms) zero d l = refl
  counted_next (p ∷ ms) (suc i) d l = counted_next ms i (ticked b P p d) (omega arith)

  pub played-none : (d : ℕ → ℕ) → d ≡ ticked_all b P [] d
  unfolding ticked_all
  played-none d = refl

  module _ (ms : List ℕ) (d : ℕ → ℕ) where
    pub played-on : {i : ℕ} {c a : ℕ → ℕ} → i < length ms → c ≡ ticked_all b P (take i ms) d → a ≡ ticked b P (get_or ms i 0) c
        → a ≡ ticked_all b P (take (i + 1) ms) d
    played-on {i} l e f =
        f ∙ ap (ticked b P (get_or ms i 0)) e ∙ sym (ap (λ k. ticked_all b P (take k ms) d) (add-one i) ∙ counted_next ms i d l)
