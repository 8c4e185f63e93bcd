-- Where effects end. Assumes nothing.
use Rattle.std.specs.Prelude.{ℕ, zero, suc, ◌+◌, ◌≤◌, ◌<◌, List, [], ◌∷◌, ◌≡◌, refl, length, drop, get_or}
use Rattle.std.proofs.Common.{◌∙◌, subst, arith, add-one, drop_of_length-le, drop-cons}
use Rattle.std.proofs.Math.Option.{Option, none, some}
use Rattle.words.specs.Choice.{then}
use Rattle.typing.specs.Term.{Effect}
use Rattle.typing.specs.Reading.{Read, ahead, term, effect_of, effects}
use Rattle.spans.specs.Behind.{rest_of, skip_effect, times}
use Rattle.spans.specs.Behind.Laws.{rest-ahead, rest-after}

-- ---- reading on from what was read
pub then-none : {A B : Type 0} (r : Read A) (f : A × List ℕ → Read B) → rest_of r ≡ none → rest_of (then r f) ≡ none
unfolding rest_of then
then-none none f e = refl
then-none (some p) f e = absurd (let z : ◌≡◌ {A = ℕ} 0 1 = cc in omega arith)

pub then_some : {A B : Type 0} (r : Read A) (f : A × List ℕ → Read B) (v : List ℕ) (o : Option (List ℕ)) → rest_of r ≡ some v
    → ((a : A) → rest_of (f (a, v)) ≡ o) → rest_of (then r f) ≡ o
unfolding rest_of then
then_some none f v o e h = absurd (let z : ◌≡◌ {A = ℕ} 0 1 = cc in omega arith)
then_some {A} (some p) f v o e h =
    let s : v ≡ p.1 = cc in
    subst (λ (u : List ℕ). rest_of (f (p.0, u)) ≡ o) s (h p.0)

-- ---- one effect
effect-rest : (c : ℕ) (u : List ℕ) → 1 ≤ c → c ≤ 2 → rest_of (effect_of (c ∷ u)) ≡ rest_of (term u)
unfolding effect_of
effect-rest zero u d e = absurd (omega arith)
effect-rest (suc zero) u d e = rest-after _ _
effect-rest (suc (suc zero)) u d e = rest-after _ _
effect-rest (suc (suc (suc c))) u d e = absurd (omega arith)

effect-none : (c : ℕ) (u : List ℕ) → (1 ≤ c → 2 < c) → rest_of (effect_of (c ∷ u)) ≡ none
unfolding effect_of rest_of
effect-none zero u d = refl
effect-none (suc zero) u d = absurd (omega arith)
effect-none (suc (suc zero)) u d = absurd (omega arith)
effect-none (suc (suc (suc c))) u d = refl

effect-empty : rest_of (effect_of []) ≡ none
unfolding effect_of rest_of
effect-empty = refl

-- ---- several effects
pub effects-times : (k : ℕ) (u : List ℕ) → rest_of (effects k u) ≡ times skip_effect k u
unfolding effects times rest_of then
effects-times zero u = refl
effects-times (suc k) u = go (effect_of u) (λ v. effects-times k v)
  where
    go : (r : Read Effect) → ((v : List ℕ) → rest_of (effects k v) ≡ times skip_effect k v)
        → rest_of (then r (λ p. ahead p.0 (effects k p.1))) ≡ then (rest_of r) (times skip_effect k)
    go none h = refl
    go (some p) h = rest-ahead p.0 (effects k p.1) ∙ h p.1

-- ---- one effect from the place a on
module _ (w : List ℕ) (a : ℕ) where
  pub effect-past : length w ≤ a → rest_of (effect_of (drop a w)) ≡ none
  effect-past l = rw (drop_of_length-le w l) effect-empty

  pub effect-other : a < length w → (1 ≤ get_or w a 0 → 2 < get_or w a 0) → rest_of (effect_of (drop a w)) ≡ none
  effect-other l d = rw (drop-cons w a 0 l) (effect-none (get_or w a 0) (drop (suc a) w) d)

  pub effect-term : a < length w → 1 ≤ get_or w a 0 → get_or w a 0 ≤ 2 → rest_of (effect_of (drop a w)) ≡ rest_of (term (drop (a + 1) w))
  effect-term l d e = rw (drop-cons w a 0 l, add-one) (effect-rest (get_or w a 0) (drop (suc a) w) d e)
