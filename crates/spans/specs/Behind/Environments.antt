-- Where environments end, one turn at a time. Assumes nothing.
use Rattle.std.specs.Prelude.{ℕ, zero, suc, ◌+◌, ◌-◌, ◌≤◌, ◌<◌, List, [], ◌∷◌, ◌≡◌, refl, length, drop, get_or}
use Rattle.std.proofs.Common.{◌∙◌, ap, arith, add-one, length-drop, drop_of_length-le, drop-cons}
use Rattle.std.proofs.Math.Option.{none, some}
use Rattle.std.proofs.Math.Decide.{dec_lt}
use Rattle.typing.specs.Types.{Environment, ◌⦂◌}
use Rattle.typing.specs.Reading.{type_at, entries, environment_at}
use Rattle.spans.specs.Behind.{rest_of, At}
use Rattle.spans.specs.Behind.Laws.{rest-after}
use Rattle.spans.specs.Behind.Effects.{then-none, then_some}

-- ---- entries
pub entries-empty : (f : ℕ) → rest_of (entries f []) ≡ none
unfolding entries rest_of
entries-empty zero = refl
entries-empty (suc f) = refl

pub entries-last : (f c : ℕ) (u : List ℕ) → c ≡ 1 → rest_of (entries (suc f) (c ∷ u)) ≡ some u
unfolding entries rest_of
entries-last f c u e = rw e

pub entries-other : (f c : ℕ) (u : List ℕ) → (c ≡ 1 → ⊥) → (c ≡ 2 → ⊥) → rest_of (entries (suc f) (c ∷ u)) ≡ none
unfolding entries rest_of
entries-other f zero u d e = refl
entries-other f (suc zero) u d e = absurd (d refl)
entries-other f (suc (suc zero)) u d e = absurd (e refl)
entries-other f (suc (suc (suc c))) u d e = refl

pub entries-cut : (f c : ℕ) → c ≡ 2 → rest_of (entries (suc f) (c ∷ [])) ≡ none
unfolding entries rest_of
entries-cut f c e = rw e

pub entries-no-type : (f c x : ℕ) (u : List ℕ) → c ≡ 2 → rest_of (type_at u) ≡ none → rest_of (entries (suc f) (c ∷ x ∷ u)) ≡ none
unfolding entries
entries-no-type f c x u e h = rw e (then-none (type_at u) _ h)

pub entries-type : (f c x : ℕ) (u v : List ℕ) → c ≡ 2 → rest_of (type_at u) ≡ some v
    → rest_of (entries (suc f) (c ∷ x ∷ u)) ≡ rest_of (entries f v)
unfolding entries
entries-type f c x u v e h = rw e (then_some (type_at u) _ v _ h (λ T. rest-after (λ (E : Environment). (x ⦂ T) ∷ E) (entries f v)))

-- ---- the walk over an environment's words: the older entries begin at the place i
pub record Walk (w : List ℕ) (a i : ℕ) : Type 0 where
  pub fuel : ℕ
  pub enough : length w ≤ i + fuel
  pub same : rest_of (environment_at (drop a w)) ≡ rest_of (entries fuel (drop i w))
  pub after : a ≤ i

pub walk-begin : (w : List ℕ) (a : ℕ) → Walk w a a
unfolding environment_at
walk-begin w a = record { fuel = length (drop a w); enough = omega (arith, length-drop a w); same = refl; after = omega arith }

module _ (w : List ℕ) (a i : ℕ) (t : Walk w a i) where
  pub walk-past : length w ≤ i → rest_of (environment_at (drop a w)) ≡ none
  walk-past l =
      t.same ∙ ap (λ (u : List ℕ). rest_of (entries t.fuel u)) (drop_of_length-le w l) ∙ entries-empty t.fuel

  -- with a word at i
  here : i < length w → rest_of (environment_at (drop a w)) ≡ rest_of (entries (suc (t.fuel - 1)) (get_or w i 0 ∷ drop (suc i) w))
  here l =
      let more : t.fuel ≡ suc (t.fuel - 1) = omega (arith, t.enough) in
      t.same ∙ ap (λ (f : ℕ). rest_of (entries f (drop i w))) more
      ∙ ap (λ (u : List ℕ). rest_of (entries (suc (t.fuel - 1)) u)) (drop-cons w i 0 l)

  pub walk-last : i < length w → get_or w i 0 ≡ 1 → At w a (rest_of (environment_at (drop a w))) (i + 1)
  walk-last l e =
      record {
        some_word = omega arith;
        after = omega (arith, t.after);
        inside = omega arith;
        rest = here l ∙ rw add-one (entries-last (t.fuel - 1) _ (drop (suc i) w) e);
      }

  pub walk-other : i < length w → (get_or w i 0 ≡ 1 → ⊥) → (get_or w i 0 ≡ 2 → ⊥) → rest_of (environment_at (drop a w)) ≡ none
  walk-other l d e = here l ∙ entries-other (t.fuel - 1) _ (drop (suc i) w) d e

  -- with an entry's name too
  entry : i + 1 < length w
      → rest_of (environment_at (drop a w)) ≡ rest_of (entries (suc (t.fuel - 1)) (get_or w i 0 ∷ get_or w (suc i) 0 ∷ drop (i + 2) w))
  entry s =
      let two : i + 2 ≡ suc (suc i) = omega arith in
      let l : i < length w = omega arith in
      here l ∙ rw (drop-cons w (suc i) 0 (omega arith), two) refl

  -- what is cut off behind the 2 has no type either
  pub walk-no-type : i < length w → get_or w i 0 ≡ 2 → rest_of (type_at (drop (i + 2) w)) ≡ none → rest_of (environment_at (drop a w)) ≡ none
  walk-no-type l e z = elim (dec_lt (i + 1) (length w)) [
    | yes s ↦ entry s ∙ entries-no-type (t.fuel - 1) _ _ (drop (i + 2) w) e z
    | no s ↦
        let f : drop (suc i) w ≡ [] = drop_of_length-le w {i = suc i} (omega arith) in
        here l ∙ rw f (entries-cut (t.fuel - 1) _ e)
  ]

  pub walk-again : get_or w i 0 ≡ 2 → (r : ℕ) → At w (i + 2) (rest_of (type_at (drop (i + 2) w))) r → Walk w a r
  walk-again e r b =
      record {
        fuel = t.fuel - 1;
        enough = omega (arith, t.enough, b.after);
        same = entry (omega (arith, b.after, b.inside)) ∙ entries-type (t.fuel - 1) _ _ (drop (i + 2) w) (drop r w) e b.rest;
        after = omega (arith, t.after, b.after);
      }
