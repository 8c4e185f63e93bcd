-- Laws of the tests that what a line names is there. Assumes nothing.
use Rattle.std.specs.Prelude.{ℕ, zero, suc, ◌-◌, Bool, true, false, List, ◌≡◌, refl, drop, Option as Answer, None, Some, is_some}
use Rattle.std.proofs.Common.{true≢false, sym, ◌∙◌, ap, arith}
use Rattle.std.proofs.Math.Option.{Option, none, some}
use Rattle.typing.specs.Reading.{Read, effect_of, effects}
use Rattle.shapes.specs.Shape.{Reads}
use Rattle.spans.specs.Behind.{rest_of, At, Ends}
use Rattle.spans.specs.Behind.Laws.{rest-ahead}
use Rattle.spans.specs.Behind.Effects.{then-none, then_some}
use Rattle.choosing.specs.Choose.{reads}

-- ---- reads, by where it ends
abbrev found : Option (List ℕ) → Bool
found none = false
found (some v) = true

reads-found : {A : Type 0} (r : List ℕ → Read A) (w : List ℕ) (a : ℕ) → reads r w a ≡ found (rest_of (r (drop a w)))
unfolding reads rest_of
reads-found {A} r w a = go (r (drop a w))
  where
    go : (o : Read A) → (elim o [ none ↦ false | some p ↦ true ]) ≡ found (rest_of o)
    go none = refl
    go (some p) = refl

ends_found : (w : List ℕ) (a : ℕ) (o : Option (List ℕ)) (e : Answer ℕ) → Ends w a o e → is_some e ≡ found o
ends_found w a o None h = sym (ap found h)
ends_found w a o (Some e) h = sym (ap found h.rest)

pub reads-there : {A : Type 0} (r : List ℕ → Read A) (w : List ℕ) (a : ℕ) → reads r w a ≡ true → Reads r w a
reads-there r w a e = go (rest_of (r (drop a w))) refl (sym (reads-found r w a) ∙ e)
  where
    go : (o : Option (List ℕ)) → rest_of (r (drop a w)) ≡ o → found o ≡ true → Reads r w a
    go none q h = absurd (true≢false (sym h))
    go (some v) q h = record { behind = v; reads = q }

pub there-reads : {A : Type 0} (r : List ℕ → Read A) (w : List ℕ) (a : ℕ) → Reads r w a → reads r w a ≡ true
there-reads r w a t = reads-found r w a ∙ ap found t.reads

pub reads_end : {A : Type 0} (r : List ℕ → Read A) (w : List ℕ) (a : ℕ) (e : Answer ℕ) → Ends w a (rest_of (r (drop a w))) e
    → is_some e ≡ reads r w a
reads_end r w a e q = ends_found w a _ e q ∙ sym (reads-found r w a)

-- ---- effects, past the first
first-none : (k : ℕ) (u : List ℕ) → (k ≡ 0 → ⊥) → rest_of (effect_of u) ≡ none → rest_of (effects k u) ≡ none
unfolding effects
first-none zero u d e = absurd (d refl)
first-none (suc k) u d e = then-none (effect_of u) _ e

first_some : (k : ℕ) (u v : List ℕ) → (k ≡ 0 → ⊥) → rest_of (effect_of u) ≡ some v → rest_of (effects k u) ≡ rest_of (effects (k - 1) v)
unfolding effects
first_some zero u v d e = absurd (d refl)
first_some (suc k) u v d e =
    let one : suc k - 1 ≡ k = omega arith in
    rw one (then_some (effect_of u) _ v _ e (λ a. rest-ahead a (effects k v)))

pub effects-none : (w : List ℕ) (a k : ℕ) → k ≡ 0 → true ≡ reads (effects k) w a
unfolding reads effects
effects-none w a k e = rw e

module _ (w : List ℕ) (a k : ℕ) (d : k ≡ 0 → ⊥) where
  pub effects-no-first : rest_of (effect_of (drop a w)) ≡ none → false ≡ reads (effects k) w a
  effects-no-first z = sym (reads-found (effects k) w a ∙ ap found (first-none k (drop a w) d z))

  pub effects-others : (e : ℕ) → At w a (rest_of (effect_of (drop a w))) e → (r : Answer ℕ) → Ends w e (rest_of (effects (k - 1) (drop e w))) r
      → is_some r ≡ reads (effects k) w a
  effects-others e h r p =
      ends_found w e _ r p ∙ ap found (sym (first_some k (drop a w) (drop e w) d h.rest)) ∙ sym (reads-found (effects k) w a)

-- ---- what is there, by where it ends
pub ruleset ending = (reads_end, effects-none, effects-no-first, effects-others)
