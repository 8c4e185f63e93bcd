-- An effect by its word, 1 for end and 2 for check, and its term. Assumes nothing.
use Rattle.std.specs.Prelude.{ℕ, zero, suc, ◌+◌, ◌≤◌, ◌<◌, List, ◌∷◌, ◌≡◌, eqb, length, drop, get_or}
use Rattle.std.proofs.Common.{sym, ◌∙◌, ap, arith, add-one, drop-cons, eq-eqb, ne_eqb}
use Rattle.std.proofs.Math.Option.{some}
use Rattle.std.proofs.Math.Decide.{ℕ_discrete as dec_eq}
use Rattle.words.specs.Choice.{pick}
use Rattle.words.specs.Choice.Laws.{pick_true, pick-false}
use Rattle.typing.specs.Term.{Term, Effect}
use Rattle.typing.specs.Reading.{term, effect_of}
use Rattle.spans.specs.Behind.{rest_of, At}
use Rattle.spans.specs.Behind.Laws.{rest-after}
use Rattle.alike.specs.Same.{value_or, term_in, effect_in}
use Rattle.alike.specs.Same.Laws.{value_after}
use Rattle.alike.specs.Same.Each.{EffectAt}

unfoldable pub by_word : ℕ → Term → Effect
by_word c M = pick (eqb c 1) (Effect.end M) (Effect.check M)

by_end : (c : ℕ) (M : Term) → c ≡ 1 → by_word c M ≡ Effect.end M
unfolding by_word
by_end c M e = pick_true (eqb c 1) _ _ (eq-eqb c 1 e)

by-check : (c : ℕ) (M : Term) → (c ≡ 1 → ⊥) → by_word c M ≡ Effect.check M
unfolding by_word
by-check c M e = pick-false (eqb c 1) _ _ (ne_eqb c 1 e)

-- effects with different words differ; with one word they are the same exactly if their terms are
pub by-same : (c d : ℕ) (M N : Term) → 0 < c → c ≤ 2 → 0 < d → d ≤ 2 → by_word c M ≡ by_word d N → (c ≡ d) × (M ≡ N)
by-same c d M N l h k m e = elim (dec_eq c 1) [
  | yes p ↦ elim (dec_eq d 1) [
    | yes q ↦ let z : Effect.end M ≡ Effect.end N = sym (by_end c M p) ∙ e ∙ by_end d N q in (omega arith, cc)
    | no q ↦ let z : Effect.end M ≡ Effect.check N = sym (by_end c M p) ∙ e ∙ by-check d N q in cc
  ]
  | no p ↦ elim (dec_eq d 1) [
    | yes q ↦ let z : Effect.check M ≡ Effect.end N = sym (by-check c M p) ∙ e ∙ by_end d N q in cc
    | no q ↦ let z : Effect.check M ≡ Effect.check N = sym (by-check c M p) ∙ e ∙ by-check d N q in (omega arith, cc)
  ]
]

read_by : (c : ℕ) (u v : List ℕ) → rest_of (effect_of (c ∷ u)) ≡ some v
    → (0 < c) × (c ≤ 2) × (value_or (Effect.end (Term.bound 0)) (effect_of (c ∷ u)) ≡ by_word c (value_or (Term.bound 0) (term u)))
unfolding effect_of rest_of by_word pick
read_by zero u v h = absurd (let z : ◌≡◌ {A = ℕ} 0 1 = cc in omega arith)
read_by (suc zero) u v h = (omega arith, omega arith, value_after Effect.end (Term.bound 0) (Effect.end (Term.bound 0)) (term u) v (sym (rest-after Effect.end (term u)) ∙ h))
read_by (suc (suc zero)) u v h = (omega arith, omega arith, value_after Effect.check (Term.bound 0) (Effect.end (Term.bound 0)) (term u) v (sym (rest-after Effect.check (term u)) ∙ h))
read_by (suc (suc (suc c))) u v h = absurd (let z : ◌≡◌ {A = ℕ} 0 1 = cc in omega arith)

-- an effect in the words is the one with its word and its term
pub record Spelled (w : List ℕ) (i e : ℕ) : Type 0 where
  pub inside : i < length w
  pub some_word : 0 < get_or w i 0
  pub small : get_or w i 0 ≤ 2
  pub own : At w (i + 1) (rest_of (term (drop (i + 1) w))) e
  pub effect_is : effect_in w i ≡ by_word (get_or w i 0) (term_in w (i + 1))

pub spelled : {w : List ℕ} {i e : ℕ} → EffectAt w i e → Spelled w i e
unfolding effect_in term_in
spelled {w} {i} {e} t =
    let inside : i < length w = omega (arith, t.own.after, t.own.inside) in
    let whole : drop i w ≡ get_or w i 0 ∷ drop (i + 1) w = rw add-one (drop-cons w i 0 inside) in
    let parts = read_by (get_or w i 0) (drop (i + 1) w) (drop e w) (sym (ap (λ (u : List ℕ). rest_of (effect_of u)) whole) ∙ t.effect.rest) in
    record {
      inside = inside;
      some_word = parts.0;
      small = parts.1;
      own = t.own;
      effect_is = ap (λ (u : List ℕ). value_or (Effect.end (Term.bound 0)) (effect_of u)) whole ∙ parts.2;
    }
