-- Laws of what lines name. Assumes nothing.
use Rattle.std.specs.Prelude.{ℕ, zero, suc, ◌+◌, ◌-◌, ◌≤◌, ◌<◌, Bool, ◌≡◌, refl, eqb, length, get_or}
use mathlib.Core.List.{List, [], ◌∷◌}
use Rattle.std.proofs.Math.Option.{none, some}
use Rattle.std.proofs.Math.Path.{sym, ap}
use Rattle.std.proofs.Common.{◌∙◌, arith, eq-eqb, ne_eqb, length-drop, drop-cons, add-one}
use Rattle.std.proofs.Math.Decide.{ℕ_discrete as dec_eq}
use Rattle.std.proofs.Math.ListN.{drop}
use Rattle.words.specs.Choice.{then}
use Rattle.words.specs.Choice.Laws.{pick_ind}
use Rattle.typing.specs.Term.{Term, Effect, same_effect, effect_words}
use Rattle.typing.specs.Bag.{up_to, insert, plus, minus, bag}
use Rattle.typing.specs.Types.{same_effects}
use Rattle.typing.specs.Reading.{Read, ahead, term, effect_of, effects, several}
use Rattle.spans.specs.Behind.{rest_of, At}
use Rattle.spans.specs.Behind.Laws.{rest-after}
use Rattle.alike.specs.Same.{value_or, term_in, effects_in, test}
use Rattle.alike.specs.Same.Laws.{test-yes, test-no}
use Rattle.parts.specs.Place.Laws.{rest_some, several-length}
use Rattle.parts.specs.Place.Several.{first_of}
use Rattle.balance.specs.Sum.{effect_by, list_of, There}
use Rattle.balance.specs.declared.Effects.TheVariants.{One, Many}
use Rattle.shapes.specs.Shape.{Reads}

-- ---- the place behind effects
pub behind-none : (w : List ℕ) (a k : ℕ) → k ≡ 0 → rest_of (effects k (drop a w)) ≡ some (drop a w)
unfolding effects rest_of
behind-none w a k e = rw e

-- ---- effects one behind another
effects-several : (k : ℕ) (u : List ℕ) → effects k u ≡ several effect_of k u
unfolding effects several then
effects-several zero u = refl
effects-several (suc k) u = go (effects-several k) (effect_of u)
  where
    go : ((v : List ℕ) → effects k v ≡ several effect_of k v) → (o : Read Effect)
        → then o (λ p. ahead p.0 (effects k p.1)) ≡ then o (λ p. ahead p.0 (several effect_of k p.1))
    go h none = refl
    go h (some p) = ap (ahead p.0) (h p.1)

insert-some : (e : Effect) (es : List Effect) → insert e es ≡ [] → ⊥
unfolding insert
insert-some e [] z = let y : ◌≡◌ {A = ℕ} 0 1 = cc in omega arith
insert-some e (f ∷ es) z =
    pick_ind (λ (l : List Effect). l ≡ [] → ⊥) (up_to (effect_words e) (effect_words f)) (e ∷ f ∷ es) (f ∷ insert e es)
    (λ _ y. some-not y) (λ _ y. some-not y) z
  where
    some-not : {x : Effect} {l : List Effect} → x ∷ l ≡ [] → ⊥
    some-not y = let o : ◌≡◌ {A = ℕ} 0 1 = cc in omega arith

bag-none : (es : List Effect) → bag es ≡ [] → length es ≡ 0
unfolding bag plus
bag-none [] z = refl
bag-none (e ∷ es) z = absurd (insert-some e (plus es []) z)

-- no effects: their number is 0
pub none-stated : (w : List ℕ) (a k : ℕ) → Reads (effects k) w a → eqb k 0 ≡ test (same_effects (bag (effects_in w a k)) [])
unfolding effects_in bag plus value_or effects
none-stated w a k t = elim (dec_eq k 0) [
  | yes e ↦
      eq-eqb k 0 e ∙ sym (test-yes (same_effects (bag (effects_in w a k)) []) (ap (λ (n : ℕ). bag (effects_in w a n)) e))
  | no d ↦
      ne_eqb k 0 d
      ∙ sym (test-no (same_effects (bag (effects_in w a k)) []) (λ z.
      d (sym (ap (λ (r : Read (List Effect)). length (value_or [] r)) (effects-several k (drop a w))
      ∙ several-length effect_of k (drop a w) t.behind (sym (ap rest_of (effects-several k (drop a w))) ∙ t.reads))
      ∙ bag-none (effects_in w a k) z)))
]

-- ---- the place behind effects, past the first
effect-term : (u x : List ℕ) → rest_of (effect_of u) ≡ some x → (c : ℕ) × (v : List ℕ) × (u ≡ c ∷ v) × (rest_of (term v) ≡ some x)
unfolding effect_of rest_of
effect-term [] x e = absurd (let z : ◌≡◌ {A = ℕ} 0 1 = cc in omega arith)
effect-term (zero ∷ u) x e = absurd (let z : ◌≡◌ {A = ℕ} 0 1 = cc in omega arith)
effect-term (suc zero ∷ u) x e = (1, u, refl, sym (rest-after Effect.end (term u)) ∙ e)
effect-term (suc (suc zero) ∷ u) x e = (2, u, refl, sym (rest-after Effect.check (term u)) ∙ e)
effect-term (suc (suc (suc c)) ∷ u) x e = absurd (let z : ◌≡◌ {A = ℕ} 0 1 = cc in omega arith)

module _ (w : List ℕ) (a k : ℕ) (t : Reads (effects k) w a) (d : k ≡ 0 → ⊥) where
  one_more : k ≡ suc (k - 1)
  one_more = omega arith

  head : (x : List ℕ) × (effect_of (drop a w) ≡ some (value_or (Effect.end (Term.bound 0)) (effect_of (drop a w)), x))
      × (rest_of (several effect_of (k - 1) x) ≡ some t.behind)
  head =
      let e : rest_of (several effect_of (suc (k - 1)) (drop a w)) ≡ some t.behind =
      ap (λ (n : ℕ). rest_of (several effect_of n (drop a w))) (sym one_more) ∙ sym (ap rest_of (effects-several k (drop a w))) ∙ t.reads in
      let (x, p, q, s) = first_of effect_of (Effect.end (Term.bound 0)) same_effect (k - 1) (drop a w) t.behind e in
      (x, p, q)

  worded : (c : ℕ) × (v : List ℕ) × (drop a w ≡ c ∷ v) × (rest_of (term v) ≡ some head.0)
  worded = effect-term (drop a w) head.0 (rest_some _ _ _ head.1)

  pub first-inside : a < length w
  first-inside =
      let z = ap length worded.2 in
      omega (arith, length-drop a w)

  pub term-reads : Reads term w (a + 1)
  term-reads =
      let c : get_or w a 0 ∷ drop (suc a) w ≡ worded.0 ∷ worded.1 = sym (drop-cons w a 0 first-inside) ∙ worded.2 in
      let e : drop (suc a) w ≡ worded.1 = cc in
      record { behind = head.0; reads = ap (λ (u : List ℕ). rest_of (term u)) (ap (λ (i : ℕ). drop i w) (add-one a) ∙ e) ∙ worded.3 }

  module _ (e : ℕ) (q : At w (a + 1) (rest_of (term (drop (a + 1) w))) e) where
    pub others : Reads (effects (k - 1)) w e
    unfolding head term-reads
    others =
        let z : some head.0 ≡ some (drop e w) = sym term-reads.reads ∙ q.rest in
        let is : head.0 ≡ drop e w = cc in
        record {
          behind = t.behind;
          reads = ap rest_of (effects-several (k - 1) (drop e w)) ∙ ap (λ (u : List ℕ). rest_of (several effect_of (k - 1) u)) (sym is)
              ∙ head.2;
        }

    pub behind-others : (r : ℕ) → At w e (rest_of (effects (k - 1) (drop e w))) r → rest_of (effects k (drop a w)) ≡ some (drop r w)
    unfolding others
    behind-others r s = t.reads ∙ sym others.reads ∙ s.rest

-- ---- sums of effects, as the rules have them
pub none-there : (w : List ℕ) → rest_of (effects 0 (drop 0 w)) ≡ some (drop 0 w)
none-there w = behind-none w 0 0 refl

pub one-there : (w : List ℕ) (c a e : ℕ) → 0 < c → c ≤ 2 → At w a (rest_of (term (drop a w))) e → There w (One c a e)
one-there w c a e l h q = (l, h, q)

pub with-one : (w : List ℕ) (es : List Effect) (c a e : ℕ) → plus (bag (list_of w (One c a e))) (minus es (bag (list_of w (Many 0 0 0))))
    ≡ insert (effect_by c (term_in w a)) es
unfolding list_of bag plus insert minus effects_in effects value_or
with-one w es c a e = refl

-- one multiset in place of another
pub restates : {b : Bool} {l m : List Effect} (es : List Effect) → b ≡ test (same_effects es l) → l ≡ m → b ≡ test (same_effects es m)
restates es d e = d ∙ ap (λ (x : List Effect). test (same_effects es x)) e
