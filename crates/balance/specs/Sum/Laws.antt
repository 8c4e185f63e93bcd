-- Laws of sums and differences of effects, by counting. Assumes nothing.
use Prim.Native.Nat.{ℕ, zero, suc, ◌+◌, ◌-◌, ◌≤◌, ◌<◌}
use Rattle.std.specs.Prelude.{Bool, ◌&&◌, ◌≡◌, refl, length, drop, get_or}
use Rattle.std.specs.List.{list_all}
use Rattle.std.specs.Int.{from_bool}
use Rattle.std.proofs.Math.Bool.{true, false}
use Rattle.std.proofs.Common.{◌∙◌, subst, length-drop}
use mathlib.Core.List.{List, [], ◌∷◌}
use Rattle.std.proofs.Math.Option.{none, some}
use Rattle.std.proofs.Math.Path.{sym, ap}
use native.Mathlib.Omega.{arith}
use Rattle.std.proofs.Math.Decide.{dec_lt}
use borrow.Author.Tests.{eq-eqb, eqb-true}
use Rattle.words.specs.Choice.{then}
use Rattle.words.specs.First.Laws.{clash}
use Rattle.typing.specs.Term.{Term, Effect, same_term, same_effect}
use Rattle.typing.specs.Bag.{bag, plus, minus, count}
use Rattle.typing.proofs.Bag.Laws.{count_none, count-here, count-other, count-plus, count-minus, count-bag, bag-ordered, plus-ordered, minus-ordered, ordered_same}
use Rattle.typing.specs.Types.{same_effects}
use Rattle.typing.proofs.Check.Laws.{both, and_both}
use Rattle.typing.specs.Reading.{Read, after, term, effect_of, effects}
use Rattle.typing.specs.Reading.Laws.{shorter-after, term-shorter}
use Rattle.spans.specs.Behind.{rest_of, At}
use Rattle.spans.specs.Behind.Laws.{rest-ahead}
use Rattle.alike.specs.Same.{term_in, effect_in, effects_in, test}
use Rattle.alike.specs.Same.Laws.{test-yes, test-no, test-true}
use Rattle.alike.specs.Same.Each.{EffectAt}
use Rattle.alike.specs.Same.Spelled.{by_word, by-same as words-same, spelled}
use Rattle.balance.specs.Sum.{effect_by, list_of, There, level_at}
use Rattle.balance.specs.declared.Effects.{Effects}
use Rattle.balance.specs.declared.Effects.TheVariants.{One, Many}

-- ---- effect_by
as_word : (c : ℕ) (M : Term) → effect_by c M ≡ by_word c M
unfolding effect_by by_word
as_word c M = refl

pub effect-by : {w : List ℕ} {i e : ℕ} → EffectAt w i e → effect_in w i ≡ effect_by (get_or w i 0) (term_in w (i + 1))
effect-by {w} {i} {e} t = (spelled t).effect_is ∙ sym (as_word (get_or w i 0) (term_in w (i + 1)))

-- effects with different words differ; with one word they are the same exactly if their terms are
by-same : (c d : ℕ) (M N : Term) → 0 < c → c ≤ 2 → 0 < d → d ≤ 2 → effect_by c M ≡ effect_by d N → (c ≡ d) × (M ≡ N)
by-same c d M N l h k m e = words-same c d M N l h k m (sym (as_word c M) ∙ e ∙ as_word d N)

pub by-other : (c d : ℕ) (M N : Term) → 0 < c → c ≤ 2 → 0 < d → d ≤ 2 → (c ≡ d → ⊥)
    → false ≡ test (same_effect (effect_by c M) (effect_by d N))
by-other c d M N l h k m e = sym (test-no (same_effect (effect_by c M) (effect_by d N)) (λ z. e (by-same c d M N l h k m z).0))

pub by_one : (c d : ℕ) (M N : Term) → 0 < c → c ≤ 2 → c ≡ d → (b : Bool) → b ≡ test (same_term M N)
    → b ≡ test (same_effect (effect_by c M) (effect_by d N))
by_one c d M N l h e true t =
    let s : M ≡ N = test-true (same_term M N) (sym t) in
    sym (test-yes (same_effect (effect_by c M) (effect_by d N)) (cc))
by_one c d M N l h e false t =
    sym (test-no (same_effect (effect_by c M) (effect_by d N))
    (λ z. clash (test-yes (same_term M N) (by-same c d M N l h (omega arith) (omega arith) z).1) (sym t)))

-- ---- counts are no larger than the words are many
count-length : (x : Effect) (es : List Effect) → count x es ≤ length es
count-length x [] = omega (arith, count_none x)
count-length x (e ∷ es) = elim (same_effect x e) [
  | yes p ↦ omega (arith, count-here x e es p, count-length x es)
  | no p ↦ omega (arith, count-other x e es p, count-length x es)
]

some_of : {A : Type 0} {B : Type 0} (r : Read A) (f : A × List ℕ → Read B) (v : List ℕ) → rest_of (then r f) ≡ some v
    → (a : A) × (x : List ℕ) × (r ≡ some (a, x)) × (rest_of (f (a, x)) ≡ some v)
unfolding then rest_of
some_of none f v e = cc
some_of (some p) f v e = (p.0, p.1, refl, e)

effect-shorter : (u : List ℕ) (x : Effect) (v : List ℕ) → effect_of u ≡ some (x, v) → length v < length u
unfolding effect_of after
effect-shorter [] x v e = cc
effect-shorter (zero ∷ u) x v e = cc
effect-shorter (suc zero ∷ u) x v e = omega (arith, shorter-after (length u) Effect.end (term u) (term-shorter u) x v e)
effect-shorter (suc (suc zero) ∷ u) x v e = omega (arith, shorter-after (length u) Effect.check (term u) (term-shorter u) x v e)
effect-shorter (suc (suc (suc c)) ∷ u) x v e = cc

few : (k : ℕ) (u v : List ℕ) → rest_of (effects k u) ≡ some v → k ≤ length u
unfolding effects
few zero u v e = omega arith
few (suc k) u v e =
    let (x, y, d, h) = some_of (effect_of u) _ v e in
    let r = few k y v (sym (rest-ahead x (effects k y)) ∙ h) in
    omega (arith, effect-shorter u x y d)

few-effects : (w : List ℕ) (a k end : ℕ) → rest_of (effects k (drop a w)) ≡ some (drop end w) → k ≤ length w
few-effects w a k end e = omega (arith, few k (drop a w) (drop end w) e, length-drop a w)

-- ---- in a list, by which it is
pub one-there : (w : List ℕ) (s : Effects) (d a e : ℕ) → s ≡ One d a e → There w s → (0 < d) × (d ≤ 2) × At w a (rest_of (term (drop a w))) e
one-there w s d a e q h = subst (There w) q h

pub many-there : (w : List ℕ) (s : Effects) (a k e : ℕ) → s ≡ Many a k e → There w s → rest_of (effects k (drop a w)) ≡ some (drop e w)
many-there w s a k e q h = subst (There w) q h

pub few-count : (w : List ℕ) (s : Effects) (a k e n : ℕ) → s ≡ Many a k e → There w s → n ≤ k → n ≤ length w
few-count w s a k e n q h l = omega (arith, few-effects w a k e (many-there w s a k e q h))

pub list-one : (w : List ℕ) (s : Effects) (d a e : ℕ) → s ≡ One d a e → list_of w s ≡ effect_by d (term_in w a) ∷ []
unfolding list_of
list-one w s d a e q = ap (list_of w) q

pub list-many : (w : List ℕ) (s : Effects) (a k e : ℕ) → s ≡ Many a k e → list_of w s ≡ effects_in w a k
unfolding list_of
list-many w s a k e q = ap (list_of w) q

-- one effect is counted by whether it is the same, and no more than once
pub count_one : (x y : Effect) (r : Bool) → r ≡ test (same_effect y x) → from_bool r ≡ count x (y ∷ [])
count_one x y true h = sym (count-here x y [] (sym (test-true (same_effect y x) (sym h))) ∙ ap suc (count_none x))
count_one x y false h =
    sym (count-other x y [] (λ z. clash (test-yes (same_effect y x) (sym z)) (sym h)) ∙ count_none x)

pub one_small : (r : Bool) → from_bool r ≤ 1
one_small true = omega arith
one_small false = omega arith

-- ---- every effect of a list
and-true : (b : Bool) → (b && true) ≡ b
and-true true = refl
and-true false = refl

pub every_one : (f : Effect → Bool) (x : Effect) → f x ≡ list_all f (x ∷ [])
every_one f x = sym (and-true (f x))

every-counted : (f : Effect → Bool) (l : List Effect) → list_all f l ≡ true → (x : Effect) → 0 < count x l → f x ≡ true
every-counted f [] h x k = absurd (omega (arith, count_none x))
every-counted f (y ∷ l) h x k =
    let (p, q) = both (f y) (list_all f l) h in
    let r = every-counted f l q x in
    elim (same_effect x y) [
      | yes e ↦ ap f e ∙ p
      | no e ↦ r (omega (arith, count-other x y l e))
    ]

counted-every : (f : Effect → Bool) (l : List Effect) → ((x : Effect) → 0 < count x l → f x ≡ true) → list_all f l ≡ true
counted-every f [] h = refl
counted-every f (y ∷ l) h =
    and_both (f y) (list_all f l) (h y (omega (arith, count-here y y l refl))) (counted-every f l (λ x k. h x (more x k)))
  where
    more : (x : Effect) → 0 < count x l → 0 < count x (y ∷ l)
    more x k = elim (same_effect x y) [
      | yes e ↦ omega (arith, count-here x y l e)
      | no e ↦ omega (arith, count-other x y l e)
    ]

-- ---- the multisets are equal exactly if every effect is level
module _ (w : List ℕ) (r a b d : Effects) where
  abbrev R : List Effect
  R = list_of w r

  abbrev A : List Effect
  A = list_of w a

  abbrev B : List Effect
  B = list_of w b

  abbrev D : List Effect
  D = list_of w d

  abbrev X : List Effect
  X = plus (bag D) (minus (bag A) (bag B))

  abbrev L : Effect → Bool
  L = level_at w r a b d

  count-X : (x : Effect) → count x X ≡ count x A - count x B + count x D
  count-X x =
      omega (arith, count-plus x (bag D) (minus (bag A) (bag B)), count-minus x (bag A) (bag B), count-bag x A, count-bag x B, count-bag x D)

  level-of : (x : Effect) → L x ≡ true → count x R ≡ count x A - count x B + count x D
  unfolding level_at
  level-of x e = eqb-true _ _ e

  of-level : bag R ≡ X → (x : Effect) → L x ≡ true
  unfolding level_at
  of-level e x = eq-eqb _ _ (sym (count-bag x R) ∙ ap (count x) e ∙ count-X x)

  all-level : list_all L R ≡ true → list_all L A ≡ true → list_all L D ≡ true → bag R ≡ X
  all-level p q s =
      ordered_same (bag R) X (bag-ordered R) (plus-ordered (bag D) (minus (bag A) (bag B)) (minus-ordered (bag A) (bag B) (bag-ordered A)))
      (λ x. count-bag x R ∙ at x ∙ sym (count-X x))
    where
      at : (x : Effect) → count x R ≡ count x A - count x B + count x D
      at x = elim (dec_lt 0 (count x R)) [
        | yes l ↦ level-of x (every-counted L R p x l)
        | no l ↦ elim (dec_lt 0 (count x A)) [
          | yes m ↦ level-of x (every-counted L A q x m)
          | no m ↦ elim (dec_lt 0 (count x D)) [
            | yes n ↦ level-of x (every-counted L D s x n)
            | no n ↦ omega arith
          ]
        ]
      ]

  pub balance-fails : (l : List Effect) (p : Bool) → p ≡ list_all L l → p ≡ false → false ≡ test (same_effects (bag R) X)
  balance-fails l p e z =
      sym (test-no (same_effects (bag R) X) (λ h. clash (e ∙ counted-every L l (λ x _. of-level h x)) z))

  pub balance-holds : list_all L R ≡ true → list_all L A ≡ true → (s : Bool) → s ≡ list_all L D → s ≡ test (same_effects (bag R) X)
  balance-holds p q true g = sym (test-yes (same_effects (bag R) X) (all-level p q (sym g)))
  balance-holds p q false g = balance-fails D false g refl
