-- Changed effects, by counting. Assumes nothing.
use Prim.Native.Nat.{ℕ, ◌+◌}
use Rattle.std.specs.Prelude.{Bool, ◌≡◌, eqb, drop, get_or}
use Rattle.std.specs.List.{list_all, count_by}
use Rattle.std.proofs.Math.Bool.{true, false, cond}
use Rattle.std.proofs.Common.{sym, ◌∙◌, eq-eqb, eqb-true}
use Rattle.std.proofs.lemmas.List.{length-map}
use Rattle.std.proofs.lemmas.Bool.Decides.{same_from_decides}
use Rattle.std.proofs.lemmas.List.Sums.{sum_by-cons}
use mathlib.Core.List.{List, [], ◌∷◌, map}
use Rattle.std.proofs.Math.Option.{some}
use Rattle.std.proofs.Math.Path.{refl, ap}
use native.Mathlib.Omega.{arith}
use Rattle.std.proofs.Math.ListN.{length}
use Rattle.words.specs.Choice.{pick}
use Rattle.words.specs.Choice.Laws.{pick_ind}
use Rattle.typing.specs.Term.{Term, Effect, Change, same_term, same_effect, change_term, change_effect, effect_words}
use Rattle.typing.specs.Bag.{up_to, insert, plus, bag, count}
use Rattle.typing.proofs.Bag.Laws.{count-here, count-other, bag-same}
use Rattle.typing.specs.Types.{same_effects}
use Rattle.typing.specs.Reading.{effects}
use Rattle.spans.specs.Behind.{rest_of}
use Rattle.alike.specs.Same.{term_in, effect_in, effects_in, test}
use Rattle.alike.specs.Same.Laws.{test-yes, test-no, test-true}
use Rattle.alike.specs.Same.Effects.{list_length}
use Rattle.alike.specs.Same.Spelled.{by_word, by-same, spelled}
use Rattle.alike.specs.Same.Each.{EffectAt, count-by, all-true, all-counted}
use Rattle.alike.specs.Same.Bags.{counts_all, length-same, level}
use Rattle.changed.specs.Put.{changed_effects}

-- ---- an effect by its word, changed
change-by : (ch : Change) (c : ℕ) (M : Term) → change_effect ch (by_word c M) ≡ by_word c (change_term ch M)
unfolding change_effect by_word pick
change-by ch c M = go (eqb c 1)
  where
    go : (b : Bool) → change_effect ch (pick b (Effect.end M) (Effect.check M)) ≡ pick b (Effect.end (change_term ch M)) (Effect.check (change_term ch M))
    go true = refl
    go false = refl

-- ---- the effect at i is the one at j, changed
module _ (w : List ℕ) (ch : Change) (i e j f : ℕ) (b : EffectAt w i e) (d : EffectAt w j f) where
  changed-is : change_effect ch (effect_in w j) ≡ by_word (get_or w j 0) (change_term ch (term_in w (j + 1)))
  changed-is = ap (change_effect ch) (spelled d).effect_is ∙ change-by ch (get_or w j 0) (term_in w (j + 1))

  parts-same : change_effect ch (effect_in w j) ≡ effect_in w i
      → (get_or w j 0 ≡ get_or w i 0) × (change_term ch (term_in w (j + 1)) ≡ term_in w (i + 1))
  parts-same z =
      by-same (get_or w j 0) (get_or w i 0) (change_term ch (term_in w (j + 1))) (term_in w (i + 1)) (spelled d).some_word (spelled d).small
      (spelled b).some_word (spelled b).small (sym changed-is ∙ z ∙ (spelled b).effect_is)

  pub is-other : (get_or w i 0 ≡ get_or w j 0 → ⊥) → false ≡ test (same_effect (change_effect ch (effect_in w j)) (effect_in w i))
  is-other n = sym (test-no (same_effect (change_effect ch (effect_in w j)) (effect_in w i)) (λ z. n (sym (parts-same z).0)))

  pub is_one : get_or w i 0 ≡ get_or w j 0 → (r : Bool) → r ≡ test (same_term (term_in w (i + 1)) (change_term ch (term_in w (j + 1))))
      → r ≡ test (same_effect (change_effect ch (effect_in w j)) (effect_in w i))
  is_one n r h =
      let own = same_term (term_in w (i + 1)) (change_term ch (term_in w (j + 1))) in
      let whole = same_effect (change_effect ch (effect_in w j)) (effect_in w i) in
      same_from_decides r (test whole) (
        λ t. changed-is ∙ ap (λ (c : ℕ). by_word c (change_term ch (term_in w (j + 1)))) (sym n)
            ∙ ap (by_word (get_or w i 0)) (sym (test-true own (sym h ∙ t))) ∙ sym (spelled b).effect_is,
        λ z. h ∙ test-yes own (sym (parts-same z).1),
      )
      (test-true whole, test-yes whole)

-- ---- how often an effect stands among changed ones: how many it is, changed
count-map : (ch : Change) (x : Effect) (es : List Effect) → count_by (λ y. test (same_effect y x)) (map (change_effect ch) es)
    ≡ count_by (λ y. test (same_effect (change_effect ch y) x)) es
count-map ch x [] = refl
count-map ch x (y ∷ es) =
    sum_by-cons (λ z. cond (test (same_effect z x)) 1 0) (change_effect ch y) (map (change_effect ch) es)
    ∙ ap (λ (n : ℕ). cond (test (same_effect (change_effect ch y) x)) 1 0 + n) (count-map ch x es)
    ∙ sym (sum_by-cons (λ z. cond (test (same_effect (change_effect ch z) x)) 1 0) y es)

pub count-changed : (ch : Change) (x : Effect) (es : List Effect)
    → count x (changed_effects ch es) ≡ count_by (λ y. test (same_effect (change_effect ch y) x)) es
unfolding changed_effects
count-changed ch x es = count-by x (map (change_effect ch) es) ∙ count-map ch x es

-- ---- a list, and one that is changed
module _ (w : List ℕ) (ch : Change) (a k fin b m last : ℕ) (s : rest_of (effects k (drop a w)) ≡ some (drop fin w))
    (v : rest_of (effects m (drop b w)) ≡ some (drop last w)) where
  changed-length : length (changed_effects ch (effects_in w b m)) ≡ m
  unfolding changed_effects
  changed-length = length-map (effects_in w b m) (change_effect ch) ∙ list_length w b m last v

  pub lengths-differ : (k ≡ m → ⊥) → false ≡ test (same_effects (bag (effects_in w a k)) (bag (changed_effects ch (effects_in w b m))))
  lengths-differ d =
      let es = effects_in w a k in
      let fs = changed_effects ch (effects_in w b m) in
      sym (test-no (same_effects (bag es) (bag fs)) (λ h.
      d (sym (list_length w a k fin s) ∙ length-same es fs ((bag-same es fs).0 h) ∙ changed-length)))

  pub lists_compared : k ≡ m → (r : Bool) → r ≡ list_all (level (effects_in w a k) (changed_effects ch (effects_in w b m))) (effects_in w a k)
      → r ≡ test (same_effects (bag (effects_in w a k)) (bag (changed_effects ch (effects_in w b m))))
  unfolding level
  lists_compared e r d =
      let es = effects_in w a k in
      let fs = changed_effects ch (effects_in w b m) in
      same_from_decides r (test (same_effects (bag es) (bag fs))) (
        λ h. (bag-same es fs).1 (λ x. sym (counts_all es fs (changed-length ∙ sym e ∙ sym (list_length w a k fin s))
            (λ y c. sym (eqb-true _ _ (all-counted (level es fs) es (sym d ∙ h) y c))) x)),
        λ h. d ∙ all-true (level es fs) es (λ x. eq-eqb _ _ ((bag-same es fs).0 h x)),
      )
      (test-true (same_effects (bag es) (bag fs)), test-yes (same_effects (bag es) (bag fs)))

-- ---- a multiset, changed, is the multiset of its list, changed
count-first : (x y : Effect) (k l : List Effect) → count x k ≡ count x l → count x (y ∷ k) ≡ count x (y ∷ l)
count-first x y k l h = elim (same_effect x y) [
  | yes p ↦ omega (arith, count-here x y k p, count-here x y l p)
  | no p ↦ omega (arith, count-other x y k p, count-other x y l p)
]

count-swap : (x y z : Effect) (l : List Effect) → count x (y ∷ z ∷ l) ≡ count x (z ∷ y ∷ l)
count-swap x y z l = elim (same_effect x y) [
  | yes p ↦ elim (same_effect x z) [
    | yes q ↦ omega (arith, count-here x y (z ∷ l) p, count-here x z l q, count-here x z (y ∷ l) q, count-here x y l p)
    | no q ↦ omega (arith, count-here x y (z ∷ l) p, count-other x z l q, count-other x z (y ∷ l) q, count-here x y l p)
  ]
  | no p ↦ elim (same_effect x z) [
    | yes q ↦ omega (arith, count-other x y (z ∷ l) p, count-here x z l q, count-here x z (y ∷ l) q, count-other x y l p)
    | no q ↦ omega (arith, count-other x y (z ∷ l) p, count-other x z l q, count-other x z (y ∷ l) q, count-other x y l p)
  ]
]

module _ (f : Effect → Effect) (x : Effect) where
  map-insert : (e : Effect) (es : List Effect) → count x (map f (insert e es)) ≡ count x (f e ∷ map f es)
  unfolding insert
  map-insert e [] = refl
  map-insert e (g ∷ es) =
      let h = map-insert e es in
      pick_ind (λ (l : List Effect). count x (map f l) ≡ count x (f e ∷ f g ∷ map f es)) (up_to (effect_words e) (effect_words g)) (e ∷ g ∷ es)
      (g ∷ insert e es) (λ _. refl) (λ _. count-first x (f g) (map f (insert e es)) (f e ∷ map f es) h ∙ count-swap x (f g) (f e) (map f es))

  map-bag : (es : List Effect) → count x (map f (bag es)) ≡ count x (map f es)
  unfolding bag plus
  map-bag [] = refl
  map-bag (e ∷ es) = map-insert e (plus es []) ∙ count-first x (f e) (map f (plus es [])) (map f es) (map-bag es)

pub bag-changed : (ch : Change) (es : List Effect) → bag (changed_effects ch (bag es)) ≡ bag (changed_effects ch es)
unfolding changed_effects
bag-changed ch es = (bag-same (map (change_effect ch) (bag es)) (map (change_effect ch) es)).1 (λ x. map-bag (change_effect ch) x es)
