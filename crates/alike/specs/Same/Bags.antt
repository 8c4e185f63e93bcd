-- Multisets compared by counting. Assumes nothing.
use Rattle.std.specs.Prelude.{ℕ, suc, ◌+◌, ◌<◌, Bool, List, [], ◌∷◌, ◌≡◌, refl, eqb, length, drop}
use Rattle.std.specs.List.{list_all}
use Rattle.std.proofs.Math.Bool.{false}
use Rattle.std.proofs.Common.{sym, ◌∙◌, arith, eq-eqb, eqb-true}
use Rattle.std.proofs.lemmas.Bool.Decides.{same_from_decides}
use Rattle.std.proofs.Math.Option.{some}
use Rattle.std.proofs.Math.Path.{ap}
use Rattle.words.specs.Choice.{choose}
use Rattle.typing.specs.Term.{Effect, same_effect}
use Rattle.typing.specs.Bag.{bag, count, remove}
use Rattle.typing.proofs.Bag.Laws.{count-here, count-other, count-remove, count_none, bag-same}
use Rattle.typing.specs.Types.{same_effects}
use Rattle.typing.specs.Reading.{effects}
use Rattle.spans.specs.Behind.{rest_of}
use Rattle.alike.specs.Same.{effects_in, test}
use Rattle.alike.specs.Same.Laws.{test-yes, test-no, test-true}
use Rattle.alike.specs.Same.Effects.{list_length}
use Rattle.alike.specs.Same.Each.{all-true, all-counted}

-- ---- counts
count-split : (x f : Effect) (fs : List Effect) → count x (f ∷ fs) ≡ count x (f ∷ []) + count x fs
count-split x f fs = elim (same_effect x f) [
  | yes p ↦ omega (arith, count-here x f fs p, count-here x f [] p, count_none x)
  | no p ↦ omega (arith, count-other x f fs p, count-other x f [] p, count_none x)
]

remove-length : (f : Effect) (es : List Effect) → 0 < count f es → length es ≡ suc (length (remove f es))
unfolding remove choose
remove-length f [] h = absurd (omega (arith, count_none f))
remove-length f (g ∷ es) h = go (same_effect f g) (λ d. remove-length f es d)
  where
    go : (c : Dec (f ≡ g)) → (0 < count f es → length es ≡ suc (length (remove f es)))
        → length (g ∷ es) ≡ suc (length (choose c es (g ∷ remove f es)))
    go (yes p) r = refl
    go (no p) r = ap suc (r (omega (arith, count-other f g es p)))

empty-list : (es : List Effect) → length es ≡ 0 → es ≡ []
empty-list [] h = refl
empty-list (e ∷ es) h = absurd (omega arith)

-- lists of one length in which the effects of the second stand equally often have all effects equally often
pub counts_all : (fs es : List Effect) → length es ≡ length fs → ((x : Effect) → 0 < count x fs → count x es ≡ count x fs) → (x : Effect)
    → count x es ≡ count x fs
counts_all [] es l h x = ap (count x) (empty-list es l)
counts_all (f ∷ fs) es l h x =
    let here = count-here f f fs refl in
    let there : 0 < count f es = omega (arith, h f (omega arith)) in
    let shorter = remove-length f es there in
    let r = counts_all fs (remove f es) (omega arith)
    (λ y k. omega (arith, count-remove y f es, h y (omega (arith, count-split y f fs)), count-split y f fs)) x in
    elim (same_effect x f) [
      | yes p ↦ h x (omega (arith, count-here x f fs p))
      | no p ↦ omega (arith, r, count-remove x f es, count-split x f fs, count-other x f [] p, count_none x)
    ]

pub length-same : (es fs : List Effect) → ((x : Effect) → count x es ≡ count x fs) → length es ≡ length fs
length-same [] [] h = refl
length-same [] (f ∷ fs) h = absurd (omega (arith, h f, count-here f f fs refl, count_none f))
length-same (e ∷ es) fs h =
    let there : 0 < count e fs = omega (arith, h e, count-here e e es refl) in
    let r = length-same es (remove e fs) (λ x. omega (arith, h x, count-remove x e fs, count-split x e es)) in
    ap suc r ∙ sym (remove-length e fs there)

-- ---- two lists are one multiset where they are of one length, and each effect of the second stands equally often in both
unfoldable pub level : List Effect → List Effect → Effect → Bool
level es fs x = eqb (count x es) (count x fs)

pub bags_compared : (u : List ℕ) (a k end : ℕ) (v : List ℕ) (b l fin : ℕ) → rest_of (effects k (drop a u)) ≡ some (drop end u)
    → rest_of (effects l (drop b v)) ≡ some (drop fin v) → k ≡ l → (r : Bool)
    → r ≡ list_all (level (effects_in u a k) (effects_in v b l)) (effects_in v b l)
    → r ≡ test (same_effects (bag (effects_in u a k)) (bag (effects_in v b l)))
unfolding level
bags_compared u a k end v b l fin s w e r d =
    let es = effects_in u a k in
    let fs = effects_in v b l in
    same_from_decides r (test (same_effects (bag es) (bag fs))) (
      λ h. (bag-same es fs).1 (counts_all fs es (list_length u a k end s ∙ e ∙ sym (list_length v b l fin w))
          (λ x c. eqb-true _ _ (all-counted (level es fs) fs (sym d ∙ h) x c))),
      λ h. d ∙ all-true (level es fs) fs (λ x. eq-eqb _ _ ((bag-same es fs).0 h x)),
    )
    (test-true (same_effects (bag es) (bag fs)), test-yes (same_effects (bag es) (bag fs)))

-- lists of two lengths are never one multiset
pub bags-lengths : (u : List ℕ) (a k end : ℕ) (v : List ℕ) (b l fin : ℕ) → rest_of (effects k (drop a u)) ≡ some (drop end u)
    → rest_of (effects l (drop b v)) ≡ some (drop fin v) → (k ≡ l → ⊥)
    → false ≡ test (same_effects (bag (effects_in u a k)) (bag (effects_in v b l)))
bags-lengths u a k end v b l fin s w d =
    sym (test-no (same_effects (bag (effects_in u a k)) (bag (effects_in v b l)))
    (λ h. d (sym (list_length u a k end s) ∙ length-same (effects_in u a k) (effects_in v b l) ((bag-same (effects_in u a k) (effects_in v b l)).0 h)
    ∙ list_length v b l fin w)))
