-- A name that stands once in a list, and lists without repeats. Assumes nothing.
use Rattle.std.specs.Prelude.{ℕ, suc, ◌+◌, ◌≤◌, ◌<◌, Bool, true, false, not, List, [], ◌∷◌, ◌++◌, ◌≡◌, refl, eqb, ltb}
use Rattle.std.proofs.Common.{true≢false, sym, ◌∙◌, arith, eqb-true, eq-eqb, ne_eqb, ltb-true, ltb-false}
use Rattle.std.proofs.Math.Decide.{dec_lt, ℕ_discrete as dec_eq}
use Rattle.std.proofs.lemmas.Bool.{not-true}
use Rattle.words.specs.Choice.Laws.{pick_true, pick-false, or_cases, or_left, or_right}
use Rattle.words.specs.First.Laws.{clash}
use Rattle.typing.specs.Apart.{among, clear}
use Rattle.typing.proofs.Check.Laws.{both, and_both}
use Rattle.apart.specs.Bound.{times_in, name_apart, all_apart}

-- ---- times_in
pub times-nil : (x : ℕ) → times_in x [] ≡ 0
unfolding times_in
times-nil x = refl

times-here : (x y : ℕ) (l : List ℕ) → y ≡ x → times_in x (y ∷ l) ≡ suc (times_in x l)
unfolding times_in
times-here x y l e = let h = pick_true {A = ℕ} (eqb y x) 1 0 (eq-eqb y x e) in omega arith

times-other : (x y : ℕ) (l : List ℕ) → (y ≡ x → ⊥) → times_in x (y ∷ l) ≡ times_in x l
unfolding times_in
times-other x y l e = let h = pick-false {A = ℕ} (eqb y x) 1 0 (ne_eqb y x e) in omega arith

pub times-append : (x : ℕ) (k l : List ℕ) → times_in x (k ++ l) ≡ times_in x k + times_in x l
unfolding times_in
times-append x [] l = omega arith
times-append x (y ∷ k) l = let h = times-append x k l in omega arith

-- a name stands there exactly if it stands there some times
among-times : (x : ℕ) (l : List ℕ) → among x l ≡ true → 0 < times_in x l
unfolding among
among-times x [] e = absurd (true≢false (sym e))
among-times x (y ∷ l) e =
    let r = among-times x l in
    elim (dec_eq y x) [
      | yes p ↦ omega (arith, times-here x y l p)
      | no p ↦ or_cases (eqb x y) (among x l) e (λ h. absurd (p (sym (eqb-true x y h)))) (λ h. omega (arith, r h, times-other x y l p))
    ]

times-among : (x : ℕ) (l : List ℕ) → 0 < times_in x l → among x l ≡ true
unfolding among
times-among x [] h = absurd (omega (arith, times-nil x))
times-among x (y ∷ l) h =
    let r = times-among x l in
    elim (dec_eq y x) [
      | yes p ↦ or_left (eqb x y) (among x l) (eq-eqb x y (sym p))
      | no p ↦ or_right (eqb x y) (among x l) (r (omega (arith, times-other x y l p)))
    ]

-- ---- a list is clear exactly if each of its names is apart
not-of : (b : Bool) → (b ≡ true → ⊥) → not b ≡ true
not-of true h = absurd (h refl)
not-of false h = refl

none_in : (y : ℕ) (k : List ℕ) → not (among y k) ≡ true → times_in y k ≡ 0
none_in y k n = elim (dec_lt 0 (times_in y k)) [ yes p ↦ absurd (clash (times-among y k p) (not-true _ n)) | no p ↦ omega arith ]

few : (n : ℕ) → n ≤ 1 → not (ltb 1 n) ≡ true
few n h = not-of (ltb 1 n) (λ t. absurd (omega (arith, ltb-true 1 n t)))

clear-once : (l ns : List ℕ) → clear l ns ≡ true → (x : ℕ) → times_in x l ≤ 1
unfolding clear
clear-once [] ns c x = omega (arith, times-nil x)
clear-once (y ∷ l) ns c x =
    let (a, r) = both _ _ c in
    let (p, q) = both (not (among y l)) (not (among y ns)) a in
    let h = clear-once l ns r x in
    elim (dec_eq y x) [
      | yes e ↦ let z : times_in x l ≡ 0 = rw e at (none_in y l p) in omega (arith, times-here x y l e)
      | no e ↦ omega (arith, times-other x y l e)
    ]

clear-each : (ns bs l : List ℕ) → ((x : ℕ) → times_in x bs ≤ 1) → clear l ns ≡ true → all_apart ns bs l ≡ true
unfolding clear all_apart name_apart
clear-each ns bs [] h c = refl
clear-each ns bs (x ∷ l) h c =
    let (a, r) = both _ _ c in
    let (p, q) = both (not (among x l)) (not (among x ns)) a in
    and_both _ _ (and_both _ _ q (few (times_in x bs) (h x))) (clear-each ns bs l h r)

more : (y x : ℕ) (l : List ℕ) → times_in y l ≤ times_in y (x ∷ l)
unfolding times_in
more y x l = omega arith

each-clear : (ns bs ks l : List ℕ) → ((x : ℕ) → times_in x l ≤ times_in x bs) → all_apart ns bs l ≡ true → clear l ns ≡ true
unfolding clear all_apart name_apart
each-clear ns bs ks [] h c = refl
each-clear ns bs ks (x ∷ l) h c =
    let (a, r) = both _ _ c in
    let (p, q) = both (not (among x ns)) (not (ltb 1 (times_in x bs))) a in
    let small = ltb-false 1 (times_in x bs) (not-true _ q) in
    let here = times-here x x l refl in
    let later : not (among x l) ≡ true = not-of (among x l) (λ m. absurd (omega (arith, among-times x l m, h x))) in
    and_both _ _ (and_both _ _ later p) (each-clear ns bs ks l (λ y. omega (arith, h y, more y x l)) r)

pub apart-clear : (ns bs : List ℕ) → all_apart ns bs bs ≡ clear bs ns
apart-clear ns bs = go (all_apart ns bs bs) (clear bs ns) refl refl
  where
    go : (a c : Bool) → all_apart ns bs bs ≡ a → clear bs ns ≡ c → all_apart ns bs bs ≡ clear bs ns
    go true c d e = d ∙ sym (each-clear ns bs [] bs (λ x. omega arith) d)
    go false true d e = absurd (clash (clear-each ns bs bs (clear-once bs ns e) e) d)
    go false false d e = d ∙ sym e
