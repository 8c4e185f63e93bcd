-- A test that is asked of each of several effects in the words, one behind another. Assumes nothing.
use Rattle.std.specs.Prelude.{ℕ, suc, ◌+◌, ◌-◌, ◌≤◌, ◌<◌, Bool, ◌&&◌, List, [], ◌∷◌, ◌≡◌, refl, length, drop, Option as Answer, IsSome}
use Rattle.std.specs.List.{list_all, count_by}
use Rattle.std.proofs.Math.Bool.{true, false, cond}
use Rattle.std.proofs.Common.{sym, ◌∙◌, ap, arith}
use Rattle.std.proofs.Math.Option.{some}
use Rattle.std.proofs.lemmas.List.Sums.{sum_by-cons}
use Rattle.typing.specs.Term.{Effect, same_effect}
use Rattle.typing.specs.Bag.{count}
use Rattle.typing.proofs.Bag.Laws.{count_none, count-here, count-other}
use Rattle.typing.proofs.Check.Laws.{both}
use Rattle.typing.specs.Reading.{term, effect_of, effects}
use Rattle.spans.specs.Behind.{rest_of, At, Ends}
use Rattle.alike.specs.Same.{effect_in, effects_in, test}
use Rattle.alike.specs.Same.Laws.{test-yes, test-no}
use Rattle.alike.specs.Same.Effects.{Along, along-inside, along-found, along-end, along-again, along-list, list-none}

-- an effect begins at the place i, and it and its term end at e
pub record EffectAt (w : List ℕ) (i e : ℕ) : Type 0 where
  pub effect : At w i (rest_of (effect_of (drop i w))) e
  pub own : At w (i + 1) (rest_of (term (drop (i + 1) w))) e

-- it may be asked of each effect, by its place and its end
abbrev pub AskedOfEach : List ℕ → (ℕ → ℕ → Type 0) → Type 0
AskedOfEach w asked = (i e : ℕ) → EffectAt w i e → asked i e

-- what it tells of an effect by its place and its end is whether p holds of the effect
abbrev pub Tells : List ℕ → (ℕ → ℕ → Bool → Type 0) → (Effect → Bool) → Type 0
Tells w told p = (i e : ℕ) (r : Bool) → EffectAt w i e → told i e r → r ≡ p (effect_in w i)

-- ---- counts, one effect more
counted-yes : (p : Effect → Bool) (x : Effect) (l : List Effect) → p x ≡ true → count_by p (x ∷ l) ≡ suc (count_by p l)
counted-yes p x l h = sum_by-cons (λ y. cond (p y) 1 0) x l ∙ ap (λ (b : Bool). cond b 1 0 + count_by p l) h ∙ omega arith

counted-no : (p : Effect → Bool) (x : Effect) (l : List Effect) → p x ≡ false → count_by p (x ∷ l) ≡ count_by p l
counted-no p x l h = sum_by-cons (λ y. cond (p y) 1 0) x l ∙ ap (λ (b : Bool). cond b 1 0 + count_by p l) h ∙ omega arith

-- ---- along the effects: at the place i, j of k are behind; `told` says what the test told of one
pub record Counting (w : List ℕ) (told : ℕ → ℕ → Bool → Type 0) (a k end i j n : ℕ) : Type 0 where
  pub along : Along w end (k - j) i
  pub sum : (p : Effect → Bool) → Tells w told p → count_by p (effects_in w a k) ≡ n + count_by p (effects_in w i (k - j))
  pub few : n ≤ j

pub record Each (w : List ℕ) (told : ℕ → ℕ → Bool → Type 0) (a k end i j : ℕ) : Type 0 where
  pub along : Along w end (k - j) i
  pub same : (p : Effect → Bool) → Tells w told p → list_all p (effects_in w a k) ≡ list_all p (effects_in w i (k - j))

sub-zero : (k : ℕ) → k - 0 ≡ k
sub-zero k = omega arith

module _ (w : List ℕ) (told : ℕ → ℕ → Bool → Type 0) (a k end : ℕ) where
  pub counting-begin : rest_of (effects k (drop a w)) ≡ some (drop end w) → Counting w told a k end a 0 0
  counting-begin h = record { along = record { reads = rw (sub-zero k) h }; sum = λ p t. rw (sub-zero k) (omega arith); few = omega arith }

  module _ (i j : ℕ) (h : j < k) where
    due : 0 < k - j
    due = omega arith

    less : k - j - 1 ≡ k - (j + 1)
    less = omega arith

    module _ (along : Along w end (k - j) i) where
      pub effect-inside : i < length w
      effect-inside = along-inside w end (k - j) i along due

      pub effect-found : (o : Answer ℕ) → Ends w (i + 1) (rest_of (term (drop (i + 1) w))) o → IsSome o
      effect-found o q = along-found w end (k - j) i along due o q

      module _ (e : ℕ) (q : At w (i + 1) (rest_of (term (drop (i + 1) w))) e) where
        pub effect-at : EffectAt w i e
        effect-at = record { effect = along-end w end (k - j) i along due e q; own = q }

        on : Along w end (k - (j + 1)) e
        on = rw less at (along-again w end (k - j) i along due e q)

        turn : effects_in w i (k - j) ≡ effect_in w i ∷ effects_in w e (k - (j + 1))
        turn = along-list w end (k - j) i along due e q ∙ ap (λ (m : ℕ). effect_in w i ∷ effects_in w e m) less

    module _ (e : ℕ) (q : At w (i + 1) (rest_of (term (drop (i + 1) w))) e) where
      pub counting-yes : (n : ℕ) (t : Counting w told a k end i j n) → told i e true → Counting w told a k end e (j + 1) (n + 1)
      counting-yes n t r =
          record {
            along = on t.along e q;
            sum = λ p s. t.sum p s ∙ omega (arith, ap (count_by p) (turn t.along e q), counted-yes p (effect_in w i) (effects_in w e (k - (j + 1))) (sym (s i e true (effect-at t.along e q) r)));
            few = omega (arith, t.few);
          }

      pub counting-no : (n : ℕ) (t : Counting w told a k end i j n) → told i e false → Counting w told a k end e (j + 1) n
      counting-no n t r =
          record {
            along = on t.along e q;
            sum = λ p s. t.sum p s ∙ omega (arith, ap (count_by p) (turn t.along e q), counted-no p (effect_in w i) (effects_in w e (k - (j + 1))) (sym (s i e false (effect-at t.along e q) r)));
            few = omega (arith, t.few);
          }

      pub each-again : (t : Each w told a k end i j) → told i e true → Each w told a k end e (j + 1)
      each-again t r =
          record {
            along = on t.along e q;
            same = λ p s. t.same p s ∙ ap (list_all p) (turn t.along e q)
                ∙ ap (λ (b : Bool). b && list_all p (effects_in w e (k - (j + 1)))) (sym (s i e true (effect-at t.along e q) r));
          }

      pub each-fails : (t : Each w told a k end i j) → told i e false → (p : Effect → Bool) → Tells w told p → false ≡ list_all p (effects_in w a k)
      each-fails t r p s =
          sym (t.same p s ∙ ap (list_all p) (turn t.along e q)
          ∙ ap (λ (b : Bool). b && list_all p (effects_in w e (k - (j + 1)))) (sym (s i e false (effect-at t.along e q) r)))

  module _ (i j : ℕ) (h : k ≤ j) where
    none-due : effects_in w i (k - j) ≡ []
    none-due = let z : k - j ≡ 0 = omega arith in ap (effects_in w i) z ∙ list-none w i

    pub counting-done : (n : ℕ) → Counting w told a k end i j n → (p : Effect → Bool) → Tells w told p → n ≡ count_by p (effects_in w a k)
    counting-done n t p s = omega (arith, t.sum p s, ap (count_by p) none-due)

    pub each-done : Each w told a k end i j → (p : Effect → Bool) → Tells w told p → true ≡ list_all p (effects_in w a k)
    each-done t p s = sym (t.same p s ∙ ap (list_all p) none-due)

-- ---- an effect is counted by whether each is the same
pub count-by : (x : Effect) (l : List Effect) → count x l ≡ count_by (λ y. test (same_effect y x)) l
count-by x [] = count_none x
count-by x (y ∷ l) = elim (same_effect y x) [
  | yes p ↦ count-here x y l (sym p) ∙ ap suc (count-by x l) ∙ sym (counted-yes (λ z. test (same_effect z x)) y l (test-yes (same_effect y x) p))
  | no p ↦ count-other x y l (λ q. p (sym q)) ∙ count-by x l ∙ sym (counted-no (λ z. test (same_effect z x)) y l (test-no (same_effect y x) p))
]

-- ---- a test that holds of all
pub all-true : (p : Effect → Bool) (l : List Effect) → ((x : Effect) → p x ≡ true) → list_all p l ≡ true
all-true p [] h = refl
all-true p (x ∷ l) h = ap (λ (b : Bool). b && list_all p l) (h x) ∙ all-true p l h

-- holds of each that stands among them
pub all-counted : (p : Effect → Bool) (l : List Effect) → list_all p l ≡ true → (x : Effect) → 0 < count x l → p x ≡ true
all-counted p [] h x c = absurd (omega (arith, count_none x))
all-counted p (y ∷ l) h x c =
    let (here, there) = both (p y) (list_all p l) h in
    elim (same_effect x y) [
      | yes e ↦ ap p e ∙ here
      | no d ↦ all-counted p l there x (omega (arith, count-other x y l d))
    ]
