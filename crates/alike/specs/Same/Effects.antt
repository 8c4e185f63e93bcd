-- Effects and multisets of effects, compared by their words. Assumes nothing.
use Rattle.std.specs.Prelude.{ℕ, zero, suc, ◌+◌, ◌-◌, ◌<◌, Bool, ◌≡◌, eqb, length, drop, take, get_or, Option as Answer, IsSome}
use Rattle.std.specs.Cmp.Lexicographic.{pointwise}
use mathlib.Core.List.{List, [], ◌∷◌, ◌++◌}
use Rattle.std.proofs.Common.{◌∙◌, arith, add-one, length-drop, length-append, drop-cons, take_at}
use Rattle.std.proofs.Math.Option.{none, some}
use Rattle.std.proofs.Math.Path.{refl, sym, ap}
use Rattle.std.proofs.Math.Decide.{dec_lt}
use Rattle.words.specs.Choice.{then}
use Rattle.typing.specs.Term.{Term, Effect, same_effect, effect_words}
use Rattle.typing.proofs.Bag.Laws.{words-effect}
use Rattle.typing.specs.Reading.{Read, ahead, after, term, effect_of, effects}
use Rattle.typing.proofs.Derivation.Laws.{then-came}
use Rattle.spans.specs.Behind.{rest_of, At, Ends}
use Rattle.spans.specs.Behind.Laws.{rest-after, ends_some}
use Rattle.alike.specs.Same.{value_or, effect_in, effects_in, test}
use Rattle.alike.specs.Same.Laws.{read-value, lengths, spelled-same, term-spelled}

-- ---- an effect is spelled by its words
effect-spelled : (u : List ℕ) (e : Effect) (v : List ℕ) → effect_of u ≡ some (e, v) → u ≡ effect_words e ++ v
unfolding effect_of effect_words after
effect-spelled [] e v h = cc
effect-spelled (zero ∷ u) e v h = cc
effect-spelled (suc zero ∷ u) e v h =
    let ((M, x), p, d) = then-came (term u) _ (e, v) h in
    let q : ◌≡◌ {A = Effect × List ℕ} (Effect.end M, x) (e, v) = cc in
    ap (λ (l : List ℕ). 1 ∷ l) (term-spelled u M x p) ∙ ap (λ (z : Effect × List ℕ). effect_words z.0 ++ z.1) q
effect-spelled (suc (suc zero) ∷ u) e v h =
    let ((M, x), p, d) = then-came (term u) _ (e, v) h in
    let q : ◌≡◌ {A = Effect × List ℕ} (Effect.check M, x) (e, v) = cc in
    ap (λ (l : List ℕ). 2 ∷ l) (term-spelled u M x p) ∙ ap (λ (z : Effect × List ℕ). effect_words z.0 ++ z.1) q
effect-spelled (suc (suc (suc c)) ∷ u) e v h = cc

-- the words from an effect's place to its end are its words
effect-taken : (w : List ℕ) (a e : ℕ) → At w a (rest_of (effect_of (drop a w))) e → take (e - a) (drop a w) ≡ effect_words (effect_in w a)
unfolding effect_in
effect-taken w a e b =
    let x = value_or (Effect.end (Term.bound 0)) (effect_of (drop a w)) in
    let r = read-value (Effect.end (Term.bound 0)) (effect_of (drop a w)) (drop e w) b.rest in
    let s = effect-spelled (drop a w) x (drop e w) r in
    let n : length (effect_words x) ≡ e - a =
    lengths (length w) a e (length (drop a w)) (length (drop e w)) (length (effect_words x)) (length-drop a w) (length-drop e w)
    (ap length s ∙ length-append (effect_words x) (drop e w)) b.after b.inside in
    ap (take (e - a)) s ∙ take_at (effect_words x) (drop e w) (e - a) n

pub effects_compared : (u v : List ℕ) (a e b f : ℕ) → At u a (rest_of (effect_of (drop a u))) e → At v b (rest_of (effect_of (drop b v))) f
    → (r : Bool) → r ≡ pointwise eqb (take (e - a) (drop a u)) (take (f - b) (drop b v)) → r ≡ test (same_effect (effect_in u a) (effect_in v b))
effects_compared u v a e b f s t r d =
    spelled-same same_effect effect_words words-effect (effect_in u a) (effect_in v b) _ _ (effect-taken u a e s) (effect-taken v b f t) r d

-- ---- the first of several effects, and the others
pub record First (m : ℕ) (u z : List ℕ) : Type 0 where
  pub effect : Effect
  pub behind : List ℕ
  pub reads : effect_of u ≡ some (effect, behind)
  pub others : rest_of (effects m behind) ≡ some z
  pub list : value_or [] (effects (suc m) u) ≡ effect ∷ value_or [] (effects m behind)

list-ahead : (e : Effect) (r : Read (List Effect)) (z : List ℕ) → rest_of (ahead e r) ≡ some z
    → (rest_of r ≡ some z) × (value_or [] (ahead e r) ≡ e ∷ value_or [] r)
unfolding rest_of ahead then value_or
list-ahead e none z h = cc
list-ahead e (some p) z h = (h, refl)

first_of : (m : ℕ) (u z : List ℕ) → rest_of (effects (suc m) u) ≡ some z → First m u z
unfolding effects then rest_of
first_of m u z e = go (effect_of u) refl e
  where
    go : (o : Read Effect) → effect_of u ≡ o → rest_of (then o (λ p. ahead p.0 (effects m p.1))) ≡ some z → First m u z
    go none d h = cc
    go (some p) d h =
        let (r, l) = list-ahead p.0 (effects m p.1) z h in
        record {
          effect = p.0;
          behind = p.1;
          reads = d;
          others = r;
          list = ap
              (λ (o : Read Effect). value_or [] (then o (λ q. ahead q.0 (effects m q.1)))) d ∙ l;
        }

-- an effect's word, and its term behind it
pub record Word (u v : List ℕ) : Type 0 where
  pub word : ℕ
  pub more : List ℕ
  pub words : u ≡ word ∷ more
  pub term-behind : rest_of (term more) ≡ some v

word_of : (u : List ℕ) (v : List ℕ) → rest_of (effect_of u) ≡ some v → Word u v
unfolding effect_of rest_of
word_of [] v e = cc
word_of (zero ∷ u) v e = cc
word_of (suc zero ∷ u) v e = record { word = 1; more = u; words = refl; term-behind = sym (rest-after Effect.end (term u)) ∙ e }
word_of (suc (suc zero) ∷ u) v e = record { word = 2; more = u; words = refl; term-behind = sym (rest-after Effect.check (term u)) ∙ e }
word_of (suc (suc (suc c)) ∷ u) v e = cc

-- ---- along k effects: at the place i, m of them are still to come; they end at `end`
pub record Along (w : List ℕ) (end m i : ℕ) : Type 0 where
  pub reads : rest_of (effects m (drop i w)) ≡ some (drop end w)

module _ (w : List ℕ) (end m i : ℕ) (t : Along w end m i) where
  more : 0 < m → m ≡ suc (m - 1)
  more h = omega arith

  head : (h : 0 < m) → First (m - 1) (drop i w) (drop end w)
  head h = first_of (m - 1) (drop i w) (drop end w) (ap (λ (k : ℕ). rest_of (effects k (drop i w))) (sym (more h)) ∙ t.reads)

  head-rest : (h : 0 < m) → rest_of (effect_of (drop i w)) ≡ some (head h).behind
  unfolding rest_of
  head-rest h = ap rest_of (head h).reads

  pub along-inside : 0 < m → i < length w
  along-inside h = elim (dec_lt i (length w)) [
    | yes l ↦ l
    | no l ↦
        let n = word_of (drop i w) (head h).behind (head-rest h) in
        let z = ap length n.words in
        absurd (omega (arith, length-drop i w))
  ]

  term-there : (h : 0 < m) → rest_of (term (drop (i + 1) w)) ≡ some (head h).behind
  term-there h =
      let n = word_of (drop i w) (head h).behind (head-rest h) in
      let c : get_or w i 0 ∷ drop (suc i) w ≡ n.word ∷ n.more = sym (drop-cons w i 0 (along-inside h)) ∙ n.words in
      let d : drop (suc i) w ≡ n.more = cc in
      ap (λ (u : List ℕ). rest_of (term u)) (ap (λ (k : ℕ). drop k w) (add-one i) ∙ d) ∙ n.term-behind

  -- its term is there, and `term_end` finds the end
  pub along-found : 0 < m → (o : Answer ℕ) → Ends w (i + 1) (rest_of (term (drop (i + 1) w))) o → IsSome o
  along-found h o q = ends_some w (i + 1) _ (head h).behind o q (term-there h)

  -- which is the effect's end
  pub along-end : 0 < m → (r : ℕ) → At w (i + 1) (rest_of (term (drop (i + 1) w))) r → At w i (rest_of (effect_of (drop i w))) r
  along-end h r b =
      record { some_word = b.some_word; after = omega (arith, b.after); inside = b.inside; rest = head-rest h ∙ sym (term-there h) ∙ b.rest }

  behind-is : (h : 0 < m) (r : ℕ) → At w i (rest_of (effect_of (drop i w))) r → (head h).behind ≡ drop r w
  behind-is h r b = let e : some (head h).behind ≡ some (drop r w) = sym (head-rest h) ∙ b.rest in cc

  pub along-again : 0 < m → (r : ℕ) → At w (i + 1) (rest_of (term (drop (i + 1) w))) r → Along w end (m - 1) r
  along-again h r q =
      let b = along-end h r q in
      record { reads = ap (λ (u : List ℕ). rest_of (effects (m - 1) u)) (sym (behind-is h r b)) ∙ (head h).others }

  effect_is : (h : 0 < m) → (head h).effect ≡ effect_in w i
  unfolding effect_in value_or
  effect_is h = sym (ap (value_or (Effect.end (Term.bound 0))) (head h).reads)

  -- the list is its first effect and what comes behind
  pub along-list : (h : 0 < m) (r : ℕ) → At w (i + 1) (rest_of (term (drop (i + 1) w))) r → effects_in w i m ≡ effect_in w i ∷ effects_in w r (m - 1)
  unfolding effects_in
  along-list h r q =
      let b = along-end h r q in
      ap (λ (k : ℕ). value_or [] (effects k (drop i w))) (more h) ∙ (head h).list
      ∙ ap (λ (x : Effect). x ∷ value_or [] (effects (m - 1) (head h).behind)) (effect_is h)
      ∙ ap (λ (u : List ℕ). effect_in w i ∷ value_or [] (effects (m - 1) u)) (behind-is h r b)

pub list-none : (w : List ℕ) (i : ℕ) → effects_in w i 0 ≡ []
unfolding effects_in effects value_or
list-none w i = refl

effects-length : (m : ℕ) (u z : List ℕ) → rest_of (effects m u) ≡ some z → length (value_or [] (effects m u)) ≡ m
effects-length zero u z e = unfold effects value_or in refl
effects-length (suc m) u z e =
    let f = first_of m u z e in
    ap length f.list ∙ ap suc (effects-length m f.behind z f.others)

pub list_length : (w : List ℕ) (a k end : ℕ) → rest_of (effects k (drop a w)) ≡ some (drop end w) → length (effects_in w a k) ≡ k
unfolding effects_in
list_length w a k end b = effects-length k (drop a w) (drop end w) b
