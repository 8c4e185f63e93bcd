-- Laws of the things that a line names. Assumes nothing.
use Rattle.std.specs.Prelude.{ℕ, zero, suc, ◌+◌, ◌≤◌, ◌<◌, Bool, true, false, not, length, get_or}
use Rattle.std.proofs.Common.{◌∙◌, subst, add-one, drop_of_length-le, drop-cons}
use mathlib.Core.List.{List, [], ◌∷◌}
use Rattle.std.proofs.Math.Option.{none, some}
use Rattle.std.proofs.Math.Path.{◌≡◌, refl, sym, ap}
use native.Mathlib.Omega.{arith}
use Rattle.std.proofs.Math.Decide.{dec_lt, ℕ_discrete as dec_eq}
use Rattle.std.proofs.Math.Dec.{eqb}
use Rattle.std.proofs.Math.ListN.{drop}
use borrow.Author.Tests.{eq-eqb, ne_eqb, not-true, not-false}
use Rattle.words.specs.Choice.{pick, then}
use Rattle.words.specs.Choice.Laws.{pick_true, pick-false}
use Rattle.words.specs.First.Laws.{clash}
use Rattle.typing.specs.Term.{Effect}
use Rattle.typing.specs.Bag.{bag}
use Rattle.typing.specs.Types.{Ty, Entry, Environment, ◌⦂◌, same_type, same_effects, same_environment}
use Rattle.typing.specs.Rule.{binding}
use Rattle.typing.specs.Reading.{Read, after, only, types, type_at, effects, with_effects, entries, environment_at}
use Rattle.typing.specs.Reading.Laws.{type-Un, type-pair, type-channel, type-symkey, type-nonce, environment-entry}
use Rattle.spans.specs.Behind.{rest_of, At}
use Rattle.alike.specs.Same.{value_or, effects_in, type_in, environment_in, test}
use Rattle.alike.specs.Same.Laws.{some-not, test-yes, test-no, test-true}
use Rattle.shapes.specs.Shape.{Reads, wrapped, made_type, There}
use Rattle.shapes.specs.declared.Made.{Made}
use Rattle.shapes.specs.declared.Made.TheVariants.{Un, Same, Channel, Symkey, Nonce, Pair}

-- ---- what is read, and has an end, is there
pub at_reads : {A : Type 0} (r : List ℕ → Read A) (w : List ℕ) (a e : ℕ) → At w a (rest_of (r (drop a w))) e → Reads r w a
at_reads r w a e b = record { behind = drop e w; reads = b.rest }

-- things at one place are the same
pub one_place : {A : Type 0} (same : (x y : A) → Dec (x ≡ y)) (f : ℕ → A) (a b : ℕ) → a ≡ b → true ≡ test (same (f a) (f b))
one_place same f a b e = sym (test-yes (same (f a) (f b)) (ap f e))

no-rest : {A : Type 0} (r : Read A) (v : List ℕ) → r ≡ none → rest_of r ≡ some v → ⊥
unfolding rest_of
no-rest r v d e = some-not v (rest_of r) e (ap rest_of d)

-- ---- types by their first word
abbrev pub code_of : Ty → ℕ
code_of Ty.Un = 1
code_of (Ty.pair T U) = 2
code_of (Ty.channel T) = 3
code_of (Ty.symkey T) = 4
code_of (Ty.nonce es) = 5

rest-after : {A B : Type 0} (f : A → B) (b : B) (a : A) (r : Read A) (v : List ℕ) → rest_of (after f r) ≡ some v
    → (rest_of r ≡ some v) × (value_or b (after f r) ≡ f (value_or a r))
unfolding rest_of after then value_or
rest-after f b a none v e = cc
rest-after f b a (some p) v e = (e, refl)

wrapped-from : (c : ℕ) (u v : List ℕ) → 3 ≤ c → c ≤ 4 → rest_of (type_at (c ∷ u)) ≡ some v
    → (rest_of (type_at u) ≡ some v) × (value_or Ty.Un (type_at (c ∷ u)) ≡ wrapped c (value_or Ty.Un (type_at u)))
unfolding wrapped pick
wrapped-from zero u v l h e = absurd (omega arith)
wrapped-from (suc zero) u v l h e = absurd (omega arith)
wrapped-from (suc (suc zero)) u v l h e = absurd (omega arith)
wrapped-from (suc (suc (suc zero))) u v l h e =
    let (p, q) = rest-after Ty.channel Ty.Un Ty.Un (type_at u) v (sym (ap rest_of (type-channel u)) ∙ e) in
    (p, ap (value_or Ty.Un) (type-channel u) ∙ q)
wrapped-from (suc (suc (suc (suc zero)))) u v l h e =
    let (p, q) = rest-after Ty.symkey Ty.Un Ty.Un (type_at u) v (sym (ap rest_of (type-symkey u)) ∙ e) in
    (p, ap (value_or Ty.Un) (type-symkey u) ∙ q)
wrapped-from (suc (suc (suc (suc (suc c))))) u v l h e = absurd (omega arith)

pair-go : (o : Read Ty) (v : List ℕ) → rest_of (then o (λ p. then (type_at p.1) (λ q. some (Ty.pair p.0 q.0, q.1)))) ≡ some v
    → (x : List ℕ) × (rest_of o ≡ some x) × (rest_of (type_at x) ≡ some v)
    × (value_or Ty.Un (then o (λ p. then (type_at p.1) (λ q. some (Ty.pair p.0 q.0, q.1))))
    ≡ Ty.pair (value_or Ty.Un o) (value_or Ty.Un (type_at x)))
unfolding rest_of then value_or
pair-go none v e = cc
pair-go (some p) v e = let (x, y) = go (type_at p.1) e in (p.1, refl, x, y)
  where
    go : (o : Read Ty) → rest_of (then o (λ q. some (Ty.pair p.0 q.0, q.1))) ≡ some v
        → (rest_of o ≡ some v) × (value_or Ty.Un (then o (λ q. some (Ty.pair p.0 q.0, q.1))) ≡ Ty.pair p.0 (value_or Ty.Un o))
    go none h = cc
    go (some q) h = (h, refl)

pair-from : (u v : List ℕ) → rest_of (type_at (2 ∷ u)) ≡ some v
    → (x : List ℕ) × (rest_of (type_at u) ≡ some x) × (rest_of (type_at x) ≡ some v)
    × (value_or Ty.Un (type_at (2 ∷ u)) ≡ Ty.pair (value_or Ty.Un (type_at u)) (value_or Ty.Un (type_at x)))
pair-from u v e =
    let (x, p, q, s) = pair-go (type_at u) v (sym (ap rest_of (type-pair u)) ∙ e) in
    (x, p, q, ap (value_or Ty.Un) (type-pair u) ∙ s)

code-from : (c : ℕ) (u v : List ℕ) → rest_of (type_at (c ∷ u)) ≡ some v → code_of (value_or Ty.Un (type_at (c ∷ u))) ≡ c
unfolding type_at types only then rest_of with_effects value_or after wrapped pick
code-from zero u v e = cc
code-from (suc zero) u v e = ap (λ (r : Read Ty). code_of (value_or Ty.Un r)) (type-Un u)
code-from (suc (suc zero)) u v e = let (x, p, q, s) = pair-from u v e in ap code_of s
code-from (suc (suc (suc zero))) u v e = ap code_of (wrapped-from 3 u v (omega arith) (omega arith) e).1
code-from (suc (suc (suc (suc zero)))) u v e = ap code_of (wrapped-from 4 u v (omega arith) (omega arith) e).1
code-from (suc (suc (suc (suc (suc zero))))) [] v e = cc
code-from (suc (suc (suc (suc (suc zero))))) (n ∷ u) v e =
    ap code_of (ap (value_or Ty.Un) (type-nonce n u)
    ∙ (rest-after (λ es. Ty.nonce (bag es)) Ty.Un [] (effects n u) v (sym (ap rest_of (type-nonce n u)) ∙ e)).1)
code-from (suc (suc (suc (suc (suc (suc c)))))) u v e = cc

value-some : (T : Ty) (v : List ℕ) → value_or Ty.Un (some (T, v)) ≡ T
unfolding value_or
value-some T v = refl

type-empty : type_at [] ≡ none
unfolding type_at types only then
type-empty = refl

module _ (w : List ℕ) (a : ℕ) (t : Reads type_at w a) where
  pub type-inside : a < length w
  type-inside = elim (dec_lt a (length w)) [
    | yes l ↦ l
    | no l ↦ absurd (no-rest (type_at (drop a w)) t.behind (ap type_at (drop_of_length-le w {i = a} (omega arith)) ∙ type-empty) t.reads)
  ]

  whole : drop a w ≡ get_or w a 0 ∷ drop (a + 1) w
  whole = rw add-one (drop-cons w a 0 type-inside)

  reads_whole : rest_of (type_at (get_or w a 0 ∷ drop (a + 1) w)) ≡ some t.behind
  reads_whole = sym (ap (λ (u : List ℕ). rest_of (type_at u)) whole) ∙ t.reads

  pub type-code : code_of (type_in w a) ≡ get_or w a 0
  unfolding type_in
  type-code = ap (λ (u : List ℕ). code_of (value_or Ty.Un (type_at u))) whole ∙ code-from (get_or w a 0) (drop (a + 1) w) t.behind reads_whole

  -- another word, another type
  pub type-other : (T : Ty) → (get_or w a 0 ≡ code_of T → ⊥) → false ≡ test (same_type (type_in w a) T)
  type-other T d = sym (test-no (same_type (type_in w a) T) (λ e. d (sym type-code ∙ ap code_of e)))

  pub is-Un : eqb (get_or w a 0) 1 ≡ test (same_type (type_in w a) Ty.Un)
  unfolding type_in
  is-Un = go (dec_eq (get_or w a 0) 1)
    where
      go : Dec (get_or w a 0 ≡ 1) → eqb (get_or w a 0) 1 ≡ test (same_type (type_in w a) Ty.Un)
      go (yes e) =
          let same : type_in w a ≡ Ty.Un =
          ap (λ (u : List ℕ). value_or Ty.Un (type_at u)) (whole ∙ ap (λ (c : ℕ). c ∷ drop (a + 1) w) e)
          ∙ ap (value_or Ty.Un) (type-Un (drop (a + 1) w)) ∙ value-some Ty.Un (drop (a + 1) w) in
          eq-eqb (get_or w a 0) 1 e ∙ sym (test-yes (same_type (type_in w a) Ty.Un) same)
      go (no e) = ne_eqb (get_or w a 0) 1 e ∙ type-other Ty.Un e

  -- in brackets
  module _ (c : ℕ) (l : 3 ≤ c) (h : c ≤ 4) where
    wrapped-code : (T : Ty) → code_of (wrapped c T) ≡ c
    unfolding wrapped
    wrapped-code T = go (dec_eq c 3)
      where
        go : Dec (c ≡ 3) → code_of (pick (eqb c 3) (Ty.channel T) (Ty.symkey T)) ≡ c
        go (yes e) = ap code_of (pick_true (eqb c 3) _ _ (eq-eqb c 3 e)) ∙ sym e
        go (no e) = ap code_of (pick-false (eqb c 3) _ _ (ne_eqb c 3 e)) ∙ omega arith

    pub wraps-other : (T : Ty) → (get_or w a 0 ≡ c → ⊥) → false ≡ test (same_type (type_in w a) (wrapped c T))
    wraps-other T d = type-other (wrapped c T) (λ e. d (e ∙ wrapped-code T))

    module _ (e : get_or w a 0 ≡ c) where
      wrapped-is : (rest_of (type_at (drop (a + 1) w)) ≡ some t.behind) × (type_in w a ≡ wrapped c (type_in w (a + 1)))
      unfolding type_in
      wrapped-is =
          let (p, q) = wrapped-from c (drop (a + 1) w) t.behind l h (ap (λ (x : ℕ). rest_of (type_at (x ∷ drop (a + 1) w))) (sym e) ∙ reads_whole) in
          (p, ap (λ (u : List ℕ). value_or Ty.Un (type_at u)) (whole ∙ ap (λ (x : ℕ). x ∷ drop (a + 1) w) e) ∙ q)

      pub wrapped-reads : Reads type_at w (a + 1)
      wrapped-reads = record { behind = t.behind; reads = wrapped-is.0 }

      injective : (T U : Ty) → wrapped c T ≡ wrapped c U → T ≡ U
      unfolding wrapped
      injective T U z = go (dec_eq c 3)
        where
          go : Dec (c ≡ 3) → T ≡ U
          go (yes x) =
              let y : Ty.channel T ≡ Ty.channel U = sym (pick_true (eqb c 3) (Ty.channel T) (Ty.symkey T) (eq-eqb c 3 x)) ∙ z
              ∙ pick_true (eqb c 3) (Ty.channel U) (Ty.symkey U) (eq-eqb c 3 x) in
              cc
          go (no x) =
              let y : Ty.symkey T ≡ Ty.symkey U = sym (pick-false (eqb c 3) (Ty.channel T) (Ty.symkey T) (ne_eqb c 3 x)) ∙ z
              ∙ pick-false (eqb c 3) (Ty.channel U) (Ty.symkey U) (ne_eqb c 3 x) in
              cc

      pub wraps-same : (T : Ty) (b : Bool) → b ≡ test (same_type (type_in w (a + 1)) T) → b ≡ test (same_type (type_in w a) (wrapped c T))
      wraps-same T true d =
          sym (test-yes (same_type (type_in w a) (wrapped c T)) (wrapped-is.1 ∙ ap (wrapped c) (test-true (same_type (type_in w (a + 1)) T) (sym d))))
      wraps-same T false d =
          sym (test-no (same_type (type_in w a) (wrapped c T)) (λ z.
          clash (test-yes (same_type (type_in w (a + 1)) T) (injective (type_in w (a + 1)) T (sym wrapped-is.1 ∙ z))) (sym d)))

  -- a pair
  pub pair-word : (S R : Ty) → type_in w a ≡ Ty.pair S R → get_or w a 0 ≡ 2
  pair-word S R e = sym type-code ∙ ap code_of e

  pub pair-other : (T U : Ty) → (get_or w a 0 ≡ 2 → ⊥) → false ≡ test (same_type (type_in w a) (Ty.pair T U))
  pair-other T U d = type-other (Ty.pair T U) d

  module _ (two : get_or w a 0 ≡ 2) where
    pair_is : (x : List ℕ) × (rest_of (type_at (drop (a + 1) w)) ≡ some x) × (rest_of (type_at x) ≡ some t.behind)
        × (type_in w a ≡ Ty.pair (type_in w (a + 1)) (value_or Ty.Un (type_at x)))
    unfolding type_in
    pair_is =
        let (x, p, q, s) = pair-from (drop (a + 1) w) t.behind (ap (λ (c : ℕ). rest_of (type_at (c ∷ drop (a + 1) w))) (sym two) ∙ reads_whole) in
        (x, p, q, ap (λ (u : List ℕ). value_or Ty.Un (type_at u)) (whole ∙ ap (λ (c : ℕ). c ∷ drop (a + 1) w) two) ∙ s)

    pub pair-first : Reads type_at w (a + 1)
    pair-first = record { behind = pair_is.0; reads = pair_is.1 }

    module _ (e : ℕ) (q : At w (a + 1) (rest_of (type_at (drop (a + 1) w))) e) where
      behind-is : pair_is.0 ≡ drop e w
      behind-is =
          let z : some pair_is.0 ≡ some (drop e w) = sym pair_is.1 ∙ q.rest in
          cc

      pub pair-second : Reads type_at w e
      pair-second = record { behind = t.behind; reads = ap (λ (u : List ℕ). rest_of (type_at u)) (sym behind-is) ∙ pair_is.2 }

      pub pair_parts : type_in w a ≡ Ty.pair (type_in w (a + 1)) (type_in w e)
      unfolding type_in
      pair_parts = pair_is.3 ∙ ap (λ (u : List ℕ). Ty.pair (type_in w (a + 1)) (value_or Ty.Un (type_at u))) behind-is

      pub pair-second-same : (T U : Ty) → true ≡ test (same_type (type_in w (a + 1)) T) → (c : Bool) → c ≡ test (same_type (type_in w e) U)
          → c ≡ test (same_type (type_in w a) (Ty.pair T U))
      pair-second-same T U d true f =
          let x : type_in w (a + 1) ≡ T = test-true (same_type (type_in w (a + 1)) T) (sym d) in
          let y : type_in w e ≡ U = test-true (same_type (type_in w e) U) (sym f) in
          let g = pair_parts in
          sym (test-yes (same_type (type_in w a) (Ty.pair T U)) (cc))
      pair-second-same T U d false f =
          sym (test-no (same_type (type_in w a) (Ty.pair T U)) (λ z.
          clash (test-yes (same_type (type_in w e) U) (seconds (sym pair_parts ∙ z))) (sym f)))
        where
          seconds : Ty.pair (type_in w (a + 1)) (type_in w e) ≡ Ty.pair T U → type_in w e ≡ U
          seconds z = cc

    pub pair-first-other : (T U : Ty) → false ≡ test (same_type (type_in w (a + 1)) T) → false ≡ test (same_type (type_in w a) (Ty.pair T U))
    pair-first-other T U d =
        sym (test-no (same_type (type_in w a) (Ty.pair T U)) (λ z.
        clash (test-yes (same_type (type_in w (a + 1)) T) (firsts (sym pair_is.3 ∙ z))) (sym d)))
      where
        firsts : {S : Ty} → Ty.pair (type_in w (a + 1)) S ≡ Ty.pair T U → type_in w (a + 1) ≡ T
        firsts z = cc

  -- a nonce
  pub nonce-word : (es : List Effect) → type_in w a ≡ Ty.nonce es → get_or w a 0 ≡ 5
  nonce-word es e = sym type-code ∙ ap code_of e

  pub nonce-other : (es : List Effect) → (get_or w a 0 ≡ 5 → ⊥) → false ≡ test (same_type (type_in w a) (Ty.nonce es))
  nonce-other es d = type-other (Ty.nonce es) d

  module _ (five : get_or w a 0 ≡ 5) where
    reads-five : rest_of (type_at (5 ∷ drop (a + 1) w)) ≡ some t.behind
    reads-five = ap (λ (c : ℕ). rest_of (type_at (c ∷ drop (a + 1) w))) (sym five) ∙ reads_whole

    nonce-cut : rest_of (type_at (5 ∷ [])) ≡ none
    unfolding type_at types only then rest_of with_effects
    nonce-cut = refl

    pub nonce-count : a + 1 < length w
    nonce-count = elim (dec_lt (a + 1) (length w)) [
      | yes l ↦ l
      | no l ↦
          let q : none ≡ some t.behind =
          sym (ap (λ (u : List ℕ). rest_of (type_at (5 ∷ u))) (drop_of_length-le w {i = a + 1} (omega arith)) ∙ nonce-cut) ∙ reads-five in
          cc
    ]

    behind-count : drop (a + 1) w ≡ get_or w (a + 1) 0 ∷ drop (a + 2) w
    behind-count =
        let two : suc (a + 1) ≡ a + 2 = omega arith in
        drop-cons w (a + 1) 0 nonce-count ∙ ap (λ (k : ℕ). get_or w (a + 1) 0 ∷ drop k w) two

    nonce-after : (rest_of (effects (get_or w (a + 1) 0) (drop (a + 2) w)) ≡ some t.behind)
        × (type_in w a ≡ Ty.nonce (bag (effects_in w (a + 2) (get_or w (a + 1) 0))))
    unfolding type_in effects_in
    nonce-after =
        let e = ap (λ (u : List ℕ). type_at (5 ∷ u)) behind-count ∙ type-nonce (get_or w (a + 1) 0) (drop (a + 2) w) in
        let (p, q) = rest-after (λ es. Ty.nonce (bag es)) Ty.Un [] (effects (get_or w (a + 1) 0) (drop (a + 2) w)) t.behind
        (sym (ap rest_of e) ∙ reads-five) in
        (p, ap (λ (u : List ℕ). value_or Ty.Un (type_at u)) (whole ∙ ap (λ (c : ℕ). c ∷ drop (a + 1) w) five) ∙ ap (value_or Ty.Un) e ∙ q)

    pub nonce-is : (n : ℕ) → n ≡ get_or w (a + 1) 0 → type_in w a ≡ Ty.nonce (bag (effects_in w (a + 2) n))
    nonce-is n e = nonce-after.1 ∙ ap (λ (k : ℕ). Ty.nonce (bag (effects_in w (a + 2) k))) (sym e)

    pub nonce-reads : (n : ℕ) → n ≡ get_or w (a + 1) 0 → (e : ℕ) → At w a (rest_of (type_at (drop a w))) e
        → rest_of (effects n (drop (a + 2) w)) ≡ some (drop e w)
    nonce-reads n d e q =
        ap (λ (k : ℕ). rest_of (effects k (drop (a + 2) w))) d ∙ nonce-after.0 ∙ sym t.reads ∙ q.rest

    pub nonce-same : (n : ℕ) → n ≡ get_or w (a + 1) 0 → (es : List Effect) (b : Bool) → b ≡ test (same_effects (bag (effects_in w (a + 2) n)) es)
        → b ≡ test (same_type (type_in w a) (Ty.nonce es))
    nonce-same n d es true f =
        sym (test-yes (same_type (type_in w a) (Ty.nonce es)) (nonce-is n d ∙ ap Ty.nonce (test-true (same_effects (bag (effects_in w (a + 2) n)) es) (sym f))))
    nonce-same n d es false f =
        sym (test-no (same_type (type_in w a) (Ty.nonce es)) (λ z.
        clash (test-yes (same_effects (bag (effects_in w (a + 2) n)) es) (effects-of (sym (nonce-is n d) ∙ z))) (sym f)))
      where
        effects-of : Ty.nonce (bag (effects_in w (a + 2) n)) ≡ Ty.nonce es → bag (effects_in w (a + 2) n) ≡ es
        effects-of z = cc

-- ---- environments by their first word
environment-empty : environment_at [] ≡ none
unfolding environment_at entries
environment-empty = refl

environment-cut : environment_at (2 ∷ []) ≡ none
unfolding environment_at entries
environment-cut = refl

first_word : (c : ℕ) (u v : List ℕ) → rest_of (environment_at (c ∷ u)) ≡ some v → (c ≡ 2 → ⊥) → value_or [] (environment_at (c ∷ u)) ≡ []
unfolding environment_at entries rest_of value_or
first_word zero u v e d = cc
first_word (suc zero) u v e d = refl
first_word (suc (suc zero)) u v e d = absurd (d refl)
first_word (suc (suc (suc c))) u v e d = cc

first-is : (c : ℕ) (u v : List ℕ) → rest_of (environment_at (c ∷ u)) ≡ some v → (c ≡ 2 → ⊥) → c ≡ 1
unfolding environment_at entries rest_of
first-is zero u v e d = cc
first-is (suc zero) u v e d = refl
first-is (suc (suc zero)) u v e d = absurd (d refl)
first-is (suc (suc (suc c))) u v e d = cc

entry-go : (x : ℕ) (o : Read Ty) (v : List ℕ) → rest_of (then o (λ p. after (λ (E : Environment). (x ⦂ p.0) ∷ E) (environment_at p.1))) ≡ some v
    → (y : List ℕ) × (rest_of o ≡ some y) × (rest_of (environment_at y) ≡ some v)
    × (value_or [] (then o (λ p. after (λ (E : Environment). (x ⦂ p.0) ∷ E) (environment_at p.1))) ≡ (x ⦂ value_or Ty.Un o) ∷ value_or []
    (environment_at y))
unfolding rest_of then value_or
entry-go x none v e = cc
entry-go x (some p) v e =
    let (q, s) = rest-after (λ (E : Environment). (x ⦂ p.0) ∷ E) [] [] (environment_at p.1) v e in
    (p.1, refl, q, s)

module _ (w : List ℕ) (a : ℕ) (t : Reads environment_at w a) where
  pub environment-inside : a < length w
  environment-inside = elim (dec_lt a (length w)) [
    | yes l ↦ l
    | no l ↦
        absurd (no-rest (environment_at (drop a w)) t.behind
        (ap environment_at (drop_of_length-le w {i = a} (omega arith)) ∙ environment-empty) t.reads)
  ]

  words : drop a w ≡ get_or w a 0 ∷ drop (a + 1) w
  words = rw add-one (drop-cons w a 0 environment-inside)

  pub no-entry : (p : Entry) (E : Environment) → (get_or w a 0 ≡ 2 → ⊥) → false ≡ test (same_environment (environment_in w a) (p ∷ E))
  unfolding environment_in
  no-entry p E d =
      let e = first_word (get_or w a 0) (drop (a + 1) w) t.behind (sym (ap (λ (u : List ℕ). rest_of (environment_at u)) words) ∙ t.reads) d in
      sym (test-no (same_environment (environment_in w a) (p ∷ E)) (λ z.
      nothing (sym (ap (λ (u : List ℕ). value_or [] (environment_at u)) words ∙ e) ∙ z)))
    where
      nothing : [] ≡ p ∷ E → ⊥
      nothing z = cc

  module _ (two : get_or w a 0 ≡ 2) where
    reads_two : rest_of (environment_at (2 ∷ drop (a + 1) w)) ≡ some t.behind
    reads_two = ap (λ (c : ℕ). rest_of (environment_at (c ∷ drop (a + 1) w))) (sym two) ∙ sym (ap (λ (u : List ℕ). rest_of (environment_at u)) words)
        ∙ t.reads

    pub entry-name : a + 1 < length w
    entry-name = elim (dec_lt (a + 1) (length w)) [
      | yes l ↦ l
      | no l ↦
          absurd (no-rest (environment_at (2 ∷ drop (a + 1) w)) t.behind
          (ap (λ (u : List ℕ). environment_at (2 ∷ u)) (drop_of_length-le w {i = a + 1} (omega arith)) ∙ environment-cut) reads_two)
    ]

    behind-name : drop (a + 1) w ≡ get_or w (a + 1) 0 ∷ drop (a + 2) w
    behind-name =
        let next : suc (a + 1) ≡ a + 2 = omega arith in
        drop-cons w (a + 1) 0 entry-name ∙ ap (λ (k : ℕ). get_or w (a + 1) 0 ∷ drop k w) next

    entry-is : (y : List ℕ) × (rest_of (type_at (drop (a + 2) w)) ≡ some y) × (rest_of (environment_at y) ≡ some t.behind)
        × (environment_in w a ≡ (get_or w (a + 1) 0 ⦂ type_in w (a + 2)) ∷ value_or [] (environment_at y))
    unfolding environment_in type_in
    entry-is =
        let e = ap (λ (u : List ℕ). environment_at (2 ∷ u)) behind-name ∙ environment-entry (get_or w (a + 1) 0) (drop (a + 2) w) in
        let (y, p, q, s) = entry-go (get_or w (a + 1) 0) (type_at (drop (a + 2) w)) t.behind (sym (ap rest_of e) ∙ reads_two) in
        (y, p, q, ap (λ (u : List ℕ). value_or [] (environment_at u)) (words ∙ ap (λ (c : ℕ). c ∷ drop (a + 1) w) two) ∙ ap (value_or []) e ∙ s)

    pub entry-type : Reads type_at w (a + 2)
    entry-type = record { behind = entry-is.0; reads = entry-is.1 }

    pub entry-name-other : (x : ℕ) (T : Ty) (E : Environment) → (get_or w (a + 1) 0 ≡ x → ⊥)
        → false ≡ test (same_environment (environment_in w a) ((x ⦂ T) ∷ E))
    entry-name-other x T E d =
        sym (test-no (same_environment (environment_in w a) ((x ⦂ T) ∷ E)) (λ z. d (names (sym entry-is.3 ∙ z))))
      where
        names : {U : Ty} {F : Environment} → (get_or w (a + 1) 0 ⦂ U) ∷ F ≡ (x ⦂ T) ∷ E → get_or w (a + 1) 0 ≡ x
        names z = cc

    pub entry-type-other : (x : ℕ) (T : Ty) (E : Environment) (b : Bool) → b ≡ test (same_type (type_in w (a + 2)) T) → not b ≡ true
        → false ≡ test (same_environment (environment_in w a) ((x ⦂ T) ∷ E))
    entry-type-other x T E b d n =
        sym (test-no (same_environment (environment_in w a) ((x ⦂ T) ∷ E)) (λ z.
        clash (d ∙ test-yes (same_type (type_in w (a + 2)) T) (own-types (sym entry-is.3 ∙ z))) (not-true b n)))
      where
        own-types : {F : Environment} → (get_or w (a + 1) 0 ⦂ type_in w (a + 2)) ∷ F ≡ (x ⦂ T) ∷ E → type_in w (a + 2) ≡ T
        own-types z = cc

    module _ (e : ℕ) (q : At w (a + 2) (rest_of (type_at (drop (a + 2) w))) e) where
      older-is : entry-is.0 ≡ drop e w
      older-is =
          let z : some entry-is.0 ≡ some (drop e w) = sym entry-is.1 ∙ q.rest in
          cc

      pub entry-older : Reads environment_at w e
      entry-older = record { behind = t.behind; reads = ap (λ (u : List ℕ). rest_of (environment_at u)) (sym older-is) ∙ entry-is.2 }

      pub entry-parts : environment_in w a ≡ (get_or w (a + 1) 0 ⦂ type_in w (a + 2)) ∷ environment_in w e
      unfolding environment_in
      entry-parts = entry-is.3 ∙ ap (λ (u : List ℕ). (get_or w (a + 1) 0 ⦂ type_in w (a + 2)) ∷ value_or [] (environment_at u)) older-is

      pub entry-same : (x : ℕ) (T : Ty) (E : Environment) → get_or w (a + 1) 0 ≡ x → (b : Bool) → b ≡ test (same_type (type_in w (a + 2)) T)
          → not b ≡ false
          → (c : Bool) → c ≡ test (same_environment (environment_in w e) E) → c ≡ test (same_environment (environment_in w a) ((x ⦂ T) ∷ E))
      entry-same x T E n b d m true f =
          let y : type_in w (a + 2) ≡ T = test-true (same_type (type_in w (a + 2)) T) (sym d ∙ not-false b m) in
          let o : environment_in w e ≡ E = test-true (same_environment (environment_in w e) E) (sym f) in
          let g = entry-parts in
          sym (test-yes (same_environment (environment_in w a) ((x ⦂ T) ∷ E)) (cc))
      entry-same x T E n b d m false f =
          sym (test-no (same_environment (environment_in w a) ((x ⦂ T) ∷ E)) (λ z.
          clash (test-yes (same_environment (environment_in w e) E) (olders (sym entry-parts ∙ z))) (sym f)))
        where
          olders : (get_or w (a + 1) 0 ⦂ type_in w (a + 2)) ∷ environment_in w e ≡ (x ⦂ T) ∷ E → environment_in w e ≡ E
          olders z = cc

-- ---- no entry, and the newest entry's name
module _ (w : List ℕ) (a : ℕ) (t : Reads environment_at w a) where
  reads-words : rest_of (environment_at (get_or w a 0 ∷ drop (a + 1) w)) ≡ some t.behind
  reads-words = sym (ap (λ (u : List ℕ). rest_of (environment_at u)) (words w a t)) ∙ t.reads

  some-entry : {p : Entry} {E : Environment} → [] ≡ p ∷ E → ⊥
  some-entry z = cc

  none_is : (get_or w a 0 ≡ 2 → ⊥) → environment_in w a ≡ []
  unfolding environment_in
  none_is d =
      ap (λ (u : List ℕ). value_or [] (environment_at u)) (words w a t) ∙ first_word (get_or w a 0) (drop (a + 1) w) t.behind reads-words d

  pub is_none : eqb (get_or w a 0) 1 ≡ test (same_environment (environment_in w a) [])
  is_none = elim (dec_eq (get_or w a 0) 2) [
    | yes two ↦
        ne_eqb (get_or w a 0) 1 (λ e. omega arith)
        ∙ sym (test-no (same_environment (environment_in w a) []) (λ z. some-entry (sym z ∙ (entry-is w a t two).3)))
    | no d ↦
        eq-eqb (get_or w a 0) 1 (first-is (get_or w a 0) (drop (a + 1) w) t.behind reads-words d)
        ∙ sym (test-yes (same_environment (environment_in w a) []) (none_is d))
  ]

  pub newest-name : (n : ℕ) → n ≡ get_or w (a + 1) 0 → (y : ℕ) (U : Ty) (F : Environment) → environment_in w a ≡ (y ⦂ U) ∷ F → n ≡ y
  newest-name n m y U F e = elim (dec_eq (get_or w a 0) 2) [
    | yes two ↦ m ∙ names (sym (entry-is w a t two).3 ∙ e)
    | no d ↦ absurd (some-entry (sym (none_is d) ∙ e))
  ]
    where
      names : {T : Ty} {E : Environment} → (get_or w (a + 1) 0 ⦂ T) ∷ E ≡ (y ⦂ U) ∷ F → get_or w (a + 1) 0 ≡ y
      names z = cc

-- ---- types that are made, by how
made-there : (w : List ℕ) (made m : Made) → made ≡ m → There w made → There w m
made-there w made m e h = subst (There w) e h

as-made : (w : List ℕ) (a : ℕ) (made m : Made) → made ≡ m → (b : Bool) → b ≡ test (same_type (type_in w a) (made_type w m))
    → b ≡ test (same_type (type_in w a) (made_type w made))
as-made w a made m e b h = h ∙ sym (ap (λ (x : Made). test (same_type (type_in w a) (made_type w x))) e)

module _ (w : List ℕ) (a : ℕ) (made : Made) where
  pub made-Un : made ≡ Un → Reads type_at w a → eqb (get_or w a 0) 1 ≡ test (same_type (type_in w a) (made_type w made))
  unfolding made_type
  made-Un e r = as-made w a made Un e _ (is-Un w a r)

  module _ (t : ℕ) where
    pub same-there : made ≡ Same t → There w made → Reads type_at w t
    same-there e h = made-there w made (Same t) e h

    pub made-same : made ≡ Same t → (b : Bool) → b ≡ test (same_type (type_in w a) (type_in w t)) → b ≡ test (same_type (type_in w a) (made_type w made))
    unfolding made_type
    made-same e b h = as-made w a made (Same t) e b h

    pub channel-there : made ≡ Channel t → There w made → Reads type_at w t
    channel-there e h = made-there w made (Channel t) e h

    pub made-channel : made ≡ Channel t → (b : Bool) → b ≡ test (same_type (type_in w a) (wrapped 3 (type_in w t)))
        → b ≡ test (same_type (type_in w a) (made_type w made))
    unfolding made_type wrapped pick
    made-channel e b h = as-made w a made (Channel t) e b h

    pub symkey-there : made ≡ Symkey t → There w made → Reads type_at w t
    symkey-there e h = made-there w made (Symkey t) e h

    pub made-symkey : made ≡ Symkey t → (b : Bool) → b ≡ test (same_type (type_in w a) (wrapped 4 (type_in w t)))
        → b ≡ test (same_type (type_in w a) (made_type w made))
    unfolding made_type wrapped pick
    made-symkey e b h = as-made w a made (Symkey t) e b h

  pub nonce-there : (b k e : ℕ) → made ≡ Nonce b k e → There w made → rest_of (effects k (drop b w)) ≡ some (drop e w)
  nonce-there b k e q h = made-there w made (Nonce b k e) q h

  pub made-nonce : (b k e : ℕ) → made ≡ Nonce b k e → (r : Bool) → r ≡ test (same_type (type_in w a) (Ty.nonce (bag (effects_in w b k))))
      → r ≡ test (same_type (type_in w a) (made_type w made))
  unfolding made_type
  made-nonce b k e q r h = as-made w a made (Nonce b k e) q r h

  pub pair-there : (t u x : ℕ) → made ≡ Pair t u x → There w made → Reads type_at w t × Reads type_at w u
  pair-there t u x q h = made-there w made (Pair t u x) q h

  pub made_pair : (t u x : ℕ) → made ≡ Pair t u x → (r : Bool) → r ≡ test (same_type (type_in w a) (Ty.pair (type_in w t) (binding x (type_in w u))))
      → r ≡ test (same_type (type_in w a) (made_type w made))
  unfolding made_type
  made_pair t u x q r h = as-made w a made (Pair t u x) q r h
