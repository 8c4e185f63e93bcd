-- Laws of the places of a process's parts. Assumes nothing.
use Rattle.std.specs.Prelude.{ℕ, zero, suc, ◌+◌, ◌≤◌, ◌<◌, ◌≡◌, refl, eqb, length, drop, get_or, Option as Answer, IsSome}
use mathlib.Core.List.{List, [], ◌∷◌}
use Rattle.std.proofs.Common.{sym, ◌∙◌, arith, eq-eqb, ne_eqb, drop_of_length-le, drop-cons, add-one}
use Rattle.std.proofs.Math.Option.{Option, none, some}
use Rattle.std.proofs.Math.Path.{ap}
use Rattle.std.proofs.Math.Decide.{dec_lt}
use Rattle.words.specs.Choice.{then}
use Rattle.words.specs.Choice.Laws.{pick_true, pick-false}
use Rattle.words.specs.Run.{run}
use Rattle.words.specs.Run.Laws.{run_length}
use Rattle.typing.specs.Term.{Term, Effect}
use Rattle.typing.specs.Bag.{bag}
use Rattle.typing.specs.Types.{Ty}
use Rattle.typing.specs.Reading.{Read, ahead, term, effects, with_effects, type_at, several}
use Rattle.typing.proofs.Derivation.Laws.{then-goes}
use Rattle.spans.specs.Behind.{rest_of, At, Ends, times, skip_term, skip_type, skip_effects}
use Rattle.spans.specs.Behind.Laws.{rest-ahead, ends_some}
use Rattle.alike.specs.Same.{value_or}
use Rattle.alike.specs.Same.Laws.{read-value}
use Rattle.parts.specs.Own.{Own, own, Counted, names_of, terms_of, types_of, name, cast_effects, own_behind, own_of}
use Rattle.parts.specs.Own.Laws.{own_behind_lem, own-nothing}
use Rattle.parts.specs.Place.{list_in, Spelled, own_in, Places}

-- ---- what was read on from something, where it ends somewhere
pub rest-came : {A B : Type 0} (r : Read A) (f : A × List ℕ → Read B) (v : List ℕ) → rest_of (then r f) ≡ some v
    → (a : A) × (x : List ℕ) × (r ≡ some (a, x)) × (rest_of (f (a, x)) ≡ some v)
unfolding then rest_of
rest-came none f v e = cc
rest-came (some p) f v e = (p.0, p.1, refl, e)

pub rest_some : {A : Type 0} (r : Read A) (a : A) (v : List ℕ) → r ≡ some (a, v) → rest_of r ≡ some v
unfolding rest_of
rest_some r a v e = ap rest_of e

pub no-rest : {A : Type 0} (r : Read A) (v : List ℕ) → r ≡ none → rest_of r ≡ some v → ⊥
unfolding rest_of
no-rest r v d e = let q : none ≡ some v = sym (ap rest_of d) ∙ e in cc

-- ---- several
pub several-times : {A : Type 0} (r : List ℕ → Read A) (k : ℕ) (u : List ℕ) → rest_of (several r k u) ≡ times (λ v. rest_of (r v)) k u
unfolding several times rest_of then
several-times r zero u = refl
several-times {A} r (suc k) u = go (several-times r k) (r u)
  where
    go : ((x : List ℕ) → rest_of (several r k x) ≡ times (λ v. rest_of (r v)) k x) → (o : Read A)
        → rest_of (then o (λ p. ahead p.0 (several r k p.1))) ≡ then (rest_of o) (times (λ v. rest_of (r v)) k)
    go h none = refl
    go h (some p) = rest-ahead p.0 (several r k p.1) ∙ h p.1

pub several-length : {A : Type 0} (r : List ℕ → Read A) (k : ℕ) (u v : List ℕ) → rest_of (several r k u) ≡ some v
    → length (value_or [] (several r k u)) ≡ k
unfolding several rest_of value_or then ahead
several-length r zero u v e = refl
several-length {A} r (suc k) u v e = go (several-length r k) (r u) e
  where
    rest : (a : A) (o : Read (List A)) → length (value_or [] o) ≡ k → rest_of (ahead a o) ≡ some v → length (value_or [] (ahead a o)) ≡ suc k
    rest a none h d = cc
    rest a (some q) h d = ap suc h

    go : ((x y : List ℕ) → rest_of (several r k x) ≡ some y → length (value_or [] (several r k x)) ≡ k) → (o : Read A)
        → rest_of (then o (λ p. ahead p.0 (several r k p.1))) ≡ some v
        → length (value_or [] (then o (λ p. ahead p.0 (several r k p.1)))) ≡ suc k
    go h none d = cc
    go h (some p) d = rest p.0 (several r k p.1) (h p.1 v (sym (rest-ahead p.0 (several r k p.1)) ∙ d)) d

-- ---- effects
with_rest : (u : List ℕ) → rest_of (with_effects u (λ es v. some (es, v))) ≡ skip_effects u
unfolding with_effects skip_effects rest_of then
with_rest [] = refl
with_rest (k ∷ u) = go (effects k u)
  where
    go : (o : Read (List Effect)) → rest_of (then o (λ p. some (bag p.0, p.1))) ≡ rest_of o
    go none = refl
    go (some p) = refl

pub no-effects : (c : ℕ) (u : List ℕ) → (c ≡ 11 → ⊥) → value_or [] (cast_effects c u) ≡ []
unfolding cast_effects value_or
no-effects c u d = ap (value_or []) (pick-false (eqb c 11) _ _ (ne_eqb c 11 d))

-- ---- names
zero_more : (a : ℕ) → a ≡ a + 0
zero_more a = omega arith

suc-more : (a n : ℕ) → suc a + n ≡ a + suc n
suc-more a n = omega arith

names-some : (n a : ℕ) (w : List ℕ) → a + n ≤ length w → several name n (drop a w) ≡ some (run w a n, drop (a + n) w)
unfolding several name then ahead run
names-some zero a w l = ap (λ (i : ℕ). some ([], drop i w)) (zero_more a)
names-some (suc n) a w l =
    let h = names-some n (suc a) w (omega arith) in
    rw (drop-cons w a 0 (omega arith), h) (ap (λ (i : ℕ). some (get_or w a 0 ∷ run w (suc a) n, drop i w)) (suc-more a n))

names-none : (n a : ℕ) (w : List ℕ) → length w < a + n → a ≤ length w → several name n (drop a w) ≡ none
unfolding several name then ahead
names-none zero a w l k = absurd (omega arith)
names-none (suc n) a w l k = elim (dec_lt a (length w)) [
  | yes i ↦ let h = names-none n (suc a) w (omega arith) (omega arith) in rw (drop-cons w a 0 i, h)
  | no i ↦ rw (drop_of_length-le w {i = a} (omega arith)) refl
]

-- ---- a process's own words, part by part
at-as : (w : List ℕ) (a : ℕ) (o p : Option (List ℕ)) (r : ℕ) → o ≡ p → At w a p r → At w a o r
at-as w a o p r e b = record { some_word = b.some_word; after = b.after; inside = b.inside; rest = e ∙ b.rest }

module _ (w : List ℕ) (i : ℕ) (s : Spelled w i) where
  pub spelled-word : i < length w
  unfolding own_of
  spelled-word = elim (dec_lt i (length w)) [
    | yes l ↦ l
    | no l ↦ absurd (no-rest (own_of (drop i w)) s.behind (ap own_of (drop_of_length-le w {i = i} (omega arith))) s.reads)
  ]

  whole : drop i w ≡ get_or w i 0 ∷ drop (i + 1) w
  whole = rw add-one (drop-cons w i 0 spelled-word)

  spelled-low : 0 < get_or w i 0
  spelled-low = elim (dec_lt 0 (get_or w i 0)) [
    | yes l ↦ l
    | no l ↦
        absurd (no-rest (own_of (drop i w)) s.behind
        (ap own_of whole ∙ own-nothing (get_or w i 0) (drop (i + 1) w) (λ h k. omega arith)) s.reads)
  ]

  spelled-high : get_or w i 0 ≤ 12
  spelled-high = elim (dec_lt (get_or w i 0) 13) [
    | yes l ↦ omega arith
    | no l ↦
        absurd (no-rest (own_of (drop i w)) s.behind
        (ap own_of whole ∙ own-nothing (get_or w i 0) (drop (i + 1) w) (λ h k. omega arith)) s.reads)
  ]

  own_is : own_of (drop i w) ≡ own_behind (get_or w i 0) (drop (i + 1) w)
  own_is = ap own_of whole ∙ own_behind_lem (get_or w i 0) (drop (i + 1) w) spelled-low spelled-high

  abbrev n : ℕ
  n = names_of (get_or w i 0)

  abbrev m : ℕ
  m = terms_of (get_or w i 0)

  abbrev t : ℕ
  t = types_of (get_or w i 0)

  pub spelled-names : i + n < length w
  unfolding own_behind then
  spelled-names = elim (dec_lt (i + n) (length w)) [
    | yes l ↦ l
    | no l ↦
        absurd (no-rest (own_of (drop i w)) s.behind
        (own_is ∙ rw (names-none n (i + 1) w (omega arith) (omega (arith, spelled-word)), then)) s.reads)
  ]

  -- what is read behind the terms, behind the types and behind the effects
  abbrev behind_effects : List Term → List Ty → List Effect × List ℕ → Read Own
  behind_effects Ms Ts e = some (own (get_or w i 0) (run w (i + 1) n) Ms Ts e.0, e.1)

  abbrev behind_types : List Term → List Ty × List ℕ → Read Own
  behind_types Ms d = then (cast_effects (get_or w i 0) d.1) (behind_effects Ms d.0)

  abbrev behind_terms : List Term × List ℕ → Read Own
  behind_terms b = then (several type_at t b.1) (behind_types b.0)

  from-names : own_of (drop i w) ≡ then (several term m (drop (i + 1 + n) w)) behind_terms
  unfolding own_behind then
  from-names = own_is ∙ rw (names-some n (i + 1) w (omega (arith, spelled-names)), then)

  module _ (a : ℕ) (first : a ≡ i + 1 + n) where
    start : own_of (drop i w) ≡ then (several term m (drop a w)) behind_terms
    start = from-names ∙ ap (λ (k : ℕ). then (several term m (drop k w)) behind_terms) (sym first)

    pub terms-found : (o : Answer ℕ) → Ends w a (times skip_term m (drop a w)) o → IsSome o
    terms-found o q =
        let (Ms, x, d, h) = rest-came (several term m (drop a w)) behind_terms s.behind (sym (ap rest_of start) ∙ s.reads) in
        ends_some w a _ x o q (sym (several-times term m (drop a w)) ∙ rest_some _ Ms x d)

    pub terms-at : (e : ℕ) → At w a (times skip_term m (drop a w)) e → At w a (rest_of (several term m (drop a w))) e
    terms-at e q = at-as w a _ _ e (several-times term m (drop a w)) q

    module _ (e : ℕ) (terms : At w a (rest_of (several term m (drop a w))) e) where
      abbrev Ms : List Term
      Ms = list_in term w a m

      past-terms : own_of (drop i w) ≡ then (several type_at t (drop e w)) (behind_types Ms)
      unfolding list_in then
      past-terms = start ∙ then-goes _ behind_terms _ (read-value [] (several term m (drop a w)) (drop e w) terms.rest)

      pub types-found : (o : Answer ℕ) → Ends w e (times skip_type t (drop e w)) o → IsSome o
      types-found o q =
          let (Ts, x, d, h) = rest-came (several type_at t (drop e w)) (behind_types Ms) s.behind (sym (ap rest_of past-terms) ∙ s.reads) in
          ends_some w e _ x o q (sym (several-times type_at t (drop e w)) ∙ rest_some _ Ts x d)

      pub types-at : (f : ℕ) → At w e (times skip_type t (drop e w)) f → At w e (rest_of (several type_at t (drop e w))) f
      types-at f q = at-as w e _ _ f (several-times type_at t (drop e w)) q

      module _ (f : ℕ) (types : At w e (rest_of (several type_at t (drop e w))) f) where
        abbrev Ts : List Ty
        Ts = list_in type_at w e t

        past-types : own_of (drop i w) ≡ then (cast_effects (get_or w i 0) (drop f w)) (behind_effects Ms Ts)
        unfolding list_in then
        past-types = past-terms ∙ then-goes _ (behind_types Ms) _ (read-value [] (several type_at t (drop e w)) (drop f w) types.rest)

        pub no-list : (get_or w i 0 ≡ 11 → ⊥) → At w f (rest_of (cast_effects (get_or w i 0) (drop f w))) f
        unfolding cast_effects rest_of
        no-list d =
            record {
              some_word = types.some_word;
              after = omega arith;
              inside = types.inside;
              rest = ap rest_of (pick-false (eqb (get_or w i 0) 11) _ _ (ne_eqb (get_or w i 0) 11 d));
            }

        list-rest : get_or w i 0 ≡ 11 → rest_of (cast_effects (get_or w i 0) (drop f w)) ≡ skip_effects (drop f w)
        unfolding cast_effects
        list-rest d =
            ap rest_of (pick_true (eqb (get_or w i 0) 11) _ _ (eq-eqb (get_or w i 0) 11 d)) ∙ with_rest (drop f w)

        pub list-found : get_or w i 0 ≡ 11 → (o : Answer ℕ) → Ends w f (skip_effects (drop f w)) o → IsSome o
        list-found d o q =
            let (es, x, c, h) = rest-came (cast_effects (get_or w i 0) (drop f w)) (behind_effects Ms Ts) s.behind
            (sym (ap rest_of past-types) ∙ s.reads) in
            ends_some w f _ x o q (sym (list-rest d) ∙ rest_some _ es x c)

        pub list_at : get_or w i 0 ≡ 11 → (g : ℕ) → At w f (skip_effects (drop f w)) g → At w f (rest_of (cast_effects (get_or w i 0) (drop f w))) g
        list_at d g q = at-as w f _ _ g (list-rest d) q

        pub places : (g : ℕ) → At w f (rest_of (cast_effects (get_or w i 0) (drop f w))) g
            → Places w i (record { terms = a; types = e; list = f; next = g })
        unfolding then own_in list_in
        places g effects =
            record {
              word = spelled-word;
              names = spelled-names;
              at-terms = first;
              terms = terms;
              types = types;
              effects = effects;
              own = past-types ∙ then-goes _ (behind_effects Ms Ts) _ (read-value [] (cast_effects (get_or w i 0) (drop f w)) (drop g w) effects.rest);
              exact = record {
                low = spelled-low;
                high = spelled-high;
                names = run_length w (i + 1) n;
                terms = several-length term m (drop a w) (drop e w) terms.rest;
                types = several-length type_at t (drop e w) (drop f w) types.rest;
                effects = λ d. no-effects (get_or w i 0) (drop f w) d;
              };
            }

-- ---- the same as the code has it: the numbers are those of the table
module _ (w : List ℕ) (i : ℕ) (s : Spelled w i) (n m t : ℕ) (k : Counted (get_or w i 0) n m t) where
  names-place : i + 1 + n ≡ i + 1 + names_of (get_or w i 0)
  names-place = ap (λ (j : ℕ). i + 1 + j) k.names

  pub found-names : (0 < i + 1 + n) × (i + 1 + n ≤ length w)
  found-names = (omega arith, omega (arith, spelled-names w i s, k.names))

  pub found-terms-some : (o : Answer ℕ) → Ends w (i + 1 + n) (times skip_term m (drop (i + 1 + n) w)) o → IsSome o
  found-terms-some o q = terms-found w i s (i + 1 + n) names-place o (rw k.terms at q)

  module _ (e : ℕ) (q : At w (i + 1 + n) (times skip_term m (drop (i + 1 + n) w)) e) where
    found-terms : At w (i + 1 + n) (rest_of (several term (terms_of (get_or w i 0)) (drop (i + 1 + n) w))) e
    found-terms = terms-at w i s (i + 1 + n) names-place e (rw k.terms at q)

    pub found-types-some : (o : Answer ℕ) → Ends w e (times skip_type t (drop e w)) o → IsSome o
    found-types-some o x = types-found w i s (i + 1 + n) names-place e found-terms o (rw k.types at x)

    module _ (f : ℕ) (x : At w e (times skip_type t (drop e w)) f) where
      found-types : At w e (rest_of (several type_at (types_of (get_or w i 0)) (drop e w))) f
      found-types = types-at w i s (i + 1 + n) names-place e found-terms f (rw k.types at x)

      pub places-no-list : (get_or w i 0 ≡ 11 → ⊥) → Places w i (record { terms = i + 1 + n; types = e; list = f; next = f })
      places-no-list d =
          places w i s (i + 1 + n) names-place e found-terms f found-types f (no-list w i s (i + 1 + n) names-place e found-terms f found-types d)

      module _ (d : get_or w i 0 ≡ 11) where
        pub found-list-some : (o : Answer ℕ) → Ends w f (skip_effects (drop f w)) o → IsSome o
        found-list-some o y = list-found w i s (i + 1 + n) names-place e found-terms f found-types d o y

        pub places-list : (g : ℕ) → At w f (skip_effects (drop f w)) g → Places w i (record { terms = i + 1 + n; types = e; list = f; next = g })
        places-list g y =
            places w i s (i + 1 + n) names-place e found-terms f found-types g (list_at w i s (i + 1 + n) names-place e found-terms f found-types d g y)
