-- A cast's effects, and the whole of a process's own words, compared. Assumes nothing.
use Rattle.std.specs.Prelude.{ℕ, ◌+◌, ◌<◌, Bool, true, ◌&&◌, ◌≡◌, refl, eqb, length, drop, get_or}
use mathlib.Core.List.{List, []}
use Rattle.std.proofs.Math.Option.{none, some}
use Rattle.std.proofs.Common.{sym, ◌∙◌, arith, add-one, drop_of_length-le, drop-cons, eq-eqb}
use Rattle.std.proofs.Math.Path.{ap}
use Rattle.std.proofs.Math.Decide.{dec_lt}
use Rattle.std.proofs.Math.Bool.{and_assoc}
use Rattle.words.specs.Choice.{then}
use Rattle.words.specs.Choice.Laws.{pick_true}
use Rattle.words.specs.Run.{run, same_words}
use Rattle.words.specs.Run.Laws.{same-exact}
use Rattle.typing.specs.Term.{Effect, same_term}
use Rattle.typing.specs.Bag.{bag, plus}
use Rattle.typing.specs.Types.{same_list, same_type, same_effects}
use Rattle.typing.proofs.Check.Laws.{both, and_both}
use Rattle.typing.specs.Reading.{Read, term, effects, with_effects, type_at}
use Rattle.spans.specs.Behind.{rest_of, At}
use Rattle.alike.specs.Same.{value_or, effects_in, test}
use Rattle.alike.specs.Same.Laws.{test-yes, test-true}
use Rattle.parts.specs.Own.{Own, Counted, cast_effects}
use Rattle.parts.specs.Place.{list_in, own_in, same_own, Places}
use Rattle.parts.specs.Place.Laws.{no-effects, no-rest}
use Rattle.parts.specs.declared.Parts.{Parts}

-- ---- no cast has no effects
pub lists-none : (u v : List ℕ) (c a b : ℕ) → (c ≡ 11 → ⊥)
    → true ≡ test (same_effects (value_or [] (cast_effects c (drop a u))) (value_or [] (cast_effects c (drop b v))))
lists-none u v c a b d =
    sym (test-yes (same_effects (value_or [] (cast_effects c (drop a u))) (value_or [] (cast_effects c (drop b v))))
    (no-effects c (drop a u) d ∙ sym (no-effects c (drop b v) d)))

-- ---- a cast's effects behind their count
module _ (w : List ℕ) (c a e : ℕ) (b : At w a (rest_of (cast_effects c (drop a w))) e) (cast : c ≡ 11) where
  listed : cast_effects c (drop a w) ≡ with_effects (drop a w) (λ es v. some (es, v))
  unfolding cast_effects
  listed = pick_true (eqb c 11) _ _ (eq-eqb c 11 cast)

  pub list_inside : a < length w
  unfolding with_effects
  list_inside = elim (dec_lt a (length w)) [
    | yes l ↦ l
    | no l ↦
        absurd (no-rest (cast_effects c (drop a w)) (drop e w)
        (listed ∙ ap (λ (u : List ℕ). with_effects u (λ es v. some (es, v))) (drop_of_length-le w {i = a} (omega arith))) b.rest)
  ]

  counted : cast_effects c (drop a w) ≡ then (effects (get_or w a 0) (drop (a + 1) w)) (λ p. some (bag p.0, p.1))
  unfolding with_effects
  counted = listed ∙ rw (drop-cons w a 0 list_inside, add-one)

  value_of : (o : Read (List Effect)) → (rest_of (then o (λ p. some (bag p.0, p.1))) ≡ rest_of o)
      × (value_or [] (then o (λ p. some (bag p.0, p.1))) ≡ bag (value_or [] o))
  unfolding then rest_of value_or bag plus
  value_of none = (refl, refl)
  value_of (some p) = (refl, refl)

  pub list-reads : (n : ℕ) → n ≡ get_or w a 0 → rest_of (effects n (drop (a + 1) w)) ≡ some (drop e w)
  list-reads n d = rw d (sym (value_of (effects (get_or w a 0) (drop (a + 1) w))).0 ∙ sym (ap rest_of counted) ∙ b.rest)

  pub list-value : (n : ℕ) → n ≡ get_or w a 0 → bag (effects_in w (a + 1) n) ≡ value_or [] (cast_effects c (drop a w))
  unfolding effects_in
  list-value n d = rw d (sym (ap (value_or []) counted ∙ (value_of (effects (get_or w a 0) (drop (a + 1) w))).1))

pub lists-bags : (u v : List ℕ) (c a e b f : ℕ) → At u a (rest_of (cast_effects c (drop a u))) e → At v b (rest_of (cast_effects c (drop b v))) f
    → c ≡ 11
    → (n m : ℕ) → n ≡ get_or u a 0 → m ≡ get_or v b 0 → (r : Bool)
    → r ≡ test (same_effects (bag (effects_in u (a + 1) n)) (bag (effects_in v (b + 1) m)))
    → r ≡ test (same_effects (value_or [] (cast_effects c (drop a u))) (value_or [] (cast_effects c (drop b v))))
lists-bags u v c a e b f s t cast n m x y r d =
    d ∙ ap (λ (es : List Effect). test (same_effects es (bag (effects_in v (b + 1) m)))) (list-value u c a e s cast n x)
    ∙ ap (λ (fs : List Effect). test (same_effects (value_or [] (cast_effects c (drop a u))) fs)) (list-value v c b f t cast m y)

-- ---- same_own, one part after another
module _ (u : List ℕ) (i : ℕ) (p : Parts) (v : List ℕ) (j : ℕ) (q : Parts) (s : Places u i p) (t : Places v j q)
    (same : get_or u i 0 ≡ get_or v j 0) (n m k : ℕ) (counts : Counted (get_or u i 0) n m k) where
  abbrev A : Bool
  A = same_words (run u (i + 1) n) (run v (j + 1) n)

  abbrev B : Bool
  B = test (same_list same_term (list_in term u p.terms m) (list_in term v q.terms m))

  abbrev C : Bool
  C = test (same_list same_type (list_in type_at u p.types k) (list_in type_at v q.types k))

  abbrev D : Bool
  D = test (same_effects (value_or [] (cast_effects (get_or u i 0) (drop p.list u))) (value_or [] (cast_effects (get_or u i 0) (drop q.list v))))

  one_by_one : same_own (own_in u i p) (own_in v j q) ≡ (A && (B && (C && D)))
  unfolding same_own own_in
  one_by_one = rw (counts.names, counts.terms, counts.types, same)

  pub own-tests : same_own (own_in u i p) (own_in v j q) ≡ (((A && B) && C) && D)
  own-tests = one_by_one ∙ sym (and_assoc (A && B) C D ∙ and_assoc A B (C && D))

-- ---- same_own, of what is the same
pub own_same : (o p : Own) → same_own o p ≡ true
    → (o.names ≡ p.names) × (o.terms ≡ p.terms) × (o.types ≡ p.types) × (o.effects ≡ p.effects)
unfolding same_own
own_same o p e =
    let (a, f) = both _ _ e in
    let (b, g) = both _ _ f in
    let (c, d) = both _ _ g in
    ((same-exact o.names p.names).0 a, test-true _ b, test-true _ c, test-true _ d)

pub same-own : (o p : Own) → o.names ≡ p.names → o.terms ≡ p.terms → o.types ≡ p.types → o.effects ≡ p.effects → same_own o p ≡ true
unfolding same_own
same-own o p a b c d =
    and_both _ _ ((same-exact o.names p.names).1 a)
    (and_both _ _ (test-yes (same_list same_term o.terms p.terms) b)
    (and_both _ _ (test-yes (same_list same_type o.types p.types) c) (test-yes (same_effects o.effects p.effects) d)))
