-- An entry of an environment is looked for, one entry at a time. Assumes nothing.
use Rattle.std.specs.Prelude.{ℕ, ◌+◌, Bool, true, false, List, [], ◌∷◌, ◌≡◌, refl, drop, get_or, Option as Answer, IsSome}
use Rattle.std.proofs.Common.{sym, ◌∙◌, ap}
use Rattle.words.specs.Choice.Laws.{choose_yes, choose_no}
use Rattle.words.specs.First.Laws.{clash}
use Rattle.typing.specs.Types.{Ty, Entry, Environment, ◌⦂◌, same_type, same_entry}
use Rattle.typing.specs.Check.{stands}
use Rattle.typing.specs.Reading.{type_at, environment_at}
use Rattle.spans.specs.Behind.{rest_of, At, Ends}
use Rattle.alike.specs.Same.{type_in, environment_in, test}
use Rattle.alike.specs.Same.Laws.{test-yes, test-no, test-true}
use Rattle.alike.specs.Same.Environments.{Along, list_of, along-begin, begin-list, along-last, along-found, along-next, along-list}

-- ---- stands
stands-none : (p : Entry) → stands p [] ≡ false
unfolding stands
stands-none p = refl

stands_here : (p q : Entry) (E : Environment) → p ≡ q → stands p (q ∷ E) ≡ true
unfolding stands
stands_here p q E e = choose_yes (same_entry p q) true (stands p E) e

stands_on : (p q : Entry) (E : Environment) → (p ≡ q → ⊥) → stands p (q ∷ E) ≡ stands p E
unfolding stands
stands_on p q E e = choose_no (same_entry p q) true (stands p E) e

-- ---- no entry before the place i is it
pub record Walk (w : List ℕ) (a e : ℕ) (p : Entry) (i : ℕ) : Type 0 where
  pub along : Along w e i
  pub same : stands p (environment_in w a) ≡ stands p (list_of w e i along)

pub walk-begin : (w : List ℕ) (a e : ℕ) (p : Entry) → At w a (rest_of (environment_at (drop a w))) e → Walk w a e p a
walk-begin w a e p h = record { along = along-begin w a e h; same = ap (stands p) (sym (begin-list w a e h)) }

module _ (w : List ℕ) (a e x : ℕ) (T : Ty) (i : ℕ) (t : Walk w a e (x ⦂ T) i) where
  pub walk-done : (get_or w i 0 ≡ 2 → ⊥) → false ≡ stands (x ⦂ T) (environment_in w a)
  walk-done l = sym (t.same ∙ ap (stands (x ⦂ T)) (along-last w e i t.along l) ∙ stands-none (x ⦂ T))

  module _ (two : get_or w i 0 ≡ 2) where
    pub walk-type : (o : Answer ℕ) → Ends w (i + 2) (rest_of (type_at (drop (i + 2) w))) o → IsSome o
    walk-type o q = along-found w e i t.along two o q

    module _ (r : ℕ) (q : At w (i + 2) (rest_of (type_at (drop (i + 2) w))) r) where
      turn : stands (x ⦂ T) (environment_in w a)
          ≡ stands (x ⦂ T) ((get_or w (i + 1) 0 ⦂ type_in w (i + 2)) ∷ list_of w e r (along-next w e i t.along two r q))
      turn = t.same ∙ ap (stands (x ⦂ T)) (along-list w e i t.along two r q)

      pub walk-found : true ≡ test (same_entry (x ⦂ T) (get_or w (i + 1) 0 ⦂ type_in w (i + 2))) → true ≡ stands (x ⦂ T) (environment_in w a)
      walk-found f =
          sym (turn ∙ stands_here (x ⦂ T) _ _ (test-true (same_entry (x ⦂ T) (get_or w (i + 1) 0 ⦂ type_in w (i + 2))) (sym f)))

      pub walk-again : false ≡ test (same_entry (x ⦂ T) (get_or w (i + 1) 0 ⦂ type_in w (i + 2))) → Walk w a e (x ⦂ T) r
      walk-again f =
          record {
            along = along-next w e i t.along two r q;
            same = turn ∙ stands_on (x ⦂ T) _ _ (λ h. clash (test-yes (same_entry (x ⦂ T) (get_or w (i + 1) 0 ⦂ type_in w (i + 2))) h) (sym f));
          }

-- ---- one entry
pub entry-name : (x y : ℕ) (T U : Ty) → (y ≡ x → ⊥) → false ≡ test (same_entry (x ⦂ T) (y ⦂ U))
entry-name x y T U d = sym (test-no (same_entry (x ⦂ T) (y ⦂ U)) (λ h. d (names_of h)))
  where
    names_of : (x ⦂ T) ≡ (y ⦂ U) → y ≡ x
    names_of h = cc

pub entry-type : (x y : ℕ) (T U : Ty) → y ≡ x → (b : Bool) → b ≡ test (same_type U T) → b ≡ test (same_entry (x ⦂ T) (y ⦂ U))
entry-type x y T U e true d =
    let s : U ≡ T = test-true (same_type U T) (sym d) in
    sym (test-yes (same_entry (x ⦂ T) (y ⦂ U)) (cc))
entry-type x y T U e false d = sym (test-no (same_entry (x ⦂ T) (y ⦂ U)) (λ h. clash (test-yes (same_type U T) (types_of h)) (sym d)))
  where
    types_of : (x ⦂ T) ≡ (y ⦂ U) → U ≡ T
    types_of h = cc
