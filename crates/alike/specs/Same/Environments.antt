-- Environments compared entry by entry. Assumes nothing.
use Rattle.std.specs.Prelude.{ℕ, suc, ◌+◌, ◌-◌, ◌≤◌, ◌<◌, Bool, true, false, List, [], ◌∷◌, eqb, length, drop, get_or}
use Rattle.std.specs.Prelude.{Option as Answer, None, Some, IsSome}
use Rattle.std.proofs.Common.{◌∙◌, subst, length-drop, drop_of_length-le, drop-cons, eq-eqb, ne_eqb}
use Rattle.std.proofs.Math.Option.{Option, none, some}
use Rattle.std.proofs.Math.Path.{◌≡◌, refl, sym, ap}
use native.Mathlib.Omega.{arith}
use Rattle.std.proofs.Math.Decide.{dec_lt, ℕ_discrete}
use Rattle.words.specs.Choice.{then}
use Rattle.words.specs.First.Laws.{clash}
use Rattle.typing.specs.Types.{Ty, Entry, Environment, ◌⦂◌, same_type, same_environment}
use Rattle.typing.specs.Reading.{Read, after, type_at, entries, environment_at}
use Rattle.spans.specs.Behind.{rest_of, At, Ends}
use Rattle.spans.specs.Behind.Environments.{entries-empty, entries-other, entries-cut, entries-no-type, entries-type}
use Rattle.alike.specs.Same.{value_or, type_in, environment_in, test}
use Rattle.alike.specs.Same.Laws.{value_after, some-not, test-yes, test-no, test-true}

-- ---- the entries that were read
value-last : (f c : ℕ) (u : List ℕ) → c ≡ 1 → value_or [] (entries (suc f) (c ∷ u)) ≡ []
unfolding entries value_or
value-last f c u e = rw e

value-entry : (f c x : ℕ) (u v z : List ℕ) → c ≡ 2 → rest_of (type_at u) ≡ some v → rest_of (entries f v) ≡ some z
    → value_or [] (entries (suc f) (c ∷ x ∷ u)) ≡ (x ⦂ value_or Ty.Un (type_at u)) ∷ value_or [] (entries f v)
unfolding entries then rest_of value_or
value-entry f c x u v z e h r = rw e (go (type_at u) h)
  where
    go : (o : Read Ty) → rest_of o ≡ some v
        → value_or [] (then o (λ q. after (λ (E : Environment). (x ⦂ q.0) ∷ E) (entries f q.1))) ≡ (x ⦂ value_or Ty.Un o) ∷ value_or []
        (entries f v)
    go none k = cc
    go (some q) k =
        let s : v ≡ q.1 = cc in
        subst (λ (l : List ℕ). value_or [] (after (λ (E : Environment). (x ⦂ q.0) ∷ E) (entries f l)) ≡ (x ⦂ q.0) ∷ value_or [] (entries f v)) s
        (value_after (λ (E : Environment). (x ⦂ q.0) ∷ E) [] [] (entries f v) z r)

-- ---- along an environment's words: the older entries begin at the place i, and end at `end`
module _ (w : List ℕ) (end i fuel : ℕ) (enough : length w ≤ i + fuel) (reads : rest_of (entries fuel (drop i w)) ≡ some (drop end w)) where
  older-inside : i < length w
  older-inside = elim (dec_lt i (length w)) [
    | yes l ↦ l
    | no l ↦
        absurd (some-not _ _ reads
        (ap (λ (u : List ℕ). rest_of (entries fuel u)) (drop_of_length-le w {i = i} (omega arith)) ∙ entries-empty fuel))
  ]

  more-fuel : fuel ≡ suc (fuel - 1)
  more-fuel = omega (arith, enough, older-inside)

  reading : entries fuel (drop i w) ≡ entries (suc (fuel - 1)) (get_or w i 0 ∷ drop (suc i) w)
  reading = ap (λ (f : ℕ). entries f (drop i w)) more-fuel ∙ ap (λ (u : List ℕ). entries (suc (fuel - 1)) u) (drop-cons w i 0 older-inside)

  -- 1 ends them
  older-word : (get_or w i 0 ≡ 2 → ⊥) → get_or w i 0 ≡ 1
  older-word d = elim (ℕ_discrete (get_or w i 0) 1) [
    | yes e ↦ e
    | no e ↦ absurd (some-not _ _ reads (ap rest_of reading ∙ entries-other (fuel - 1) _ (drop (suc i) w) e d))
  ]

  older-last : get_or w i 0 ≡ 1 → value_or [] (entries fuel (drop i w)) ≡ []
  older-last e = ap (value_or []) reading ∙ value-last (fuel - 1) _ (drop (suc i) w) e

  -- 2 begins an entry
  module _ (e : get_or w i 0 ≡ 2) where
    older-name : i + 1 < length w
    older-name = elim (dec_lt (i + 1) (length w)) [
      | yes l ↦ l
      | no l ↦
          let f : drop (suc i) w ≡ [] = drop_of_length-le w {i = suc i} (omega arith) in
          absurd (some-not _ _ reads (ap rest_of reading ∙ ap (λ (u : List ℕ). rest_of (entries (suc (fuel - 1)) (get_or w i 0 ∷ u))) f
          ∙ entries-cut (fuel - 1) _ e))
    ]

    entry : entries fuel (drop i w) ≡ entries (suc (fuel - 1)) (get_or w i 0 ∷ get_or w (i + 1) 0 ∷ drop (i + 2) w)
    entry =
        let one : suc i ≡ i + 1 = omega arith in
        let two : suc (i + 1) ≡ i + 2 = omega arith in
        reading
        ∙ ap (λ (u : List ℕ). entries (suc (fuel - 1)) (get_or w i 0 ∷ u))
        (ap (λ (k : ℕ). drop k w) one ∙ drop-cons w (i + 1) 0 older-name ∙ ap (λ (k : ℕ). get_or w (i + 1) 0 ∷ drop k w) two)

    older-type : (o : Answer ℕ) → Ends w (i + 2) (rest_of (type_at (drop (i + 2) w))) o → IsSome o
    older-type None q = absurd (some-not _ _ reads (ap rest_of entry ∙ entries-no-type (fuel - 1) _ _ (drop (i + 2) w) e q))
    older-type (Some r) q = refl

    older-on : (r : ℕ) → At w (i + 2) (rest_of (type_at (drop (i + 2) w))) r → rest_of (entries (fuel - 1) (drop r w)) ≡ some (drop end w)
    older-on r b = sym (entries-type (fuel - 1) _ _ (drop (i + 2) w) (drop r w) e b.rest) ∙ sym (ap rest_of entry) ∙ reads

    older-list : (r : ℕ) → At w (i + 2) (rest_of (type_at (drop (i + 2) w))) r
        → value_or [] (entries fuel (drop i w)) ≡ (get_or w (i + 1) 0 ⦂ type_in w (i + 2)) ∷ value_or [] (entries (fuel - 1) (drop r w))
    unfolding type_in
    older-list r b =
        ap (value_or []) entry ∙ value-entry (fuel - 1) _ _ (drop (i + 2) w) (drop r w) (drop end w) e b.rest (older-on r b)

    -- with an entry, the list is not empty
    older-cons : value_or [] (entries fuel (drop i w)) ≡ [] → ⊥
    older-cons h = go (rest_of (type_at (drop (i + 2) w))) refl
      where
        go : (o : Option (List ℕ)) → rest_of (type_at (drop (i + 2) w)) ≡ o → ⊥
        go none d = some-not _ _ reads (ap rest_of entry ∙ entries-no-type (fuel - 1) _ _ (drop (i + 2) w) e d)
        go (some x) d =
            let r = sym (entries-type (fuel - 1) _ (get_or w (i + 1) 0) (drop (i + 2) w) x e d) ∙ sym (ap rest_of entry) ∙ reads in
            let l = sym h ∙ ap (value_or []) entry ∙ value-entry (fuel - 1) _ _ (drop (i + 2) w) x (drop end w) e d r in
            cc

pub record Along (w : List ℕ) (end i : ℕ) : Type 0 where
  pub fuel : ℕ
  pub enough : length w ≤ i + fuel
  pub reads : rest_of (entries fuel (drop i w)) ≡ some (drop end w)
  pub inside : i < length w
  pub last : (get_or w i 0 ≡ 2 → ⊥) → get_or w i 0 ≡ 1
  pub name : get_or w i 0 ≡ 2 → i + 1 < length w

along : (w : List ℕ) (end i fuel : ℕ) → length w ≤ i + fuel → rest_of (entries fuel (drop i w)) ≡ some (drop end w) → Along w end i
along w end i f m r =
    record {
      fuel = f;
      enough = m;
      reads = r;
      inside = older-inside w end i f m r;
      last = older-word w end i f m r;
      name = older-name w end i f m r;
    }

pub list_of : (w : List ℕ) (end i : ℕ) → Along w end i → Environment
list_of w end i t = value_or [] (entries t.fuel (drop i w))

pub along-begin : (w : List ℕ) (a end : ℕ) → At w a (rest_of (environment_at (drop a w))) end → Along w end a
unfolding environment_at
along-begin w a end h = along w end a (length (drop a w)) (omega (arith, length-drop a w)) h.rest

pub begin-list : (w : List ℕ) (a end : ℕ) (h : At w a (rest_of (environment_at (drop a w))) end)
    → list_of w end a (along-begin w a end h) ≡ environment_in w a
unfolding list_of along-begin along environment_in environment_at
begin-list w a end h = refl

module _ (w : List ℕ) (end i : ℕ) (t : Along w end i) where
  pub along-last : (get_or w i 0 ≡ 2 → ⊥) → list_of w end i t ≡ []
  unfolding list_of
  along-last d = older-last w end i t.fuel t.enough t.reads (t.last d)

  module _ (e : get_or w i 0 ≡ 2) where
    pub along-found : (o : Answer ℕ) → Ends w (i + 2) (rest_of (type_at (drop (i + 2) w))) o → IsSome o
    along-found o q = older-type w end i t.fuel t.enough t.reads e o q

    pub along-next : (r : ℕ) → At w (i + 2) (rest_of (type_at (drop (i + 2) w))) r → Along w end r
    along-next r b = along w end r (t.fuel - 1) (omega (arith, t.enough, b.after)) (older-on w end i t.fuel t.enough t.reads e r b)

    pub along-list : (r : ℕ) (b : At w (i + 2) (rest_of (type_at (drop (i + 2) w))) r)
        → list_of w end i t ≡ (get_or w (i + 1) 0 ⦂ type_in w (i + 2)) ∷ list_of w end r (along-next r b)
    unfolding list_of along-next along
    along-list r b = older-list w end i t.fuel t.enough t.reads e r b

    along-cons : list_of w end i t ≡ [] → ⊥
    unfolding list_of
    along-cons h = older-cons w end i t.fuel t.enough t.reads e h

-- ---- two environments: the older entries are the same exactly if they are
pub record Pairing (u : List ℕ) (a e : ℕ) (v : List ℕ) (b f i j : ℕ) : Type 0 where
  pub left : Along u e i
  pub right : Along v f j
  pub to : environment_in u a ≡ environment_in v b → list_of u e i left ≡ list_of v f j right
  pub from : list_of u e i left ≡ list_of v f j right → environment_in u a ≡ environment_in v b

pub pairing-begin : (u : List ℕ) (a e : ℕ) (v : List ℕ) (b f : ℕ) → At u a (rest_of (environment_at (drop a u))) e
    → At v b (rest_of (environment_at (drop b v))) f → Pairing u a e v b f a b
pairing-begin u a e v b f s t =
    let p = begin-list u a e s in
    let q = begin-list v b f t in
    record { left = along-begin u a e s; right = along-begin v b f t; to = λ h. p ∙ h ∙ sym q; from = λ h. sym p ∙ h ∙ q }

module _ (u : List ℕ) (a e : ℕ) (v : List ℕ) (b f i j : ℕ) (t : Pairing u a e v b f i j) where
  unequal : (list_of u e i t.left ≡ list_of v f j t.right → ⊥) → false ≡ test (same_environment (environment_in u a) (environment_in v b))
  unequal d = sym (test-no (same_environment (environment_in u a) (environment_in v b)) (λ h. d (t.to h)))

  -- one has no more entries, or both
  pub pairing-ends : (get_or u i 0 ≡ 2 → get_or v j 0 ≡ 2 → ⊥) → (r : Bool) → r ≡ eqb (get_or u i 0) (get_or v j 0)
      → r ≡ test (same_environment (environment_in u a) (environment_in v b))
  pairing-ends n r d = elim (ℕ_discrete (get_or u i 0) 2) [
    | yes p ↦
        let z = t.right.last (n p) in
        d ∙ ne_eqb _ _ (λ g. omega (arith, z, p, g)) ∙ unequal (λ g. along-cons u e i t.left p (g ∙ along-last v f j t.right (n p)))
    | no p ↦ elim (ℕ_discrete (get_or v j 0) 2) [
      | yes q ↦
          let z = t.left.last p in
          d ∙ ne_eqb _ _ (λ g. omega (arith, z, q, g)) ∙ unequal (λ g. along-cons v f j t.right q (sym g ∙ along-last u e i t.left p))
      | no q ↦
          d ∙ eq-eqb _ _ (t.left.last p ∙ sym (t.right.last q))
          ∙ sym (test-yes (same_environment (environment_in u a) (environment_in v b))
          (t.from (along-last u e i t.left p ∙ sym (along-last v f j t.right q))))
    ]
  ]

  module _ (p : get_or u i 0 ≡ 2) (q : get_or v j 0 ≡ 2) where
    pub pairing-left : (o : Answer ℕ) → Ends u (i + 2) (rest_of (type_at (drop (i + 2) u))) o → IsSome o
    pairing-left o h = along-found u e i t.left p o h

    pub pairing-right : (o : Answer ℕ) → Ends v (j + 2) (rest_of (type_at (drop (j + 2) v))) o → IsSome o
    pairing-right o h = along-found v f j t.right q o h

    module _ (r : ℕ) (x : At u (i + 2) (rest_of (type_at (drop (i + 2) u))) r) (s : ℕ) (y : At v (j + 2) (rest_of (type_at (drop (j + 2) v))) s) where
      left-list : list_of u e i t.left ≡ (get_or u (i + 1) 0 ⦂ type_in u (i + 2)) ∷ list_of u e r (along-next u e i t.left p r x)
      left-list = along-list u e i t.left p r x

      right-list : list_of v f j t.right ≡ (get_or v (j + 1) 0 ⦂ type_in v (j + 2)) ∷ list_of v f s (along-next v f j t.right q s y)
      right-list = along-list v f j t.right q s y

      pub pairing-names : (get_or u (i + 1) 0 ≡ get_or v (j + 1) 0 → ⊥) → false ≡ test (same_environment (environment_in u a) (environment_in v b))
      pairing-names n = unequal (λ g. n (names_of (sym left-list ∙ g ∙ right-list)))
        where
          names_of : {E F : Environment} {T U : Ty} → (get_or u (i + 1) 0 ⦂ T) ∷ E ≡ (get_or v (j + 1) 0 ⦂ U) ∷ F
              → get_or u (i + 1) 0 ≡ get_or v (j + 1) 0
          names_of z = cc

      pub pairing-types : false ≡ test (same_type (type_in u (i + 2)) (type_in v (j + 2)))
          → false ≡ test (same_environment (environment_in u a) (environment_in v b))
      pairing-types m =
          unequal (λ g. clash (test-yes (same_type (type_in u (i + 2)) (type_in v (j + 2))) (types_of (sym left-list ∙ g ∙ right-list))) (sym m))
        where
          types_of : {E F : Environment} → (get_or u (i + 1) 0 ⦂ type_in u (i + 2)) ∷ E ≡ (get_or v (j + 1) 0 ⦂ type_in v (j + 2)) ∷ F
              → type_in u (i + 2) ≡ type_in v (j + 2)
          types_of z = cc

      pub pairing-again : get_or u (i + 1) 0 ≡ get_or v (j + 1) 0 → true ≡ test (same_type (type_in u (i + 2)) (type_in v (j + 2)))
          → Pairing u a e v b f r s
      pairing-again n m =
          let same : type_in u (i + 2) ≡ type_in v (j + 2) = test-true (same_type (type_in u (i + 2)) (type_in v (j + 2))) (sym m) in
          let heads : (get_or u (i + 1) 0 ⦂ type_in u (i + 2)) ≡ (get_or v (j + 1) 0 ⦂ type_in v (j + 2)) = cc in
          record {
            left = along-next u e i t.left p r x;
            right = along-next v f j t.right q s y;
            to = λ z. tails (sym left-list ∙ t.to z ∙ right-list);
            from = λ z. t.from (left-list ∙ joined-up heads z ∙ sym right-list);
          }
        where
          tails : {E F : Environment} {p q : Entry} → p ∷ E ≡ q ∷ F → E ≡ F
          tails z = cc

          joined-up : {E F : Environment} {p q : Entry} → p ≡ q → E ≡ F → p ∷ E ≡ q ∷ F
          joined-up y z = cc
