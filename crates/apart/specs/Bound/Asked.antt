-- The asked process's bound names, one turn at a time. Assumes nothing.
use Rattle.std.specs.Prelude.{ℕ, suc, ◌+◌, ◌-◌, ◌≤◌, ◌<◌, Bool, true, false, not, ◌&&◌, ◌||◌, ◌⊎◌, ◌≡◌, ◌==◌, cond, eqb, ltb, length, take, get_or, Option as Answer, None, Some, IsSome}
use Rattle.std.proofs.Math.Bool.{and_assoc}
use mathlib.Core.List.{List, [], ◌∷◌, ◌++◌}
use Rattle.std.proofs.Common.{inl, inr, zero-add, ◌∙◌, subst, arith}
use Rattle.std.proofs.Math.Option.{Option, none, some}
use Rattle.std.proofs.Math.Path.{refl, sym, ap}
use Rattle.std.proofs.Math.Decide.{dec_lt, ℕ_discrete as dec_eq}
use Rattle.std.proofs.Math.ListN.{drop, drop_of_length-le}
use Rattle.std.proofs.Math.Seq.{drop-cons}
use Rattle.std.specs.List.{count_by, list_all}
use Rattle.std.proofs.lemmas.List.Recursion.{is_count_by}
use Rattle.std.proofs.lemmas.List.Sums.{count_by-le-length}
use Rattle.std.proofs.Math.ListN.{length-take}
use borrow.Author.Tests.{eq-eqb, ne_eqb, lt-ltb, le-ltb, not-true, not-false}
use Rattle.words.specs.Choice.{pick, then}
use Rattle.words.specs.Choice.Laws.{pick-false, pick_ind, or_left}
use Rattle.typing.specs.Types.{Ty, Environment, ◌⦂◌}
use Rattle.typing.specs.Process.{Process}
use Rattle.typing.specs.Apart.{binders, names, among, keeps_apart}
use Rattle.typing.specs.Derivation.{holds, whole}
use Rattle.typing.specs.Reading.{Read, after, type_at, entries, environment_at, only, processes, process_at}
use Rattle.spans.specs.Behind.{rest_of, At, Ends, process_own, process_parts}
use Rattle.spans.specs.Behind.Laws.{Counted}
use Rattle.spans.specs.Behind.Environments.{entries-empty, entries-other, entries-cut, entries-no-type, entries-type}
use Rattle.spans.specs.Behind.Processes.{processes-counted}
use Rattle.apart.specs.Bound.{all_binders, bound_in, process_names, times_in, binders_at, names_in, name_apart, all_apart, Placed}
use Rattle.apart.specs.Bound.Names.{times-nil, times-append, apart-clear}
use Rattle.apart.specs.Bound.Along.{Along, along-begin, Next, along-inside, along-some, along-names, along-next, along-done}

-- ---- process_names
pub names-two : (c : ℕ) → c ≡ 6 → 2 ≡ process_names c
unfolding process_names pick
names-two c e = sym (ap process_names e)

pub names-one : (c : ℕ) → (c ≡ 1) ⊎ ((c ≡ 3) ⊎ (c ≡ 11)) → 1 ≡ process_names c
unfolding process_names pick
names-one c (inl e) = sym (ap process_names e)
names-one c (inr (inl e)) = sym (ap process_names e)
names-one c (inr (inr e)) = sym (ap process_names e)

pub names-one-too : (c : ℕ) → 7 ≤ c → c ≤ 8 → 1 ≡ process_names c
unfolding process_names pick
names-one-too c d e = elim (dec_eq c 7) [
  | yes f ↦ sym (ap process_names f)
  | no f ↦ let g : c ≡ 8 = omega arith in sym (ap process_names g)
]

pub names-none : (c : ℕ) → (c ≡ 6 → ⊥) → (c ≡ 1 → ⊥) → (c ≡ 3 → ⊥) → (c ≡ 7 → ⊥) → (c ≡ 8 → ⊥) → (c ≡ 11 → ⊥)
    → 0 ≡ process_names c
unfolding process_names
names-none c a b d e f g =
    sym (pick-false {A = ℕ} (eqb c 6) _ _ (ne_eqb c 6 a) ∙ pick-false {A = ℕ} (eqb c 1) _ _ (ne_eqb c 1 b)
    ∙ pick-false {A = ℕ} (eqb c 3) _ _ (ne_eqb c 3 d) ∙ pick-false {A = ℕ} (eqb c 7) _ _ (ne_eqb c 7 e)
    ∙ pick-false {A = ℕ} (eqb c 8) _ _ (ne_eqb c 8 f) ∙ pick-false {A = ℕ} (eqb c 11) _ _ (ne_eqb c 11 g))

names-small : (c : ℕ) → process_names c ≤ 2
unfolding process_names
names-small c =
    pick_ind P (eqb c 6) 2 _ (λ _. omega arith) (λ _. pick_ind P (eqb c 1) 1 _ (λ _. omega arith) (λ _. pick_ind P (eqb c 3) 1 _ (λ _. omega arith)
    (λ _. pick_ind P (eqb c 7) 1 _ (λ _. omega arith) (λ _. pick_ind P (eqb c 8) 1 _ (λ _. omega arith)
    (λ _. pick_ind P (eqb c 11) 1 0 (λ _. omega arith) (λ _. omega arith))))))
  where
    P : ℕ → Type 0
    P n = n ≤ 2

-- ---- how often a name stands among a process's own
picked : (b : Bool) (n : ℕ) → pick b 1 0 + n ≡ cond b (1 + n) n
unfolding pick
picked true n = refl
picked false n = zero-add n

times-count : (x : ℕ) (l : List ℕ) → count_by (λ y. y == x) l ≡ times_in x l
unfolding times_in
times-count x l = sym (is_count_by (times_in x) (λ y. y == x) refl (λ y k. picked (eqb y x) (times_in x k)) l)

pub count-few : (w : List ℕ) (i x m : ℕ) → m ≡ count_by (λ y. y == x) (take (process_names (get_or w i 0)) (drop (i + 1) w))
    → (m ≡ times_in x (take (process_names (get_or w i 0)) (drop (i + 1) w))) × (m ≤ 2)
count-few w i x m e =
    let l = take (process_names (get_or w i 0)) (drop (i + 1) w) in
    (e ∙ times-count x l, omega (arith, count_by-le-length (λ y. y == x) l, length-take (process_names (get_or w i 0)) (drop (i + 1) w), names-small (get_or w i 0)))

parts-small : (c : ℕ) → process_parts c ≤ 2
unfolding process_parts
parts-small c = pick_ind (λ (n : ℕ). n ≤ 2) (eqb c 4) 2 _ (λ _. omega arith)
    (λ _. pick_ind (λ (n : ℕ). n ≤ 2) (eqb c 5) 0 1 (λ _. omega arith) (λ _. omega arith))

-- ---- how often a name is bound: n times before the place i
pub record Counting (w : List ℕ) (p end x i due n : ℕ) : Type 0 where
  pub later : List ℕ
  pub along : Along w end i due later
  pub sum : times_in x (binders_at w p) ≡ n + times_in x later
  pub small : n ≤ 1

pub counting-begin : (w : List ℕ) (p end x : ℕ) → Placed w p end → Counting w p end x p 1 0
counting-begin w p end x h =
    record { later = binders_at w p; along = along-begin w p end h.process; sum = omega arith; small = omega arith }

module _ (w : List ℕ) (p end x i due n : ℕ) (t : Counting w p end x i due n) where
  pub counting-inside : 0 < due → i < length w
  counting-inside h = along-inside w end i due t.later t.along h

  pub counting-some : 0 < due → (r : Answer ℕ) → Ends w (i + 1) (process_own (drop i w)) r → IsSome r
  counting-some h r q = along-some w end i due t.later t.along h r q

  pub counting-names : 0 < due → (r : ℕ) → At w (i + 1) (process_own (drop i w)) r → i + process_names (get_or w i 0) < length w
  counting-names h r q = along-names w end i due t.later t.along h r q

  -- the turn's own share
  share : 0 < due → (r : ℕ) → At w (i + 1) (process_own (drop i w)) r → (m : ℕ) → m ≡ process_parts (get_or w i 0) → m ≤ 2 → (k : ℕ)
      → k ≡ times_in x (take (process_names (get_or w i 0)) (drop (i + 1) w)) → (nx : Next w end i due t.later r m)
      → times_in x (binders_at w p) ≡ (n + k) + times_in x nx.later
  share h r q m e l k s nx =
      let a = times-append x (take (process_names (get_or w i 0)) (drop (i + 1) w)) nx.later in
      let b = ap (times_in x) nx.bound in
      omega (arith, t.sum)

  pub counting-twice : 0 < due → (r : ℕ) → At w (i + 1) (process_own (drop i w)) r → (k : ℕ)
      → k ≡ times_in x (take (process_names (get_or w i 0)) (drop (i + 1) w)) → 1 < n + k → true ≡ ltb 1 (times_in x (binders_at w p))
  counting-twice h r q k s g =
      let nx = along-next w end i due t.later t.along h r q (process_parts (get_or w i 0)) refl (parts-small (get_or w i 0)) in
      sym (lt-ltb 1 (times_in x (binders_at w p)) (omega (arith, share h r q (process_parts (get_or w i 0)) refl (parts-small (get_or w i 0)) k s nx)))

  pub counting-again : 0 < due → (r : ℕ) → At w (i + 1) (process_own (drop i w)) r → (k : ℕ)
      → k ≡ times_in x (take (process_names (get_or w i 0)) (drop (i + 1) w)) → n + k ≤ 1 → (m : ℕ) → m ≡ process_parts (get_or w i 0) → m ≤ 2
      → Counting w p end x r (due + m - 1) (n + k)
  counting-again h r q k s g m e l =
      let nx = along-next w end i due t.later t.along h r q m e l in
      record { later = nx.later; along = nx.along; sum = share h r q m e l k s nx; small = g }

  pub counting-done : due ≤ 0 → false ≡ ltb 1 (times_in x (binders_at w p))
  counting-done h =
      let z = along-done w end i due t.later t.along h in
      let y = ap (times_in x) z in
      sym (le-ltb 1 (times_in x (binders_at w p)) (omega (arith, t.sum, t.small, times-nil x)))

-- ---- the environment's names
pub record Entries (w : List ℕ) (p x i : ℕ) : Type 0 where
  pub fuel : ℕ
  pub enough : length w ≤ i + fuel
  pub reads : rest_of (entries fuel (drop i w)) ≡ some (drop p w)
  pub later : among x (names_in (environment_at w)) ≡ among x (names_in (entries fuel (drop i w)))

pub entries-begin : (w : List ℕ) (p end x : ℕ) → Placed w p end → Entries w p x 0
unfolding environment_at
entries-begin w p end x h = record { fuel = length w; enough = omega arith; reads = h.environment.rest; later = refl }

names-last : (f c : ℕ) (u : List ℕ) → c ≡ 1 → names_in (entries (suc f) (c ∷ u)) ≡ []
unfolding entries names_in names
names-last f c u e = rw e

in-front : (y : ℕ) (T : Ty) (o : Read Environment) (z : List ℕ) → rest_of o ≡ some z
    → names_in (after (λ (E : Environment). (y ⦂ T) ∷ E) o) ≡ y ∷ names_in o
unfolding names_in names after then rest_of
in-front y T none z k = absurd (let d : ◌≡◌ {A = ℕ} 0 1 = cc in omega arith)
in-front y T (some q) z k = refl

names-entry : (f c y : ℕ) (u v z : List ℕ) → c ≡ 2 → rest_of (type_at u) ≡ some v → rest_of (entries f v) ≡ some z
    → names_in (entries (suc f) (c ∷ y ∷ u)) ≡ y ∷ names_in (entries f v)
unfolding entries then rest_of
names-entry f c y u v z e h r = rw e (go (type_at u) h)
  where
    go : (o : Read Ty) → rest_of o ≡ some v → names_in
        (then o (λ q. after (λ (E : Environment). (y ⦂ q.0) ∷ E) (entries f q.1))) ≡ y ∷ names_in (entries f v)
    go none k = absurd (let d : ◌≡◌ {A = ℕ} 0 1 = cc in omega arith)
    go (some q) k =
        let s : v ≡ q.1 = cc in
        subst (λ (l : List ℕ). names_in (after (λ (E : Environment). (y ⦂ q.0) ∷ E) (entries f l)) ≡ y ∷ names_in (entries f v)) s
        (in-front y q.0 (entries f v) z r)

module _ (w : List ℕ) (p x i : ℕ) (t : Entries w p x i) where
  some-not : (o : Option (List ℕ)) → o ≡ some (drop p w) → o ≡ none → ⊥
  some-not o d e =
      let c : none ≡ some (drop p w) = sym e ∙ d in
      let z : ◌≡◌ {A = ℕ} 0 1 = cc in
      omega arith

  pub entries-inside : i < length w
  entries-inside = elim (dec_lt i (length w)) [
    | yes l ↦ l
    | no l ↦
        absurd (some-not _ t.reads
        (ap (λ (u : List ℕ). rest_of (entries t.fuel u)) (drop_of_length-le w {i = i} (omega arith)) ∙ entries-empty t.fuel))
  ]

  more-fuel : t.fuel ≡ suc (t.fuel - 1)
  more-fuel = omega (arith, t.enough, entries-inside)

  reading : entries t.fuel (drop i w) ≡ entries (suc (t.fuel - 1)) (get_or w i 0 ∷ drop (suc i) w)
  reading =
      ap (λ (f : ℕ). entries f (drop i w)) more-fuel ∙ ap (λ (u : List ℕ). entries (suc (t.fuel - 1)) u) (drop-cons w i 0 entries-inside)

  pub entries-end : (get_or w i 0 ≡ 2 → ⊥) → false ≡ among x (names_in (environment_at w))
  unfolding among
  entries-end d = elim (dec_eq (get_or w i 0) 1) [
    | yes e ↦ sym (t.later ∙ ap (λ (o : Read Environment). among x (names_in o)) reading ∙ ap (among x) (names-last (t.fuel - 1) _ (drop (suc i) w) e))
    | no e ↦ absurd (some-not _ t.reads (ap rest_of reading ∙ entries-other (t.fuel - 1) _ (drop (suc i) w) e d))
  ]

  -- an entry's name stands there
  pub entries-name : get_or w i 0 ≡ 2 → i + 1 < length w
  entries-name e = elim (dec_lt (i + 1) (length w)) [
    | yes l ↦ l
    | no l ↦
        let f : drop (suc i) w ≡ [] = drop_of_length-le w {i = suc i} (omega arith) in
        absurd (some-not _ t.reads (ap rest_of reading ∙ ap (λ (u : List ℕ). rest_of (entries (suc (t.fuel - 1)) (get_or w i 0 ∷ u))) f
        ∙ entries-cut (t.fuel - 1) _ e))
  ]

  entry : get_or w i 0 ≡ 2 → entries t.fuel (drop i w) ≡ entries (suc (t.fuel - 1)) (get_or w i 0 ∷ get_or w (i + 1) 0 ∷ drop (i + 2) w)
  entry e =
      let one : suc i ≡ i + 1 = omega arith in
      let two : suc (i + 1) ≡ i + 2 = omega arith in
      reading
      ∙ ap (λ (u : List ℕ). entries (suc (t.fuel - 1)) (get_or w i 0 ∷ u))
      (ap (λ (k : ℕ). drop k w) one ∙ drop-cons w (i + 1) 0 (entries-name e)
      ∙ ap (λ (k : ℕ). get_or w (i + 1) 0 ∷ drop k w) two)

  pub entries-some : get_or w i 0 ≡ 2 → (r : Answer ℕ) → Ends w (i + 2) (rest_of (type_at (drop (i + 2) w))) r → IsSome r
  entries-some e None n =
      absurd (some-not _ t.reads (ap rest_of (entry e) ∙ entries-no-type (t.fuel - 1) _ _ (drop (i + 2) w) e n))
  entries-some e (Some r) b = refl

  onward : get_or w i 0 ≡ 2 → (v : List ℕ) → rest_of (type_at (drop (i + 2) w)) ≡ some v → rest_of (entries (t.fuel - 1) v) ≡ some (drop p w)
  onward e v b = sym (entries-type (t.fuel - 1) _ _ (drop (i + 2) w) v e b) ∙ sym (ap rest_of (entry e)) ∙ t.reads

  named : get_or w i 0 ≡ 2 → (v : List ℕ) → rest_of (type_at (drop (i + 2) w)) ≡ some v
      → among x (names_in (environment_at w)) ≡ (eqb x (get_or w (i + 1) 0) || among x (names_in (entries (t.fuel - 1) v)))
  unfolding among
  named e v b =
      t.later ∙ ap (λ (o : Read Environment). among x (names_in o)) (entry e)
      ∙ ap (among x) (names-entry (t.fuel - 1) _ _ (drop (i + 2) w) v (drop p w) e b (onward e v b))

  pub entries-found : get_or w i 0 ≡ 2 → get_or w (i + 1) 0 ≡ x → true ≡ among x (names_in (environment_at w))
  entries-found e y = go (rest_of (type_at (drop (i + 2) w))) refl
    where
      go : (o : Option (List ℕ)) → rest_of (type_at (drop (i + 2) w)) ≡ o → true ≡ among x (names_in (environment_at w))
      go none n = absurd (some-not _ t.reads (ap rest_of (entry e) ∙ entries-no-type (t.fuel - 1) _ _ (drop (i + 2) w) e n))
      go (some v) n = sym (named e v n ∙ or_left _ _ (eq-eqb x (get_or w (i + 1) 0) (sym y)))

  pub entries-again : get_or w i 0 ≡ 2 → (r : ℕ) → At w (i + 2) (rest_of (type_at (drop (i + 2) w))) r → (get_or w (i + 1) 0 ≡ x → ⊥)
      → Entries w p x r
  entries-again e r b y =
      record {
        fuel = t.fuel - 1;
        enough = omega (arith, t.enough, b.after);
        reads = onward e (drop r w) b.rest;
        later = named e (drop r w) b.rest ∙ ap (λ (c : Bool). c || among x (names_in (entries (t.fuel - 1) (drop r w)))) (ne_eqb x (get_or w (i + 1) 0) (λ z. y (sym z)));
      }

-- ---- each name is apart
all_append : (ns bs k l : List ℕ) → all_apart ns bs (k ++ l) ≡ (all_apart ns bs k && all_apart ns bs l)
unfolding all_apart
all_append ns bs [] l = refl
all_append ns bs (y ∷ k) l = ap (λ (c : Bool). name_apart ns bs y && c) (all_append ns bs k l)
    ∙ sym (and_assoc (name_apart ns bs y) (all_apart ns bs k) (all_apart ns bs l))

pub name_in : (ns bs : List ℕ) (x : ℕ) (b : Bool) → b ≡ among x ns → b ≡ true → false ≡ name_apart ns bs x
unfolding name_apart
name_in ns bs x b e h = sym (ap (λ (c : Bool). not c && not (ltb 1 (times_in x bs))) (sym e ∙ h))

pub name-twice : (ns bs : List ℕ) (x : ℕ) (b : Bool) → b ≡ among x ns → b ≡ false → (c : Bool) → c ≡ ltb 1 (times_in x bs)
    → not c ≡ name_apart ns bs x
unfolding name_apart
name-twice ns bs x b e h c d =
    sym (ap (λ (y : Bool). not y && not (ltb 1 (times_in x bs))) (sym e ∙ h) ∙ ap not (sym d))

pub each_apart : (ns bs l : List ℕ) (b : Bool) → b ≡ list_all (λ x. name_apart ns bs x) l → b ≡ all_apart ns bs l
unfolding all_apart
each_apart ns bs l b e = e ∙ go l
  where
    go : (l : List ℕ) → list_all (λ x. name_apart ns bs x) l ≡ all_apart ns bs l
    go [] = refl
    go (x ∷ l) = ap (λ (b : Bool). name_apart ns bs x && b) (go l)

-- ---- all names are apart: those before the place i are
abbrev pub environment_names : List ℕ → List ℕ
environment_names w = names_in (environment_at w)

pub record Passing (w : List ℕ) (p end i due : ℕ) : Type 0 where
  pub later : List ℕ
  pub along : Along w end i due later
  pub same : all_apart (environment_names w) (binders_at w p) (binders_at w p) ≡ all_apart (environment_names w) (binders_at w p) later

pub passing-begin : (w : List ℕ) (p end : ℕ) → Placed w p end → Passing w p end p 1
passing-begin w p end h = record { later = binders_at w p; along = along-begin w p end h.process; same = refl }

module _ (w : List ℕ) (p end i due : ℕ) (t : Passing w p end i due) where
  pub passing-inside : 0 < due → i < length w
  passing-inside h = along-inside w end i due t.later t.along h

  pub passing-some : 0 < due → (r : Answer ℕ) → Ends w (i + 1) (process_own (drop i w)) r → IsSome r
  passing-some h r q = along-some w end i due t.later t.along h r q

  pub passing-names : 0 < due → (r : ℕ) → At w (i + 1) (process_own (drop i w)) r → i + process_names (get_or w i 0) < length w
  passing-names h r q = along-names w end i due t.later t.along h r q

  cut : (r m : ℕ) (nx : Next w end i due t.later r m) → all_apart (environment_names w) (binders_at w p) (binders_at w p)
      ≡ (all_apart (environment_names w) (binders_at w p) (take (process_names (get_or w i 0)) (drop (i + 1) w))
      && all_apart (environment_names w) (binders_at w p) nx.later)
  cut r m nx = t.same ∙ ap (all_apart (environment_names w) (binders_at w p)) nx.bound ∙ all_append _ _ _ nx.later

  pub passing-fails : 0 < due → (r : ℕ) → At w (i + 1) (process_own (drop i w)) r → (b : Bool)
      → b ≡ all_apart (environment_names w) (binders_at w p) (take (process_names (get_or w i 0)) (drop (i + 1) w)) → not b ≡ true
      → false ≡ all_apart (environment_names w) (binders_at w p) (binders_at w p)
  passing-fails h r q b e f =
      let nx = along-next w end i due t.later t.along h r q (process_parts (get_or w i 0)) refl (parts-small (get_or w i 0)) in
      sym (cut r _ nx ∙ ap (λ (c : Bool). c && all_apart (environment_names w) (binders_at w p) nx.later) (sym e ∙ not-true _ f))

  pub passing-again : 0 < due → (r : ℕ) → At w (i + 1) (process_own (drop i w)) r → (b : Bool)
      → b ≡ all_apart (environment_names w) (binders_at w p) (take (process_names (get_or w i 0)) (drop (i + 1) w)) → not b ≡ false → (m : ℕ)
      → m ≡ process_parts (get_or w i 0) → m ≤ 2 → Passing w p end r (due + m - 1)
  passing-again h r q b e f m d l =
      let nx = along-next w end i due t.later t.along h r q m d l in
      record {
        later = nx.later;
        along = nx.along;
        same = cut r m nx ∙ ap (λ (c : Bool). c && all_apart (environment_names w) (binders_at w p) nx.later) (sym e ∙ not-false _ f);
      }

  pub passing-done : due ≤ 0 → true ≡ all_apart (environment_names w) (binders_at w p) (binders_at w p)
  unfolding all_apart
  passing-done h = sym (t.same ∙ ap (all_apart (environment_names w) (binders_at w p)) (along-done w end i due t.later t.along h))

-- ---- what is asked
append-none : (l : List ℕ) → l ++ [] ≡ l
append-none [] = refl
append-none (x ∷ l) = ap (λ (k : List ℕ). x ∷ k) (append-none l)

binders-of : (r : Read (List Process)) → Counted 1 r → (P : Process) (v : List ℕ) → only r ≡ some (P, v) → bound_in r ≡ binders P
unfolding only then bound_in all_binders
binders-of none c P v e = absurd (let z : ◌≡◌ {A = ℕ} 0 1 = cc in omega arith)
binders-of (some q) c P v e = go q.0 q.1 (c q.0 q.1 refl) e
  where
    go : (l : List Process) (u : List ℕ) → length l ≡ 1
        → ◌≡◌ {A = Read Process} (elim l as (λ _. Read Process) [ [] ↦ none | a ∷ k ↦ some (a, u) ]) (some (P, v))
        → all_binders l ≡ binders P
    go [] u d h = absurd (omega arith)
    go (Q ∷ []) u d h =
        let pair : ◌≡◌ {A = Process × List ℕ} (Q, u) (P, v) = cc in
        append-none (binders Q) ∙ ap (λ (z : Process × List ℕ). binders z.0) pair
    go (Q ∷ R ∷ l) u d h = absurd (omega arith)

binders-at : (w : List ℕ) (p : ℕ) (P : Process) (v : List ℕ) → process_at (drop p w) ≡ some (P, v) → binders_at w p ≡ binders P
unfolding binders_at process_at
binders-at w p P v e = binders-of (processes (length (drop p w)) 1 (drop p w)) (processes-counted (length (drop p w)) 1 (drop p w)) P v e

-- what was read, from what is behind it
read_of : {A : Type 0} (r : Read A) (v : List ℕ) → rest_of r ≡ some v → (a : A) × (r ≡ some (a, v))
unfolding rest_of
read_of none v e = absurd (let z : ◌≡◌ {A = ℕ} 0 1 = cc in omega arith)
read_of {A} (some q) v e =
    let s : q.1 ≡ v = cc in
    (q.0, ap {B = Read A} (λ (u : List ℕ). some (q.0, u)) s)

none_of : {A : Type 0} (r : Read A) → rest_of r ≡ none → r ≡ none
unfolding rest_of
none_of none e = refl
none_of (some q) e = absurd (let z : ◌≡◌ {A = ℕ} 0 1 = cc in omega arith)

module _ (w : List ℕ) where
  pub asked-no-environment : rest_of (environment_at w) ≡ none → false ≡ keeps_apart w
  unfolding keeps_apart then holds
  asked-no-environment e = rw (none_of (environment_at w) e, then)

  module _ (p : ℕ) (a : At w 0 (rest_of (environment_at w)) p) where
    pub asked-no-process : rest_of (process_at (drop p w)) ≡ none → false ≡ keeps_apart w
    unfolding keeps_apart then holds whole
    asked-no-process e =
        let (E, h) = read_of (environment_at w) (drop p w) a.rest in
        rw (h, then, none_of (process_at (drop p w)) e, then)

    module _ (e : ℕ) (b : At w p (rest_of (process_at (drop p w))) e) where
      pub asked-more : (e ≡ length w → ⊥) → false ≡ keeps_apart w
      unfolding keeps_apart then holds whole
      asked-more o =
          let (E, h) = read_of (environment_at w) (drop p w) a.rest in
          let (P, g) = read_of (process_at (drop p w)) (drop e w) b.rest in
          let c = drop-cons w e 0 (omega (arith, b.inside)) in
          rw (h, then, g, then, c)

      pub placed : Placed w p e
      placed = record { environment = a; process = b }

      pub asked-apart : e ≡ length w → (b : Bool) → b ≡ all_apart (environment_names w) (binders_at w p) (binders_at w p) → b ≡ keeps_apart w
      unfolding keeps_apart then holds whole names_in
      asked-apart o c d =
          let (E, h) = read_of (environment_at w) (drop p w) a.rest in
          let (P, g) = read_of (process_at (drop p w)) (drop e w) b.rest in
          let l : drop e w ≡ [] = drop_of_length-le w {i = e} (omega arith) in
          let n : environment_names w ≡ names E = names_of E (drop p w) h in
          rw (h, then, g, then, l) (d ∙ apart-clear (environment_names w) (binders_at w p) ∙ rw (n, binders-at w p P (drop e w) g) refl)
        where
          names_of : (E : Environment) (v : List ℕ) → environment_at w ≡ some (E, v) → names_in (environment_at w) ≡ names E
          names_of E v k = rw k refl
