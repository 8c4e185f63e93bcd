-- Laws of refusals 10 and 13: taken as computed and as said; a step is unplayable exactly if some message of it has no derivation from
-- what its sender holds by then and atoms that are nobody's yet, which it may make; and their place. Assumes nothing.
use Rattle.std.specs.Prelude.{ℕ, zero, suc, ◌+◌, ◌<◌, Bool, ◌||◌, ◌↔◌, ◌⊎◌, ◌≡◌, length, get_or, take}
use Rattle.std.proofs.Math.Bool.{true, false, not}
use Rattle.std.proofs.Common.{true≢false, sym, ◌∙◌, subst}
use mathlib.Core.List.Memᴰ
use mathlib.Core.List.{List, [], ◌∷◌, Memᴰ}
use Rattle.std.proofs.Math.Logic.{inl, inr, ⊎_elim}
use Rattle.std.proofs.Math.Path.{refl, ap}
use native.Mathlib.Omega.{arith}
use Rattle.std.proofs.Math.Dec.{eqb}
use Rattle.words.specs.Choice.Laws.{pick_true, pick-false, or_cases, or_left, or_right}
use Rattle.words.specs.Run.Laws.{values_length, values-get_d}
use Rattle.words.specs.First.{first}
use Rattle.words.specs.First.Laws.{clash, first_holds, first-fails, any_none, none_any, any-first}
use Rattle.terms.specs.Term.{Term, Terms, listed, occurs, Occurs}
use Rattle.terms.specs.Term.Laws.{occurs-path, path-occurs}
use Rattle.book.specs.Layout.{parties, steps, mark, sender}
use Rattle.translation.specs.Dictionary.{Dictionary, Derives, DerivesAll}
use Rattle.translation.specs.Build.{build}
use Rattle.translation.specs.Build.Laws.{AllFree, derives-free, free-derives, derives_all-free, free_all-derives}
use Rattle.translation.specs.Program.{Step}
use Rattle.translation.specs.Narration.{Narration, step_at, narration, may_make}
use Rattle.translation.specs.Taken.{joined, all_messages, claimed, occurs_in_one, taken, Taken, Nobodys, step_of, holds_before, made_at, sender_makes, unmakeable, Makeable, Barred, stops_at, unplayable, stop_row, stop_number, Playable, NoDerivation, FirstStop}

-- ---- the steps of a book
module _ (b : List ℕ) where
  pub steps-length : length (narration b).says ≡ steps b
  unfolding narration
  steps-length = values_length (step_at b) 0 (steps b)

  pub step_is : (s : ℕ) → s < steps b → step_of (narration b) s ≡ step_at b s
  unfolding step_of narration
  step_is s l = let z : 0 + s ≡ s = omega arith in values-get_d (step_at b) 0 (steps b) s _ l ∙ ap (step_at b) z

  -- a party's mark, and a step's sender's
  pub makes-is : (p : ℕ) → p < parties b → may_make (narration b) p ≡ eqb (mark b p) 1
  unfolding may_make narration
  makes-is p l =
      let z : 0 + p ≡ p = omega arith in
      values-get_d (λ q. eqb (mark b q) 1) 0 (parties b) p _ l ∙ ap (λ q. eqb (mark b q) 1) z

  pub sender-makes : (s : ℕ) → s < steps b → sender b s < parties b → sender_makes (narration b) s ≡ eqb (mark b (sender b s)) 1
  unfolding sender_makes step_at
  sender-makes s l h = ap (λ a. may_make (narration b) a.sender) (step_is s l) ∙ makes-is (sender b s) h

-- ---- taken
one-path : (q : ℕ) (ts : List Term) → occurs_in_one q ts ≡ true → (t : Term) × Memᴰ t ts × Occurs q t
unfolding occurs_in_one
one-path q [] e = absurd (true≢false (sym e))
one-path q (t ∷ ts) e =
    let rest = one-path q ts in
    or_cases (occurs q t) (occurs_in_one q ts) e (λ h. (t, Memᴰ.head refl, occurs-path q t h))
    (λ h. let z = rest h in (z.0, Memᴰ.tail z.1, z.2))

path-one : {q : ℕ} {t : Term} (ts : List Term) → Memᴰ t ts → Occurs q t → occurs_in_one q ts ≡ true
unfolding occurs_in_one
path-one [] m o = absurd (Memᴰ.not-nil m)
path-one {q} (u ∷ ts) m o =
    let rest = path-one ts in
    ⊎_elim (λ e. or_left (occurs q u) _ (ap (occurs q) (sym e) ∙ path-occurs o)) (λ n. or_right (occurs q u) _ (rest n o)) (Memᴰ.cases_cons m)

in-joined : {A : Type 0} {a : A} (ls : List (List A)) → Memᴰ a (joined ls) → (l : List A) × Memᴰ l ls × Memᴰ a l
unfolding joined
in-joined [] m = absurd (Memᴰ.not-nil m)
in-joined (l ∷ ls) m =
    let rest = in-joined ls in
    ⊎_elim (λ x. (l, Memᴰ.head refl, x)) (λ y. let z = rest y in (z.0, Memᴰ.tail z.1, z.2)) (Memᴰ.append_cases l m)

joined_in : {A : Type 0} {a : A} (l : List A) (ls : List (List A)) → Memᴰ l ls → Memᴰ a l → Memᴰ a (joined ls)
unfolding joined
joined_in l [] m h = absurd (Memᴰ.not-nil m)
joined_in {a = a} l (k ∷ ls) m h =
    let rest = joined_in l ls in
    ⊎_elim (λ e. Memᴰ.append_left (joined ls) (subst (Memᴰ a) e h)) (λ n. Memᴰ.append_right k (rest n h)) (Memᴰ.cases_cons m)

in-said : {t : Term} (ss : List Step) → Memᴰ t (all_messages ss) → (a : Step) × Memᴰ a ss × Memᴰ t (listed a.messages)
unfolding all_messages
in-said [] m = absurd (Memᴰ.not-nil m)
in-said (s ∷ ss) m =
    let rest = in-said ss in
    ⊎_elim (λ x. (s, Memᴰ.head refl, x)) (λ y. let z = rest y in (z.0, Memᴰ.tail z.1, z.2))
    (Memᴰ.append_cases (listed s.messages) m)

said_in : {t : Term} (a : Step) (ss : List Step) → Memᴰ a ss → Memᴰ t (listed a.messages) → Memᴰ t (all_messages ss)
unfolding all_messages
said_in a [] m h = absurd (Memᴰ.not-nil m)
said_in {t} a (s ∷ ss) m h =
    let rest = said_in a ss in
    ⊎_elim (λ e. Memᴰ.append_left (all_messages ss) (subst (λ (z : Step). Memᴰ t (listed z.messages)) e h))
    (λ n. Memᴰ.append_right (listed s.messages) (rest n h)) (Memᴰ.cases_cons m)

module _ (N : Narration) (s q : ℕ) where
  to-taken : taken N s q ≡ true → Taken N s q
  unfolding taken claimed
  to-taken e =
      let z = one-path q (claimed N s) e in
      ⊎_elim (λ x. Taken.name x z.2)
      (λ x. ⊎_elim (λ y. let k = in-joined N.knows y in Taken.known k.1 k.2 z.2)
      (λ y. let k = in-said (take s N.says) y in Taken.earlier k.1 k.2 z.2) (Memᴰ.append_cases (joined N.knows) x))
      (Memᴰ.append_cases N.names z.1)

  of-taken : Taken N s q → taken N s q ≡ true
  unfolding taken claimed
  of-taken (Taken.name m o) = path-one _ (Memᴰ.append_left _ m) o
  of-taken (Taken.known {k = k} m n o) = path-one _ (Memᴰ.append_right N.names (Memᴰ.append_left _ (joined_in k N.knows m n))) o
  of-taken (Taken.earlier {a = a} m n o) = path-one _ (Memᴰ.append_right N.names (Memᴰ.append_right (joined N.knows) (said_in a _ m n))) o

  pub taken-exact : (taken N s q ≡ true) ↔ Taken N s q
  taken-exact = (to-taken, of-taken)

  pub nobodys-exact : (taken N s q ≡ false) ↔ Nobodys N s q
  nobodys-exact = (λ e t. clash (of-taken t) e, λ n. go (taken N s q) refl n)
    where
      go : (v : Bool) → taken N s q ≡ v → Nobodys N s q → taken N s q ≡ false
      go true e n = absurd (n (to-taken e))
      go false e n = e

-- ---- a list by its places, and by its members
member-at : (l : List ℕ) (j : ℕ) → j < length l → Memᴰ (get_or l j 0) l
member-at [] j h = absurd (omega arith)
member-at (x ∷ l) zero h = Memᴰ.head refl
member-at (x ∷ l) (suc j) h = Memᴰ.tail (member-at l j (omega arith))

at-member : {r : ℕ} (l : List ℕ) → Memᴰ r l → (j : ℕ) × (j < length l) × (get_or l j 0 ≡ r)
at-member [] m = absurd (Memᴰ.not-nil m)
at-member {r} (x ∷ l) m =
    elim (Memᴰ.cases_cons m) [
      | inl e ↦ (0, omega arith, sym e)
      | inr n ↦ let z : (j : ℕ) × (j < length l) × (get_or l j 0 ≡ r) = at-member l n in (suc z.0, omega arith, z.2)
    ]

-- ---- what can be made
module _ (N : Narration) (s q : ℕ) where
  pub makeable-exact : (unmakeable N s q ≡ false) ↔ Makeable N s q
  unfolding unmakeable
  makeable-exact = (λ e. go (taken N s q) (sender_makes N s) refl refl e, λ m. rw ((nobodys-exact N s q).1 m.nobodys, m.maker))
    where
      go : (t u : Bool) → taken N s q ≡ t → sender_makes N s ≡ u → (t || not u) ≡ false → Makeable N s q
      go true u d f e = absurd (true≢false e)
      go false true d f e = record { nobodys = (nobodys-exact N s q).0 d; maker = f }
      go false false d f e = absurd (true≢false e)

  -- what can't be made is taken, or barred
  taken-or-barred : unmakeable N s q ≡ true → Taken N s q ⊎ Barred N s q
  unfolding unmakeable
  taken-or-barred e = go (taken N s q) (sender_makes N s) refl refl e
    where
      go : (t u : Bool) → taken N s q ≡ t → sender_makes N s ≡ u → (t || not u) ≡ true → Taken N s q ⊎ Barred N s q
      go true u d f e = inl (to-taken N s q d)
      go false true d f e = absurd (true≢false (sym e))
      go false false d f e = inr (record { nobodys = (nobodys-exact N s q).0 d; no-maker = f })

-- ---- unplayable
module _ (N : Narration) (s : ℕ) where
  none_free : unplayable N s ≡ false → AllFree (Makeable N s) (made_at N s)
  unfolding unplayable stops_at
  none_free e r m =
      let z = at-member (made_at N s) m in
      (makeable-exact N s r).0 (ap (unmakeable N s) (sym z.2) ∙ none_any (stops_at N s) (length (made_at N s)) e z.0 z.1)

  free-none : AllFree (Makeable N s) (made_at N s) → unplayable N s ≡ false
  unfolding unplayable stops_at
  free-none f = any_none (stops_at N s) (length (made_at N s)) (λ j h. (makeable-exact N s _).1 (f _ (member-at (made_at N s) j h)))

  -- a step is playable exactly if each of its messages has a derivation from what its sender holds by then and atoms that are
  -- nobody's yet, which it may make
  pub playable-exact : (unplayable N s ≡ false) ↔ Playable N s
  unfolding made_at
  playable-exact = (λ e. free_all-derives (Makeable N s) s _ _ (none_free e), λ d. free-none (derives_all-free (Makeable N s) s _ _ d))

  -- "a sender marked 0 builds from what it holds"
  pub held-playable : sender_makes N s ≡ false
      → Playable N s ↔ DerivesAll (λ q. ⊥) (holds_before N (step_of N s).sender s) (step_of N s).messages
  held-playable e = (
    λ d. free_all-derives (λ q. ⊥) s _ _
        (λ r m. true≢false (sym (derives_all-free (Makeable N s) s (step_of N s).messages (holds_before N (step_of N s).sender s) d r m).maker ∙ e)),
    λ d. free_all-derives (Makeable N s) s _ _
        (λ r m. absurd (derives_all-free (λ q. ⊥) s (step_of N s).messages (holds_before N (step_of N s).sender s) d r m)),
  )

  -- and one marked 1 from that and atoms that are nobody's yet
  pub maker-playable : sender_makes N s ≡ true
      → Playable N s ↔ DerivesAll (Nobodys N s) (holds_before N (step_of N s).sender s) (step_of N s).messages
  maker-playable e = (
    λ d. free_all-derives (Nobodys N s) s _ _
        (λ r m. (derives_all-free (Makeable N s) s (step_of N s).messages (holds_before N (step_of N s).sender s) d r m).nobodys),
    λ d. free_all-derives (Makeable N s) s _ _
        (λ r m. record {
          nobodys = derives_all-free (Nobodys N s) s (step_of N s).messages (holds_before N (step_of N s).sender s) d r m;
          maker = e;
        }),
  )

  -- ---- where it stops
  pub stop-cases : (stop_number N s ≡ 10) ⊎ (stop_number N s ≡ 13)
  unfolding stop_number
  stop-cases = go (taken N s (stop_row N s)) refl
    where
      go : (t : Bool) → taken N s (stop_row N s) ≡ t → (stop_number N s ≡ 10) ⊎ (stop_number N s ≡ 13)
      go true e = inl (pick_true _ _ _ e)
      go false e = inr (pick-false _ _ _ e)

  stop-taken : Taken N s (stop_row N s) → stop_number N s ≡ 10
  unfolding stop_number
  stop-taken t = pick_true _ _ _ (of-taken N s (stop_row N s) t)

  stop-barred : Nobodys N s (stop_row N s) → stop_number N s ≡ 13
  unfolding stop_number
  stop-barred n = pick-false _ _ _ ((nobodys-exact N s (stop_row N s)).1 n)

  -- the first atom that can't be made, with the reason that is against it
  first-stop : {why : ℕ → Type 0} → unplayable N s ≡ true → why (stop_row N s) → FirstStop N s why
  unfolding unplayable stop_row stops_at
  first-stop e y =
      record {
        place = first (stops_at N s) (length (made_at N s));
        within = any-first (stops_at N s) (length (made_at N s)) e;
        row = refl;
        reason = y;
        first-such = λ k h. (makeable-exact N s _).0 (first-fails (stops_at N s) (length (made_at N s)) k h);
      }

  -- whatever the reason
  pub stop-there : unplayable N s ≡ true → FirstStop N s (λ q. Unit {0})
  stop-there e = first-stop e tt

  stop-against : unplayable N s ≡ true → Taken N s (stop_row N s) ⊎ Barred N s (stop_row N s)
  unfolding unplayable stop_row stops_at
  stop-against e =
      taken-or-barred N s _ (first_holds (stops_at N s) (length (made_at N s)) (any-first (stops_at N s) (length (made_at N s)) e))

  -- of a step that is unplayable: 10 exactly if the first atom that can't be made is taken, 13 exactly if it is nobody's and the sender makes
  -- nothing
  pub ten-exact : unplayable N s ≡ true → (stop_number N s ≡ 10) ↔ FirstStop N s (Taken N s)
  ten-exact e = (
    λ z. ⊎_elim (λ t. first-stop e t) (λ (w : Barred N s (stop_row N s)). let y = stop-barred w.nobodys in absurd (omega arith)) (stop-against e),
    λ f. stop-taken (subst (Taken N s) (sym f.row) f.reason),
  )

  pub thirteen-exact : unplayable N s ≡ true → (stop_number N s ≡ 13) ↔ FirstStop N s (Barred N s)
  thirteen-exact e = (
    λ z. ⊎_elim (λ t. let y = stop-taken t in absurd (omega arith)) (λ w. first-stop e w) (stop-against e),
    λ f. stop-barred (subst (Nobodys N s) (sym f.row) f.reason.nobodys),
  )

-- ---- some message has no derivation
-- a derivation can be looked for: the atoms made are few, at any step the same, and each is free or not
module _ (free : ℕ → Type 0) (decide : (r : ℕ) → Dec (free r)) (δ : Dictionary) where
  all-free : (l : List ℕ) → Dec (AllFree free l)
  all-free [] = yes (λ r m. absurd (Memᴰ.not-nil m))
  all-free (x ∷ l) = go (decide x) (all-free l)
    where
      go : Dec (free x) → Dec (AllFree free l) → Dec (AllFree free (x ∷ l))
      go (yes p) (yes q) = yes (λ r m. ⊎_elim (λ e. subst free (sym e) p) (λ n. q r n) (Memᴰ.cases_cons m))
      go (yes p) (no q) = no (λ f. q (λ r m. f r (Memᴰ.tail m)))
      go (no p) d = no (λ f. p (f x (Memᴰ.head refl)))

  derives? : (t : Term) → Dec (Derives free δ t)
  derives? t = go (all-free (build 0 t δ).made)
    where
      go : Dec (AllFree free (build 0 t δ).made) → Dec (Derives free δ t)
      go (yes a) = yes (free-derives free 0 t δ a)
      go (no n) = no (λ d. n (derives-free free 0 t δ d))

  pub some-message : (ts : Terms) → (DerivesAll free δ ts → ⊥) → (t : Term) × Memᴰ t (listed ts) × (Derives free δ t → ⊥)
  unfolding listed
  some-message Terms.nil n = absurd (n DerivesAll.nil)
  some-message (Terms.cons t ts) n = go (derives? t) (some-message ts)
    where
      go : Dec (Derives free δ t) → ((DerivesAll free δ ts → ⊥) → (u : Term) × Memᴰ u (listed ts) × (Derives free δ u → ⊥))
          → (u : Term) × Memᴰ u (t ∷ listed ts) × (Derives free δ u → ⊥)
      go (yes d) f = let z = f (λ e. n (DerivesAll.cons d e)) in (z.0, Memᴰ.tail z.1, z.2)
      go (no d) f = (t, Memᴰ.head refl, d)

pub message-not : {free : ℕ → Type 0} {δ : Dictionary} {t : Term} (ts : Terms) → Memᴰ t (listed ts) → DerivesAll free δ ts
    → Derives free δ t
unfolding listed
message-not Terms.nil m d = absurd (Memᴰ.not-nil m)
message-not {free} {δ} (Terms.cons u ts) m (DerivesAll.cons d e) =
    let rest = message-not ts in
    ⊎_elim (λ p. subst (Derives free δ) (sym p) d) (λ n. rest n e) (Memᴰ.cases_cons m)

pub unplayable-exact : (N : Narration) (s : ℕ) → (Playable N s → ⊥) ↔ NoDerivation N s
unplayable-exact N s = (
  λ n. let z = some-message (Makeable N s) decide (holds_before N (step_of N s).sender s) (step_of N s).messages n in
      record { message = z.0; among = z.1; none = z.2 },
  λ d p. d.none (message-not (step_of N s).messages d.among p),
)
  where
    decide : (r : ℕ) → Dec (Makeable N s r)
    decide r = go (unmakeable N s r) refl
      where
        go : (v : Bool) → unmakeable N s r ≡ v → Dec (Makeable N s r)
        go true e = no (λ m. clash e ((makeable-exact N s r).1 m))
        go false e = yes ((makeable-exact N s r).0 e)
