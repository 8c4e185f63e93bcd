-- Laws of sources: the first source stays; each source exactly when; and since when a row is held is read off its source. Assumes nothing.
use Rattle.std.specs.Prelude.{ℕ, zero, suc, ◌+◌, ◌≤◌, ◌<◌, Bool, ◌⊎◌, ◌≡◌, length}
use native.Mathlib.Omega.{arith}
use Rattle.std.proofs.Math.Decide.{ℕ_discrete}
use Rattle.std.proofs.Math.Bool.{true, false}
use Rattle.std.proofs.Common.{true≢false, inl, inr, ◌∙◌, subst}
use mathlib.Core.List.Memᴰ
use mathlib.Core.List.{List, [], ◌∷◌, ◌++◌, map, Memᴰ}
use Rattle.std.proofs.Math.Logic.{⊎_elim}
use Rattle.std.proofs.Math.Path.{refl, sym, ap}
use Rattle.std.proofs.Math.Dec.{leb}
use borrow.Author.Tests.{le-leb, lt-leb, leb-true}
use Rattle.words.specs.First.{first}
use Rattle.words.specs.First.Laws.{clash, first-is}
use Rattle.words.specs.Run.{All}
use Rattle.terms.specs.Term.{Term, Terms, count}
use Rattle.terms.specs.Table.{term, terms, AllRows}
use Rattle.terms.specs.Table.Laws.{kind_of, atoms_in-rows}
use Rattle.book.specs.Layout.{table, rows, parties, steps, known, kind, sender, receiver, messages}
use Rattle.book.specs.Valid.{Valid}
use Rattle.book.specs.Valid.Laws.{formed, equal-terms, row-kind, row-atom}
use Rattle.translation.specs.Dictionary.{Held, Dictionary, is_held, enter, start}
use Rattle.translation.specs.Dictionary.Laws.{enter-same, enter-other, enter-ind, start-exact}
use Rattle.translation.specs.Build.{Built, built_or, build, build_all}
use Rattle.translation.specs.Build.Laws.{built-or, build_all-makes}
use Rattle.translation.specs.Receive.{Event, Stored, Did, rule, by_rule, compared, kept, receive, receive_all}
use Rattle.translation.proofs.Receive.Laws.{rule-ind}
use Rattle.translation.specs.Narration.{step_at, narration, program_of}
use Rattle.translation.specs.Steps.{step_did, before}
use Rattle.translation.proofs.Steps.Laws.{step-sends, step-receives, step-idle, before-none, before_more, before-all, before-holds}
use Rattle.translation.specs.Taken.{step_of, holds_before, made_at}
use Rattle.translation.specs.Taken.Laws.{step_is}
use Rattle.translation.proofs.Stored.Laws.{not-held}
use Rattle.translation.proofs.Low.Laws.{step-rows}
use Rattle.translation.proofs.Rows.Laws.{party-known}
use Rattle.translation.specs.Source.{source_of, MadeBy, end_of, SourceExact, since_of}

-- ---- how a dictionary changes
held-free : (h : Held) → is_held h ≡ false → h ≡ Held.free
held-free Held.free e = refl
held-free Held.given e = absurd (true≢false e)
held-free (Held.made s) e = absurd (true≢false e)
held-free (Held.stored s x) e = absurd (true≢false e)

-- from δ to ε: what was held is held as before, and F says of what else it is held now
pub record Told (δ ε : Dictionary) (F : Term → Held → Type 0) : Type 0 where
  pub stays : (t : Term) → is_held (δ t) ≡ true → ε t ≡ δ t
  pub says : (t : Term) (h : Held) → F t h → (δ t ≡ Held.free) × (ε t ≡ h)
  pub held : (t : Term) (h : Held) → F t h → is_held h ≡ true
  pub back : (t : Term) → is_held (ε t) ≡ true → (is_held (δ t) ≡ true) ⊎ F t (ε t)

told_none : {δ : Dictionary} {F : Term → Held → Type 0} → ((t : Term) (h : Held) → F t h → ⊥) → Told δ δ F
told_none n =
    record {
      stays = λ t e. refl;
      says = λ t h f. absurd (n t h f);
      held = λ t h f. absurd (n t h f);
      back = λ t e. inl e;
    }

told-as : {δ ε : Dictionary} {F G : Term → Held → Type 0} → ((t : Term) (h : Held) → F t h → G t h) → ((t : Term) (h : Held) → G t h → F t h)
    → Told δ ε F → Told δ ε G
told-as to from w =
    record {
      stays = w.stays;
      says = λ t h g. w.says t h (from t h g);
      held = λ t h g. w.held t h (from t h g);
      back = λ t e. ⊎_elim (λ x. inl x) (λ x. inr (to t _ x)) (w.back t e);
    }

told-then : {δ ε ζ : Dictionary} {F G : Term → Held → Type 0} → Told δ ε F → Told ε ζ G → Told δ ζ (λ t h. F t h ⊎ G t h)
told-then {δ} {ε} {ζ} {F} {G} w v =
    record {
      stays = λ t e. v.stays t (ap is_held (w.stays t e) ∙ e) ∙ w.stays t e;
      says = λ t h f. ⊎_elim (first_says t h) (then-says t h) f;
      held = λ t h f. ⊎_elim (w.held t h) (v.held t h) f;
      back = λ t e. ⊎_elim (λ x. earlier t e x) (λ g. inr (inr g)) (v.back t e);
    }
  where
    first_says : (t : Term) (h : Held) → F t h → (δ t ≡ Held.free) × (ζ t ≡ h)
    first_says t h f =
        let z = w.says t h f in
        (z.0, v.stays t (ap is_held z.1 ∙ w.held t h f) ∙ z.1)

    then-says : (t : Term) (h : Held) → G t h → (δ t ≡ Held.free) × (ζ t ≡ h)
    then-says t h g =
        let z = v.says t h g in
        (free (is_held (δ t)) refl, z.1)
      where
        free : (x : Bool) → is_held (δ t) ≡ x → δ t ≡ Held.free
        free true e = absurd (clash (ap is_held (w.stays t e) ∙ e) (ap is_held (v.says t h g).0))
        free false e = held-free (δ t) e

    earlier : (t : Term) → is_held (ζ t) ≡ true → is_held (ε t) ≡ true → (is_held (δ t) ≡ true) ⊎ (F t (ζ t) ⊎ G t (ζ t))
    earlier t e x = ⊎_elim (λ y. inl y) (λ f. inr (inl (subst (F t) (sym (v.stays t x)) f))) (w.back t x)

-- a term that was not held is entered
told-enter : (δ : Dictionary) (t : Term) (h : Held) → δ t ≡ Held.free → is_held h ≡ true → Told δ (enter δ t h) (λ u k. (u ≡ t) × (k ≡ h))
told-enter δ t h free e =
    record {
      stays = λ u x. enter-other δ t h u (λ p. clash x (ap is_held (ap δ (sym p) ∙ free)));
      says = λ u k f. (ap δ f.0 ∙ free, ap (enter δ t h) f.0 ∙ enter-same δ t h ∙ sym f.1);
      held = λ u k f. ap is_held f.1 ∙ e;
      back = λ u. enter-ind (λ x. is_held x ≡ true → (is_held (δ u) ≡ true) ⊎ ((u ≡ t) × (x ≡ h))) δ t h u
          (λ p x. inr (sym p, refl)) (λ p x. inl x);
    }

-- ---- building at step s: the atoms made are made at s
abbrev MadeNow : ℕ → List ℕ → Term → Held → Type 0
MadeNow s made t h = (r : ℕ) × (t ≡ Term.atom r) × (h ≡ Held.made s) × Memᴰ r made

made_then : {s : ℕ} {δ ε ζ : Dictionary} {a b : List ℕ} → Told δ ε (MadeNow s a) → Told ε ζ (MadeNow s b) → Told δ ζ (MadeNow s (a ++ b))
made_then {s} {a = a} {b = b} w v = told-as
    (λ t h. λ f. ⊎_elim (λ x. (x.0, x.1, x.2, Memᴰ.append_left b x.3)) (λ x. (x.0, x.1, x.2, Memᴰ.append_right a x.3)) f)
    (λ t h f. ⊎_elim (λ m. inl (f.0, f.1, f.2, m)) (λ m. inr (f.0, f.1, f.2, m)) (Memᴰ.append_cases a f.3))
    (told-then w v)

abbrev Builds : ℕ → Dictionary → Built → Type 0
Builds s δ b = Told δ b.dictionary (MadeNow s b.made)

made_none : {s : ℕ} {δ : Dictionary} → Told δ δ (MadeNow s [])
made_none = told_none (λ t h f. Memᴰ.not-nil f.3)

made_one : (s r : ℕ) (δ : Dictionary) → δ (Term.atom r) ≡ Held.free → Told δ (enter δ (Term.atom r) (Held.made s)) (MadeNow s (r ∷ []))
made_one s r δ e = told-as
    (λ t h f. (r, f.0, f.1, Memᴰ.head refl))
    (λ t h f. (f.1 ∙ ap Term.atom (Memᴰ.eq_of_singleton f.3), f.2))
    (told-enter δ (Term.atom r) (Held.made s) e refl)

or-builds : (s : ℕ) (t : Term) (δ : Dictionary) (b : Built) → (δ t ≡ Held.free → Builds s δ b) → Builds s δ (built_or (δ t) t δ b)
or-builds s t δ b g = built-or (Builds s δ) (δ t) t δ b (λ i h j. made_none) g

mutual
  unfolding build

  build-told : (s : ℕ) (t : Term) (δ : Dictionary) → Builds s δ (build s t δ)
  build-told s (Term.atom r) δ = or-builds s (Term.atom r) δ _ (λ e. made_one s r δ e)
  build-told s (Term.operation g ts) δ = or-builds s (Term.operation g ts) δ _ (λ e. build_all-told s ts δ)
  build-told s (Term.cipher k ts) δ =
      or-builds s (Term.cipher k ts) δ _ (λ e. made_then (build-told s k δ) (build_all-told s ts (build s k δ).dictionary))
  build-told s (Term.public t) δ = or-builds s (Term.public t) δ _ (λ e. build-told s t δ)
  build-told s (Term.private t) δ = or-builds s (Term.private t) δ _ (λ e. build-told s t δ)

  build_all-told : (s : ℕ) (ts : Terms) (δ : Dictionary) → Told δ (build_all s ts δ).dictionary (MadeNow s (build_all s ts δ).made)
  build_all-told s Terms.nil δ = made_none
  build_all-told s (Terms.cons t ts) δ = made_then (build-told s t δ) (build_all-told s ts (build s t δ).dictionary)

-- ---- receiving: what is stored is stored
abbrev Kept : List Stored → Term → Held → Type 0
Kept ps t h = (x : ℕ) × (s : ℕ) × (h ≡ Held.stored s x) × Memᴰ (t, x, s) ps

abbrev Keeps : Dictionary → Did → Type 0
Keeps δ d = Told δ d.dictionary (Kept d.stored)

keeps-none : {δ : Dictionary} → Told δ δ (Kept [])
keeps-none = told_none (λ t h f. Memᴰ.not-nil f.3)

keeps-one : (s : ℕ) (t : Term) (p : ℕ) (δ : Dictionary) → δ t ≡ Held.free → Keeps δ (kept s t p δ)
keeps-one s t p δ e = told-as
    (λ u h f. (p, s, f.1, Memᴰ.head (ap (λ v. (v, p, s)) f.0)))
    (λ u h f. let z = Memᴰ.eq_of_singleton f.3 in (
      ap (λ (q : Stored). q.0) z,
      f.2 ∙ ap (λ (q : Stored). Held.stored q.2 q.1) z,
    ))
    (told-enter δ t (Held.stored s p) e refl)

keeps_then : {δ ε ζ : Dictionary} {a b : List Stored} → Told δ ε (Kept a) → Told ε ζ (Kept b) → Told δ ζ (Kept (a ++ b))
keeps_then {a = a} {b = b} w v = told-as
    (λ t h f. ⊎_elim (λ x. (x.0, x.1, x.2, Memᴰ.append_left b x.3)) (λ x. (x.0, x.1, x.2, Memᴰ.append_right a x.3)) f)
    (λ t h f. ⊎_elim (λ m. inl (f.0, f.1, f.2, m)) (λ m. inr (f.0, f.1, f.2, m)) (Memᴰ.append_cases a f.3))
    (told-then w v)

-- only a term that isn't held is stored
keeps-rule : (s : ℕ) (t : Term) (p : ℕ) (δ : Dictionary) (o : Did) → Keeps δ o → Keeps δ (by_rule (rule δ t) (compared t p δ) o (kept s t p δ))
unfolding by_rule
keeps-rule s t p δ o k = rule-ind (λ r. Keeps δ (by_rule r (compared t p δ) o (kept s t p δ))) δ t (λ e. keeps-none) (λ e. k)
    (λ e. keeps-one s t p δ (held-free (δ t) (not-held δ t e)))

mutual
  unfolding receive

  receive-told : (s : ℕ) (t : Term) (p : ℕ) (δ : Dictionary) (n : ℕ) → Keeps δ (receive s t p δ n)
  receive-told s (Term.atom r) p δ n = keeps-rule s (Term.atom r) p δ _ keeps-none
  receive-told s (Term.operation g ts) p δ n = keeps-rule s (Term.operation g ts) p δ _ keeps-none
  receive-told s (Term.cipher k ts) p δ n = keeps-rule s (Term.cipher k ts) p δ _ (receive_all-told s ts n δ (n + count ts))
  receive-told s (Term.public t) p δ n = keeps-rule s (Term.public t) p δ _ keeps-none
  receive-told s (Term.private t) p δ n = keeps-rule s (Term.private t) p δ _ keeps-none

  receive_all-told : (s : ℕ) (ts : Terms) (p : ℕ) (δ : Dictionary) (n : ℕ) → Keeps δ (receive_all s ts p δ n)
  receive_all-told s Terms.nil p δ n = keeps-none
  receive_all-told s (Terms.cons t ts) p δ n = keeps_then (receive-told s t p δ n) (receive_all-told s ts (suc p) _ _)

-- all of it at that step
abbrev AtStep : ℕ → List Stored → Type 0
AtStep s ps = (t : Term) (x i : ℕ) → Memᴰ (t, x, i) ps → i ≡ s

at_none : {s : ℕ} → AtStep s []
at_none t x i m = absurd (Memᴰ.not-nil m)

at-rule : (s : ℕ) (t : Term) (p : ℕ) (δ : Dictionary) (o : Did) → AtStep s o.stored
    → AtStep s (by_rule (rule δ t) (compared t p δ) o (kept s t p δ)).stored
unfolding by_rule
at-rule s t p δ o k = rule-ind (λ r. AtStep s (by_rule r (compared t p δ) o (kept s t p δ)).stored) δ t (λ e. at_none) (λ e. k)
    (λ e u x i m. ap (λ (q : Stored). q.2) (Memᴰ.eq_of_singleton m))

mutual
  unfolding receive

  receive-at : (s : ℕ) (t : Term) (p : ℕ) (δ : Dictionary) (n : ℕ) → AtStep s (receive s t p δ n).stored
  receive-at s (Term.atom r) p δ n = at-rule s (Term.atom r) p δ _ at_none
  receive-at s (Term.operation g ts) p δ n = at-rule s (Term.operation g ts) p δ _ at_none
  receive-at s (Term.cipher k ts) p δ n = at-rule s (Term.cipher k ts) p δ _ (receive_all-at s ts n δ (n + count ts))
  receive-at s (Term.public t) p δ n = at-rule s (Term.public t) p δ _ at_none
  receive-at s (Term.private t) p δ n = at-rule s (Term.private t) p δ _ at_none

  receive_all-at : (s : ℕ) (ts : Terms) (p : ℕ) (δ : Dictionary) (n : ℕ) → AtStep s (receive_all s ts p δ n).stored
  receive_all-at s Terms.nil p δ n = at_none
  receive_all-at s (Terms.cons t ts) p δ n = λ u x i m.
      let d = receive s t p δ n in
      ⊎_elim (receive-at s t p δ n u x i) (receive_all-at s ts (suc p) d.dictionary (n + length d.given) u x i)
      (Memᴰ.append_cases d.stored m)

-- ---- a step: the atoms that its sender makes are made there, and what its receiver stores is stored there
pub made-here : (b : List ℕ) (s : ℕ) → s < steps b → (p : ℕ) → p < parties b → sender b s ≡ p
    → made_at (narration b) s ≡ (build_all s (terms (table b) (messages b s)) (before b p s).dictionary).made
unfolding made_at step_at
made-here b s h p l e =
    ap (λ a. (build_all s a.messages (holds_before (narration b) a.sender s)).made) (step_is b s h)
    ∙ ap (λ q. (build_all s (terms (table b) (messages b s)) (holds_before (narration b) q s)).made) e
    ∙ ap (λ δ. (build_all s (terms (table b) (messages b s)) δ).made) (before-holds b p l s (omega arith))

module _ (b : List ℕ) (p : ℕ) (h : p < parties b) where
  -- of the step i
  abbrev AtI : ℕ → List Stored → Term → Held → Type 0
  AtI i ps t k = ((sender b i ≡ p) × MadeNow i (made_at (narration b) i) t k) ⊎ Kept ps t k

  abbrev did : ℕ → Did
  did i = step_did b p i (before b p i).dictionary (length (before b p i).given)

  step-told : (i : ℕ) → i < steps b → Told (before b p i).dictionary (did i).dictionary (AtI i (did i).stored) × AtStep i (did i).stored
  step-told i l = go (ℕ_discrete (sender b i) p) (ℕ_discrete (receiver b i) p)
    where
      δ : Dictionary
      δ = (before b p i).dictionary

      n : ℕ
      n = length (before b p i).given

      ts : Terms
      ts = terms (table b) (messages b i)

      go : Dec (sender b i ≡ p) → Dec (receiver b i ≡ p) → Told δ (did i).dictionary (AtI i (did i).stored) × AtStep i (did i).stored
      go (yes e) r = rw (step-sends b p i δ n e) (
        told-as
            (λ t k f. inl (e, rw (made-here b i l p h e) f))
            (λ t k f. ⊎_elim (λ x. rw (made-here b i l p h e) at x.1) (λ x. absurd (Memᴰ.not-nil x.3)) f)
            (build_all-told i ts δ),
        at_none,
      )
      go (no e) (yes r) = rw (step-receives b p i δ n e r) (
        told-as
            (λ t k f. inr f) (λ t k f. ⊎_elim (λ x. absurd (e x.0)) (λ x. x) f)
            (receive_all-told i ts n δ (n + count ts)),
        receive_all-at i ts n δ (n + count ts),
      )
      go (no e) (no r) = rw (step-idle b p i δ n e r) (
        told_none
            (λ t k f. ⊎_elim (λ x. e x.0) (λ x. Memᴰ.not-nil x.3) f),
        at_none,
      )

  -- ---- the first i steps
  abbrev MadeIn : ℕ → Term → Held → Type 0
  MadeIn i t k = (s : ℕ) × (s < i) × (sender b s ≡ p) × MadeNow s (made_at (narration b) s) t k

  abbrev Facts : ℕ → Term → Held → Type 0
  Facts i t k = MadeIn i t k ⊎ Kept (before b p i).stored t k

  before-told : (i : ℕ) → i ≤ steps b → Told (before b p 0).dictionary (before b p i).dictionary (Facts i)
  before-told zero l = told_none (λ t k f. ⊎_elim (λ x. (let y = x.1 in omega arith))
      (λ x. Memᴰ.not-nil (subst (λ (d : Did). Memᴰ (t, x.0, x.1) d.stored) (before-none b p) x.3)) f)
  before-told (suc i) l =
      subst (λ (d : Did). Told (before b p 0).dictionary d.dictionary (λ t k. MadeIn (suc i) t k ⊎ Kept d.stored t k))
      (sym (before_more b p i)) (told-as to from (told-then (before-told i (omega arith)) (step-told i (omega arith)).0))
    where
      old : List Stored
      old = (before b p i).stored

      new : List Stored
      new = (did i).stored

      to : (t : Term) (k : Held) → Facts i t k ⊎ AtI i new t k → MadeIn (suc i) t k ⊎ Kept (old ++ new) t k
      to t k f = ⊎_elim
          (λ x. ⊎_elim (λ y. inl (y.0, (let z = y.1 in omega arith), y.2, y.3)) (λ y. inr (y.0, y.1, y.2, Memᴰ.append_left new y.3)) x)
          (λ x. ⊎_elim (λ y. inl (i, omega arith, y.0, y.1)) (λ y. inr (y.0, y.1, y.2, Memᴰ.append_right old y.3)) x) f

      from : (t : Term) (k : Held) → MadeIn (suc i) t k ⊎ Kept (old ++ new) t k → Facts i t k ⊎ AtI i new t k
      from t k f = ⊎_elim
          (λ (x : MadeIn (suc i) t k). elim (ℕ_discrete x.0 i) [
            | yes e ↦ inr (inl (ap (sender b) (sym e) ∙ x.2, subst (λ s. MadeNow s (made_at (narration b) s) t k) e x.3))
            | no e ↦ (let z = x.1 in inl (inl (x.0, omega arith, x.2, x.3)))
          ])
          (λ (x : Kept (old ++ new) t k). ⊎_elim (λ m. inl (inr (x.0, x.1, x.2, m))) (λ m. inr (inr (x.0, x.1, x.2, m)))
          (Memᴰ.append_cases old x.3)) f

-- ---- each source exactly when
-- no source is another
abbrev sort : Held → ℕ
sort Held.free = 0
sort Held.given = 1
sort (Held.made s) = 2
sort (Held.stored s x) = 3

two-sorts : {C : Type 0} {h k : Held} → h ≡ k → (sort h ≡ sort k → ⊥) → C
two-sorts e n = absurd (n (ap sort e))

start-given : (ts : List Term) (t : Term) → is_held (start ts t) ≡ true → start ts t ≡ Held.given
unfolding start
start-given [] t = λ e. absurd (true≢false (sym e))
start-given (k ∷ ts) t = enter-ind (λ h. is_held h ≡ true → h ≡ Held.given) (start ts) k Held.given t (λ p e. refl) (λ n e. start-given ts t e)

end-last : (es : List Event) (ps : List Stored) → end_of (es ++ Event.ends ps ∷ []) ≡ ps
unfolding end_of
end-last [] ps = refl
end-last (e ∷ []) ps = refl
end-last (e ∷ f ∷ es) ps = end-last (f ∷ es) ps

-- a row whose term is among those of the rows ks is among them, where these are rows
pub known-term : (b : List ℕ) → Valid b → (r : ℕ) → r < rows b → (ks : List ℕ) → All (λ k. k < rows b) ks
    → Memᴰ (term (table b) r) (map (term (table b)) ks) → Memᴰ r ks
known-term b v r l [] a m = absurd (Memᴰ.not-nil m)
known-term b v r l (k ∷ ks) a m =
    let rest = known-term b v r l ks a.1 in
    ⊎_elim (λ e. Memᴰ.head (equal-terms b v r k l a.0 e)) (λ n. Memᴰ.tail (rest n)) (Memᴰ.cases_cons m)

pub term-known : (b : List ℕ) (r : ℕ) (ks : List ℕ) → Memᴰ r ks → Memᴰ (term (table b) r) (map (term (table b)) ks)
term-known b r [] m = absurd (Memᴰ.not-nil m)
term-known b r (k ∷ ks) m =
    let rest = term-known b r ks in
    ⊎_elim (λ e. Memᴰ.head (ap (term (table b)) e)) (λ n. Memᴰ.tail (rest n)) (Memᴰ.cases_cons m)

module _ (b : List ℕ) (v : Valid b) where
  -- a row's term is an atom only if it is that row's
  own-atom : (r q : ℕ) → r < rows b → term (table b) r ≡ Term.atom q → q ≡ r
  unfolding kind_of
  own-atom r q l e =
      let k : kind b r ≡ 0 = sym (row-kind b v r l) ∙ ap kind_of e in
      let a : Term.atom r ≡ Term.atom q = sym (row-atom b v r l k) ∙ e in
      cc

  -- an atom that is made is its row's
  made-atom : (s : ℕ) → s < steps b → (r : ℕ) → Memᴰ r (made_at (narration b) s) → term (table b) r ≡ Term.atom r
  unfolding made_at step_at
  made-atom s l r m =
      let N = narration b in
      let rows_of : AllRows (table b) (rows b) (step_of N s).messages = rw (step_is b s l) (step-rows b v s l) in
      let i = atoms_in-rows (rows b) (table b) (formed b v) rows_of
      ((build_all-makes s (step_of N s).messages (holds_before N (step_of N s).sender s)).within r m) in
      ap (term (table b)) (own-atom i.row r i.within i.stands) ∙ i.stands

  module _ (p r : ℕ) (h : p < parties b) (l : r < rows b) where
    abbrev own : Term
    own = term (table b) r

    at-end : source_of b p r ≡ (before b p (steps b)).dictionary own
    unfolding source_of
    at-end = ap (λ (δ : Dictionary). δ own) (before-holds b p h (steps b) (omega arith))

    all_told : Told (start (map (term (table b)) (known b p))) (before b p (steps b)).dictionary (Facts b p h (steps b))
    all_told = subst (λ (d : Did). Told d.dictionary (before b p (steps b)).dictionary (Facts b p h (steps b))) (before-none b p)
        (before-told b p h (steps b) (omega arith))

    -- held in the end: given at the start, or one of the facts
    ends : (k : Held) → source_of b p r ≡ k → is_held k ≡ true
        → ((k ≡ Held.given) × Memᴰ r (known b p)) ⊎ Facts b p h (steps b) own k
    ends k e held =
        let now : (before b p (steps b)).dictionary own ≡ k = sym at-end ∙ e in
        ⊎_elim
        (λ x. inl (
          sym now ∙ all_told.stays own x ∙ start-given _ own x,
          known-term b v r l (known b p) (party-known b v p h) ((start-exact _ own).0 x),
        ))
        (λ f. inr (subst (Facts b p h (steps b) own) now f)) (all_told.back own (ap is_held now ∙ held))

    told-end : (k : Held) → Facts b p h (steps b) own k → source_of b p r ≡ k
    told-end k f = at-end ∙ (all_told.says own k f).1

    stored-end : end_of (program_of (narration b) p) ≡ (before b p (steps b)).stored
    stored-end = ap end_of (before-all b p h) ∙ end-last (before b p (steps b)).events (before b p (steps b)).stored

    from_start : Memᴰ r (known b p) → source_of b p r ≡ Held.given
    from_start m =
        let x = (start-exact (map (term (table b)) (known b p)) own).1 (term-known b r (known b p) m) in
        at-end ∙ all_told.stays own x ∙ start-given _ own x

    to-given : source_of b p r ≡ Held.given → Memᴰ r (known b p)
    to-given e = ⊎_elim (λ x. x.1)
        (λ f. ⊎_elim (λ x. two-sorts x.3.2 (λ q. omega arith)) (λ x. two-sorts x.2 (λ q. omega arith)) f) (ends Held.given e refl)

    to_made : (s : ℕ) → source_of b p r ≡ Held.made s → MadeBy b p r s
    to_made s e = ⊎_elim (λ x. two-sorts x.0 (λ q. omega arith))
        (λ f. ⊎_elim (λ (x : MadeIn b p h (steps b) own (Held.made s)).
        let same : x.0 ≡ s = (let y = x.3.2 in cc) in
        record {
          within = (let y = x.1 in omega arith);
          sends = ap (sender b) (sym same) ∙ x.2;
          made = subst (λ q. Memᴰ q (made_at (narration b) s)) (own-atom r x.3.0 l x.3.1)
              (subst (λ i. Memᴰ x.3.0 (made_at (narration b) i)) same x.3.3);
        })
        (λ x. two-sorts x.2 (λ q. omega arith)) f) (ends (Held.made s) e refl)

    to-stored : (s x : ℕ) → source_of b p r ≡ Held.stored s x → Memᴰ (own, x, s) (end_of (program_of (narration b) p))
    to-stored s x e = ⊎_elim (λ y. two-sorts y.0 (λ q. omega arith))
        (λ f. ⊎_elim (λ y. two-sorts y.3.2 (λ q. omega arith)) (λ (y : Kept (before b p (steps b)).stored own (Held.stored s x)).
        let place : y.0 ≡ x = (let z = y.2 in cc) in
        let step : y.1 ≡ s = (let z = y.2 in cc) in
        rw (stored-end) (subst (λ i. Memᴰ (own, x, i) (before b p (steps b)).stored) step
        (subst (λ j. Memᴰ (own, j, y.1) (before b p (steps b)).stored) place y.3))) f) (ends (Held.stored s x) e refl)

    pub source-exact : SourceExact b p r
    source-exact =
        record {
          given = (to-given, from_start);
          made = λ s. (
            to_made s,
            λ m. told-end (Held.made s)
                (inl (s, m.within, m.sends, (r, made-atom s m.within r m.made, refl, m.made))),
          );
          stored = λ s x. (to-stored s x, λ m. told-end (Held.stored s x) (inr (x, s, refl, rw stored-end at m)));
        }

-- ---- since when
since-free : (n : ℕ) (k : Held) → is_held k ≡ false → since_of n k ≡ n
unfolding since_of
since-free n k e = rw (held-free k e)

module _ (b : List ℕ) (p : ℕ) (h : p < parties b) where
  -- one step more: what was held stays, and what is held now is held since then
  pub step_stays : (i : ℕ) → i < steps b → (t : Term) → is_held ((before b p i).dictionary t) ≡ true
      → (before b p (suc i)).dictionary t ≡ (before b p i).dictionary t
  step_stays i l t e = rw (before_more b p i) ((step-told b p h i l).0.stays t e)

  step-since : (n i : ℕ) → i < steps b → (t : Term) → is_held ((before b p i).dictionary t) ≡ false
      → is_held ((before b p (suc i)).dictionary t) ≡ true → since_of n ((before b p (suc i)).dictionary t) ≡ i + 1
  unfolding since_of
  step-since n i l t free held =
      let more = ap (λ (d : Did). d.dictionary t) (before_more b p i) in
      let now = (did b p h i).dictionary t in
      ap (since_of n) more
      ∙ ⊎_elim (λ x. absurd (clash x free))
      (λ f. ⊎_elim (λ x. ap (since_of n) x.1.2)
      (λ (x : Kept (did b p h i).stored t now). ap (since_of n) x.2 ∙ ap (λ s. s + 1) ((step-told b p h i l).1 t x.0 x.1 x.3)) f)
      ((step-told b p h i l).0.back t (sym (ap is_held more) ∙ held))

  -- held after k of i steps exactly if the source says so; n is more than all
  abbrev SinceAt : ℕ → ℕ → Term → Type 0
  SinceAt n i t = (k : ℕ) → k ≤ i → is_held ((before b p k).dictionary t) ≡ leb (since_of n ((before b p i).dictionary t)) k

  since-start : (n : ℕ) → 0 < n → (t : Term) → SinceAt n 0 t
  unfolding since_of
  since-start n m t k j = let z : k ≡ 0 = omega arith in rw z (go (is_held ((before b p 0).dictionary t)) refl)
    where
      known_at : List Term
      known_at = map (term (table b)) (known b p)

      first-held : (before b p 0).dictionary t ≡ start known_at t
      first-held = ap (λ (d : Did). d.dictionary t) (before-none b p)

      go : (x : Bool) → is_held ((before b p 0).dictionary t) ≡ x
          → is_held ((before b p 0).dictionary t) ≡ leb (since_of n ((before b p 0).dictionary t)) 0
      go true e =
          let q : since_of n ((before b p 0).dictionary t) ≡ 0 =
          ap (since_of n) (first-held ∙ start-given known_at t (sym (ap is_held first-held) ∙ e)) in
          e ∙ sym (le-leb (since_of n ((before b p 0).dictionary t)) 0 (omega arith))
      go false e = e ∙ sym (lt-leb (since_of n ((before b p 0).dictionary t)) 0 (let q = since-free n ((before b p 0).dictionary t) e in omega arith))

  since-on : (n i : ℕ) → i < steps b → suc i < n → (t : Term) → SinceAt n i t → SinceAt n (suc i) t
  unfolding since_of
  since-on n i l m t earlier k j = go (is_held ((before b p i).dictionary t)) refl (ℕ_discrete k (suc i))
    where
      low : is_held ((before b p i).dictionary t) ≡ true → since_of n ((before b p i).dictionary t) ≤ i
      low e = leb-true _ i (sym (earlier i (omega arith)) ∙ e)

      -- not held before, and now or still not
      new : is_held ((before b p i).dictionary t) ≡ false → k ≤ i → (x : Bool) → is_held ((before b p (suc i)).dictionary t) ≡ x
          → false ≡ leb (since_of n ((before b p (suc i)).dictionary t)) k
      new e q true f = sym (lt-leb _ k (let s = step-since n i l t e f in omega arith))
      new e q false f = sym (lt-leb _ k (let s = since-free n ((before b p (suc i)).dictionary t) f in omega arith))

      last : is_held ((before b p i).dictionary t) ≡ false → (x : Bool) → is_held ((before b p (suc i)).dictionary t) ≡ x
          → is_held ((before b p (suc i)).dictionary t) ≡ leb (since_of n ((before b p (suc i)).dictionary t)) (suc i)
      last e true f = f ∙ sym (le-leb _ (suc i) (let s = step-since n i l t e f in omega arith))
      last e false f = f ∙ sym (lt-leb _ (suc i) (let s = since-free n ((before b p (suc i)).dictionary t) f in omega arith))

      go : (x : Bool) → is_held ((before b p i).dictionary t) ≡ x → Dec (k ≡ suc i)
          → is_held ((before b p k).dictionary t) ≡ leb (since_of n ((before b p (suc i)).dictionary t)) k
      go true e (yes q) =
          let same = step_stays i l t e in
          rw q (ap is_held same ∙ e ∙ sym (le-leb _ (suc i) (let s = ap (since_of n) same in let o = low e in omega arith)))
      go true e (no q) = earlier k (omega arith) ∙ ap (λ x. leb (since_of n x) k) (sym (step_stays i l t e))
      go false e (yes q) = rw q (last e (is_held ((before b p (suc i)).dictionary t)) refl)
      go false e (no q) =
          earlier k (omega arith) ∙ lt-leb _ k (let s = since-free n ((before b p i).dictionary t) e in omega arith)
          ∙ new e (omega arith) (is_held ((before b p (suc i)).dictionary t)) refl

  since-before : (n i : ℕ) → i ≤ steps b → i < n → (t : Term) → SinceAt n i t
  since-before n zero l m t = since-start n m t
  since-before n (suc i) l m t = since-on n i (omega arith) m t (since-before n i (omega arith) (omega arith) t)

  module _ (r : ℕ) where
    abbrev since : ℕ
    since = since_of (steps b + 1) (source_of b p r)

    pub since-exact : (k : ℕ) → k ≤ steps b → is_held (holds_before (narration b) p k (term (table b) r)) ≡ leb since k
    unfolding source_of
    since-exact k l =
        ap (λ (δ : Dictionary). is_held (δ (term (table b) r))) (before-holds b p h k l)
        ∙ since-before (steps b + 1) (steps b) (omega arith) (omega arith) (term (table b) r) k l
        ∙ ap (λ (δ : Dictionary). leb (since_of (steps b + 1) (δ (term (table b) r))) k) (sym (before-holds b p h (steps b) (omega arith)))

    since-most : since ≤ steps b + 1
    unfolding since_of source_of
    since-most = go (is_held (source_of b p r)) refl
      where
        go : (x : Bool) → is_held (source_of b p r) ≡ x → since ≤ steps b + 1
        go true e = let m = leb-true since (steps b) (sym (since-exact (steps b) (omega arith)) ∙ e) in omega arith
        go false e = let m = since-free (steps b + 1) (source_of b p r) e in omega arith

    -- the fewest steps after which the row is held
    pub since-first : first (λ k. is_held (holds_before (narration b) p k (term (table b) r))) (steps b + 1) ≡ since
    since-first =
        let most = since-most in
        sym (first-is _ (steps b + 1) since most (λ k l. since-exact k (omega arith) ∙ lt-leb since k l)
        (λ l. since-exact since (omega arith) ∙ le-leb since since (omega arith)))
