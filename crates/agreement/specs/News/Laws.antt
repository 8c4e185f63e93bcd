-- In a playable narration no atom is made by two steps, nor is a taken one. Assumes nothing.
use Prim.Native.Nat.{ℕ, zero, suc, ◌+◌, ◌≤◌, ◌<◌}
use Rattle.std.proofs.Common.{zero-add, le_trans, le_refl, ⊎_elim, ◌∙◌}
use Rattle.std.proofs.Math.Nat.{le-suc}
use Rattle.std.proofs.Math.Decide.{dec_lt}
use native.Mathlib.Omega.{arith}
use mathlib.Core.List.{List, [], ◌∷◌, ◌++◌, map, append-nil, Memᴰ}
use Rattle.std.specs.Prelude.{◌≡◌, refl, get_or, take, eqb}
use Rattle.std.proofs.Math.Path.{sym, ap, ap₂, subst}
use Rattle.std.proofs.Math.ListN.{length, length-append}
use Rattle.std.proofs.Math.Seq.{take-append_seam}
use borrow.Author.Tests.{eqb-true}
use Rattle.words.specs.Choice.Laws.{pick_ind}
use Rattle.words.specs.Run.{NoRepeat}
use Rattle.words.specs.Run.Laws.{no-repeat-append}
use Rattle.terms.specs.Term.{Term, Terms, count, listed, Occurs, OccursIn}
use Rattle.terms.specs.Image.{Images}
use Rattle.translation.specs.Dictionary.{Dictionary, start}
use Rattle.translation.specs.Build.{build_all}
use Rattle.translation.specs.Build.Laws.{build_all-makes, derives_all-free}
use Rattle.translation.specs.Receive.{Event, Did, followed, receive_all}
use Rattle.translation.proofs.Receive.Laws.{Quiet, receive_all-quiet}
use Rattle.translation.specs.Program.{Step, Act, acts_of, act, walk, walked, program}
use Rattle.translation.proofs.Program.Laws.{acts-append, walk-append}
use Rattle.translation.specs.Narration.{Narration, known_to, program_of}
use Rattle.translation.specs.Taken.{Taken, Nobodys, step_of, holds_before, made_at, Makeable, Playable}
use Rattle.agreement.specs.Acts.Laws.{step-seam, split-on, length-on}
use Rattle.agreement.specs.News.{news, MadeFrom}

-- ---- news
news-append : (es fs : List Event) → news (es ++ fs) ≡ news es ++ news fs
unfolding news
news-append [] fs = refl
news-append (Event.new r ∷ es) fs = ap (λ l. r ∷ l) (news-append es fs)
news-append (Event.sends s is ∷ es) fs = news-append es fs
news-append (Event.receives s f n ∷ es) fs = news-append es fs
news-append (Event.checks x i ∷ es) fs = news-append es fs
news-append (Event.opens x f n i ∷ es) fs = news-append es fs
news-append (Event.ends ps ∷ es) fs = news-append es fs

news-quiet : {es : List Event} → Quiet es → news es ≡ []
unfolding news
news-quiet Quiet.nil = refl
news-quiet (Quiet.checks h) = news-quiet h
news-quiet (Quiet.opens h) = news-quiet h

news-new : (rs : List ℕ) (s : ℕ) (is : Images) → news (map Event.new rs ++ Event.sends s is ∷ []) ≡ rs
unfolding news
news-new [] s is = refl
news-new (r ∷ rs) s is = ap (λ l. r ∷ l) (news-new rs s is)

news-sends : (s : ℕ) (ts : Terms) (δ : Dictionary) (n : ℕ) → news (walk (Act.sends s ts ∷ []) δ n).events ≡ (build_all s ts δ).made
unfolding walk act
news-sends s ts δ n =
    let b = build_all s ts δ in ap news (append-nil (map Event.new b.made ++ Event.sends s b.images ∷ [])) ∙ news-new b.made s b.images

news-receives : (s : ℕ) (ts : Terms) (δ : Dictionary) (n : ℕ) → news (walk (Act.receives s ts ∷ []) δ n).events ≡ []
unfolding walk act news
news-receives s ts δ n = let d = receive_all s ts n δ (n + count ts) in ap news (append-nil d.events) ∙ news-quiet (receive_all-quiet s ts n δ (n + count ts))

news-idle : (δ : Dictionary) (n : ℕ) → news (walk [] δ n).events ≡ []
unfolding walk news
news-idle δ n = refl

-- ---- a program makes what its party's steps make
module _ (N : Narration) (p : ℕ) where
  -- what the party has done before a step
  abbrev done_before : List Step → Did
  done_before before = walked (known_to N p) (acts_of p 0 before)

  -- what it does at the step behind these
  abbrev done_at : List Step → Step → Did
  done_at before a = walk (acts_of p (length before) (a ∷ [])) (done_before before).dictionary (length (done_before before).given)

  on : (before : List Step) (a : Step) → done_before (before ++ a ∷ []) ≡ followed (done_before before) (done_at before a)
  unfolding walked
  on before a =
      ap (λ acts. walk acts (start (known_to N p)) 0)
      (acts-append p 0 before (a ∷ []) ∙ ap (λ n. acts_of p 0 before ++ acts_of p n (a ∷ [])) (zero-add (length before)))
      ∙ walk-append (acts_of p 0 before) (acts_of p (length before) (a ∷ [])) (start (known_to N p)) 0
      ∙ ap (λ n. followed (done_before before) (walk (acts_of p (length before) (a ∷ [])) (done_before before).dictionary n)) (zero-add _)

  data MadeHere (before : List Step) : List ℕ → Type 0 where
    sends : (step_of N (length before)).sender ≡ p → MadeHere before (made_at N (length before))
    idles : MadeHere before []

  -- what the party holds before its step is what refusals 10 and 13 look at
  holds-before : (before later : List Step) → N.says ≡ before ++ later → holds_before N p (length before) ≡ (done_before before).dictionary
  unfolding holds_before
  holds-before before later e = ap (λ l. (done_before l).dictionary) (ap (take (length before)) e ∙ take-append_seam before later)

  made-here : (before : List Step) (a : Step) (later : List Step) → N.says ≡ before ++ a ∷ later → MadeHere before (news (done_at before a).events)
  unfolding acts_of
  made-here before a later e =
      let k = length before in
      let B = done_before before in
      let n = length B.given in
      pick_ind (λ acts. MadeHere before (news (walk acts B.dictionary n).events)) (eqb a.sender p) _ _
      (λ c.
      let z = step-seam N before a later e in
      let q : (step_of N k).sender ≡ p = ap (λ (b : Step). b.sender) z ∙ eqb-true _ _ c in
      subst (MadeHere before) (made z q ∙ sym (news-sends k a.messages B.dictionary n)) (MadeHere.sends q))
      (λ c. pick_ind (λ acts. MadeHere before (news (walk acts B.dictionary n).events)) (eqb a.receiver p) _ _
      (λ d. subst (MadeHere before) (sym (news-receives k a.messages B.dictionary n)) MadeHere.idles)
      (λ d. subst (MadeHere before) (sym (news-idle B.dictionary n)) MadeHere.idles))
    where
      made : step_of N (length before) ≡ a → (step_of N (length before)).sender ≡ p
          → made_at N (length before) ≡ (build_all (length before) a.messages (done_before before).dictionary).made
      made z q =
          unfold made_at in
          ap₂ (λ (b : Step) (h : Dictionary). (build_all (length before) b.messages h).made) z
          (ap (λ r. holds_before N r (length before)) q ∙ holds-before before (a ∷ later) e)

  here-then : {before : List Step} {rs qs : List ℕ} → length before < length N.says → MadeHere before rs → MadeFrom N p (suc (length before)) qs
      → MadeFrom N p (length before) (rs ++ qs)
  here-then l (MadeHere.sends e) r = MadeFrom.sends l e r
  here-then l MadeHere.idles r = MadeFrom.idles r

  made-from : (before later : List Step) → N.says ≡ before ++ later
      → MadeFrom N p (length before)
      (news (walk (acts_of p (length before) later) (done_before before).dictionary (length (done_before before).given)).events)
  unfolding acts_of walk news
  made-from before [] e = MadeFrom.nothing
  made-from before (a ∷ later) e =
      let B = done_before before in
      let D = done_at before a in
      let n = length B.given in
      let k = length before in
      let l = ap length e ∙ length-append before (a ∷ later) in
      let g = length-append B.given D.given in
      let one : k + 1 ≡ suc k = omega arith in
      let w : walk (acts_of p k (a ∷ later)) B.dictionary n ≡ followed D (walk (acts_of p (suc k) later) D.dictionary (n + length D.given)) =
      ap (λ acts. walk acts B.dictionary n) (acts-append p k (a ∷ []) later ∙ ap (λ m. acts_of p k (a ∷ []) ++ acts_of p m later) one)
      ∙ walk-append (acts_of p k (a ∷ [])) (acts_of p (suc k) later) B.dictionary n in
      let C = done_before (before ++ a ∷ []) in
      let again = made-from (before ++ a ∷ []) later (split-on N before a later e) in
      let rest : MadeFrom N p (suc k) (news (walk (acts_of p (suc k) later) D.dictionary (n + length D.given)).events) =
      subst (λ m. MadeFrom N p (suc k) (news (walk (acts_of p (suc k) later) D.dictionary m).events)) g
      (subst (λ (d : Did). MadeFrom N p (suc k) (news (walk (acts_of p (suc k) later) d.dictionary (length d.given)).events)) (on before a)
      (subst (λ m. MadeFrom N p m (news (walk (acts_of p m later) C.dictionary (length C.given)).events)) (length-on N before a) again)) in
      subst (MadeFrom N p k) (sym (ap (λ (d : Did). news d.events) w ∙ news-append D.events _))
      (here-then (omega arith) (made-here before a later e) rest)

  program-makes : MadeFrom N p 0 (news (program_of N p))
  unfolding program_of program walked acts_of walk news
  program-makes =
      let d = walked (known_to N p) (acts_of p 0 N.says) in
      subst (MadeFrom N p 0) (sym (news-append d.events (Event.ends d.stored ∷ []) ∙ append-nil (news d.events))) (made-from [] N.says refl)

-- ---- a message's atoms are taken from the next step on
listed-occurs : {r : ℕ} {ts : Terms} → OccursIn r ts → (t : Term) × Memᴰ t (listed ts) × Occurs r t
unfolding listed
listed-occurs (OccursIn.here {t = t} h) = (t, mathlib.Core.List.Memᴰ.head refl, h)
listed-occurs (OccursIn.later h) = let z = listed-occurs h in (z.0, mathlib.Core.List.Memᴰ.tail z.1, z.2)

take-member : {A : Type 0} (l : List A) (s t : ℕ) (d : A) → s < t → s < length l → Memᴰ (get_or l s d) (take t l)
take-member [] s t d b c = absurd (omega arith)
take-member (x ∷ l) s zero d b c = absurd (omega arith)
take-member (x ∷ l) zero (suc t) d b c = mathlib.Core.List.Memᴰ.head refl
take-member (x ∷ l) (suc s) (suc t) d b c = mathlib.Core.List.Memᴰ.tail (take-member l s t d (omega arith) (omega arith))

module _ (N : Narration) where
  taken-after : (s t r : ℕ) → s < t → s < length N.says → OccursIn r (step_of N s).messages → Taken N t r
  unfolding step_of
  taken-after s t r b c o = let z = listed-occurs o in Taken.earlier (take-member N.says s t _ b c) z.1 z.2

  -- an atom that is free at a step was free at the start
  nobodys-start : (s r : ℕ) → Nobodys N s r → Nobodys N 0 r
  nobodys-start s r n (Taken.name m o) = n (Taken.name m o)
  nobodys-start s r n (Taken.known m k o) = n (Taken.known m k o)
  nobodys-start s r n (Taken.earlier m k o) = absurd (mathlib.Core.List.Memᴰ.not-nil m)

  -- party p makes the atom r at a step from `low` on
  record Makes (p low r : ℕ) : Type 0 where
    pub step : ℕ
    pub from : low ≤ step
    pub within : step < length N.says
    pub sender : (step_of N step).sender ≡ p
    pub member : Memᴰ r (made_at N step)

  from-makes : {p low r : ℕ} {rs : List ℕ} → MadeFrom N p low rs → Memᴰ r rs → Makes p low r
  from-makes MadeFrom.nothing m = absurd (mathlib.Core.List.Memᴰ.not-nil m)
  from-makes {p} {low} {r} (MadeFrom.sends {rs = rs} l e h) m =
      let rest : Memᴰ r rs → Makes p (suc low) r = λ x. from-makes h x in
      ⊎_elim (λ x. record { step = low; from = le_refl low; within = l; sender = e; member = x })
      (λ x. let z = rest x in record { step = z.step; from = le_trans (le-suc low) z.from; within = z.within; sender = z.sender; member = z.member })
      (mathlib.Core.List.Memᴰ.append_cases (made_at N low) m)
  from-makes {low = low} (MadeFrom.idles h) m =
      let z = from-makes h m in record { step = z.step; from = le_trans (le-suc low) z.from; within = z.within; sender = z.sender; member = z.member }

  -- ---- in a playable narration
  module _ (plays : (s : ℕ) → s < length N.says → Playable N s) where
    made-free : (s r : ℕ) → s < length N.says → Memᴰ r (made_at N s) → Nobodys N s r
    unfolding made_at
    made-free s r l m = (derives_all-free (Makeable N s) s (step_of N s).messages _ (plays s l) r m).nobodys

    made-occurs : (s r : ℕ) → Memᴰ r (made_at N s) → OccursIn r (step_of N s).messages
    unfolding made_at
    made-occurs s r m = (build_all-makes s (step_of N s).messages _).within r m

    made-once : (s : ℕ) → NoRepeat (made_at N s)
    unfolding made_at
    made-once s = (build_all-makes s (step_of N s).messages _).once

    two_steps : (s t r : ℕ) → s < t → t < length N.says → Memᴰ r (made_at N s) → Memᴰ r (made_at N t) → ⊥
    two_steps s t r b l m n = made-free t r l n (taken-after s t r b (omega arith) (made-occurs s r m))

    one-step : (s t r : ℕ) → s < length N.says → t < length N.says → Memᴰ r (made_at N s) → Memᴰ r (made_at N t) → s ≡ t
    one-step s t r k l m n =
        elim (dec_lt s t) [
          | yes b ↦ absurd (two_steps s t r b l m n)
          | no b ↦ elim (dec_lt t s) [ yes c ↦ absurd (two_steps t s r c k n m) | no c ↦ omega arith ]
        ]

    from-once : {p low : ℕ} {rs : List ℕ} → MadeFrom N p low rs → NoRepeat rs
    from-once MadeFrom.nothing = tt
    from-once {low = low} (MadeFrom.sends {rs = rs} l e h) =
        no-repeat-append (made_at N low) rs (made-once low) (from-once h)
        (λ r m n. let z = from-makes h n in two_steps low z.step r z.from z.within m z.member)
    from-once (MadeFrom.idles h) = from-once h

    -- what a program makes is nobody's at the start, is made once, and by no other party's program
    pub program-free : (p r : ℕ) → Memᴰ r (news (program_of N p)) → Nobodys N 0 r
    program-free p r m = let z = from-makes (program-makes N p) m in nobodys-start z.step r (made-free z.step r z.within z.member)

    pub program-once : (p : ℕ) → NoRepeat (news (program_of N p))
    program-once p = from-once (program-makes N p)

    pub program-apart : (p q r : ℕ) → Memᴰ r (news (program_of N p)) → Memᴰ r (news (program_of N q)) → p ≡ q
    program-apart p q r m n =
        let x = from-makes (program-makes N p) m in
        let y = from-makes (program-makes N q) n in
        sym x.sender ∙ ap (λ s. (step_of N s).sender) (one-step x.step y.step r x.within y.within x.member y.member) ∙ y.sender
