-- Laws of outcomes: each refusal of a translation is given exactly when document 01 says so; a refusal changes no lent word; on
-- acceptance the lent words are the listing and what was behind it; no two outcomes keep one promise. What the rehearsal has in
-- common with the translation is said once: refusals 1 to 10 and 13 first, refusal 12 as the last, and an output that is laid over the
-- lent words. Assumes nothing.
use Rattle.std.specs.Prelude.{ℕ, ◌+◌, ◌≤◌, ◌<◌, Bool, true, false, ◌↔◌, ◌⊎◌, ◌≡◌, length, drop, ltb, Ok, Err}
use mathlib.Core.List.{List, [], ◌∷◌, ◌++◌, append-nil}
use Rattle.std.proofs.Common.{inl, inr, ⊎_elim, ap₂, ◌∙◌, arith, ltb-false, le-ltb, ne_eqb, eq-eqb, eqb-true}
use Rattle.std.proofs.Math.Path.{refl, sym, ap}
use native.Mathlib.Decide.{ℕ_discrete}
use Rattle.std.proofs.lemmas.List.Edits.{sets, sets-eq}
use Rattle.std.proofs.lemmas.Bool.{eqb-false}
use Rattle.words.specs.Choice.Laws.{pick_true, pick-false}
use Rattle.words.specs.First.{first}
use Rattle.words.specs.First.Laws.{clash, first_holds, first-fails, any_at, any-first}
use Rattle.book.specs.Layout.{steps, mark, sender}
use Rattle.book.specs.Said as Said
use Rattle.book.specs.Said.{accepted, refusal_says}
use Rattle.book.specs.Said.Laws.{refusal-number}
use Rattle.book.specs.declared.Refusal.{Refusal}
use Rattle.book.specs.Refusals.{Line, line, first_of, reading_table, verdict}
use Rattle.book.specs.Ruled.{Ruled, AllKeep, lines, Cause, Apart}
use Rattle.book.specs.Refusals.Laws.{append-keep, keep_append, lines-append, apart-append, given, passed, caused, all_keep, none-given, first_of-none, first_of-stop}
use Rattle.book.specs.Valid.{Valid}
use Rattle.book.specs.Valid.Laws.{nine, reading-lines, keep-valid, valid-keep}
use Rattle.translation.specs.Narration.{Narration, narration}
use Rattle.translation.specs.Taken.{Taken, Barred, sender_makes, unplayable, stop_row, stop_number, Playable, FirstStop}
use Rattle.translation.specs.Taken.Laws.{sender-makes, playable-exact, unplayable-exact, stop-cases, ten-exact, thirteen-exact}
use Rattle.translation.specs.Listing.{listing}
use Rattle.translation.specs.Outcome.{stop_line, room_line, acceptance, translation_says, Outcome, laid, outcome, came, Plays, Unplayable, SomeUnderived, Promise}

-- ---- refusal 12 is the last, behind the lines xs: "No room is said only when there is none."
abbrev pub room-line : ℕ → ℕ → Ruled
room-line room need =
    record { line = line 12 1 (λ i. ltb room need) (λ i. need ∷ []); rule = λ i. need ≤ room; exact = λ i. (λ e. ltb-false _ _ e, λ h. le-ltb _ _ h) }

module _ (xs : List Ruled) (room need : ℕ) where
  abbrev pub ends_in_room : Said.Said
  ends_in_room = first_of (lines xs ++ ((room-line room need).line ∷ [])) (Said.said 0 (need ∷ []))

  pub room-exact : Apart 12 xs → (vs : List ℕ) → (ends_in_room ≡ Said.said 12 vs) ↔ (AllKeep xs × (room < need) × (vs ≡ need ∷ []))
  room-exact a vs = (
    λ e. (let z = caused xs (room-line room need) [] (Said.said 0 (need ∷ [])) vs a tt (omega arith) e in
        let c = z.1.0 in
        (z.0, less c.broken, c.says)),
    λ u. given xs (room-line room need) [] (Said.said 0 (need ∷ [])) vs u.0
        (record {
          place = 0;
          within = omega arith;
          broken = λ h. (let l = u.1 in absurd (omega arith));
          smallest =
              λ k h. absurd (omega arith);
          says = u.2;
        }),
  )
    where
      less : (need ≤ room → ⊥) → room < need
      less n = elim (native.Mathlib.Decide.dec_lt room need) [ yes h ↦ h | no h ↦ absurd (n (omega arith)) ]

  -- there is room
  pub room_says : AllKeep xs → need ≤ room → ends_in_room ≡ Said.said 0 (need ∷ [])
  room_says k h =
      all_keep xs ((room-line room need).line ∷ []) (Said.said 0 (need ∷ [])) k
      ∙ all_keep (room-line room need ∷ []) [] (Said.said 0 (need ∷ [])) (λ i l. h, tt)
      ∙ first_of-none (Said.said 0 (need ∷ []))

  pub fits-exact : Apart 0 xs → (ends_in_room.number ≡ 0) ↔ (AllKeep xs × (need ≤ room))
  fits-exact a = (
    λ e. (let k = none-given (xs ++ room-line room need ∷ []) (Said.said 0 (need ∷ [])) (apart-append 0 xs (room-line room need ∷ []) a (omega arith))
        (ap (λ (ls : List Line). (first_of ls (Said.said 0 (need ∷ []))).number) (lines-append xs (room-line room need ∷ [])) ∙ e) in
        let r = keep_append xs (room-line room need ∷ []) k in
        (r.0, r.1.0 0 (omega arith))),
    λ u. ap (λ (s : Said.Said). s.number) (room_says u.0 u.1),
  )

-- ---- an output is laid over the lent words
-- an outcome of its two parts
abbrev of : Said.Said → List ℕ → Outcome
of x l = record { says = x; lent = l }

module _ (s : Said.Said) (out ws : List ℕ) where
  pub laid-keeps : (s.number ≡ 0 → ⊥) → (laid s out ws).lent ≡ out
  laid-keeps n = pick-false _ _ _ (ne_eqb _ _ n)

  pub laid-lays : s.number ≡ 0 → (laid s out ws).lent ≡ sets out 0 ws
  laid-lays e = pick_true _ _ _ (eq-eqb _ _ e)

  pub laid-past : s.number ≡ 0 → length ws ≤ length out → (laid s out ws).lent ≡ ws ++ drop (length ws) out
  laid-past e l =
      let z : 0 + length ws ≡ length ws = omega arith in
      laid-lays e ∙ sets-eq ws out 0 (omega arith) ∙ ap (λ n. ws ++ drop n out) z

  -- what came of a call: a refusal, or the output's length
  pub came_refused : (f : Refusal) → s ≡ refusal_says f → came (Err f) out ≡ laid s out ws
  came_refused f e = ap₂ of (sym e) (sym (laid-keeps (λ z. refusal-number f (ap (λ (x : Said.Said). x.number) (sym e) ∙ z))))

  pub came-written : (new : List ℕ) (n : ℕ) → s ≡ Said.said 0 (n ∷ []) → new ≡ sets out 0 ws → came (Ok n) new ≡ laid s out ws
  came-written new n e l = ap₂ of (sym e) (l ∙ sym (laid-lays (ap (λ (x : Said.Said). x.number) e)))

-- ---- the lines of a translation with their rules
module _ (b : List ℕ) where
  abbrev pub stop-line : Ruled
  stop-line = record {
    line = record {
      number = stop_number (narration b);
      among = steps b;
      breaks = unplayable (narration b);
      place = λ s. s ∷ stop_row (narration b) s ∷ [];
    };
    rule =
        Playable (narration b);
    exact = playable-exact (narration b);
  }

  -- it has the numbers 10 and 13, and no other
  pub stop-other : (n : ℕ) → (n ≡ 10 → ⊥) → (n ≡ 13 → ⊥) → (i : ℕ) → stop_number (narration b) i ≡ n → ⊥
  stop-other n p q i e = ⊎_elim (λ z. p (sym e ∙ z)) (λ z. q (sym e ∙ z)) (stop-cases (narration b) i)

  -- refusals 1 to 10 and 13, in ten lines
  abbrev pub ten : List Ruled
  ten = nine b ++ stop-line ∷ []

  pub ten-apart : (n : ℕ) → (n ≡ 10 → ⊥) → (n ≡ 13 → ⊥) → Apart n (nine b) → Apart n ten
  ten-apart n p q a = apart-append n (nine b) (stop-line ∷ []) a (stop-other n p q, tt)

  abbrev pub written : Said.Said
  written = Said.said 0 (length (listing b) ∷ [])

  pub ten-lines : (ls : List Line) → reading_table b ++ stop_line b ∷ ls ≡ lines ten ++ ls
  unfolding stop_line
  ten-lines ls = rw (reading-lines b)

  says-lines : (out : List ℕ) → translation_says b out ≡ ends_in_room ten (length out) (length (listing b))
  unfolding translation_says stop_line room_line
  says-lines out = rw (reading-lines b)

  accept-lines : acceptance b ≡ first_of (lines ten) accepted
  unfolding acceptance stop_line
  accept-lines = rw (reading-lines b)

  -- ---- refusals 1 to 9 are the reader's
  pub reading-first : (out : List ℕ) → ((verdict b).number ≡ 0 → ⊥) → translation_says b out ≡ verdict b
  unfolding translation_says verdict
  reading-first out n = first_of-stop (reading_table b) (stop_line b ∷ room_line (length out) (length (listing b)) ∷ []) accepted written refl n

  -- and no other: whatever lines ys of other numbers stand behind
  pub reading-exact : (ys : List Ruled) (rest : Said.Said) (n : ℕ) → Apart n ys → (rest.number ≡ n → ⊥) → 0 < n → (vs : List ℕ)
      → (first_of (reading_table b ++ lines ys) rest ≡ Said.said n vs) ↔ (verdict b ≡ Said.said n vs)
  unfolding verdict
  reading-exact ys rest n a z p vs = (
    λ e. elim (ℕ_discrete (verdict b).number 0) [
      | yes q ↦
          let k = none-given (nine b) accepted (omega arith) (ap (λ (ls : List Line). (first_of ls accepted).number) (sym (reading-lines b)) ∙ q) in
          let f = sym (all_keep (nine b) (lines ys) rest k) ∙ ap (λ (ls : List Line). first_of (ls ++ lines ys) rest) (sym (reading-lines b)) ∙ e in
          let g = (passed n ys [] rest vs a (ap (λ (ls : List Line). first_of ls rest) (append-nil (lines ys)) ∙ f)).1 in
          absurd (z (ap (λ (s : Said.Said). s.number) (sym (first_of-none rest) ∙ g)))
      | no q ↦ sym (first_of-stop (reading_table b) (lines ys) accepted rest refl q) ∙ e
    ],
    λ e. first_of-stop (reading_table b) (lines ys) accepted rest refl
        (λ q. let m = sym (ap (λ (s : Said.Said). s.number) e) ∙ q in absurd (omega arith)) ∙ e,
  )

  -- each of refusals 1 to 9 is given exactly when the reader gives it
  pub exactly-reading : (out : List ℕ) (n : ℕ) → 0 < n → n ≤ 9 → (vs : List ℕ)
      → (translation_says b out ≡ Said.said n vs) ↔ (verdict b ≡ Said.said n vs)
  unfolding translation_says stop_line room_line
  exactly-reading out n p h vs =
      reading-exact (stop-line ∷ room-line (length out) (length (listing b)) ∷ []) written n
      (stop-other n (omega arith) (omega arith), omega arith) (omega arith) p vs

  pub accept-reading : (n : ℕ) → 0 < n → n ≤ 9 → (vs : List ℕ) → (acceptance b ≡ Said.said n vs) ↔ (verdict b ≡ Said.said n vs)
  unfolding acceptance stop_line
  accept-reading n p h vs = reading-exact (stop-line ∷ []) accepted n (stop-other n (omega arith) (omega arith), tt) (omega arith) p vs

  -- ---- refusals 1 to 10 and 13 are the book's, whatever lines ls stand behind
  pub book-first : (ls : List Line) (rest : Said.Said) → ((acceptance b).number ≡ 0 → ⊥) → first_of (reading_table b ++ stop_line b ∷ ls) rest
      ≡ acceptance b
  unfolding acceptance reading_table
  book-first ls rest n = first_of-stop (reading_table b ++ stop_line b ∷ []) ls accepted rest refl n

  pub book-came : (ls : List Line) (rest : Said.Said) (out ws : List ℕ) (f : Refusal) → refusal_says f ≡ acceptance b
      → came (Err f) out ≡ laid (first_of (reading_table b ++ stop_line b ∷ ls) rest) out ws
  book-came ls rest out ws f e =
      came_refused _ out ws f (book-first ls rest (λ z. refusal-number f (ap (λ (x : Said.Said). x.number) e ∙ z)) ∙ sym e)

  -- ---- refusals 10 and 13, the one for a taken atom and the other for a sender that makes nothing
  broken-unplayable : (k : ℕ) → (Playable (narration b) k → ⊥) → unplayable (narration b) k ≡ true
  broken-unplayable k n = go (unplayable (narration b) k) refl
    where
      go : (v : Bool) → unplayable (narration b) k ≡ v → unplayable (narration b) k ≡ true
      go true e = e
      go false e = absurd (n ((playable-exact (narration b) k).0 e))

  -- the reason why is what the number n says
  abbrev Means : ℕ → (Narration → ℕ → ℕ → Type 0) → Type 0
  Means n why = (k : ℕ) → unplayable (narration b) k ≡ true → (stop_number (narration b) k ≡ n) ↔ FirstStop (narration b) k (why (narration b) k)

  means-10 : Means 10 Taken
  means-10 = ten-exact (narration b)

  means-13 : Means 13 Barred
  means-13 = thirteen-exact (narration b)

  module _ {n : ℕ} {why : Narration → ℕ → ℕ → Type 0} (means : Means n why) where
    cause-unplayable : (vs : List ℕ) (c : Cause stop-line vs) → stop_number (narration b) c.place ≡ n → Unplayable why b vs
    cause-unplayable vs c e =
        record {
          step = c.place;
          within = c.within;
          none = (unplayable-exact (narration b) c.place).0 c.broken;
          smallest = c.smallest;
          atom = (means c.place (broken-unplayable c.place c.broken)).0 e;
          says = c.says;
        }

    unplayable-broken : {vs : List ℕ} (u : Unplayable why b vs) → Playable (narration b) u.step → ⊥
    unplayable-broken u = (unplayable-exact (narration b) u.step).1 u.none

    unplayable-cause : (vs : List ℕ) → Unplayable why b vs → Cause stop-line vs
    unplayable-cause vs u =
        record { place = u.step; within = u.within; broken = unplayable-broken u; smallest = u.smallest; says = u.says }

    unplayable-number : {vs : List ℕ} (u : Unplayable why b vs) → stop_number (narration b) u.step ≡ n
    unplayable-number u = (means u.step (broken-unplayable u.step (unplayable-broken u))).1 u.atom

    -- whatever lines ys stand behind
    line-exact : (ys : List Ruled) (rest : Said.Said) → Apart n (nine b) → Apart n ys → (rest.number ≡ n → ⊥) → (vs : List ℕ)
        → (first_of (lines (nine b) ++ (stop-line.line ∷ lines ys)) rest ≡ Said.said n vs) ↔ (Valid b × Unplayable why b vs)
    unfolding unplayable-cause
    line-exact ys rest p a z vs = (
      λ e. (let r = caused (nine b) stop-line ys rest vs p a z e in (keep-valid b r.0, cause-unplayable vs r.1.0 r.1.1)),
      λ u. given (nine b) stop-line ys rest vs (valid-keep b u.0) (unplayable-cause vs u.1)
          ∙ ap (λ k. Said.said k vs) (unplayable-number u.1),
    )

  -- of a valid book a sender that makes nothing is one marked 0, and a maker one marked 1
  pub maker-mark : Valid b → (s : ℕ) → s < steps b → (sender_makes (narration b) s ≡ true) ↔ (mark b (sender b s) ≡ 1)
  maker-mark v s h =
      let z = sender-makes b s h (v.steps_keep s h).sends in
      (λ e. eqb-true (mark b (sender b s)) 1 (sym z ∙ e), λ e. z ∙ eq-eqb (mark b (sender b s)) 1 e)

  pub nothing-mark : Valid b → (s : ℕ) → s < steps b → (sender_makes (narration b) s ≡ false) ↔ (mark b (sender b s) ≡ 0)
  nothing-mark v s h =
      let z = sender-makes b s h (v.steps_keep s h).sends in
      let low = (v.parties_keep (sender b s) (v.steps_keep s h).sends).marked in
      (λ e. (let n = eqb-false (mark b (sender b s)) 1 (sym z ∙ e) in omega arith), λ e. z ∙ ne_eqb (mark b (sender b s)) 1 (omega arith))

  pub stop_line-10 : (ys : List Ruled) (rest : Said.Said) → Apart 10 ys → (rest.number ≡ 10 → ⊥) → (vs : List ℕ)
      → (first_of (lines (nine b) ++ (stop-line.line ∷ lines ys)) rest ≡ Said.said 10 vs) ↔ (Valid b × Unplayable Taken b vs)
  stop_line-10 ys rest a z vs = line-exact means-10 ys rest (omega arith) a z vs

  pub stop_line-13 : (ys : List Ruled) (rest : Said.Said) → Apart 13 ys → (rest.number ≡ 13 → ⊥) → (vs : List ℕ)
      → (first_of (lines (nine b) ++ (stop-line.line ∷ lines ys)) rest ≡ Said.said 13 vs) ↔ (Valid b × Unplayable Barred b vs)
  stop_line-13 ys rest a z vs = line-exact means-13 ys rest (omega arith) a z vs

  pub exactly-10 : (out vs : List ℕ) → (translation_says b out ≡ Said.said 10 vs) ↔ (Valid b × Unplayable Taken b vs)
  exactly-10 out vs =
      let r = stop_line-10 (room-line (length out) (length (listing b)) ∷ []) written (omega arith) (omega arith) vs in
      (λ e. r.0 (sym (says-lines out) ∙ e), λ u. says-lines out ∙ r.1 u)

  pub exactly-13 : (out vs : List ℕ) → (translation_says b out ≡ Said.said 13 vs) ↔ (Valid b × Unplayable Barred b vs)
  exactly-13 out vs =
      let r = stop_line-13 (room-line (length out) (length (listing b)) ∷ []) written (omega arith) (omega arith) vs in
      (λ e. r.0 (sym (says-lines out) ∙ e), λ u. says-lines out ∙ r.1 u)

  -- the same with no buffer
  pub accept-10 : (vs : List ℕ) → (acceptance b ≡ Said.said 10 vs) ↔ (Valid b × Unplayable Taken b vs)
  accept-10 vs = let r = stop_line-10 [] accepted tt (omega arith) vs in (λ e. r.0 (sym accept-lines ∙ e), λ u. accept-lines ∙ r.1 u)

  pub accept-13 : (vs : List ℕ) → (acceptance b ≡ Said.said 13 vs) ↔ (Valid b × Unplayable Barred b vs)
  accept-13 vs = let r = stop_line-13 [] accepted tt (omega arith) vs in (λ e. r.0 (sym accept-lines ∙ e), λ u. accept-lines ∙ r.1 u)

  -- "refused exactly if": where some step has a message with no derivation, there is a smallest such step
  underived-unplayable : SomeUnderived b → (vs : List ℕ) × (Unplayable Taken b vs ⊎ Unplayable Barred b vs)
  underived-unplayable u =
      let t = unplayable (narration b) in
      let s = first t (steps b) in
      let here = broken-unplayable u.step ((unplayable-exact (narration b) u.step).1 u.none) in
      let l = any-first t (steps b) (any_at t (steps b) u.step u.within here) in
      let c : Cause stop-line (s ∷ stop_row (narration b) s ∷ []) =
      record {
        place = s;
        within = l;
        broken = λ p. clash (first_holds t (steps b) l) ((playable-exact (narration b) s).1 p);
        smallest = λ k h. (playable-exact (narration b) k).0 (first-fails t (steps b) k h);
        says = refl;
      } in (
        s ∷ stop_row (narration b) s ∷ [],
        ⊎_elim (λ e. inl (cause-unplayable means-10 _ c e)) (λ e. inr (cause-unplayable means-13 _ c e)) (stop-cases (narration b) s),
      )

  unplayable-underived : {why : Narration → ℕ → ℕ → Type 0} {vs : List ℕ} → Unplayable why b vs → SomeUnderived b
  unplayable-underived u = record { step = u.step; within = u.within; none = u.none }

  -- of whatever says 10 and 13 exactly for a valid and unplayable book
  pub underived-exact : (s : Said.Said) → ((vs : List ℕ) → (s ≡ Said.said 10 vs) ↔ (Valid b × Unplayable Taken b vs))
      → ((vs : List ℕ) → (s ≡ Said.said 13 vs) ↔ (Valid b × Unplayable Barred b vs)) → Valid b
      → ((s.number ≡ 10) ⊎ (s.number ≡ 13)) ↔ SomeUnderived b
  underived-exact s ten thirteen v = (
    λ e. ⊎_elim (λ d. unplayable-underived ((ten s.values).0 (ap (λ n. Said.said n s.values) d)).1)
        (λ d. unplayable-underived ((thirteen s.values).0 (ap (λ n. Said.said n s.values) d)).1) e,
    λ d. (let u = underived-unplayable d in
        ⊎_elim (λ w. inl (ap (λ (x : Said.Said). x.number) ((ten u.0).1 (v, w))))
        (λ w. inr (ap (λ (x : Said.Said). x.number) ((thirteen u.0).1 (v, w)))) u.1),
  )

  -- a valid book is refused 10 or 13 exactly if some step has a message that has no derivation
  pub exactly-underived : Valid b → (out : List ℕ)
      → (((translation_says b out).number ≡ 10) ⊎ ((translation_says b out).number ≡ 13)) ↔ SomeUnderived b
  exactly-underived v out = underived-exact (translation_says b out) (exactly-10 out) (exactly-13 out) v

  pub accept-underived : Valid b → (((acceptance b).number ≡ 10) ⊎ ((acceptance b).number ≡ 13)) ↔ SomeUnderived b
  accept-underived v = underived-exact (acceptance b) accept-10 accept-13 v

  -- ---- a playable book
  pub keep-plays : AllKeep ten → Plays b
  keep-plays k = let r = keep_append (nine b) (stop-line ∷ []) k in record { valid = keep-valid b r.0; playable = r.1.0 }

  pub plays-keep : Plays b → AllKeep ten
  plays-keep p = append-keep (nine b) (stop-line ∷ []) (valid-keep b p.valid) (p.playable, tt)

  pub accepted-plays : (acceptance b ≡ accepted) ↔ Plays b
  accepted-plays = (
    λ e. keep-plays (none-given ten accepted (ten-apart 0 (omega arith) (omega arith) (omega arith))
        (ap (λ (s : Said.Said). s.number) (sym accept-lines ∙ e))),
    λ p. accept-lines ∙ all_keep ten [] accepted (plays-keep p) ∙ first_of-none accepted,
  )

  -- ---- refusal 12
  pub exactly-12 : (out vs : List ℕ) → (translation_says b out ≡ Said.said 12 vs)
      ↔ (Plays b × (length out < length (listing b)) × (vs ≡ length (listing b) ∷ []))
  exactly-12 out vs =
      let r = room-exact ten (length out) (length (listing b)) (ten-apart 12 (omega arith) (omega arith) (omega arith)) vs in
      (λ e. (let z = r.0 (sym (says-lines out) ∙ e) in (keep-plays z.0, z.1, z.2)), λ u. says-lines out ∙ r.1 (plays-keep u.0, u.1, u.2))

  -- ---- acceptance
  pub exactly-written : (out : List ℕ) → ((translation_says b out).number ≡ 0) ↔ (Plays b × (length (listing b) ≤ length out))
  exactly-written out =
      let n = ap (λ (s : Said.Said). s.number) (says-lines out) in
      let r = fits-exact ten (length out) (length (listing b)) (ten-apart 0 (omega arith) (omega arith) (omega arith)) in
      (λ e. (let z = r.0 (sym n ∙ e) in (keep-plays z.0, z.1)), λ u. n ∙ r.1 (plays-keep u.0, u.1))

  pub written-says : (out : List ℕ) → Plays b → length (listing b) ≤ length out → translation_says b out ≡ written
  written-says out p h = says-lines out ∙ room_says ten (length out) (length (listing b)) (plays-keep p) h

  -- and so with the length that is answered
  pub exactly-written-length : (out : List ℕ) → (translation_says b out ≡ Said.said 0 (length (listing b) ∷ []))
      ↔ (Plays b × (length (listing b) ≤ length out))
  exactly-written-length out = (λ e. (exactly-written out).0 (ap (λ (s : Said.Said). s.number) e), λ u. written-says out u.0 u.1)

  -- a refusal changes no lent word
  pub refused-keeps : (out : List ℕ) → ((outcome b out).says.number ≡ 0 → ⊥) → (outcome b out).lent ≡ out
  unfolding outcome
  refused-keeps out n = laid-keeps (translation_says b out) out (listing b) n

  -- on acceptance the listing is laid over what was lent
  pub written-lays : (out : List ℕ) → (outcome b out).says.number ≡ 0 → (outcome b out).lent ≡ sets out 0 (listing b)
  unfolding outcome
  written-lays out e = laid-lays (translation_says b out) out (listing b) e

  -- "words past it are untouched"
  pub written-past : (out : List ℕ) → (outcome b out).says.number ≡ 0 → (outcome b out).lent ≡ listing b ++ drop (length (listing b)) out
  unfolding outcome
  written-past out e = laid-past (translation_says b out) out (listing b) e ((exactly-written out).0 e).1

-- ---- no two outcomes keep one promise
pub outcome-one : (b out : List ℕ) (o p : Outcome) → Promise b out o → Promise b out p → o ≡ p
outcome-one b out o p e f = e ∙ sym f
