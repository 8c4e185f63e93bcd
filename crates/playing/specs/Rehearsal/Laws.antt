-- Laws of the rehearsal's outcome: refusals 1 to 10 and 13 are the book's; 10 to 13 are given exactly when documents 01 and 02 say so, and
-- else the schedule is played; a refusal changes no lent word; the events done are laid over the first words lent, and those past them
-- stay; no two outcomes keep one promise. Assumes nothing.
use Rattle.std.specs.Prelude.{ℕ, ◌≤◌, ◌<◌, List, [], ◌∷◌, ◌++◌, ◌↔◌, ◌⊎◌, ◌≡◌, refl, length, get_or, ltb, leb}
use Rattle.std.proofs.Common.{sym, ◌∙◌, arith, ltb-false, le-ltb, leb-false}
use Rattle.std.proofs.Math.Path.{ap}
use Rattle.std.proofs.Math.Decide.{dec_lt}
use Rattle.std.proofs.Math.ListN.{drop}
use Rattle.std.proofs.lemmas.List.Edits.{sets}
use Rattle.std.proofs.lemmas.Bool.{lt-leb}
use Rattle.words.specs.Run.Laws.{values_length, all_get_d, get_or-all}
use Rattle.book.specs.Layout.{parties}
use Rattle.book.specs.Said.{Said, said}
use Rattle.book.specs.Refusals.{line, here, first_of, verdict}
use Rattle.book.specs.Ruled.{Ruled, AllKeep, lines, Cause, Apart}
use Rattle.book.specs.Refusals.Laws.{append-keep, keep_append, apart-append, given, passed, caused, all_keep}
use Rattle.book.specs.Valid.{Valid}
use Rattle.book.specs.Valid.Laws.{nine}
use Rattle.translation.specs.Taken.{Taken, Barred}
use Rattle.translation.specs.Outcome.{stop_line, room_line, acceptance, Outcome, Unplayable, SomeUnderived, Plays}
use Rattle.translation.specs.Outcome.Laws.{room-line, ends_in_room, room-exact, room_says, fits-exact, laid-keeps, laid-lays, laid-past, stop-line, stop-other, ten, ten-apart, ten-lines, reading-exact, book-first, stop_line-10, stop_line-13, underived-exact, keep-plays, plays-keep}
use Rattle.playing.specs.Rehearsal.{events_done, most_moves, long_line, move_line, rehearsal_says, rehearsal, BadMoves, Named, RehearsalPromise}

-- ---- refusal 11
abbrev long-line : List ℕ → Ruled
long-line ms =
    record {
      line = line 11 1 (λ i. ltb most_moves (length ms)) (λ i. most_moves ∷ []);
      rule = λ i. length ms ≤ most_moves;
      exact = λ i. (λ e. ltb-false _ _ e, λ h. le-ltb _ _ h);
    }

abbrev move-line : ℕ → List ℕ → Ruled
move-line q ms =
    record {
      line = line 11 (length ms) (λ i. leb q (get_or ms i 0)) here;
      rule = λ i. get_or ms i 0 < q;
      exact = λ i. (λ e. leb-false _ _ e, λ h. lt-leb _ _ h);
    }

module _ (b ms : List ℕ) where
  -- ---- refusals 1 to 10 and 13 are the book's
  pub rehearsal-acceptance-first : (out : List ℕ) → ((acceptance b).number ≡ 0 → ⊥) → rehearsal_says b ms out ≡ acceptance b
  unfolding rehearsal_says
  rehearsal-acceptance-first out n = book-first b _ _ n

  -- ---- the lines before refusal 12
  abbrev moves : List Ruled
  moves = long-line ms ∷ move-line (parties b) ms ∷ []

  says-lines : (out : List ℕ) → rehearsal_says b ms out ≡ ends_in_room (ten b ++ moves) (length out) (parties b)
  unfolding rehearsal_says long_line move_line room_line
  says-lines out = ap (λ ls. first_of ls (said 0 (parties b ∷ []))) (ten-lines b _)

  keep_all : Plays b → length ms ≤ most_moves → Named (parties b) ms → AllKeep (ten b ++ moves)
  keep_all p l a = append-keep (ten b) moves (plays-keep b p) (λ i h. l, (all_get_d (λ q. q < parties b) ms a, tt))

  all-kept : AllKeep (ten b ++ moves) → Plays b × (length ms ≤ most_moves) × Named (parties b) ms
  all-kept k =
      let r = keep_append (ten b) moves k in
      (keep-plays b r.0, r.1.0 0 (omega arith), get_or-all (λ q. q < parties b) ms r.1.1.0)

  lines-apart : (n : ℕ) → (n ≡ 10 → ⊥) → (n ≡ 13 → ⊥) → Apart n (nine b) → Apart n moves → Apart n (ten b ++ moves)
  lines-apart n p q a m = apart-append n (ten b) moves (ten-apart b n p q a) m

  -- ---- each of refusals 1 to 9 is given exactly when the reader gives it
  pub rehearsal-exactly-reading : (out : List ℕ) (n : ℕ) → 0 < n → n ≤ 9 → (vs : List ℕ)
      → (rehearsal_says b ms out ≡ said n vs) ↔ (verdict b ≡ said n vs)
  unfolding rehearsal_says stop_line long_line move_line room_line
  rehearsal-exactly-reading out n p h vs =
      reading-exact b (stop-line b ∷ moves ++ room-line (length out) (parties b) ∷ []) (said 0 (parties b ∷ [])) n
      (stop-other b n (omega arith) (omega arith), omega arith) (omega arith) p vs

  -- ---- refusals 10 and 13
  pub rehearsal-exactly-10 : (out vs : List ℕ) → (rehearsal_says b ms out ≡ said 10 vs) ↔ (Valid b × Unplayable Taken b vs)
  rehearsal-exactly-10 out vs =
      let r = stop_line-10 b (moves ++ room-line (length out) (parties b) ∷ []) (said 0 (parties b ∷ [])) (omega arith) (omega arith) vs in
      (λ e. r.0 (sym (says-lines out) ∙ e), λ u. says-lines out ∙ r.1 u)

  pub rehearsal-exactly-13 : (out vs : List ℕ) → (rehearsal_says b ms out ≡ said 13 vs) ↔ (Valid b × Unplayable Barred b vs)
  rehearsal-exactly-13 out vs =
      let r = stop_line-13 b (moves ++ room-line (length out) (parties b) ∷ []) (said 0 (parties b ∷ [])) (omega arith) (omega arith) vs in
      (λ e. r.0 (sym (says-lines out) ∙ e), λ u. says-lines out ∙ r.1 u)

  -- a valid book's rehearsal is refused 10 or 13 exactly if some step has a message that has no derivation
  pub rehearsal-exactly-underived : Valid b → (out : List ℕ)
      → (((rehearsal_says b ms out).number ≡ 10) ⊎ ((rehearsal_says b ms out).number ≡ 13)) ↔ SomeUnderived b
  rehearsal-exactly-underived v out = underived-exact b (rehearsal_says b ms out) (rehearsal-exactly-10 out) (rehearsal-exactly-13 out) v

  -- ---- refusal 11
  cause-long : (vs : List ℕ) → most_moves < length ms → vs ≡ most_moves ∷ [] → Cause (long-line ms) vs
  cause-long vs h e = record { place = 0; within = omega arith; broken = λ l. omega arith; smallest = λ k l. absurd (omega arith); says = e }

  module _ (out vs : List ℕ) where
    abbrev behind : List Ruled
    behind = move-line (parties b) ms ∷ room-line (length out) (parties b) ∷ []

    abbrev rest : Said
    rest = said 0 (parties b ∷ [])

    bad-given : AllKeep (ten b) → BadMoves (parties b) ms vs → ends_in_room (ten b ++ moves) (length out) (parties b) ≡ said 11 vs
    bad-given k (BadMoves.long h e) = given (ten b) (long-line ms) behind rest vs k (cause-long vs h e)
    bad-given k (BadMoves.nameless l i h n s e) =
        given (ten b ++ long-line ms ∷ []) (move-line (parties b) ms) (room-line (length out) (parties b) ∷ []) rest vs
        (append-keep (ten b) (long-line ms ∷ []) k (λ i j. l, tt))
        (record { place = i; within = h; broken = λ j. omega arith; smallest = s; says = e })

    given-bad : first_of ((long-line ms).line ∷ lines behind) rest ≡ said 11 vs → BadMoves (parties b) ms vs
    given-bad e = elim (dec_lt most_moves (length ms)) [
      | yes h ↦
          BadMoves.long h (ap (λ (s : Said). s.values)
          (sym e ∙ given [] (long-line ms) behind rest (most_moves ∷ []) tt (cause-long (most_moves ∷ []) h refl)))
      | no h ↦
          let l : length ms ≤ most_moves = omega arith in
          let k = all_keep (long-line ms ∷ []) (lines behind) rest (λ i j. l, tt) in
          let c = (caused [] (move-line (parties b) ms) (room-line (length out) (parties b) ∷ []) rest vs tt (omega arith) (omega arith) (sym k ∙ e)).1.0 in
          BadMoves.nameless l c.place c.within (no-party c.place c.broken) c.smallest c.says
    ]
      where
        no-party : (i : ℕ) → (get_or ms i 0 < parties b → ⊥) → parties b ≤ get_or ms i 0
        no-party i n = elim (dec_lt (get_or ms i 0) (parties b)) [ yes h ↦ absurd (n h) | no h ↦ omega arith ]

    pub rehearsal-exactly-11 : (rehearsal_says b ms out ≡ said 11 vs) ↔ (Plays b × BadMoves (parties b) ms vs)
    rehearsal-exactly-11 = (
      λ e. (let r = passed 11 (ten b) ((long-line ms).line ∷ lines behind) rest vs
          (ten-apart b 11 (omega arith) (omega arith) (omega arith)) (sym (says-lines out) ∙ e) in
          (keep-plays b r.0, given-bad r.1)),
      λ u. says-lines out ∙ bad-given (plays-keep b u.0) u.1,
    )

  -- ---- refusal 12
  pub rehearsal-exactly-12 : (out vs : List ℕ) → (rehearsal_says b ms out ≡ said 12 vs)
      ↔ (Plays b × (length ms ≤ most_moves) × Named (parties b) ms × (length out < parties b) × (vs ≡ parties b ∷ []))
  rehearsal-exactly-12 out vs =
      let r = room-exact (ten b ++ moves) (length out) (parties b) (lines-apart 12 (omega arith) (omega arith) (omega arith) (omega arith)) vs in (
        λ e. (let z = r.0 (sym (says-lines out) ∙ e) in
            let k = all-kept z.0 in
            (k.0, k.1, k.2, z.1, z.2)),
        λ u. says-lines out ∙ r.1 (keep_all u.0 u.1 u.2, u.3, u.4),
      )

  -- ---- the schedule is played
  pub exactly-played : (out : List ℕ) → ((rehearsal_says b ms out).number ≡ 0)
      ↔ (Plays b × (length ms ≤ most_moves) × Named (parties b) ms × (parties b ≤ length out))
  exactly-played out =
      let n = ap (λ (s : Said). s.number) (says-lines out) in
      let r = fits-exact (ten b ++ moves) (length out) (parties b) (lines-apart 0 (omega arith) (omega arith) (omega arith) (omega arith)) in (
        λ e. (let z = r.0 (sym n ∙ e) in
            let k = all-kept z.0 in
            (k.0, k.1, k.2, z.1)),
        λ u. n ∙ r.1 (keep_all u.0 u.1 u.2, u.3),
      )

  pub played-says : (out : List ℕ) → Plays b → length ms ≤ most_moves → Named (parties b) ms → parties b ≤ length out
      → rehearsal_says b ms out ≡ said 0 (parties b ∷ [])
  played-says out p l a h = says-lines out ∙ room_says (ten b ++ moves) (length out) (parties b) (keep_all p l a) h

  -- and so with the length that is answered
  pub exactly-played-length : (out : List ℕ) → (rehearsal_says b ms out ≡ said 0 (parties b ∷ []))
      ↔ (Plays b × (length ms ≤ most_moves) × Named (parties b) ms × (parties b ≤ length out))
  exactly-played-length out =
      (λ e. (exactly-played out).0 (ap (λ (s : Said). s.number) e), λ u. played-says out u.0 u.1 u.2 u.3)

  -- a refusal changes no lent word
  pub rehearsal-keeps : (out : List ℕ) → ((rehearsal b ms out).says.number ≡ 0 → ⊥) → (rehearsal b ms out).lent ≡ out
  unfolding rehearsal
  rehearsal-keeps out n = laid-keeps (rehearsal_says b ms out) out (events_done b ms) n

  -- else the events done are laid over what was lent
  pub played-lays : (out : List ℕ) → (rehearsal b ms out).says.number ≡ 0 → (rehearsal b ms out).lent ≡ sets out 0 (events_done b ms)
  unfolding rehearsal
  played-lays out e = laid-lays (rehearsal_says b ms out) out (events_done b ms) e

  -- "The output is Q words"
  pub done-length : length (events_done b ms) ≡ parties b
  unfolding events_done
  done-length = values_length _ 0 (parties b)

  -- "words past it are untouched"
  pub played-past : (out : List ℕ) → (rehearsal b ms out).says.number ≡ 0 → (rehearsal b ms out).lent ≡ events_done b ms ++ drop (parties b) out
  unfolding rehearsal
  played-past out e =
      let r = (exactly-played out).0 e in
      let l = r.3 in
      let d = done-length in
      laid-past (rehearsal_says b ms out) out (events_done b ms) e (omega arith) ∙ ap (λ n. events_done b ms ++ drop n out) d

-- ---- no two outcomes keep one promise
pub rehearsal-one : (b ms out : List ℕ) (o p : Outcome) → RehearsalPromise b ms out o → RehearsalPromise b ms out p → o ≡ p
rehearsal-one b ms out o p e f = e ∙ sym f
