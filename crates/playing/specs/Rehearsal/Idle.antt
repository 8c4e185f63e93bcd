-- Idle rehearsals. Document 01: "A rehearsal that reports made-up event counts breaks the plain machine." Each is caught: it breaks the
-- promise, which is one equation with `rehearsal`, at a computed input. One reports the same counts always (and so is any that doesn't
-- look at the schedule); one leaves the lent words as they were, whatever it answers; one does all else right and takes every move of
-- the schedule for an event done.
use Rattle.std.specs.Prelude.{ℕ, suc, List, [], ◌∷◌, ◌≡◌, refl, length, get_or, replicate, eqb}
use Rattle.std.proofs.Common.{sym, ap, ◌∙◌, arith}
use Rattle.std.proofs.lemmas.List.Edits.{sets}
use Rattle.words.specs.Choice.{pick}
use Rattle.words.specs.Run.{values}
use Rattle.book.specs.Layout.{parties}
use Rattle.book.specs.Said.{said}
use Rattle.translation.specs.Outcome.{Outcome}
use Rattle.agreement.specs.Example.{example_book}
use Rattle.playing.specs.Rehearsal.{rehearsal_says, RehearsalPromise}
use Rattle.playing.specs.Rehearsal.Rehearsals.{all_rehearsed}

-- of a book, a schedule and the lent words
abbrev pub Rehearser : Type 0
Rehearser = List ℕ → List ℕ → List ℕ → Outcome

-- it doesn't keep the promise for all words, schedules and lent words
abbrev pub RehearsalCaught : Rehearser → Type 0
RehearsalCaught f = ((b ms out : List ℕ) → RehearsalPromise b ms out (f b ms out)) → ⊥

-- it does the same under every schedule
abbrev pub IgnoresSchedule : Rehearser → Type 0
IgnoresSchedule f = (b ms ns out : List ℕ) → f b ms out ≡ f b ns out

-- it reports the same counts, whatever is handed in
unfoldable pub reports_always : List ℕ → Rehearser
reports_always ws b ms out = record { says = said 0 (length ws ∷ []); lent = sets out 0 ws }

-- it leaves all lent words as they were
abbrev pub RehearsalWritesNothing : Rehearser → Type 0
RehearsalWritesNothing f = (b ms out : List ℕ) → (f b ms out).lent ≡ out

-- the moves of the schedule that name party p
unfoldable pub times_named : List ℕ → ℕ → ℕ
times_named [] p = 0
times_named (m ∷ ms) p = pick (eqb m p) (suc (times_named ms p)) (times_named ms p)

-- every move counts as an event done
unfoldable pub counts_moves : Rehearser
counts_moves b ms out =
    let s = rehearsal_says b ms out in
    record { says = s; lent = pick (eqb s.number 0) (sets out 0 (values (times_named ms) 0 (parties b))) out }

-- what stands in word 0 of the lent words afterwards
first_word : Outcome → ℕ
first_word o = get_or o.lent 0 0

-- example 1 with two 9s lent: nobody moves; both are moved to END; A waits twice
pub ignores-schedule-caught : (f : Rehearser) → IgnoresSchedule f → RehearsalCaught f
unfolding all_rehearsed first_word
ignores-schedule-caught f n h =
    let ms : List ℕ = 1 ∷ 1 ∷ 0 ∷ 0 ∷ 1 ∷ 1 ∷ 1 ∷ 1 ∷ [] in
    let e : ◌≡◌ {A = ℕ} 0 2 =
    ap first_word (sym (h example_book [] (replicate 2 9)) ∙ n example_book [] ms (replicate 2 9) ∙ h example_book ms (replicate 2 9)) in
    omega arith

pub reports-always-caught : (ws : List ℕ) → RehearsalCaught (reports_always ws)
unfolding reports_always
reports-always-caught ws = ignores-schedule-caught (reports_always ws) (λ b ms ns out. refl)

pub rehearsal-writes-nothing-caught : (f : Rehearser) → RehearsalWritesNothing f → RehearsalCaught f
unfolding all_rehearsed first_word
rehearsal-writes-nothing-caught f n h =
    let e : ◌≡◌ {A = ℕ} 9 0 =
    ap (λ (l : List ℕ). get_or l 0 0) (sym (n example_book [] (replicate 2 9))) ∙ ap first_word (h example_book [] (replicate 2 9)) in
    omega arith

pub counts-moves-caught : RehearsalCaught counts_moves
unfolding all_rehearsed first_word counts_moves times_named
counts-moves-caught h = let e : ◌≡◌ {A = ℕ} 2 0 = ap first_word (h example_book (0 ∷ 0 ∷ 1 ∷ 1 ∷ []) (replicate 2 9)) in omega arith
