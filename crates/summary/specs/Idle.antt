-- Idle writers and idle askers. Each is caught: it breaks the promise at a computed input. A writer that leaves the lent words as they were,
-- whatever it answers, and one that does the same for every book; an asker that doesn't look at the step, as one that always says yes, and
-- one that doesn't look at the summary's words behind its counts.
use Rattle.std.specs.Prelude.{ℕ, List, [], ◌∷◌, ◌≡◌, get_or, replicate}
use Rattle.std.proofs.Common.{sym, ap, ◌∙◌, arith}
use Rattle.book.specs.Said.{Said}
use Rattle.translation.specs.Outcome.{Outcome}
use Rattle.translation.specs.Trials.{computed}
use Rattle.summary.specs.Summary.{holds, held_from, summary, summary_says, summarized, misfits, length_line, question_line, answered, asked}
use Rattle.summary.specs.Trials.{example_book, unplayable_book}

-- ---- writers: of a book and the lent words
abbrev pub Writer : Type 0
Writer = List ℕ → List ℕ → Outcome

-- it doesn't keep the promise for all words and lent words
abbrev pub WriterCaught : Writer → Type 0
WriterCaught f = ((b out : List ℕ) → f b out ≡ summarized b out) → ⊥

-- example 1 with thirteen 9s lent: its summary begins with the two parties
pub writer-writes-nothing-caught : (f : Writer) → ((b out : List ℕ) → (f b out).lent ≡ out) → WriterCaught f
unfolding computed example_book summary held_from holds summary_says summarized
writer-writes-nothing-caught f n h =
    let e : ◌≡◌ {A = ℕ} 9 2 =
    ap (λ (l : List ℕ). get_or l 0 0) (sym (n example_book (replicate 13 9))) ∙ ap (λ (o : Outcome). get_or o.lent 0 0) (h example_book (replicate 13 9)) in
    omega arith

-- a book that plays, and one that doesn't
pub ignores-book-caught : (f : Writer) → ((b c out : List ℕ) → f b out ≡ f c out) → WriterCaught f
unfolding computed example_book unplayable_book summary held_from holds summary_says summarized
ignores-book-caught f n h =
    let e : ◌≡◌ {A = ℕ} 0 10 =
    ap (λ (o : Outcome). o.says.number)
    (sym (h example_book (replicate 13 9)) ∙ n example_book unplayable_book (replicate 13 9) ∙ h unplayable_book (replicate 13 9)) in
    omega arith

-- ---- askers: of a summary, a party, a row and a step
abbrev pub Asker : Type 0
Asker = List ℕ → ℕ → ℕ → ℕ → Said

abbrev pub AskerCaught : Asker → Type 0
AskerCaught f = ((s : List ℕ) (p r t : ℕ) → f s p r t ≡ asked s p r t) → ⊥

-- what is answered: 1 is yes
answer : Said → ℕ
answer s = get_or s.values 0 0

-- one party and one row, of two steps: held after step 1, and not after step 0
pub ignores-step-caught : (f : Asker) → ((s : List ℕ) (p r t u : ℕ) → f s p r t ≡ f s p r u) → AskerCaught f
unfolding computed answer misfits length_line question_line answered asked
ignores-step-caught f n h =
    let s : List ℕ = 1 ∷ 1 ∷ 2 ∷ 2 ∷ [] in
    let e : ◌≡◌ {A = ℕ} 0 1 = ap answer (sym (h s 0 0 0) ∙ n s 0 0 0 1 ∙ h s 0 0 1) in
    omega arith

-- the same counts, and a row that is given at the start or never held
pub ignores-words-caught : (f : Asker)
    → ((q w l x y : ℕ) (p r t : ℕ) → f (q ∷ w ∷ l ∷ x ∷ []) p r t ≡ f (q ∷ w ∷ l ∷ y ∷ []) p r t) → AskerCaught f
unfolding computed answer misfits length_line question_line answered asked
ignores-words-caught f n h =
    let e : ◌≡◌ {A = ℕ} 1 0 = ap answer (sym (h (1 ∷ 1 ∷ 2 ∷ 0 ∷ []) 0 0 0) ∙ n 1 1 2 0 3 0 0 0 ∙ h (1 ∷ 1 ∷ 2 ∷ 3 ∷ []) 0 0 0) in
    omega arith
