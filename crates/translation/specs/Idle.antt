-- Four kinds of idle program. Document 01: "One that refuses all books, one that writes a constant listing, and one that writes nothing and
-- says "accepted" all break demand 2. One that translates the first step and skips the others would satisfy demand 3 alone." Each is
-- caught: it breaks the promise at a book of the P trials. The third says "accepted" or anything else: it is caught all the same. So are
-- the second and the fourth if they refuse rightly and are idle only where a book is accepted. A fifth takes no notice of which parties may
-- make atoms (document 02, [5]), and is caught at the trials of marks.
use Rattle.std.specs.Prelude.{ℕ, ◌+◌, ◌*◌, List, [], ◌∷◌, ◌≡◌, refl, length, get_or, take, replicate, eqb}
use Rattle.std.proofs.Common.{sym, ap, ◌∙◌, arith, ne_eqb}
use Rattle.std.proofs.lemmas.List.Edits.{sets}
use Rattle.words.specs.First.{any}
use Rattle.words.specs.Choice.{pick}
use Rattle.words.specs.Choice.Laws.{pick-false}
use Rattle.words.specs.Run.{values}
use Rattle.terms.specs.Table.{number}
use Rattle.book.specs.Layout.{at, width, begins, table, rows, parties}
use Rattle.book.specs.Said.{said}
use Rattle.translation.specs.Narration.{Narration, narration, program_of}
use Rattle.translation.specs.Listing.{program_words, framed}
use Rattle.translation.specs.Outcome.{Outcome, outcome, Promise}
use Rattle.translation.specs.Trials.{trial, trials, marks, computed}

abbrev pub Translator : Type 0
Translator = List ℕ → List ℕ → Outcome

-- it doesn't keep the promise for all words and lent words
abbrev pub Caught : Translator → Type 0
Caught f = ((b out : List ℕ) → Promise b out (f b out)) → ⊥

-- it refuses whatever is handed in
abbrev pub RefusesAll : Translator → Type 0
RefusesAll f = (b out : List ℕ) → (f b out).says.number ≡ 0 → ⊥

-- it writes the same words for every book
unfoldable pub writes_always : List ℕ → Translator
writes_always ws b out = record { says = said 0 (length ws ∷ []); lent = sets out 0 ws }

-- it leaves all lent words as they were
abbrev pub WritesNothing : Translator → Type 0
WritesNothing f = (b out : List ℕ) → (f b out).lent ≡ out

-- only the first step is translated
unfoldable pub first_step : Narration → Narration
first_step N = record { names = N.names; knows = N.knows; makes = N.makes; says = take 1 N.says }

unfoldable pub first_listing : List ℕ → List ℕ
first_listing b = framed (values (λ p. program_words (number (table b) (rows b)) (program_of (first_step (narration b)) p)) 0 (parties b))

unfoldable pub skips_steps : Translator
skips_steps b out = record { says = said 0 (length (first_listing b) ∷ []); lent = sets out 0 (first_listing b) }

-- the book with every party's mark 0; it takes no notice of marks if books that are the same so are the same to it
unfoldable pub unmarked : List ℕ → List ℕ
unmarked b = values (λ i. pick (any (λ p. eqb (begins b 1 + width 1 * p + 3) i) (parties b)) 0 (at b i)) 0 (length b)

abbrev pub IgnoresMarks : Translator → Type 0
IgnoresMarks f = (b c out : List ℕ) → unmarked b ≡ unmarked c → f b out ≡ f c out

-- it refuses rightly: wherever the right number isn't 0, its outcome is the right one; where it is 0, it does as f does
unfoldable pub refuses_rightly : Translator → Translator
refuses_rightly f b out = pick (eqb (outcome b out).says.number 0) (f b out) (outcome b out)

-- the smallest book, with 6 words lent, and example 1, with 54 (the first and third of the trials)
book-at : ℕ → List ℕ
book-at i = (get_or trials i (trial [] [] 0 [] [])).book

lent_at : ℕ → List ℕ
lent_at i = (get_or trials i (trial [] [] 0 [] [])).lent

-- what stands in word 0 of the lent words afterwards, and what is answered
first_word : Outcome → ℕ
first_word o = get_or o.lent 0 0

first-value : Outcome → ℕ
first-value o = get_or o.says.values 0 0

pub refuses-all-caught : (f : Translator) → RefusesAll f → Caught f
unfolding computed trials book-at lent_at
refuses-all-caught f r h = r (book-at 0) (lent_at 0) (ap (λ (o : Outcome). o.says.number) (h (book-at 0) (lent_at 0)))

pub writes-always-caught : (ws : List ℕ) → Caught (writes_always ws)
unfolding computed trials book-at lent_at writes_always first-value
writes-always-caught ws h =
    let d : length ws ≡ 5 = ap first-value (h (book-at 0) (lent_at 0)) in
    let e : length ws ≡ 52 = ap first-value (h (book-at 2) (lent_at 2)) in
    omega arith

pub writes-nothing-caught : (f : Translator) → WritesNothing f → Caught f
unfolding computed trials book-at lent_at first_word
writes-nothing-caught f n h =
    let e : ◌≡◌ {A = ℕ} 9 1 = ap (λ (l : List ℕ). get_or l 0 0) (sym (n (book-at 0) (lent_at 0))) ∙ ap first_word (h (book-at 0) (lent_at 0)) in
    omega arith

pub skips-steps-caught : Caught skips_steps
unfolding computed trials book-at lent_at skips_steps first_listing first_step first-value
skips-steps-caught h = let e : ◌≡◌ {A = ℕ} 23 52 = ap first-value (h (book-at 2) (lent_at 2)) in omega arith

-- a book that is refused 13, and the same with that party's mark 1 (the first two of the trials of marks)
marked-at : ℕ → List ℕ
marked-at i = (get_or marks i (trial [] [] 0 [] [])).book

pub ignores-marks-caught : (f : Translator) → IgnoresMarks f → Caught f
unfolding computed marks marked-at unmarked
ignores-marks-caught f n h =
    let out : List ℕ = replicate 23 9 in
    let same = sym (h (marked-at 0) out) ∙ n (marked-at 0) (marked-at 1) out refl ∙ h (marked-at 1) out in
    let e : ◌≡◌ {A = ℕ} 13 0 = ap (λ (o : Outcome). o.says.number) same in
    omega arith

-- ---- the same, of translators that refuse rightly; this is that they do
pub refuses-rightly-right : (f : Translator) (b out : List ℕ) → ((outcome b out).says.number ≡ 0 → ⊥) → Promise b out (refuses_rightly f b out)
unfolding refuses_rightly
refuses-rightly-right f b out n = pick-false _ _ _ (ne_eqb _ 0 n)

-- on acceptance, any words of its own choice, the same for every book
pub constant-on-acceptance-caught : (ws : List ℕ) → Caught (refuses_rightly (writes_always ws))
unfolding computed trials book-at lent_at refuses_rightly writes_always first-value
constant-on-acceptance-caught ws h =
    let d : length ws ≡ 5 = ap first-value (h (book-at 0) (lent_at 0)) in
    let e : length ws ≡ 52 = ap first-value (h (book-at 2) (lent_at 2)) in
    omega arith

-- on acceptance, the listing of the first step only
pub first-step-on-acceptance-caught : Caught (refuses_rightly skips_steps)
unfolding computed trials book-at lent_at refuses_rightly skips_steps first_listing first_step first-value
first-step-on-acceptance-caught h = let e : ◌≡◌ {A = ℕ} 23 52 = ap first-value (h (book-at 2) (lent_at 2)) in omega arith
