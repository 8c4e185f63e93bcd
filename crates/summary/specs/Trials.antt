-- Trials of the summary, computed from the definitions: the summary of example 1's book, every answer from it against the full walk, what
-- is answered to words that are no summary and to questions out of range, and writing it into lent words, 9s.
use Rattle.std.specs.Prelude.{ℕ, ◌+◌, List, [], ◌∷◌, ◌≡◌, refl, get_or, replicate}
use Rattle.words.specs.Choice.{pick}
use Rattle.words.specs.Run.{values}
use Rattle.book.specs.Layout.{rows, parties, steps}
use Rattle.book.specs.Said.{Said, said}
use Rattle.translation.specs.Taken.{joined}
use Rattle.translation.specs.Outcome.{Outcome}
use Rattle.translation.specs.Trials.{trial, trials, computed}
use Rattle.summary.specs.Summary.{holds, held_from, summary, summary_says, summarized, misfits, length_line, question_line, answered, asked}

-- the third of the P trials: example 1 of source 000; and the fourth: B would have to make a taken atom
unfoldable pub example_book : List ℕ
unfolding trials
example_book = (get_or trials 2 (trial [] [] 0 [] [])).book

unfoldable pub unplayable_book : List ℕ
unfolding trials
unplayable_book = (get_or trials 3 (trial [] [] 0 [] [])).book

-- ---- the summary of example 1's book: both know the names and the key; B makes the nonce at step 0, and A stores it; the cipher that A
-- sends is built by one and opened by the other, and nobody has it in the dictionary
abbrev pub example_summary : List ℕ
example_summary =
    2 ∷ 5 ∷ 2
    ∷ 0 ∷ 0 ∷ 0 ∷ 1 ∷ 3
    ∷ 0 ∷ 0 ∷ 0 ∷ 1 ∷ 3
    ∷ []

pub example-summary : summary example_book ≡ example_summary
unfolding computed example_book summary held_from holds
example-summary = refl

-- every question: what is answered from the summary, and what the full walk says
unfoldable pub questions : (ℕ → ℕ → ℕ → Said) → List ℕ → List Said
questions f b = joined (values (λ p. joined (values (λ r. values (λ t. f p r t) 0 (steps b)) 0 (rows b))) 0 (parties b))

pub example-answers : questions (asked example_summary) example_book
    ≡ questions (λ p r t. said 0 (pick (holds example_book p r (t + 1)) 1 0 ∷ [])) example_book
unfolding computed example_book holds misfits length_line question_line answered asked questions
example-answers = refl

-- ---- words that are no summary, and questions out of range
pub record Asking : Type 0 where
  pub words : List ℕ
  pub party : ℕ
  pub row : ℕ
  pub step : ℕ
  pub wanted : Said

abbrev pub asking : List ℕ → ℕ → ℕ → ℕ → ℕ → List ℕ → Asking
asking s p r t n vs = record { words = s; party = p; row = r; step = t; wanted = said n vs }

unfoldable pub askings : List Asking
askings =
    -- no words, one and two
    asking [] 0 0 0 20 (0 ∷ [])
    ∷ asking (0 ∷ []) 0 0 0 20 (1 ∷ [])
    ∷ asking (0 ∷ 0 ∷ []) 0 0 0 20 (2 ∷ [])
    ∷  -- a word less than 3 + QT, and a word more
    asking (1 ∷ 2 ∷ 1 ∷ 0 ∷ []) 0 0 0 20 (4 ∷ [])
    ∷ asking (1 ∷ 2 ∷ 1 ∷ 0 ∷ 0 ∷ 0 ∷ []) 0 0 0 20 (6 ∷ [])
    ∷  -- the largest counts
    asking (4294967295 ∷ 4294967295 ∷ 4294967295 ∷ 0 ∷ []) 0 0 0 20 (4 ∷ [])
    ∷  -- 20 before 21
    asking (1 ∷ 2 ∷ 1 ∷ 0 ∷ []) 7 8 9 20 (4 ∷ [])
    ∷  -- party, row and step at their counts; the first of them is told
    asking (1 ∷ 2 ∷ 1 ∷ 0 ∷ 2 ∷ []) 1 0 0 21 (1 ∷ [])
    ∷ asking (1 ∷ 2 ∷ 1 ∷ 0 ∷ 2 ∷ []) 0 2 0 21 (2 ∷ [])
    ∷ asking (1 ∷ 2 ∷ 1 ∷ 0 ∷ 2 ∷ []) 0 1 1 21 (1 ∷ [])
    ∷ asking (1 ∷ 2 ∷ 1 ∷ 0 ∷ 2 ∷ []) 7 8 9 21 (7 ∷ [])
    ∷ asking (1 ∷ 2 ∷ 1 ∷ 0 ∷ 2 ∷ []) 0 8 9 21 (8 ∷ [])
    ∷  -- no party, no row, no step: whatever is asked is out of range
    asking (0 ∷ 9 ∷ 1 ∷ []) 0 0 0 21 (0 ∷ [])
    ∷ asking (9 ∷ 0 ∷ 1 ∷ []) 3 0 0 21 (0 ∷ [])
    ∷ asking (1 ∷ 1 ∷ 0 ∷ 0 ∷ []) 0 0 0 21 (0 ∷ [])
    ∷  -- words that no book's summary has are answered too: 1 is held after step 0, 2 is not
    asking (1 ∷ 2 ∷ 1 ∷ 1 ∷ 2 ∷ []) 0 0 0 0 (1 ∷ [])
    ∷ asking (1 ∷ 2 ∷ 1 ∷ 1 ∷ 2 ∷ []) 0 1 0 0 (0 ∷ [])
    ∷ []

unfoldable pub all_asked : List Asking → List Said
unfolding computed misfits length_line question_line answered asked
all_asked [] = []
all_asked (a ∷ more) = asked a.words a.party a.row a.step ∷ all_asked more

unfoldable pub asked_wanted : List Asking → List Said
asked_wanted [] = []
asked_wanted (a ∷ more) = a.wanted ∷ asked_wanted more

pub askings-hold : all_asked askings ≡ asked_wanted askings
unfolding all_asked asked_wanted askings
askings-hold = refl

-- ---- writing it: with room and a word to spare, a word short, for a refused book with no room, and for no book at all
abbrev wrote : ℕ → List ℕ → List ℕ → Outcome
wrote n vs lent = record { says = said n vs; lent = lent }

pub writing-holds : summarized example_book (replicate 14 9) ∷ summarized example_book (replicate 12 9)
    ∷ summarized unplayable_book (replicate 1 9) ∷ summarized [] (replicate 1 9) ∷ []
    ≡ wrote 0 (13 ∷ []) (2 ∷ 5 ∷ 2 ∷ 0 ∷ 0 ∷ 0 ∷ 1 ∷ 3 ∷ 0 ∷ 0 ∷ 0 ∷ 1 ∷ 3 ∷ 9 ∷ []) ∷ wrote 12 (13 ∷ []) (replicate 12 9)
    ∷ wrote 10 (1 ∷ 3 ∷ []) (replicate 1 9) ∷ wrote 1 (0 ∷ []) (replicate 1 9) ∷ []
unfolding computed example_book unplayable_book summary held_from holds summary_says summarized
writing-holds = refl
