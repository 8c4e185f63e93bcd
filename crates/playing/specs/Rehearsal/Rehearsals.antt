-- Nine rehearsals: one statement over one table, computed from the definitions. Each line has the book's words, the schedule and the
-- lent words, 9s; and what is answered and lent afterwards. Document 01 asks for this of the P trials: "computed from the definitions by
-- a single statement over a single table".
use Rattle.std.specs.Prelude.{ℕ, List, [], ◌∷◌, ◌≡◌, refl, get_or, replicate}
use Rattle.book.specs.Said.{said}
use Rattle.translation.specs.Standing.{standing}
use Rattle.translation.specs.Outcome.{Outcome}
use Rattle.translation.specs.Trials.{trial, trials}
use Rattle.agreement.specs.Computing.{computes}
use Rattle.agreement.specs.Example.{example_book}
use Rattle.playing.specs.Rehearsal.{move_of, played, events_done, long_line, move_line, rehearsal_says, rehearsal}

pub record Rehearsing : Type 0 where
  pub book : List ℕ
  pub schedule : List ℕ
  pub lent : List ℕ
  pub wanted : Outcome

abbrev pub rehearsing : List ℕ → List ℕ → List ℕ → ℕ → List ℕ → List ℕ → Rehearsing
rehearsing b ms old n vs new = record { book = b; schedule = ms; lent = old; wanted = record { says = said n vs; lent = new } }

-- the fourth of the P trials: B would have to make a taken atom
unfoldable pub unplayable_book : List ℕ
unplayable_book = (get_or trials 3 (trial [] [] 0 [] [])).book

unfoldable pub rehearsals : List Rehearsing
rehearsals =
    -- nobody moves
    rehearsing example_book [] (replicate 3 9) 0 (2 ∷ []) (0 ∷ 0 ∷ 9 ∷ [])
    ∷  -- B makes its atom and sends, A receives and sends, B receives, opens and compares both contents: both are at END
    rehearsing example_book (1 ∷ 1 ∷ 0 ∷ 0 ∷ 1 ∷ 1 ∷ 1 ∷ 1 ∷ []) (replicate 3 9) 0 (2 ∷ []) (2 ∷ 6 ∷ 9 ∷ [])
    ∷  -- a party at END stays there
    rehearsing example_book (1 ∷ 1 ∷ 0 ∷ 0 ∷ 1 ∷ 1 ∷ 1 ∷ 1 ∷ 0 ∷ 1 ∷ []) (replicate 2 9) 0 (2 ∷ []) (2 ∷ 6 ∷ [])
    ∷  -- A waits for a step not yet sent
    rehearsing example_book (0 ∷ 0 ∷ 1 ∷ 1 ∷ []) (replicate 2 9) 0 (2 ∷ []) (0 ∷ 2 ∷ [])
    ∷  -- the smallest move that names no party
    rehearsing example_book (0 ∷ 2 ∷ 1 ∷ 7 ∷ []) (replicate 3 9) 11 (1 ∷ []) (replicate 3 9)
    ∷  -- more than 4,096 moves, whatever they name
    rehearsing example_book (7 ∷ replicate 4096 0) (replicate 3 9) 11 (4096 ∷ []) (replicate 3 9)
    ∷  -- refusal 12 is tested last
    rehearsing example_book (2 ∷ []) [] 11 (0 ∷ []) []
    ∷  -- room for one word
    rehearsing example_book (1 ∷ []) (replicate 1 9) 12 (2 ∷ []) (replicate 1 9)
    ∷  -- refusals of the book come before those of the schedule
    rehearsing unplayable_book (2 ∷ []) (replicate 1 9) 10 (1 ∷ 3 ∷ []) (replicate 1 9)
    ∷ []

-- what the definitions say of each
unfoldable pub all_rehearsed : List Rehearsing → List Outcome
unfolding computes standing move_of played events_done long_line move_line rehearsal_says rehearsal trials example_book unplayable_book
all_rehearsed [] = []
all_rehearsed (r ∷ rs) = rehearsal r.book r.schedule r.lent ∷ all_rehearsed rs

unfoldable pub all_wanted : List Rehearsing → List Outcome
all_wanted [] = []
all_wanted (r ∷ rs) = r.wanted ∷ all_wanted rs

pub rehearsals-hold : all_rehearsed rehearsals ≡ all_wanted rehearsals
unfolding all_rehearsed all_wanted rehearsals
rehearsals-hold = refl
