-- The whole outcome of translating, for any words and any lent buffer: what is answered, and every lent word afterwards.
-- Document 01: "The first that applies, from top to bottom, is given. .. All lent words stay as they were." "On acceptance the answer
-- is the output's length; words past it are untouched." "12 is the last refusal tested".
use Rattle.std.specs.Prelude.{ℕ, ◌<◌, ◌≡◌, List, [], ◌∷◌, ◌++◌, length, ltb, eqb, Result, Ok, Err}
use Rattle.std.proofs.lemmas.List.Edits.{sets}
use Rattle.words.specs.Choice.{pick}
use Rattle.book.specs.Layout.{steps}
use Rattle.book.specs.Said.{Said, accepted, refusal_says}
use Rattle.book.specs.Said
use Rattle.book.specs.Valid.{Valid}
use Rattle.book.specs.Refusals.{Line, line, first_of, reading_table}
use Rattle.translation.specs.Narration.{Narration, narration}
use Rattle.translation.specs.Taken.{unplayable, stop_row, stop_number, Playable, NoDerivation, FirstStop}
use Rattle.translation.specs.Listing.{listing}
use Rattle.book.specs.declared.Refusal.{Refusal}
pub mod Laws
pub mod Returned

-- an atom would have to be made that can't: smallest step, and the first such row in building order. "10 and 13 share one line of the
-- order"
unfoldable pub stop_line : List ℕ → Line
stop_line b =
    record {
      number = stop_number (narration b);
      among = steps b;
      breaks = unplayable (narration b);
      place = λ s. s ∷ stop_row (narration b) s ∷ [];
    }

-- the output buffer is shorter than the output: length needed
unfoldable pub room_line : ℕ → ℕ → Line
room_line room need = line 12 1 (λ i. ltb room need) (λ i. need ∷ [])

-- refusals 1 to 10 and 13, with no buffer
unfoldable pub acceptance : List ℕ → Said
acceptance b = first_of (reading_table b ++ stop_line b ∷ []) accepted

unfoldable pub translation_says : List ℕ → List ℕ → Said
translation_says b out = first_of (reading_table b ++ stop_line b ∷ room_line (length out) (length (listing b)) ∷ []) (Said.said 0 (length (listing b) ∷ []))

pub record Outcome : Type 0 where
  pub says : Said
  pub lent : List ℕ

-- on acceptance the output ws is laid over the lent words; on refusal they all stay as they were
abbrev pub laid : Said → List ℕ → List ℕ → Outcome
laid s out ws = record { says = s; lent = pick (eqb s.number 0) (sets out 0 ws) out }

-- of the words b and the lent words out
unfoldable pub outcome : List ℕ → List ℕ → Outcome
outcome b out = laid (translation_says b out) out (listing b)

-- what a translation answers: the output's length, or why there is none
abbrev pub Answer : Type 0
Answer = Result ℕ Refusal

-- the paper's number and values of each answer
abbrev pub answer_says : Answer → Said
answer_says (Ok n) = Said.said 0 (n ∷ [])
answer_says (Err f) = refusal_says f

-- what came of a call: the answer as document 01 counts it, and the lent words afterwards
abbrev pub came : Answer → List ℕ → Outcome
came r new = record { says = answer_says r; lent = new }

-- ---- what is said of it
-- a book that refusals 1 to 10 and 13 let pass: valid, and each step can be played
pub record Plays (b : List ℕ) : Type 0 where
  pub valid : Valid b
  pub playable : (s : ℕ) → s < steps b → Playable (narration b) s

-- refusals 10 and 13: the smallest step with a message that has no derivation from what its sender holds by then and atoms that are nobody's
-- yet, which it may make; and the first atom in building order that it can't make, with the reason why: `Taken` or `Barred`
pub record Unplayable (why : Narration → ℕ → ℕ → Type 0) (b vs : List ℕ) : Type 0 where
  pub step : ℕ
  pub within : step < steps b
  pub none : NoDerivation (narration b) step
  pub smallest : (k : ℕ) → k < step → Playable (narration b) k
  pub atom : FirstStop (narration b) step (why (narration b) step)
  pub says : vs ≡ step ∷ stop_row (narration b) step ∷ []

-- some step has a message that has no derivation, whatever the others have
pub record SomeUnderived (b : List ℕ) : Type 0 where
  pub step : ℕ
  pub within : step < steps b
  pub none : NoDerivation (narration b) step

-- what a translator promises of the words b and the lent words out
abbrev pub Promise : List ℕ → List ℕ → Outcome → Type 0
Promise b out o = o ≡ outcome b out
