-- The rehearsal, and its whole outcome for any words, any schedule and any lent buffer. Document 01, 'The rehearsal': "Given a book and
-- a schedule of party numbers .., each move lets that party do its next event, or nothing if it is at END or waits for a step not yet
-- sent. The output is Q words: events done by each party, END not counted. .. The rehearsal is the case in which a sent step's copy is
-- handed over whenever its waiting receiver is moved." So a move of the rehearsal is a move of the plain machine, and the machine
-- starts from the programs that the listing's words spell. Refusal 11: "rehearsal only: more than 4,096 moves, or a move that names no
-- party", "4,096, else smallest bad move".
use Rattle.std.specs.Prelude.{ℕ, ◌≤◌, ◌<◌, List, [], ◌∷◌, ◌++◌, ◌≡◌, length, get_or, ltb, leb}
use Rattle.words.specs.Run.{All, values}
use Rattle.book.specs.Layout.{parties}
use Rattle.book.specs.Said.{Said, said}
use Rattle.book.specs.Refusals.{Line, line, here, first_of, reading_table}
use Rattle.translation.specs.Receive.{Event}
use Rattle.translation.specs.Standing.{standing, if_waits}
use Rattle.translation.specs.Narration.{narration}
use Rattle.translation.specs.Listing.{listing}
use Rattle.translation.specs.Outcome.{Outcome, stop_line, room_line, laid}
use Rattle.agreement.specs.Machine.{System, Move, move, started}
use Rattle.agreement.specs.Agree.{receiver_of}
pub mod Laws
pub mod Returned
pub mod Came
pub mod Rehearsals
pub mod Idle
pub mod Low

-- ---- the play
-- the move that party p makes with these events left: it takes the copy of the step that it waits for, or moves by itself
unfoldable pub move_of : ℕ → List Event → Move
move_of p es = if_waits (standing es) (λ s f n. Move.delivery s) (Move.own p)

-- the parties of a schedule move one after another
unfoldable pub played : (ℕ → ℕ) → List ℕ → System → System
played receiver [] S = S
played receiver (p ∷ ps) S = played receiver ps (move receiver (move_of p (S.party p).left) S)

-- of the book b under the schedule ms: the events done by each party
unfoldable pub events_done : List ℕ → List ℕ → List ℕ
events_done b ms = let S = played (receiver_of (narration b)) ms (started b (listing b)) in values (λ p. (S.party p).done) 0 (parties b)

-- ---- refusal 11
abbrev pub most_moves : ℕ
most_moves = 4096

-- more than 4,096 moves: 4,096
unfoldable pub long_line : List ℕ → Line
long_line ms = line 11 1 (λ i. ltb most_moves (length ms)) (λ i. most_moves ∷ [])

-- a move that names no party: smallest bad move
unfoldable pub move_line : ℕ → List ℕ → Line
move_line q ms = line 11 (length ms) (λ i. leb q (get_or ms i 0)) here

-- ---- refusals 1 to 10 and 13 are the book's, then 11, and 12 is the last
unfoldable pub rehearsal_says : List ℕ → List ℕ → List ℕ → Said
rehearsal_says b ms out =
    first_of (reading_table b ++ stop_line b ∷ long_line ms ∷ move_line (parties b) ms ∷ room_line (length out) (parties b) ∷ []) (said 0 (parties b ∷ []))

-- of the words b, the schedule ms and the lent words out
unfoldable pub rehearsal : List ℕ → List ℕ → List ℕ → Outcome
rehearsal b ms out = laid (rehearsal_says b ms out) out (events_done b ms)

-- ---- what is said of it, and proved in Laws
-- what it promises of the words b, the schedule ms and the lent words out
abbrev pub RehearsalPromise : List ℕ → List ℕ → List ℕ → Outcome → Type 0
RehearsalPromise b ms out o = o ≡ rehearsal b ms out

-- refusal 11 is due with the values vs: more than 4,096 moves; or at most that many, and place i is the smallest whose move names none
-- of the q parties
pub data BadMoves (q : ℕ) (ms vs : List ℕ) : Type 0 where
  long : most_moves < length ms → vs ≡ most_moves ∷ [] → BadMoves q ms vs
  nameless : length ms ≤ most_moves → (i : ℕ) → i < length ms → q ≤ get_or ms i 0
      → ((k : ℕ) → k < i → get_or ms k 0 < q) → vs ≡ i ∷ [] → BadMoves q ms vs

-- every move names a party
abbrev pub Named : ℕ → List ℕ → Type 0
Named q ms = All (λ p. p < q) ms
