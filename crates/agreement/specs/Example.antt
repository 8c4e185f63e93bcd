-- Demand 3 speaks of something: example 1 of source 000, whole, from the words of its book. It is accepted; its listing's words spell
-- programs that run to END, A with 2 events done and B with 6, by eight moves that each get something done.
use Rattle.std.specs.Prelude.{ℕ, List, [], ◌∷◌, ◌≡◌, refl, get_or}
use Rattle.terms.specs.Term.{Term}
use Rattle.book.specs.Layout.{parties}
use Rattle.translation.specs.Receive.{Event}
use Rattle.translation.specs.Narration.{narration}
use Rattle.translation.specs.Outcome.{outcome}
use Rattle.translation.specs.Trials.{trial, trials}
use Rattle.agreement.specs.Machine.{System, Move, started, Reach}
use Rattle.agreement.specs.Agree.{receiver_of, Agree}
use Rattle.agreement.specs.Agree.Laws.{parties-agree}
use Rattle.agreement.specs.Sequence.{sequence, sequence-reach}
use Rattle.agreement.specs.Computing.{computes}

-- the third of the P trials: its book, and the lent words
unfoldable pub example_book : List ℕ
example_book = (get_or trials 2 (trial [] [] 0 [] [])).book

unfoldable pub example_lent : List ℕ
example_lent = (get_or trials 2 (trial [] [] 0 [] [])).lent

pub example-accepted : (outcome example_book example_lent).says.number ≡ 0
unfolding computes trials example_book example_lent
example-accepted = refl

-- B makes its atom and sends, A receives and sends, B receives, opens and compares both contents
unfoldable pub example_moves : List Move
example_moves = Move.own 1 ∷ Move.own 1 ∷ Move.delivery 0 ∷ Move.own 0 ∷ Move.delivery 1 ∷ Move.own 1 ∷ Move.own 1 ∷ Move.own 1 ∷ []

unfoldable pub example_end : System
example_end = sequence (receiver_of (narration example_book)) example_moves (started example_book (outcome example_book example_lent).lent)

-- the events left, and how many were done
unfoldable pub left_and_done : System → ℕ → List Event × ℕ
left_and_done S p = ((S.party p).left, (S.party p).done)

pub A-ends : left_and_done example_end 0 ≡ (Event.ends ((Term.atom 3, 0, 0) ∷ []) ∷ [], 2)
unfolding computes trials example_book example_lent example_moves example_end left_and_done
A-ends = refl

pub B-ends : left_and_done example_end 1 ≡ (Event.ends [] ∷ [], 6)
unfolding computes trials example_book example_lent example_moves example_end left_and_done
B-ends = refl

-- and what is proved of every accepted book is so of this one
pub example-agrees : Agree (narration example_book) (parties example_book) example_end
unfolding example_end
example-agrees =
    parties-agree example_book example_lent example-accepted (sequence-reach (receiver_of (narration example_book)) _ example_moves Reach.start)
