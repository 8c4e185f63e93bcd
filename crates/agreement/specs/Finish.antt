-- Every run can finish: how many events are left to do, and what it is for the parties to finish. A move that gets something done
-- lowers the number by one, any other changes nothing; and while the number is not 0, clause (d) has a move that gets something done.
-- Document 01: "events done by each party, END not counted". Proved in Finish.Laws.
use Rattle.std.specs.Prelude.{ℕ, zero, suc, ◌≤◌, ◌<◌, List, [], ◌∷◌, ◌⊎◌, ◌≡◌, length}
use Rattle.std.proofs.Math.Option.{some}
use Rattle.words.specs.Sum.{sum}
use Rattle.terms.specs.Term.{Terms}
use Rattle.translation.specs.Receive.{Event}
use Rattle.translation.specs.Places.{place_of, is_end}
use Rattle.translation.specs.Narration.{Narration}
use Rattle.agreement.specs.Machine.{System, Move, move}
use Rattle.agreement.specs.Agree.{receiver_of, AtEnd, Does}
pub mod Counts
pub mod Rounds
pub mod Laws

-- ---- events left to do: those before END
unfoldable pub to_do : List Event → ℕ
to_do es = place_of is_end es

-- by the first Q parties together
unfoldable pub to_do_all : ℕ → System → ℕ
to_do_all Q S = sum (λ p. to_do (S.party p).left) Q

-- ---- a move changes nothing, or lowers the number by one
abbrev pub Lowers : Narration → ℕ → System → Move → Type 0
Lowers N Q S m = (move (receiver_of N) m S ≡ S) ⊎ (suc (to_do_all Q (move (receiver_of N) m S)) ≡ to_do_all Q S)

-- ---- the moves, one after another, each of which gets a party's next event done
pub data EachDoes (N : Narration) : System → List Move → System → Type 0 where
  stop : {S : System} → EachDoes N S [] S
  more : {S T : System} {m : Move} {ms : List Move} (p : ℕ) → Does N S m p → EachDoes N (move (receiver_of N) m S) ms T → EachDoes N S (m ∷ ms) T

-- all of the first Q parties are at END
abbrev pub AllAtEnd : ℕ → System → Type 0
AllAtEnd Q S = (p : ℕ) → p < Q → AtEnd (S.party p).left

-- as many such moves as there are events left to do bring all parties to END
pub record Finishes (N : Narration) (Q : ℕ) (S : System) : Type 0 where
  pub moves : List Move
  pub last : System
  pub each_does : EachDoes N S moves last
  pub many : length moves ≡ to_do_all Q S
  pub ended : AllAtEnd Q last

-- ---- endless sequences of moves
-- the state before move n
unfoldable pub state : (ℕ → ℕ) → (ℕ → Move) → System → ℕ → System
state receiver ms S zero = S
state receiver ms S (suc n) = move receiver (ms n) (state receiver ms S n)

-- every party keeps moving, and everything sent is handed over: from any time on, each party makes its own move at some time, and
-- the carrier hands over each step that was sent by then
pub record Fair (N : Narration) (Q : ℕ) (ms : ℕ → Move) (S : System) : Type 0 where
  pub parties : (p n : ℕ) → p < Q → (k : ℕ) × (n ≤ k) × (ms k ≡ Move.own p)
  pub carrier : (s n : ℕ) (ts : Terms) → (state (receiver_of N) ms S n).sent s ≡ some ts → (k : ℕ) × (n ≤ k) × (ms k ≡ Move.delivery s)

-- then all of the first Q parties are at END at some time
pub record Ends (N : Narration) (Q : ℕ) (ms : ℕ → Move) (S : System) : Type 0 where
  pub time : ℕ
  pub ended : AllAtEnd Q (state (receiver_of N) ms S time)

-- a sequence that is fair whatever it starts from (Finish.Rounds): in round r the parties from r down to 0 make their own moves, and then
-- the steps from r down to 0 are handed over; the rounds are 0, 1, 2 and so on
pub record Round : Type 0 where
  pub number : ℕ
  pub now : Move

unfoldable pub next_in : ℕ → Move → Round
next_in r (Move.own zero) = record { number = r; now = Move.delivery r }
next_in r (Move.own (suc p)) = record { number = r; now = Move.own p }
next_in r (Move.delivery zero) = record { number = suc r; now = Move.own (suc r) }
next_in r (Move.delivery (suc s)) = record { number = r; now = Move.delivery s }

unfoldable pub round_at : ℕ → Round
round_at zero = record { number = 0; now = Move.own 0 }
round_at (suc n) = next_in (round_at n).number (round_at n).now

abbrev pub rounds : ℕ → Move
rounds n = (round_at n).now
