-- Demand 3, proved: the parties of an accepted book agree. Assumes nothing.
use Rattle.std.specs.Prelude.{ℕ, List, ◌≡◌}
use Rattle.book.specs.Layout.{parties}
use Rattle.translation.specs.Narration.{narration}
use Rattle.translation.specs.Outcome.{outcome}
use Rattle.translation.specs.Spelled.{spelled}
use Rattle.translation.proofs.Spelled.Laws.{accepted-programs}
use Rattle.agreement.specs.Machine.{System, started, Reach}
use Rattle.agreement.specs.Agree.{receiver_of, Agree, EndsBound}
use Rattle.agreement.specs.Start.{reached-going, reached-agree, accepted-playable}
use Rattle.agreement.specs.Going.Laws.{going-ends}

-- For any words b and any lent words out: if the outcome is a listing, then in every state that any sequence of moves reaches, from
-- the start with the programs that the lent words spell afterwards, the parties agree.
pub parties-agree : (b out : List ℕ) → (outcome b out).says.number ≡ 0 → {S : System}
    → Reach (receiver_of (narration b)) (started b (outcome b out).lent) S
    → Agree (narration b) (parties b) S
unfolding started
parties-agree b out accepted r =
    reached-agree (narration b) (parties b) (spelled b (outcome b out).lent) (accepted-playable b out accepted) (accepted-programs b out accepted) r

-- and a party that has come to END has, at each placeholder that END names, the term of the row beside it
pub ends-bound : (b out : List ℕ) → (outcome b out).says.number ≡ 0 → {S : System}
    → Reach (receiver_of (narration b)) (started b (outcome b out).lent) S → EndsBound S
unfolding started
ends-bound b out accepted {S} r =
    going-ends (narration b) S
    (reached-going (narration b) (parties b) (spelled b (outcome b out).lent) (accepted-playable b out accepted) (accepted-programs b out accepted) r)
