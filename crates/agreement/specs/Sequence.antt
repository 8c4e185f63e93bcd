-- Moves one after another, as a list: what they make of a state is reached.
use Rattle.std.specs.Prelude.{ℕ, List, [], ◌∷◌}
use Rattle.agreement.specs.Machine.{System, Move, move, Reach}

unfoldable pub sequence : (ℕ → ℕ) → List Move → System → System
sequence receiver [] S = S
sequence receiver (m ∷ ms) S = sequence receiver ms (move receiver m S)

pub sequence-reach : (receiver : ℕ → ℕ) (B : System) (ms : List Move) {S : System} → Reach receiver B S → Reach receiver B (sequence receiver ms S)
unfolding sequence
sequence-reach receiver B [] r = r
sequence-reach receiver B (m ∷ ms) r = sequence-reach receiver B ms (Reach.after m r)
