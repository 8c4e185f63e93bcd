-- A party's part in the steps, as the translation's `own` gives it, against the narration: each act is at a step of the narration,
-- with its messages and with the party as sender or receiver, and the steps rise.
use Rattle.std.specs.Prelude.{ℕ, suc, ◌≤◌, List, [], ◌∷◌, ◌≡◌}
use Rattle.terms.specs.Term.{Terms}
use Rattle.translation.specs.Program.{Act}
use Rattle.translation.specs.Narration.{Narration}
use Rattle.translation.specs.Taken.{step_of}
use Rattle.agreement.specs.Agree.{Narrated}
pub mod Laws

-- of party p, in the steps from `low` on
pub data ActsFrom (N : Narration) (p : ℕ) : ℕ → List Act → Type 0 where
  nil : {low : ℕ} → ActsFrom N p low []
  sends : {low s : ℕ} {ts : Terms} {acts : List Act} → low ≤ s → Narrated N s ts → (step_of N s).sender ≡ p → ActsFrom N p (suc s) acts
      → ActsFrom N p low (Act.sends s ts ∷ acts)
  receives : {low s : ℕ} {ts : Terms} {acts : List Act} → low ≤ s → Narrated N s ts → (step_of N s).receiver ≡ p → ActsFrom N p (suc s) acts
      → ActsFrom N p low (Act.receives s ts ∷ acts)
