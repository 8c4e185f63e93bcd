-- What stays true of the events left, whatever moves are made: they rise, each step is sent or still to be sent by its sender, and a
-- number that is no party's is at END. Clause (d) rests on it.
use Rattle.std.specs.Prelude.{ℕ, ◌≤◌, ◌<◌, ◌⊎◌, length}
use Rattle.std.proofs.Math.Option.{Option, some}
use Rattle.terms.specs.Term.{Terms}
use Rattle.translation.specs.Narration.{Narration}
use Rattle.translation.specs.Taken.{step_of}
use Rattle.agreement.specs.Machine.{System}
use Rattle.agreement.specs.Agree.{AtEnd}
use Rattle.agreement.specs.Order.{Rising, ToSend}
pub mod Laws

pub data Posted : Option Terms → Type 0 where
  posted : {ts : Terms} → Posted (some ts)

-- of the first Q parties
pub record Flow (N : Narration) (Q : ℕ) (S : System) : Type 0 where
  pub rising : (p : ℕ) → Rising N p 0 (S.party p).left
  pub sends : (s : ℕ) → s < length N.says → ToSend s (S.party (step_of N s).sender).left ⊎ Posted (S.sent s)
  pub nobody : (p : ℕ) → Q ≤ p → AtEnd (S.party p).left
