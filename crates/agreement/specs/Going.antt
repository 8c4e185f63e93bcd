-- What stays true of every party and of everything sent, whatever moves are made: the party has not halted, its placeholders stand
-- for a list of terms, and with these the events left are safe; what was sent is the narration's. Clauses (a) and (b) rest on it.
use Rattle.std.specs.Prelude.{ℕ, false, List, ◌≡◌}
use Rattle.std.proofs.Math.Option.{some}
use Rattle.terms.specs.Term.{Term, Terms}
use Rattle.translation.specs.Narration.{Narration}
use Rattle.agreement.specs.Machine.{Party, System}
use Rattle.agreement.specs.Agree.{meant, Narrated}
use Rattle.agreement.specs.Sound.{sight_of}
use Rattle.agreement.specs.Safe.{Safe}
pub mod Laws

-- party p
pub record Goes (N : Narration) (p : ℕ) (P : Party) : Type 0 where
  pub unhalted : P.halted ≡ false
  pub holding : List Term
  pub bound : List Term
  pub sees : P.sight ≡ sight_of holding bound
  pub safe : Safe N (meant N p) P.left holding bound

pub record Going (N : Narration) (S : System) : Type 0 where
  pub parties : (p : ℕ) → Goes N p (S.party p)
  pub messages : (s : ℕ) (ts : Terms) → S.sent s ≡ some ts → Narrated N s ts
