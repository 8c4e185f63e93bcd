-- Processes of the shared-key part. Source 001, definition 2, of which `repeat`, the generation of key pairs and `case` are left out.
-- Each constructor takes its parts in the printed order.
use Rattle.std.specs.Prelude.{ℕ, List, ◌≡◌}
use Rattle.std.proofs.Math.Decide.{ℕ_discrete}
use Rattle.typing.specs.Term.{Term, Effect, same_term}
use Rattle.typing.specs.Types.{Ty, same_effects, same_type}

pub data Process : Type 0 where
  -- new (x : T); P
  new : ℕ → Ty → Process → Process
  -- out M N; P
  out : Term → Term → Process → Process
  -- inp M x : T; P
  inp : Term → ℕ → Ty → Process → Process
  -- P | Q
  parallel : Process → Process → Process
  -- STOP
  stop : Process
  -- split M = (x : T, y : U); P
  split : Term → ℕ → Ty → ℕ → Ty → Process → Process
  -- match M = (N, y : U); P
  match : Term → Term → ℕ → Ty → Process → Process
  -- decrypt M (N) to x : T; P
  decrypt : Term → Term → ℕ → Ty → Process → Process
  -- begin L; P
  begin : Term → Process → Process
  -- end L; P
  end : Term → Process → Process
  -- cast M is x : nonce es; P. The type that a cast gives is a nonce's, in the kept rule
  cast : Term → ℕ → List Effect → Process → Process
  -- check M = N; P
  check : Term → Term → Process → Process
  deriving Discrete as Process-discrete

unfoldable pub same_process : (P Q : Process) → Dec (P ≡ Q)
unfolding ℕ_discrete same_term same_type same_effects
same_process P Q = Process-discrete ℕ_discrete same_type same_term same_effects P Q
