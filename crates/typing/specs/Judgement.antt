-- The five judgements. Source 001, definition 8: "E ⊢ ⋄ good environment; E ⊢ T good type; E ⊢ x : T good term of type T; E ⊢ es good
-- effect; E ⊢ P : es good process effect es".
use Rattle.std.specs.Prelude.{List, ◌≡◌}
use Rattle.typing.specs.Term.{Term, Effect, same_term}
use Rattle.typing.specs.Types.{Ty, Environment, same_effects, same_type, same_list, same_environment}
use Rattle.typing.specs.Process.{Process, same_process}

pub data Judgement : Type 0 where
  -- E ⊢ ⋄
  environment : Environment → Judgement
  -- E ⊢ T
  type : Environment → Ty → Judgement
  -- E ⊢ es
  effect : Environment → List Effect → Judgement
  -- E ⊢ M : T
  term : Environment → Term → Ty → Judgement
  -- E ⊢ P : es
  process : Environment → Process → List Effect → Judgement
  deriving Discrete as Judgement-discrete

unfoldable pub same_judgement : (J K : Judgement) → Dec (J ≡ K)
unfolding same_environment same_type same_effects same_term same_process
same_judgement J K = Judgement-discrete same_environment same_type same_effects same_term same_process J K

unfoldable pub same_judgements : (Js Ks : List Judgement) → Dec (Js ≡ Ks)
unfolding same_judgement same_list
same_judgements Js Ks = same_list same_judgement Js Ks
