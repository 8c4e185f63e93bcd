-- What a line says, by the places that it names.
use Rattle.std.specs.Prelude.{ℕ, List}
use Rattle.typing.specs.Bag.{bag}
use Rattle.typing.specs.Judgement.{Judgement}
use Rattle.typing.specs.Reading.{term, effects, type_at, environment_at, process_at}
use Rattle.alike.specs.Same.{term_in, effects_in, type_in, environment_in}
use Rattle.parts.specs.Place.{process_in}
use Rattle.shapes.specs.Shape.{Reads}
use Rattle.ruling.specs.declared.Line.{Line}
pub mod Laws
pub mod Terms

-- the judgements
unfoldable pub says_environment : List ℕ → Line → Judgement
says_environment w l = Judgement.environment (environment_in w l.e)

unfoldable pub says_type : List ℕ → Line → Judgement
says_type w l = Judgement.type (environment_in w l.e) (type_in w l.t)

unfoldable pub says_effect : List ℕ → Line → Judgement
says_effect w l = Judgement.effect (environment_in w l.e) (bag (effects_in w l.f l.k))

unfoldable pub says_term : List ℕ → Line → Judgement
says_term w l = Judgement.term (environment_in w l.e) (term_in w l.s) (type_in w l.t)

unfoldable pub says_process : List ℕ → Line → Judgement
says_process w l = Judgement.process (environment_in w l.e) (process_in w l.s) (bag (effects_in w l.f l.k))

-- what they name is there
pub record EnvironmentThere (w : List ℕ) (l : Line) : Type 0 where
  pub environment : Reads environment_at w l.e

pub record TypeThere (w : List ℕ) (l : Line) : Type 0 where
  pub environment : Reads environment_at w l.e
  pub type : Reads type_at w l.t

pub record EffectThere (w : List ℕ) (l : Line) : Type 0 where
  pub environment : Reads environment_at w l.e
  pub effects : Reads (effects l.k) w l.f

pub record TermThere (w : List ℕ) (l : Line) : Type 0 where
  pub environment : Reads environment_at w l.e
  pub term : Reads term w l.s
  pub type : Reads type_at w l.t

pub record ProcessThere (w : List ℕ) (l : Line) : Type 0 where
  pub environment : Reads environment_at w l.e
  pub process : Reads process_at w l.s
  pub effects : Reads (effects l.k) w l.f
