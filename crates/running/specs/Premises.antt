-- What a line gives as a premise, as tests.
use Rattle.std.specs.Prelude.{ℕ, List, Bool, not, ◌&&◌}
use Rattle.typing.specs.Term.{same_term, mentions}
use Rattle.typing.specs.Bag.{bag}
use Rattle.typing.specs.Types.{Environment, same_environment, same_effects}
use Rattle.typing.specs.Process.{same_process}
use Rattle.alike.specs.Same.{term_in, effects_in, environment_in, test}
use Rattle.parts.specs.Place.{process_in}
use Rattle.ruling.specs.declared.Line.{Line}

-- the term at m, in the environment E
abbrev pub gives_term : List ℕ → Environment → Line → ℕ → Bool
gives_term w E j m = test (same_environment (environment_in w j.e) E) && test (same_term (term_in w j.s) (term_in w m))

-- the process at p, in the environment E
abbrev pub gives_process : List ℕ → Environment → Line → ℕ → Bool
gives_process w E j p = test (same_environment (environment_in w j.e) E) && test (same_process (process_in w j.s) (process_in w p))

-- the effects of line i
abbrev pub gives_effects : List ℕ → Line → Line → Bool
gives_effects w i j = test (same_effects (bag (effects_in w i.f i.k)) (bag (effects_in w j.f j.k)))

-- the name x is none of those of line i's effects
abbrev pub is_fresh : List ℕ → Line → ℕ → Bool
is_fresh w i x = not (mentions x (bag (effects_in w i.f i.k)))
