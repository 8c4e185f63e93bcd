-- The names that processes bind, as their words have them.
use Rattle.std.specs.Prelude.{ℕ, ◌+◌, Bool, true, not, ◌&&◌, List, [], ◌∷◌, ◌++◌, eqb, ltb, length, drop}
use Rattle.std.proofs.Math.Option.{none, some}
use Rattle.words.specs.Choice.{pick}
use Rattle.typing.specs.Types.{Environment}
use Rattle.typing.specs.Process.{Process}
use Rattle.typing.specs.Apart.{binders, names, among}
use Rattle.typing.specs.Reading.{Read, environment_at, processes, process_at}
use Rattle.spans.specs.Behind.{rest_of, At}
pub mod Laws
pub mod Names
pub mod Along
pub mod Asked

-- the binders of several processes
unfoldable pub all_binders : List Process → List ℕ
all_binders [] = []
all_binders (P ∷ Ps) = binders P ++ all_binders Ps

-- those of what was read
unfoldable pub bound_in : Read (List Process) → List ℕ
bound_in none = []
bound_in (some p) = all_binders p.0

-- how many names a process with this first word binds; they stand behind it
unfoldable pub process_names : ℕ → ℕ
process_names c = pick (eqb c 6) 2 (pick (eqb c 1) 1 (pick (eqb c 3) 1 (pick (eqb c 7) 1 (pick (eqb c 8) 1 (pick (eqb c 11) 1 0)))))

-- how often a name stands in a list
unfoldable pub times_in : ℕ → List ℕ → ℕ
times_in x [] = 0
times_in x (y ∷ l) = pick (eqb y x) 1 0 + times_in x l

-- the binders of the process that begins at the place a
unfoldable pub binders_at : List ℕ → ℕ → List ℕ
binders_at w a = bound_in (processes (length (drop a w)) 1 (drop a w))

-- the names of the environment that was read
unfoldable pub names_in : Read Environment → List ℕ
names_in none = []
names_in (some p) = names p.0

-- of a process's own names none is the environment's, and none is bound twice
unfoldable pub name_apart : List ℕ → List ℕ → ℕ → Bool
name_apart ns bs x = not (among x ns) && not (ltb 1 (times_in x bs))

unfoldable pub all_apart : List ℕ → List ℕ → List ℕ → Bool
all_apart ns bs [] = true
all_apart ns bs (x ∷ l) = name_apart ns bs x && all_apart ns bs l

-- an environment is spelled from the first word on and ends at p, where a process begins that ends at `end`
pub record Placed (w : List ℕ) (p end : ℕ) : Type 0 where
  pub environment : At w 0 (rest_of (environment_at w)) p
  pub process : At w p (rest_of (process_at (drop p w))) end
