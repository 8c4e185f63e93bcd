-- Whether an asked process keeps its bound names apart: all its binders are different from each other and from the environment's names.
-- Source 001's theorem 1 ("E ⊢ P : [] implies that P is safe") is for such processes: its rules ask for no freshness in E, so that
-- `new (k : Un); new (k : symkey(nonce [end l])); ..` may send the key, as Un by the older entry, and reach `end l` with no `begin l`
-- before it (the process of `Trials.shadowed`, which the rules give the empty effect). The verdict does not depend on this test.
use Rattle.std.specs.Prelude.{ℕ, Bool, true, false, not, ◌&&◌, ◌||◌, eqb}
use mathlib.Core.List.{List, [], ◌∷◌, ◌++◌, Memᴰ}
use Rattle.std.proofs.Math.Option.{some}
use Rattle.words.specs.Choice.{then}
use Rattle.words.specs.Run.{All, NoRepeat}
use Rattle.typing.specs.Types.{Environment, ◌⦂◌}
use Rattle.typing.specs.Process.{Process}
use Rattle.typing.specs.Reading.{environment_at, process_at}
use Rattle.typing.specs.Derivation.{holds, whole, Spells}

-- the binders of a process, in the order in which they are written
unfoldable pub binders : Process → List ℕ
binders (Process.new x T P) = x ∷ binders P
binders (Process.out M N P) = binders P
binders (Process.inp M x T P) = x ∷ binders P
binders (Process.parallel P Q) = binders P ++ binders Q
binders Process.stop = []
binders (Process.split M x T y U P) = x ∷ y ∷ binders P
binders (Process.match M N y U P) = y ∷ binders P
binders (Process.decrypt M N x T P) = x ∷ binders P
binders (Process.begin L P) = binders P
binders (Process.end L P) = binders P
binders (Process.cast M x fs P) = x ∷ binders P
binders (Process.check M N P) = binders P

-- dom(E), definition 7
unfoldable pub names : Environment → List ℕ
names [] = []
names ((x ⦂ T) ∷ E) = x ∷ names E

pub record Apart (E : Environment) (P : Process) : Type 0 where
  pub each : NoRepeat (binders P)
  pub new : All (λ x. Memᴰ x (names E) → ⊥) (binders P)

-- ---- as a test
unfoldable pub among : ℕ → List ℕ → Bool
among x [] = false
among x (y ∷ l) = eqb x y || among x l

-- none of bs stands among the later ones, and none in ns
unfoldable pub clear : List ℕ → List ℕ → Bool
clear [] ns = true
clear (x ∷ bs) ns = (not (among x bs) && not (among x ns)) && clear bs ns

-- what is asked is a process in an environment that keeps its bound names apart
unfoldable pub keeps_apart : List ℕ → Bool
keeps_apart a = holds (then (environment_at a) (λ p. then (whole (process_at p.1)) (λ P. some (clear (binders P) (names p.0)))))

-- the same in words of one's own
pub record KeepsApart (a : List ℕ) : Type 0 where
  pub E : Environment
  pub P : Process
  pub spells : Spells a E P
  pub apart : Apart E P
