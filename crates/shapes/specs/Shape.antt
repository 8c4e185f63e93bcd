-- What a line names, and the types that rules make.
use Rattle.std.specs.Prelude.{ℕ, List, ◌≡◌, eqb, drop}
use Rattle.std.proofs.Math.Option.{some}
use Rattle.words.specs.Choice.{pick}
use Rattle.typing.specs.Bag.{bag}
use Rattle.typing.specs.Types.{Ty}
use Rattle.typing.specs.Rule.{binding}
use Rattle.typing.specs.Reading.{Read, effects, type_at}
use Rattle.spans.specs.Behind.{rest_of}
use Rattle.alike.specs.Same.{effects_in, type_in}
use Rattle.shapes.specs.declared.Made.{Made}
use Rattle.shapes.specs.declared.Made.TheVariants.{Un, Same, Channel, Symkey, Nonce, Pair}
pub mod Laws

-- something is read at a place
pub record Reads {A : Type 0} (r : List ℕ → Read A) (w : List ℕ) (a : ℕ) : Type 0 where
  pub behind : List ℕ
  pub reads : rest_of (r (drop a w)) ≡ some behind

-- a type in brackets: behind 3 ch, behind 4 symkey
unfoldable pub wrapped : ℕ → Ty → Ty
wrapped c T = pick (eqb c 3) (Ty.channel T) (Ty.symkey T)

-- the type that is meant
unfoldable pub made_type : List ℕ → Made → Ty
made_type w Un = Ty.Un
made_type w (Same t) = type_in w t
made_type w (Channel t) = Ty.channel (type_in w t)
made_type w (Symkey t) = Ty.symkey (type_in w t)
made_type w (Nonce b k e) = Ty.nonce (bag (effects_in w b k))
made_type w (Pair t u x) = Ty.pair (type_in w t) (binding x (type_in w u))

-- what it is made of is there
abbrev pub There : List ℕ → Made → Type 0
There w Un = Unit {0}
There w (Same t) = Reads type_at w t
There w (Channel t) = Reads type_at w t
There w (Symkey t) = Reads type_at w t
There w (Nonce b k e) = rest_of (effects k (drop b w)) ≡ some (drop e w)
There w (Pair t u x) = Reads type_at w t × Reads type_at w u
