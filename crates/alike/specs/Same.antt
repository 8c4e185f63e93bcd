-- What is read at a place, as a value, and whether two are the same.
use Rattle.std.specs.Prelude.{ℕ, zero, suc, Bool, true, false, ◌≡◌, ◌&&◌, ◌||◌, List, [], ◌∷◌, ◌++◌, eqb, drop}
use Rattle.std.proofs.Math.Option.{none, some}
use Rattle.words.specs.Choice.{pick, choose}
use Rattle.typing.specs.Term.{Term, Effect, term_words}
use Rattle.typing.specs.Bag.{bag}
use Rattle.typing.specs.Types.{Ty, Environment}
use Rattle.typing.specs.Reading.{Read, joined, altered, term, effect_of, effects, type_at, environment_at}
pub mod Laws
pub mod Effects
pub mod Bags
pub mod Each
pub mod Spelled
pub mod Types
pub mod Environments
pub mod Leaves
pub mod Mentions
pub mod Stands

-- what was read; where nothing was, what is given here
unfoldable pub value_or : {A : Type 0} → A → Read A → A
value_or a none = a
value_or a (some p) = p.0

unfoldable pub term_in : List ℕ → ℕ → Term
term_in w a = value_or (Term.bound 0) (term (drop a w))

unfoldable pub effect_in : List ℕ → ℕ → Effect
effect_in w a = value_or (Effect.end (Term.bound 0)) (effect_of (drop a w))

unfoldable pub effects_in : List ℕ → ℕ → ℕ → List Effect
effects_in w a k = value_or [] (effects k (drop a w))

unfoldable pub type_in : List ℕ → ℕ → Ty
type_in w a = value_or Ty.Un (type_at (drop a w))

unfoldable pub environment_in : List ℕ → ℕ → Environment
environment_in w a = value_or [] (environment_at (drop a w))

-- a decision as a test
unfoldable pub test : {P : Type 0} → Dec P → Bool
test d = choose d true false

-- the words of several terms
unfoldable pub all_term_words : List Term → List ℕ
all_term_words [] = []
all_term_words (M ∷ Ms) = term_words M ++ all_term_words Ms

-- a nonce's effects, where the words begin one
unfoldable pub own_effects : List ℕ → List Effect
own_effects [] = []
own_effects (c ∷ []) = []
own_effects (c ∷ n ∷ u) = pick (eqb c 5) (bag (value_or [] (effects n u))) []

-- types with one in front, or with the first put together, as its first word says
unfoldable pub form : ℕ → List Effect → List Ty → List Ty
form zero es l = []
form (suc zero) es l = Ty.Un ∷ l
form (suc (suc zero)) es l = joined Ty.pair l
form (suc (suc (suc zero))) es l = altered Ty.channel l
form (suc (suc (suc (suc zero)))) es l = altered Ty.symkey l
form (suc (suc (suc (suc (suc zero))))) es l = Ty.nonce es ∷ l
form (suc (suc (suc (suc (suc (suc c)))))) es l = []

-- some leaf of a term, a name with 1 and a variable with 4, is of a kind
unfoldable pub any_leaf : (ℕ → ℕ → Bool) → Term → Bool
any_leaf p (Term.name n) = p 1 n
any_leaf p (Term.bound k) = p 4 k
any_leaf p (Term.pair M N) = any_leaf p M || any_leaf p N
any_leaf p (Term.cipher M N) = any_leaf p M || any_leaf p N

unfoldable pub any_leaves : (ℕ → ℕ → Bool) → List Term → Bool
any_leaves p [] = false
any_leaves p (M ∷ Ms) = any_leaf p M || any_leaves p Ms

-- what was told of leaves, by their first word and their number, is whether they are of a kind
abbrev pub TellsLeaf : (ℕ → ℕ → Bool → Type 0) → (ℕ → ℕ → Bool) → Type 0
TellsLeaf told p = (c n : ℕ) (r : Bool) → told c n r → r ≡ p c n

-- the name x; a variable
unfoldable pub is_name : ℕ → ℕ → ℕ → Bool
is_name x c n = eqb c 1 && eqb n x

unfoldable pub is_bound : ℕ → ℕ → Bool
is_bound c n = eqb c 4
