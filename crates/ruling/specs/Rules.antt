-- The rules as tests of their parts: one law a rule, that all the tests together hold exactly if the rule does.
use Rattle.std.specs.Prelude.{ℕ, eqb}
use Rattle.words.specs.Choice.{pick}
use Rattle.typing.specs.Term.{Term}
use Rattle.typing.specs.Rule.{Rule}
pub mod Decide
pub mod First
pub mod Terms

-- the term that is made of two, by the word that it is spelled with: behind 2 a pair, behind 3 a cipher
unfoldable pub join : ℕ → Term → Term → Term
join c M N = pick (eqb c 2) (Term.pair M N) (Term.cipher M N)

-- the rule by which it is of type Un if both are
unfoldable pub join_Un : ℕ → Rule
join_Un c = pick (eqb c 2) Rule.pair-Un Rule.cipher-Un
