-- A value for each number, with another value at one of them: of parties, placeholders, messages sent, counts.
use Rattle.std.specs.Prelude.{ℕ, eqb}
use Rattle.words.specs.Choice.{pick}
pub mod Laws

-- f with another value at p
unfoldable pub change : {A : Type 0} → (ℕ → A) → ℕ → A → ℕ → A
change f p a q = pick (eqb p q) a (f q)
