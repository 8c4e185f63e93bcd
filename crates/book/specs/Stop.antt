-- Where a party's walk stops, as code has it: what stands against the atom, with the step and the row. Document 02, [5]: "the walk stops at
-- the first atom that can't be made, with 10 if it is taken and else 13"; "place is step and row".
use Rattle.std.specs.Prelude.{ℕ, [], ◌∷◌, Option, None, Some}
use Rattle.book.specs.declared.Against.{Against}
use Rattle.book.specs.declared.Against.TheVariants.{Taken, Maker}
use Rattle.book.specs.declared.Stop.{Stop}
use Rattle.book.specs.Said.{Said, said, accepted}
pub mod Laws

abbrev pub stop : Against → ℕ → ℕ → Stop
stop a s r = record { against = a; step = s; row = r }

-- the refusal's number
abbrev pub number_of : Against → ℕ
number_of Taken = 10
number_of Maker = 13

-- what it says of the book: acceptance where there is no stop, or the refusal with its place
abbrev pub stop_says : Option Stop → Said
stop_says None = accepted
stop_says (Some x) = said (number_of x.against) (x.step ∷ x.row ∷ [])
