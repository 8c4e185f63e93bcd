-- A table of the steps from which on atoms are taken, and what it says: 0 for an atom that never is, else one more than the first
-- step at which it is taken. Document 01: "An atom is taken at a step if ..", and it stays so at every later step.
use Rattle.std.specs.Prelude.{ℕ, ◌-◌, Bool, false, List, eqb, leb, get_or}
use Rattle.words.specs.Choice.{pick}

-- of the table l: the atom of row q is taken at step s
unfoldable pub taken_in : List ℕ → ℕ → ℕ → Bool
taken_in l s q = pick (eqb (get_or l q 0) 0) false (leb (get_or l q 0 - 1) s)
