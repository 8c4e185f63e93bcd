-- What is read of each number, computed from `slices_of` and `numbers_of`: the table of docs/CALLS.md. Assumes nothing.
use Rattle.std.specs.Prelude.{ℕ, List, [], ◌∷◌, map, ◌≡◌, refl}
use Rattle.words.specs.Choice.{pick}
use Rattle.functions.specs.Functions.{asks, judges, slices_of, numbers_of}

abbrev all : List ℕ
all = 1 ∷ 2 ∷ 3 ∷ 4 ∷ 5 ∷ 6 ∷ 7 ∷ 8 ∷ 9 ∷ 10 ∷ 11 ∷ 12 ∷ 13 ∷ 14 ∷ 15 ∷ 16 ∷ []

pub slices-of-all : map slices_of all ≡ 1 ∷ 1 ∷ 2 ∷ 3 ∷ 2 ∷ 3 ∷ 2 ∷ 1 ∷ 2 ∷ 1 ∷ 2 ∷ 2 ∷ 2 ∷ 2 ∷ 1 ∷ 1 ∷ []
unfolding slices_of asks pick
slices-of-all = refl

pub numbers-of-all : map numbers_of all ≡ 0 ∷ 0 ∷ 0 ∷ 0 ∷ 0 ∷ 0 ∷ 0 ∷ 3 ∷ 0 ∷ 3 ∷ 1 ∷ 1 ∷ 0 ∷ 0 ∷ 0 ∷ 0 ∷ []
unfolding numbers_of asks judges pick
numbers-of-all = refl
