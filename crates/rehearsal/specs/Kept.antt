-- What the code keeps: the places of events in three lists, and for each party how many events it has done.
use Rattle.std.specs.Prelude.{ℕ, List, get_or}
use Rattle.translation.specs.Places.{Places}

-- of SENDs and RECEIVEs by step, of ENDs by party
abbrev pub places : List ℕ → List ℕ → List ℕ → Places
places x y z = record { sends = λ s. get_or x s 0; receives = λ s. get_or y s 0; ends = λ p. get_or z p 0 }

abbrev pub counts : List ℕ → ℕ → ℕ
counts d p = get_or d p 0
