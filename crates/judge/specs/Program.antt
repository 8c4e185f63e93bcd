-- What comparing a party's whole program with their words leaves behind, as its code has it. ws are their words.
use Rattle.std.specs.Prelude.{ℕ, List, [], ◌≡◌, Result, is_ok}
use Rattle.renaming.specs.Slot.{part_slots}
use Rattle.renaming.specs.Renaming.{follow}
use Rattle.following.specs.declared.Far.{Far}
use Rattle.following.specs.Agreeing.{place_in}
pub mod End
pub mod Judged

-- how far the whole program agrees
pub record ProgramFollowed (b : List ℕ) (p : ℕ) (ws : List ℕ) (r : Result Far ℕ) : Type 0 where
  pub at : (follow ws (part_slots b p) 0 []).at ≡ place_in r
  pub whole : (follow ws (part_slots b p) 0 []).whole ≡ is_ok r
