-- The places of a book's events, as code has them: in three lists of words.
use Rattle.std.specs.Prelude.{ℕ, ◌<◌, List, ◌≡◌, get_or}
use Rattle.book.specs.Layout.{parties, steps}
use Rattle.translation.specs.Places.{places_of}
pub mod Laws

-- the lists x, y and z hold the places of a book's SENDs, RECEIVEs and ENDs: by step, by step, and by party
pub record Placed (b x y z : List ℕ) : Type 0 where
  pub sends : (s : ℕ) → s < steps b → get_or x s 0 ≡ (places_of b).sends s
  pub receives : (s : ℕ) → s < steps b → get_or y s 0 ≡ (places_of b).receives s
  pub ends : (p : ℕ) → p < parties b → get_or z p 0 ≡ (places_of b).ends p
