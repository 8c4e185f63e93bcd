-- A list that is filled from its front on: its first n places hold what a function says. Assumes nothing.
use Rattle.std.specs.Prelude.{ℕ, ◌<◌, ◌≡◌, List, get_or}
pub mod Laws

abbrev pub Filled : (ℕ → ℕ) → List ℕ → ℕ → Type 0
Filled f out n = (i : ℕ) → i < n → get_or out i 0 ≡ f i
