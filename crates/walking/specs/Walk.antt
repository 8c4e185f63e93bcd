-- A party's walk through the steps of a book, one step after another: the form in which code meets a program.
use Rattle.std.specs.Prelude.{ℕ, ◌≤◌, ◌<◌, Bool, false, ◌||◌, List, ◌≡◌, eqb}
use Rattle.words.specs.Choice.{pick}
use Rattle.book.specs.Layout.{steps, sender, receiver}
use Rattle.translation.specs.Narration.{narration}
use Rattle.translation.specs.Taken.{unplayable}
pub mod Laws

-- step s is party p's to send, and an atom would have to be made for it that can't
unfoldable pub refused_for : List ℕ → ℕ → ℕ → Bool
refused_for b p s = pick (eqb (sender b s) p) (unplayable (narration b) s) false

-- none of the first i steps is refused for party p
abbrev pub Unrefused : List ℕ → ℕ → ℕ → Type 0
Unrefused b p i = (k : ℕ) → k < i → refused_for b p k ≡ false

-- step s is party p's to send or to receive
abbrev pub own_step : List ℕ → ℕ → ℕ → Bool
own_step b p s = eqb (sender b s) p || eqb (receiver b s) p

-- r stands between i and the number of steps, and in the steps from i to the one before r party p neither sends nor receives. Whether
-- step r is p's own is not said: the walk does not need it.
pub record IdleUntil (b : List ℕ) (p i r : ℕ) : Type 0 where
  pub from : i ≤ r
  pub within : r ≤ steps b
  pub idle : (k : ℕ) → i ≤ k → k < r → (sender b k ≡ p → ⊥) × (receiver b k ≡ p → ⊥)
