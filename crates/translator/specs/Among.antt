-- Where the first of the parties' walks stops: the place of refusals 10 and 13. Document 01: "smallest step, and the first such row in
-- building order".
use Rattle.std.specs.Prelude.{ℕ, ◌<◌, true, false, List, ◌≡◌, Option, None, Some}
use Rattle.book.specs.Layout.{steps}
use Rattle.book.specs.declared.Stop.{Stop}
use Rattle.translation.specs.Narration.{narration}
use Rattle.translation.specs.Taken.{unplayable}
use Rattle.walking.specs.Walk.{refused_for, Unrefused}
use Rattle.walking.specs.Stops.{stop_of}
pub mod Laws

-- none of the steps is refused for one of the first q parties
abbrev pub NobodyRefused : List ℕ → ℕ → Type 0
NobodyRefused b q = (p : ℕ) → p < q → Unrefused b p (steps b)

-- of the walks of the first q parties, the first to stop stops there; or none of them stops
pub data StopsAmong (b : List ℕ) (q : ℕ) : Option Stop → Type 0 where
  none : NobodyRefused b q → StopsAmong b q None
  one : {s p : ℕ} → p < q → s < steps b → refused_for b p s ≡ true → ((r : ℕ) → r < q → Unrefused b r s) → StopsAmong b q (Some (stop_of b s))

-- the number of steps that are still asked about, of n: those before the stop so far
abbrev pub reach : ℕ → Option Stop → ℕ
reach n None = n
reach n (Some x) = x.step

-- step s is the first that is unplayable, whoever the party is
pub record FirstUnplayable (b : List ℕ) (s : ℕ) : Type 0 where
  pub within : s < steps b
  pub here : unplayable (narration b) s ≡ true
  pub before : (k : ℕ) → k < s → unplayable (narration b) k ≡ false
