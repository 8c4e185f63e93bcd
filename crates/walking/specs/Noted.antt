-- Places of a party's events, noted into lists by step while the party goes through its steps. A list may be shorter than the steps are
-- many: what has no room in it is not noted.
use Rattle.std.specs.Prelude.{ℕ, ◌<◌, List, [], ◌∷◌, ◌≡◌, eqb, length, get_or}
use Rattle.std.proofs.lemmas.List.Edits.{sets}
use Rattle.words.specs.Choice.{pick}
use Rattle.book.specs.Layout.{steps, sender, receiver}
use Rattle.translation.specs.Places.{places_of}
pub mod Laws

-- ---- one step
-- the place a is laid at step s where the step's doer is party p
unfoldable pub noted_by : ℕ → ℕ → ℕ → ℕ → List ℕ → List ℕ
noted_by who p s a l = pick (eqb who p) (sets l s (a ∷ [])) l

-- x and y are the lists of SENDs and RECEIVEs
pub record NotedStep (b : List ℕ) (p s a : ℕ) (x x_after y y_after : List ℕ) : Type 0 where
  pub sends : x_after ≡ noted_by (sender b s) p s a x
  pub receives : y_after ≡ noted_by (receiver b s) p s a y

-- ---- the steps, one after another
-- the list old became new: it has the place of each step of which P holds, as far as there is room, and what was right stays so
pub record Noted (place : ℕ → ℕ) (P : ℕ → Type 0) (old new : List ℕ) : Type 0 where
  pub keeps : (s : ℕ) → get_or old s 0 ≡ place s → get_or new s 0 ≡ place s
  pub notes : (s : ℕ) → P s → s < length new → get_or new s 0 ≡ place s
  pub size : length new ≡ length old

-- one of the first i steps, and `who` says that it is party p's
abbrev pub Earlier : (ℕ → ℕ) → ℕ → ℕ → ℕ → Type 0
Earlier who p i = λ s. (s < i) × (who s ≡ p)

-- party p noted its part in each of the first i steps
pub record StepsNoted (b : List ℕ) (p i : ℕ) (x x_after y y_after : List ℕ) : Type 0 where
  pub sends : Noted (places_of b).sends (Earlier (sender b) p i) x x_after
  pub receives : Noted (places_of b).receives (Earlier (receiver b) p i) y y_after

-- in all of them, and e is the place of its END
pub record PartyNoted (b : List ℕ) (p : ℕ) (x x_after y y_after : List ℕ) (e : ℕ) : Type 0 where
  pub noted : StepsNoted b p (steps b) x x_after y y_after
  pub ends : e ≡ (places_of b).ends p
