-- Their words with their placeholders renamed. Document 02, [7]: "a one-to-one renaming of its placeholders turns it into ours. RECEIVE and
-- OPEN rename their whole run of n numbers, in order, judged at the first number with our n and never past the largest u32; where n is 0
-- the first number must be ours." What Renaming says word by word is said here of the whole listing.
use Rattle.std.specs.Prelude.{ℕ, zero, suc, ◌+◌, ◌≤◌, ◌<◌, List, [], ◌∷◌, map, ◌≡◌, length, get_or}
use Rattle.translation.specs.Low.{word_limit}
use Rattle.renaming.specs.Slot.{Slot, spelt}
use Rattle.renaming.specs.Renaming.{OneToOne}

-- their word y, where ours has this slot: a placeholder is renamed by τ, another word stays
unfoldable pub renamed : (ℕ → ℕ) → Slot → ℕ → ℕ
renamed τ (Slot.plain w) y = y
renamed τ (Slot.uses x) y = τ y
renamed τ (Slot.runs f zero) y = y
renamed τ (Slot.runs f (suc n)) y = τ y

-- all their words; those past our last slot stay
unfoldable pub renamed_all : (ℕ → ℕ) → List Slot → List ℕ → List ℕ
renamed_all τ [] ws = ws
renamed_all τ (s ∷ ss) [] = []
renamed_all τ (s ∷ ss) (y ∷ ws) = renamed τ s y ∷ renamed_all τ ss ws

-- a run is renamed whole, in order, and doesn't go past the largest u32
abbrev pub RunRenamed : (ℕ → ℕ) → Slot → ℕ → Type 0
RunRenamed τ (Slot.plain w) y = Unit {0}
RunRenamed τ (Slot.uses x) y = Unit {0}
RunRenamed τ (Slot.runs f zero) y = Unit {0}
RunRenamed τ (Slot.runs f (suc n)) y = (y + suc n ≤ word_limit) × ((j : ℕ) → j < suc n → τ (y + j) ≡ τ y + j)

-- a one-to-one renaming that turns theirs into ours
pub record Renamed (ss : List Slot) (ws : List ℕ) : Type 0 where
  pub to : ℕ → ℕ
  pub one-to-one : OneToOne to
  pub runs : (k : ℕ) → k < length ss → RunRenamed to (get_or ss k (Slot.plain 0)) (get_or ws k 0)
  pub ours : renamed_all to ss ws ≡ map spelt ss
