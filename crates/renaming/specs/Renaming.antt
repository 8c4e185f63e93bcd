-- Judging a listing. Document 02, [7]: "accepted exactly if a one-to-one renaming of its placeholders turns it into ours. RECEIVE and OPEN
-- rename their whole run of n numbers, in order, judged at the first number with our n and never past the largest u32; where n is 0 the
-- first number must be ours. .. Otherwise name the smallest word at which no renaming can agree, or the shorter length."
--
-- How it is judged: our slots are gone through with their words. As a run of ours hands out the next placeholders, what they call our
-- placeholders 0, 1, .. so far is one list of names. A word agrees if it is the plain word, the name of the placeholder that is used, or
-- begins a run of numbers that are no names yet. What a renaming is, and that this finds one exactly if there is one, stands below.
use Rattle.std.specs.Prelude.{ℕ, zero, suc, ◌+◌, ◌≤◌, ◌<◌, Bool, true, false, List, [], ◌∷◌, ◌++◌, ◌⊎◌, ◌≡◌, length, get_or, ltb, leb, eqb}
use Rattle.words.specs.Choice.{pick}
use Rattle.words.specs.Run.{values}
use Rattle.translation.specs.Low.{word_limit}
use Rattle.renaming.specs.Slot.{Slot}
pub mod Fresh
pub mod Laws
pub mod Turning
pub mod Ours

-- m is none of the n numbers from y on
unfoldable pub outside : ℕ → ℕ → ℕ → Bool
outside y n m = pick (ltb m y) true (leb (y + n) m)

-- none of the n numbers from y on is a name
unfoldable pub fresh : List ℕ → ℕ → ℕ → Bool
fresh [] y n = true
fresh (m ∷ names) y n = pick (outside y n m) (fresh names y n) false

-- their word y can stand where ours has this slot
unfoldable pub agrees : List ℕ → Slot → ℕ → Bool
agrees names (Slot.plain w) y = eqb y w
agrees names (Slot.uses x) y = pick (ltb x (length names)) (eqb y (get_or names x 0)) false
agrees names (Slot.runs f zero) y = eqb y f
agrees names (Slot.runs f (suc n)) y = pick (leb (y + suc n) word_limit) (fresh names y (suc n)) false

-- the n numbers from y on
abbrev pub numbers : ℕ → ℕ → List ℕ
numbers y n = values (λ k. k) y n

-- the names behind a word that agrees
unfoldable pub named : List ℕ → Slot → ℕ → List ℕ
named names (Slot.plain w) y = names
named names (Slot.uses x) y = names
named names (Slot.runs f n) y = names ++ numbers y n

-- how far their words agree: the place of the first that doesn't, the names so far, and whether all slots were gone through
pub record Followed : Type 0 where
  pub at : ℕ
  pub names : List ℕ
  pub whole : Bool

-- their words ws have, at the place a, one that agrees
unfoldable pub stands : List ℕ → ℕ → List ℕ → Slot → Bool
stands ws a names s = pick (ltb a (length ws)) (agrees names s (get_or ws a 0)) false

-- their words ws from the place a on, where our slots are ss
unfoldable pub follow : List ℕ → List Slot → ℕ → List ℕ → Followed
follow ws [] a names = record { at = a; names = names; whole = true }
follow ws (s ∷ ss) a names =
    pick (stands ws a names s) (follow ws ss (suc a) (named names s (get_or ws a 0))) (record { at = a; names = names; whole = false })

-- they agree to the end of both
unfoldable pub all_agree : List Slot → List ℕ → Bool
all_agree ss ws = let f = follow ws ss 0 [] in pick f.whole (eqb f.at (length ws)) false

-- the smallest word at which no renaming can agree, or the shorter length
unfoldable pub place_of : List Slot → List ℕ → ℕ
place_of ss ws = (follow ws ss 0 []).at

-- ---- what a renaming is
abbrev pub OneToOne : (ℕ → ℕ) → Type 0
OneToOne τ = (x y : ℕ) → τ x ≡ τ y → x ≡ y

-- the renaming τ of their placeholders turns their word y into ours
abbrev pub Turns : (ℕ → ℕ) → Slot → ℕ → Type 0
Turns τ (Slot.plain w) y = y ≡ w
Turns τ (Slot.uses x) y = τ y ≡ x
Turns τ (Slot.runs f zero) y = y ≡ f
Turns τ (Slot.runs f (suc n)) y = (y + suc n ≤ word_limit) × ((j : ℕ) → j < suc n → τ (y + j) ≡ f + j)

-- a one-to-one renaming of their placeholders that turns their first i words into ours
pub record Renames (ss : List Slot) (ws : List ℕ) (i : ℕ) : Type 0 where
  pub to : ℕ → ℕ
  pub one-to-one : OneToOne to
  pub slots : i ≤ length ss
  pub words : i ≤ length ws
  pub turns : (k : ℕ) → k < i → Turns to (get_or ss k (Slot.plain 0)) (get_or ws k 0)

-- it turns theirs into ours
pub record Same (ss : List Slot) (ws : List ℕ) : Type 0 where
  pub renames : Renames ss ws (length ss)
  pub size : length ws ≡ length ss

-- k is the smallest word at which no renaming can agree: one agrees up to it, and none with it; or it is the shorter length, to which one
-- agrees
pub record Differs (ss : List Slot) (ws : List ℕ) (k : ℕ) : Type 0 where
  pub before : Renames ss ws k
  pub there : ((k < length ss) × (k < length ws) × (Renames ss ws (k + 1) → ⊥))
      ⊎ (((k ≡ length ss) × (k < length ws)) ⊎ ((k ≡ length ws) × (k < length ss)))
