-- Multisets of effects. Source 001, definition 6: an effect es is a multiset of atomic effects. Document 02, [14]: "effects are lists
-- taken as multisets, and taking away what isn't there removes nothing." A multiset is the list of its elements in one order, that of
-- their words; two lists are the same multiset exactly if they are equal when so ordered (Bag.Laws: `bag-same`), and + and − are the sum
-- and the cut-off difference of how often each effect stands there (`count-plus`, `count-minus`).
use Rattle.std.specs.Prelude.{ℕ, suc, Bool, true, false, List, [], ◌∷◌, ltb, eqb}
use Rattle.words.specs.Choice.{pick, choose}
use Rattle.typing.specs.Term.{Effect, same_effect, effect_words}

-- word by word, the first is no later than the second
unfoldable pub up_to : List ℕ → List ℕ → Bool
up_to [] ys = true
up_to (x ∷ xs) [] = false
up_to (x ∷ xs) (y ∷ ys) = pick (ltb x y) true (pick (eqb x y) (up_to xs ys) false)

-- es with one effect more, at its place in the order
unfoldable pub insert : Effect → List Effect → List Effect
insert e [] = e ∷ []
insert e (f ∷ fs) = pick (up_to (effect_words e) (effect_words f)) (e ∷ f ∷ fs) (f ∷ insert e fs)

-- es + fs
unfoldable pub plus : List Effect → List Effect → List Effect
plus [] fs = fs
plus (e ∷ es) fs = insert e (plus es fs)

-- the multiset of a list
unfoldable pub bag : List Effect → List Effect
bag es = plus es []

-- one effect taken away where it is there
unfoldable pub remove : Effect → List Effect → List Effect
remove e [] = []
remove e (f ∷ fs) = choose (same_effect e f) fs (f ∷ remove e fs)

-- es − fs
unfoldable pub minus : List Effect → List Effect → List Effect
minus es [] = es
minus es (f ∷ fs) = minus (remove f es) fs

-- how often an effect stands in a list
unfoldable pub count : Effect → List Effect → ℕ
count e [] = 0
count e (f ∷ fs) = choose (same_effect e f) (suc (count e fs)) (count e fs)
