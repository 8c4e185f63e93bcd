-- `packing::pack_told` meets its contract: by the number of values, each of which fits its bits. Assumes nothing.
use Prim.Native.Nat.{ℕ, ◌<◌}
use mathlib.Core.List.{[], ◌∷◌}
use mathlib.Core.Path.{refl, sym, ap, ◌∙◌}
use native.Mathlib.Omega.{arith}
use Rattle.book.specs.Said.{said, told_says}
use Rattle.packing.specs.Packed.{pack, Packs}
use Rattle.packing.proofs.pack_told.Goals as goal
use Rattle.packing.proofs.pack_told.Goals.{In-One, In-Two}

-- the bounds of one value, and of two
one-bounds : {n v : ℕ} → Packs (said n (v ∷ [])) → (n < 256) × (v < 4294967296)
one-bounds (Packs.one ln lv) = (ln, lv)

two-bounds : {n v w : ℕ} → Packs (said n (v ∷ w ∷ [])) → (n < 256) × (v < 4294967296) × (w < 16777216)
two-bounds (Packs.two ln lv lw) = (ln, lv, lw)

-- the values of one
module _ (c : In-One) where
  one : (c.in-One.number < 256) × (c.in-One.first < 4294967296)
  one = one-bounds (rw c.in-One.is at c.requires)

-- and of two
module _ (c : In-Two) where
  two : (c.in-Two.number < 256) × (c.in-Two.first < 4294967296)
      × (c.in-Two.second < 16777216)
  two = two-bounds (rw c.in-Two.is at c.requires)

pub returns-in-One : goal.returns-in-One
unfolding pack
returns-in-One c = omega arith ∙ sym (ap (λ t. pack (told_says t)) c.in-One.is)

pub returns-in-Two : goal.returns-in-Two
unfolding pack
returns-in-Two c = refl ∙ sym (ap (λ t. pack (told_says t)) c.in-Two.is)

pub overflow_mul-result : goal.overflow_mul-result
overflow_mul-result c = omega (arith, one (goal.at.overflow_mul-result c).In-One)

pub overflow_add-result : goal.overflow_add-result
overflow_add-result c = omega (arith, one (goal.at.overflow_add-result c).In-One)

pub overflow_mul-result-in-Two : goal.overflow_mul-result-in-Two
overflow_mul-result-in-Two c = omega (arith, two (goal.at.overflow_mul-result-in-Two c).In-Two)

pub overflow_add-result-in-Two : goal.overflow_add-result-in-Two
overflow_add-result-in-Two c = omega (arith, two (goal.at.overflow_add-result-in-Two c).In-Two)

pub overflow_mul-result-in-Two-2 : goal.overflow_mul-result-in-Two-2
overflow_mul-result-in-Two-2 c = omega (arith, two (goal.at.overflow_mul-result-in-Two-2 c).In-Two)

pub overflow_add-result-in-Two-2 : goal.overflow_add-result-in-Two-2
overflow_add-result-in-Two-2 c = omega (arith, two (goal.at.overflow_add-result-in-Two-2 c).In-Two)
