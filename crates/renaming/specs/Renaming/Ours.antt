-- "Ours is always accepted": our own slots, spelt, are ours by the renaming that changes nothing, where no placeholder that they hand out
-- leaves 32 bits. Assumes nothing.
use Rattle.std.specs.Prelude.{ℕ, zero, suc, ◌+◌, ◌≤◌, ◌<◌, List, [], ◌∷◌, map, refl, length, get_or}
use Rattle.std.proofs.Common.{arith}
use Rattle.std.proofs.lemmas.List.{length-map}
use Rattle.std.proofs.Math.ListN.{get_or-map}
use Rattle.translation.specs.Low.{word_limit}
use Rattle.renaming.specs.Slot.{Slot, spelt, Below}
use Rattle.renaming.specs.Renaming.{Turns, Same}

-- of one slot
ours-run : (f n : ℕ) → f + n ≤ word_limit → Turns (λ x. x) (Slot.runs f n) f
ours-run f zero h = refl
ours-run f (suc n) h = (h, λ j l. refl)

ours-turns : (ss : List Slot) → Below word_limit ss → (k : ℕ) → k < length ss
    → Turns (λ x. x) (get_or ss k (Slot.plain 0)) (spelt (get_or ss k (Slot.plain 0)))
unfolding spelt
ours-turns [] h k l = absurd (omega arith)
ours-turns (Slot.plain w ∷ ss) h zero l = refl
ours-turns (Slot.plain w ∷ ss) h (suc k) l = ours-turns ss h k (omega arith)
ours-turns (Slot.uses x ∷ ss) h zero l = refl
ours-turns (Slot.uses x ∷ ss) h (suc k) l = ours-turns ss h.1 k (omega arith)
ours-turns (Slot.runs f n ∷ ss) h zero l = ours-run f n h.0
ours-turns (Slot.runs f n ∷ ss) h (suc k) l = ours-turns ss h.1 k (omega arith)

pub ours_same : (ss : List Slot) → Below word_limit ss → Same ss (map spelt ss)
unfolding spelt
ours_same ss h =
    let e = length-map ss spelt in
    record {
      renames = record {
        to = λ x. x;
        one-to-one = λ x y p. p;
        slots = omega arith;
        words = omega arith;
        turns = λ k l. rw (get_or-map spelt ss k (Slot.plain 0)) (ours-turns ss h k l);
      };
      size = e;
    }
