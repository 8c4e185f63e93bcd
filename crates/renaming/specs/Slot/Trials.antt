-- Slots, computed from the definitions: a book, a party and its slots; and slots that are not in order. Assumes nothing.
use Rattle.std.specs.Prelude.{ℕ, List, [], ◌∷◌, ◌≡◌, refl}
use Rattle.std.proofs.Common.{arith}
use Rattle.translation.specs.Trials.{computed}
use Rattle.renaming.specs.Slot.{Slot, part_slots, image_slots, triple_slots, event_slots, program_slots, InOrder, Ordered}
use Rattle.renaming.specs.Slot.Laws.{order-run}

-- ---- a book's slots
-- example 1 of source 000
unfoldable pub example : List ℕ
example =
    5 ∷ 8 ∷ 2 ∷ 28 ∷ 2 ∷ 36 ∷ 11 ∷ 44 ∷ 0 ∷ 0 ∷ 0 ∷ 0 ∷ 0 ∷ 0 ∷ 0 ∷ 0 ∷ 0 ∷ 0 ∷ 0 ∷ 0 ∷ 0 ∷ 0 ∷ 0
    ∷ 0 ∷ 2 ∷ 0 ∷ 0 ∷ 3 ∷ 0 ∷ 3 ∷ 3 ∷ 1 ∷ 1 ∷ 6 ∷ 3 ∷ 1 ∷ 1 ∷ 0 ∷ 9 ∷ 1 ∷ 0 ∷ 1 ∷ 10 ∷ 1 ∷ 2 ∷ 3 ∷ 1 ∷ 0
    ∷ 1 ∷ 2 ∷ 0 ∷ 1 ∷ 2 ∷ 3 ∷ 4 ∷ []

-- A receives N, stores it, and sends the cipher with it
pub stored-slots : part_slots example 0
    ≡ Slot.plain 3 ∷ Slot.plain 0 ∷ Slot.runs 0 1 ∷ Slot.plain 1 ∷ Slot.plain 2 ∷ Slot.plain 1 ∷ Slot.plain 1
    ∷ Slot.plain 3 ∷ Slot.plain 2 ∷ Slot.plain 0 ∷ Slot.plain 2 ∷ Slot.plain 1 ∷ Slot.uses 0 ∷ Slot.plain 0 ∷ Slot.plain 1
    ∷ Slot.plain 6 ∷ Slot.plain 1 ∷ Slot.plain 3 ∷ Slot.uses 0 ∷ Slot.plain 0 ∷ []
unfolding computed part_slots image_slots triple_slots event_slots program_slots example
stored-slots = refl

-- B makes N and sends it; then it opens the cipher, and compares what is in it
pub opened-slots : part_slots example 1
    ≡ Slot.plain 1 ∷ Slot.plain 3 ∷ Slot.plain 2 ∷ Slot.plain 0 ∷ Slot.plain 1 ∷ Slot.plain 0 ∷ Slot.plain 3
    ∷ Slot.plain 3 ∷ Slot.plain 1 ∷ Slot.runs 0 1 ∷ Slot.plain 1
    ∷ Slot.plain 5 ∷ Slot.uses 0 ∷ Slot.runs 1 2 ∷ Slot.plain 2 ∷ Slot.plain 0 ∷ Slot.plain 2
    ∷ Slot.plain 4 ∷ Slot.uses 1 ∷ Slot.plain 0 ∷ Slot.plain 3 ∷ Slot.plain 4 ∷ Slot.uses 2 ∷ Slot.plain 0 ∷ Slot.plain 1
    ∷ Slot.plain 6 ∷ Slot.plain 0 ∷ []
unfolding computed part_slots image_slots triple_slots event_slots program_slots example
opened-slots = refl

-- ---- what is not in order
-- a use of what was never handed out, of what is handed out later, and of the number behind a run
pub never-handed : Ordered (Slot.uses 0 ∷ []) → ⊥
never-handed (InOrder.kept o h) = o
never-handed (InOrder.since l m h) = omega arith

pub handed-later : Ordered (Slot.uses 0 ∷ Slot.runs 0 1 ∷ []) → ⊥
handed-later (InOrder.kept o h) = o
handed-later (InOrder.since l m h) = omega arith

pub one-past : Ordered (Slot.runs 0 2 ∷ Slot.uses 2 ∷ []) → ⊥
one-past (InOrder.runs (InOrder.kept o h)) = o
one-past (InOrder.runs (InOrder.since l m h)) = omega arith

-- a run that leaves a number out
pub left_out : Ordered (Slot.runs 1 1 ∷ []) → ⊥
left_out h = let e = order-run h in omega arith
