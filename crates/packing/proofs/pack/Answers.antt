-- `packing::pack` meets its contract: a length is told with the number 0, and a refusal as `told_of` tells it. Assumes
-- nothing.
use mathlib.Core.Path.{sym, ap, ◌∙◌}
use Rattle.translation.specs.Outcome.{answer_says}
use Rattle.packing.specs.Packed.{pack as pack_of}
use Rattle.packing.specs.Packed.Laws.{small-packs}
use Rattle.packing.proofs.pack.Goals as goal

-- a length
pub pack_told-requires : goal.pack_told-requires
pack_told-requires c = small-packs (rw c.in-Ok.is at c.requires)

-- a refusal
pub pack_told-requires-in-Err : goal.pack_told-requires-in-Err
pack_told-requires-in-Err c = rw c.told_of.ensures (small-packs (rw c.in-Err.is at c.requires))

pub returns-in-Ok : goal.returns-in-Ok
returns-in-Ok c = c.pack_told.ensures ∙ sym (ap (λ a. pack_of (answer_says a)) c.in-Ok.is)

pub returns-in-Err : goal.returns-in-Err
returns-in-Err c = c.pack_told-in-Err.ensures ∙ ap pack_of c.told_of.ensures
    ∙ sym (ap (λ a. pack_of (answer_says a)) c.in-Err.is)
