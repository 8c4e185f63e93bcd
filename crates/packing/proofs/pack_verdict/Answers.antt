-- `packing::pack_verdict` meets its contract: a verdict as `told_verdict` tells it, and a refusal as `told_of` does. Assumes nothing.
use mathlib.Core.Path.{sym, ap, ◌∙◌}
use Rattle.renaming.specs.Verdict.{verdict_says}
use Rattle.packing.specs.Packed.{pack as pack_of}
use Rattle.packing.proofs.pack_verdict.Goals as goal

-- a verdict
pub pack_told-requires : goal.pack_told-requires
pack_told-requires c = rw c.told_verdict.ensures (rw c.in-Ok.is at c.requires)

-- a refusal
pub pack_told-requires-in-Err : goal.pack_told-requires-in-Err
pack_told-requires-in-Err c = rw c.told_of.ensures (rw c.in-Err.is at c.requires)

pub returns-in-Ok : goal.returns-in-Ok
returns-in-Ok c = c.pack_told.ensures ∙ ap pack_of c.told_verdict.ensures ∙ sym (ap (λ r. pack_of (verdict_says r)) c.in-Ok.is)

pub returns-in-Err : goal.returns-in-Err
returns-in-Err c = c.pack_told-in-Err.ensures ∙ ap pack_of c.told_of.ensures ∙ sym (ap (λ r. pack_of (verdict_says r)) c.in-Err.is)
