-- `packing::pack_checked` meets its contract: what is said as `told_checked` tells it, capped. Assumes nothing.
use Rattle.std.proofs.Common.{ap, ◌∙◌}
use Rattle.packing.specs.Packed.{pack as pack_of, capped as capped_of}
use Rattle.packing.proofs.pack_checked.Goals as goal

pub pack_told-requires : goal.pack_told-requires
pack_told-requires c = rw (c.capped.ensures, c.told_checked.ensures) c.requires

pub returns : goal.returns
returns c = c.pack_told.ensures ∙ ap pack_of c.capped.ensures ∙ ap (λ s. pack_of (capped_of s)) c.told_checked.ensures
