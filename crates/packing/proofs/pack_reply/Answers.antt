-- `packing::pack_reply` meets its contract: a reply as `told_reply` tells it, and a refusal as `told_of` does, capped. Assumes nothing.
use mathlib.Core.Path.{sym, ap, ◌∙◌}
use Rattle.summary.specs.Reply.{reply_says}
use Rattle.packing.specs.Packed.{pack as pack_of, capped as capped_of}
use Rattle.packing.specs.Packed.Laws.{small-packs}
use Rattle.packing.proofs.pack_reply.Goals as goal

-- yes or no
pub pack_told-requires : goal.pack_told-requires
pack_told-requires c = rw (c.capped.ensures, c.told_reply.ensures) (small-packs (rw c.in-Ok.is at c.requires))

-- a refusal
pub pack_told-requires-in-Err : goal.pack_told-requires-in-Err
pack_told-requires-in-Err c = rw (c.capped-in-Err.ensures, c.told_of.ensures) (small-packs (rw c.in-Err.is at c.requires))

pub returns-in-Ok : goal.returns-in-Ok
returns-in-Ok c =
    c.pack_told.ensures ∙ ap pack_of c.capped.ensures ∙ ap (λ s. pack_of (capped_of s)) c.told_reply.ensures
    ∙ sym (ap (λ r. pack_of (capped_of (reply_says r))) c.in-Ok.is)

pub returns-in-Err : goal.returns-in-Err
returns-in-Err c =
    c.pack_told-in-Err.ensures ∙ ap pack_of c.capped-in-Err.ensures ∙ ap (λ s. pack_of (capped_of s)) c.told_of.ensures
    ∙ sym (ap (λ r. pack_of (capped_of (reply_says r))) c.in-Err.is)
