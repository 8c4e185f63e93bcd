-- `editor_c::nghiralum_ask` meets its contract: every reply fits one number. Assumes nothing.
use mathlib.Core.Path.{ap, ◌∙◌}
use Rattle.editor.specs.Bytes.Laws.{asked-bytes-small}
use Rattle.packing.specs.Packed.{pack as pack_of, capped as capped_of}
use Rattle.editor_c.proofs.nghiralum_ask.Goals as goal

-- so it can be packed
pub pack_reply-requires : goal.pack_reply-requires
pack_reply-requires c = let a = c.args in
    rw c.ask-reply.ensures (asked-bytes-small a.summary.now a.party a.row a.step)

pub returns : goal.returns
returns c = c.pack_reply.ensures ∙ ap (λ s. pack_of (capped_of s)) c.ask-reply.ensures
