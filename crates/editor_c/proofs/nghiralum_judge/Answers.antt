-- `editor_c::nghiralum_judge` meets its contract: every verdict fits one number. Assumes nothing.
use mathlib.Core.Path.{ap, ◌∙◌}
use native.Mathlib.Omega.{arith}
use Rattle.editor.specs.Bytes.Judged.{judged-packs}
use Rattle.packing.specs.Packed.{pack as pack_of}
use Rattle.editor_c.proofs.nghiralum_judge.Goals as goal

-- so it can be packed
pub pack_verdict-requires : goal.pack_verdict-requires
pack_verdict-requires c = let a = c.args in
    rw c.judge-verdict.ensures (judged-packs a.book.now a.party a.listing.now (omega arith))

pub returns : goal.returns
returns c = c.pack_verdict.ensures ∙ ap pack_of c.judge-verdict.ensures
