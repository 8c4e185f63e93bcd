-- `line::print` meets its contract: what a write took stands behind what was written before it. Assumes nothing.
use Rattle.std.proofs.Common.{◌++◌, rules, take, sym, ap, ◌∙◌, subst}
use Rattle.std.proofs.lemmas.List.{take_rest}
use Rattle.std.specs.Io.KnownBytes.{Appends}
use Rattle.std.proofs.KnownBytes.{Appends-trans}
use lib.Seq.{take-add}
use Rattle.line.proofs.print.Goals as goal

-- the front of the line and what was taken of its rest
pub loop-done-preserved : goal.loop-done-preserved
loop-done-preserved g c =
    let line = c.args.line.now in
    let done = c.loop-done.done in
    let more = c.in-Ok.more in
    let both = Appends-trans _ _ _ _ _ c.loop-done.invariant.1 c.in-Ok.ensures.bytes in
    let front = ap (λ l. take done line ++ take more l) (take_rest line done) ∙ sym (take-add done more line) in
    (search rules, subst (Appends _ _) front both)
