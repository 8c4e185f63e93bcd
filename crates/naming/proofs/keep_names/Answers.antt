-- `naming::keep_names` meets its contract: the names of the first triples are written, and each turn writes the next.
-- Assumes nothing.
use Rattle.std.proofs.Common.{◌-◌, sym, ap, ◌∙◌, [], ◌∷◌, get_or, arith}
use Rattle.words.specs.Overlay.Laws.{wrote_as}
use Rattle.naming.specs.Called.Laws.{kept-none, kept_more}
use Rattle.naming.proofs.keep_names.Goals as goal

pub loop-k-init : goal.loop-k-init
loop-k-init c = kept-none _ _

-- a name more
pub loop-k-preserved : goal.loop-k-preserved
loop-k-preserved c =
    let name = c.recent.ensures ∙ ap (λ x. get_or c.args.table.now (x - c.args.begin) 0) c.word-x.ensures in
    kept_more _ _ _ (omega arith) c.loop-k.invariant (wrote_as c.put-next.ensures (ap (λ x. x ∷ []) (sym name)))
