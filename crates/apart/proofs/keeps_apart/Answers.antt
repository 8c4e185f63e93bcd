-- `apart::keeps_apart` meets its contract: an environment, a process behind it, and nothing more. Assumes nothing.
use Rattle.std.proofs.Common.{◌∙◌, ne_eqb}
use Rattle.apart.specs.Bound.Asked.{asked-no-environment, asked-no-process, asked-more, asked-apart}
use Rattle.apart.proofs.keeps_apart.Goals as goal

pub returns-in_default : goal.returns-in_default
returns-in_default c = asked-no-environment _ c.in_default.ensures

pub returns-in_default-process_end : goal.returns-in_default-process_end
returns-in_default-process_end c = asked-no-process _ _ c.in-Some.ensures c.in_default-process_end.ensures

pub returns-then-end-asked : goal.returns-then-end-asked
returns-then-end-asked c = asked-apart _ _ c.in-Some.ensures _ c.in-Some-process_end.ensures c.if-end-asked.true _ c.all_apart.ensures

pub returns-else-end-asked : goal.returns-else-end-asked
returns-else-end-asked c =
    ne_eqb _ _ c.if-end-asked.false ∙ asked-more _ _ c.in-Some.ensures _ c.in-Some-process_end.ensures c.if-end-asked.false
