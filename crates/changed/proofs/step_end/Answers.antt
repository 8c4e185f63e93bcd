-- `changed::step_end` meets its contract: a word of two parts stays, and a leaf becomes what the change makes of it.
-- Assumes nothing.
use Rattle.changed.specs.Put.{change_by}
use Rattle.changed.specs.Put.Laws.{step-two, step-leaf, leaf-inside}
use Rattle.changed.proofs.step_end.Goals as goal

pub leaf_end-requires : goal.leaf_end-requires
leaf_end-requires c = let (first, second, behind, begins, there) = c.requires in
    (first, behind (leaf-inside (change_by c.args.w.now c.args.by) _ 0 _ begins c.term_parts.ensures.0 c.if-term_parts-eq2.false), there)

pub returns-then-term_parts-eq2 : goal.returns-then-term_parts-eq2
returns-then-term_parts-eq2 c =
    rw (step-two _ _ _ _ c.requires.3 c.term_parts.ensures.0 c.if-term_parts-eq2.true) c.words_end.ensures

pub returns-else-term_parts-eq2 : goal.returns-else-term_parts-eq2
returns-else-term_parts-eq2 c =
    rw (step-leaf _ _ _ _ c.requires.3 c.term_parts.ensures.0 c.if-term_parts-eq2.false) c.leaf_end.ensures
