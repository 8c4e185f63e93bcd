-- `shapes::wraps` meets its contract: the word, and the type in brackets. Assumes nothing.
use Rattle.std.proofs.Common.{rules, arith, ne_eqb, ◌∙◌}
use Rattle.shapes.specs.Shape.Laws.{type-inside, wraps-other, wrapped-reads, wraps-same}
use Rattle.shapes.proofs.wraps.Goals as goal

pub offset_bounds-w-a : goal.offset_bounds-w-a
offset_bounds-w-a c = let l = type-inside _ _ c.requires.0 in search rules

pub bounds-w-a : goal.bounds-w-a
bounds-w-a c = omega (arith, type-inside _ _ c.requires.0)

pub same_at-requires : goal.same_at-requires
same_at-requires c = let (own, other, low, high) = c.requires in
    (wrapped-reads _ _ own _ low high c.if-w-a.true, other)

pub returns-then-w-a : goal.returns-then-w-a
returns-then-w-a c = let (own, other, low, high) = c.requires in
    wraps-same _ _ own _ low high c.if-w-a.true _ _ c.same_at.ensures

pub returns-else-w-a : goal.returns-else-w-a
returns-else-w-a c = let (own, other, low, high) = c.requires in
    ne_eqb _ _ c.if-w-a.false ∙ wraps-other _ _ own _ low high _ c.if-w-a.false
