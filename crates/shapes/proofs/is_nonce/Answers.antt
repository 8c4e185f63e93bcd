-- `shapes::is_nonce` meets its contract: the word, and the effects as multisets. Assumes nothing.
use Rattle.std.proofs.Common.{rules, arith, ne_eqb, ◌∙◌}
use Rattle.shapes.specs.Shape.Laws.{type-inside, nonce-other, nonce-count, nonce-reads, nonce-same}
use Rattle.shapes.proofs.is_nonce.Goals as goal

pub offset_bounds-w-a : goal.offset_bounds-w-a
offset_bounds-w-a c = let l = type-inside _ _ c.requires.0 in search rules

pub bounds-w-a : goal.bounds-w-a
bounds-w-a c = omega (arith, type-inside _ _ c.requires.0)

pub bounds-w-a-then-w-a-eq5 : goal.bounds-w-a-then-w-a-eq5
bounds-w-a-then-w-a-eq5 c = omega (arith, nonce-count _ _ c.requires.0 c.if-w-a-eq5.true)

pub same_bag-requires : goal.same_bag-requires
same_bag-requires c = (
  nonce-reads _ _ c.requires.0 c.if-w-a-eq5.true _ c.wide.ensures.0 _ c.behind.ensures,
  c.requires.1,
)

pub returns-then-w-a-eq5 : goal.returns-then-w-a-eq5
returns-then-w-a-eq5 c = nonce-same _ _ c.requires.0 c.if-w-a-eq5.true _ c.wide.ensures.0 _ _ c.same_bag.ensures

pub returns-else-w-a-eq5 : goal.returns-else-w-a-eq5
returns-else-w-a-eq5 c = ne_eqb _ _ c.if-w-a-eq5.false ∙ nonce-other _ _ c.requires.0 _ c.if-w-a-eq5.false
