-- `shapes::is_pair` meets its contract: the word, the first type, and the second with the name bound. Assumes nothing.
use Rattle.std.proofs.Common.{rules, arith}
use Rattle.changed.specs.Put.{change_by}
use Rattle.shapes.specs.Shape.Laws.{type-inside, pair-other, pair-first, pair-second, pair-second-same, pair-first-other}
use Rattle.shapes.proofs.is_pair.Goals as goal
use Rattle.shapes.proofs.is_pair.Goals.{then-w-a-ne2-via-then-w-a-ne2, then-w-a-ne2-via-else-w-a-ne2+then-not-same_at}

pub offset_bounds-w-a : goal.offset_bounds-w-a
offset_bounds-w-a c = let l = type-inside _ _ c.requires.0 in search rules

pub bounds-w-a : goal.bounds-w-a
bounds-w-a c = omega (arith, type-inside _ _ c.requires.0)

pub same_at-requires : goal.same_at-requires
same_at-requires c = (pair-first _ _ c.requires.0 c.if-w-a-ne2.false, c.requires.1)

pub returns-then-w-a-ne2 : goal.returns-then-w-a-ne2
returns-then-w-a-ne2 c =
    elim c.then-w-a-ne2.branch [
      | then-w-a-ne2-via-then-w-a-ne2 w ↦ pair-other _ _ c.requires.0 _ _ w.if-w-a-ne2.true
      | then-w-a-ne2-via-else-w-a-ne2+then-not-same_at w ↦
          pair-first-other _ _ c.requires.0 w.if-w-a-ne2.false _ _ w.if-not-same_at.ensures
    ]

pub behind-second-requires : goal.behind-second-requires
behind-second-requires c = pair-first _ _ c.requires.0 c.if-w-a-ne2.false

pub behind-e-requires : goal.behind-e-requires
behind-e-requires c = pair-second _ _ c.requires.0 c.if-w-a-ne2.false _ c.behind-second.ensures

pub returns : goal.returns
unfolding change_by
returns c = pair-second-same _ _ c.requires.0 c.if-w-a-ne2.false _ c.behind-second.ensures _ _ c.if-not-same_at.ensures _ c.same_changed.ensures
