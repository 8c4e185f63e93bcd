-- `shapes::extended` meets its contract: the word, the name, the type, and the older entries. Assumes nothing.
use Rattle.std.proofs.Common.{rules, arith}
use Rattle.std.proofs.Math.Path.{refl}
use Rattle.shapes.specs.Shape.Laws.{environment-inside, no-entry, entry-name, entry-type, entry-name-other, entry-type-other, entry-older, entry-same}
use Rattle.shapes.proofs.extended.Goals as goal
use Rattle.shapes.proofs.extended.Goals.{then-w-a-ne2-via-then-w-a-ne2, then-w-a-ne2-via-else-w-a-ne2+then-w-a, then-w-a-ne2-via-else-w-a-ne2+else-w-a+then-not-same_as}

pub offset_bounds-w-a : goal.offset_bounds-w-a
offset_bounds-w-a c = let l = environment-inside _ _ c.requires.0 in search rules

pub bounds-w-a : goal.bounds-w-a
bounds-w-a c = omega (arith, environment-inside _ _ c.requires.0)

pub bounds-w-a-else-w-a-ne2 : goal.bounds-w-a-else-w-a-ne2
bounds-w-a-else-w-a-ne2 c = omega (arith, entry-name _ _ c.requires.0 c.if-w-a-ne2.false)

pub same_as-requires : goal.same_as-requires
same_as-requires c = (entry-type _ _ c.requires.0 c.if-w-a-ne2.false, c.requires.1)

pub returns-then-w-a-ne2 : goal.returns-then-w-a-ne2
returns-then-w-a-ne2 c =
    elim c.then-w-a-ne2.branch [
      | then-w-a-ne2-via-then-w-a-ne2 w ↦ no-entry _ _ c.requires.0 _ _ w.if-w-a-ne2.true
      | then-w-a-ne2-via-else-w-a-ne2+then-w-a w ↦ entry-name-other _ _ c.requires.0 w.if-w-a-ne2.false _ _ _ w.if-w-a.true
      | then-w-a-ne2-via-else-w-a-ne2+else-w-a+then-not-same_as w ↦
          entry-type-other _ _ c.requires.0 w.if-w-a-ne2.false _ _ _ _ w.if-not-same_as.ensures refl
    ]

pub behind-older-requires : goal.behind-older-requires
behind-older-requires c = entry-type _ _ c.requires.0 c.if-w-a-ne2.false

pub same_at-requires : goal.same_at-requires
same_at-requires c = (entry-older _ _ c.requires.0 c.if-w-a-ne2.false _ c.behind-older.ensures, c.requires.2)

pub returns : goal.returns
returns c =
    entry-same _ _ c.requires.0 c.if-w-a-ne2.false _ c.behind-older.ensures _ _ _ c.if-w-a.false _ c.if-not-same_as.ensures refl
    _ c.same_at.ensures
