-- `running::extended_twice` meets its contract: the word, the newest entry, and the older ones. Assumes nothing.
use Rattle.std.proofs.Common.{arith}
use borrow.Author.Rules.{rules}
use Rattle.shapes.specs.Shape.{made_type}
use Rattle.shapes.specs.Shape.Laws.{environment-inside, no-entry, entry-type, entry-older}
use Rattle.ruling.specs.Rules.Decide.{by-law}
use Rattle.running.specs.Entries.{entry-tests}
use Rattle.running.proofs.extended_twice.Goals as goal

pub offset_bounds-w-a : goal.offset_bounds-w-a
offset_bounds-w-a c = let l = environment-inside _ _ c.requires.0 in search rules

pub bounds-w-a : goal.bounds-w-a
bounds-w-a c = environment-inside _ _ c.requires.0

pub returns-then-w-a-ne2 : goal.returns-then-w-a-ne2
returns-then-w-a-ne2 c = no-entry _ _ c.requires.0 _ _ c.if-w-a-ne2.true

pub behind-older-requires : goal.behind-older-requires
behind-older-requires c = entry-type _ _ c.requires.0 c.if-w-a-ne2.false

pub extended-requires : goal.extended-requires
extended-requires c = (entry-older _ _ c.requires.0 c.if-w-a-ne2.false _ c.behind-older.ensures, c.requires.2, c.requires.3)

pub returns-then-same_at : goal.returns-then-same_at
unfolding made_type
returns-then-same_at c = by-law (entry-tests _ _ c.requires.0 c.if-w-a-ne2.false _ c.behind-older.ensures _ _ _) (grind arith)

pub returns-else-same_at : goal.returns-else-same_at
unfolding made_type
returns-else-same_at c = by-law (entry-tests _ _ c.requires.0 c.if-w-a-ne2.false _ c.behind-older.ensures _ _ _) (grind arith)
