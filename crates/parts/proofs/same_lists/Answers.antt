-- `parts::same_lists` meets its contract: only a cast has effects. Assumes nothing.
use native.Mathlib.Omega.{arith}
use Rattle.std.proofs.Common.{ap, not, ◌∙◌, ne_eqb}
use Rattle.parts.specs.Place.Lists.{lists-none, list_inside, list-reads, lists-bags}
use Rattle.parts.proofs.same_lists.Goals as goal

pub bounds-u-a : goal.bounds-u-a
bounds-u-a c = omega (arith, list_inside _ _ _ _ c.requires.0 c.if-c-ne11.false)

pub bounds-v-b : goal.bounds-v-b
bounds-v-b c = omega (arith, list_inside _ _ _ _ c.requires.1 c.if-c-ne11.false)

pub same_bag-requires : goal.same_bag-requires
same_bag-requires c = (
  list-reads _ _ _ _ c.requires.0 c.if-c-ne11.false _ c.wide.ensures.0,
  list-reads _ _ _ _ c.requires.1 c.if-c-ne11.false _ c.wide-else-c-ne11.ensures.0,
)

pub returns-then-c-ne11 : goal.returns-then-c-ne11
returns-then-c-ne11 c = ap not (ne_eqb _ _ c.if-c-ne11.true) ∙ lists-none c.args.u.now c.args.v.now c.args.c c.args.a c.args.b c.if-c-ne11.true

pub returns-else-c-ne11 : goal.returns-else-c-ne11
returns-else-c-ne11 c = search lists-bags
