-- `alike::count_where` meets its contract: the test holds of n of the effects behind. Assumes nothing.
use Rattle.std.proofs.Common.{rules}
use native.Mathlib.Omega.{arith}
use Rattle.spans.specs.Behind.Laws.{ends_at}
use Rattle.alike.specs.Same.Each.{effect-inside, effect-found, effect-at, counting-yes, counting-no, counting-done}
use Rattle.alike.proofs.count_where.Goals as goal
use Rattle.alike.proofs.count_where.Goals.{then-holds, else-holds}

pub overflow_add-i : goal.overflow_add-i
overflow_add-i g c =
    let l = effect-inside c.args.w.now (goal.F-post g c.args.holds) c.args.a c.args.k c.args.end _ _ c.loop-test.true c.loop.invariant.along in
    omega arith

pub unwrap-e-requires : goal.unwrap-e-requires
unwrap-e-requires g c =
    effect-found c.args.w.now (goal.F-post g c.args.holds) c.args.a c.args.k c.args.end _ _ c.loop-test.true c.loop.invariant.along _
    c.term_end.ensures

pub holds-requires : goal.holds-requires
holds-requires g c =
    let h = c.requires.asked _ _
    (effect-at c.args.w.now (goal.F-post g c.args.holds) c.args.a c.args.k c.args.end _ _ c.loop-test.true c.loop.invariant.along _
    (ends_at _ _ _ _ _ c.term_end.ensures c.unwrap-e.ensures)) in
    search rules

pub loop-preserved : goal.loop-preserved
loop-preserved g c =
    elim c.if-holds.branch [
      | then-holds w ↦ rw w.n-is (counting-yes _ _ _ _ _ _ _ c.loop-test.true _ (ends_at _ _ _ _ _ c.term_end.ensures c.unwrap-e.ensures) _ c.loop.invariant w.if-holds.ensures)
      | else-holds w ↦ rw w.n-is (counting-no _ _ _ _ _ _ _ c.loop-test.true _ (ends_at _ _ _ _ _ c.term_end.ensures c.unwrap-e.ensures) _ c.loop.invariant w.if-holds.ensures)
    ]

pub returns-clause-counts : goal.returns-clause-counts
returns-clause-counts g c = counting-done _ _ _ _ _ _ _ c.loop-test.false _ c.loop.invariant
