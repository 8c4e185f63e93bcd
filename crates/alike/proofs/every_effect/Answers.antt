-- `alike::every_effect` meets its contract: the test holds of each of the effects behind. Assumes nothing.
use Rattle.std.proofs.Common.{rules}
use native.Mathlib.Omega.{arith}
use Rattle.spans.specs.Behind.Laws.{ends_at}
use Rattle.alike.specs.Same.Each.{effect-inside, effect-found, effect-at, each-again, each-fails, each-done}
use Rattle.alike.proofs.every_effect.Goals as goal

pub overflow_add-i : goal.overflow_add-i
overflow_add-i g c =
    let l = effect-inside c.args.w.now (goal.F-post g c.args.holds) c.args.a c.args.k c.args.end _ _ c.loop-test.true c.loop.invariant.along in
    omega arith

pub unwrap-e-requires : goal.unwrap-e-requires
unwrap-e-requires g c =
    effect-found c.args.w.now (goal.F-post g c.args.holds) c.args.a c.args.k c.args.end _ _ c.loop-test.true c.loop.invariant.along _
    c.term_end.ensures

pub holds-requires : goal.holds-requires
holds-requires g c =
    let h = c.requires.asked _ _
    (effect-at c.args.w.now (goal.F-post g c.args.holds) c.args.a c.args.k c.args.end _ _ c.loop-test.true c.loop.invariant.along _
    (ends_at _ _ _ _ _ c.term_end.ensures c.unwrap-e.ensures)) in
    search rules

pub returns-then-not-holds : goal.returns-then-not-holds
returns-then-not-holds g c = each-fails _ _ _ _ _ _ _ c.loop-test.true _ (ends_at _ _ _ _ _ c.term_end.ensures c.unwrap-e.ensures) c.loop.invariant c.if-not-holds.ensures

pub loop-preserved : goal.loop-preserved
loop-preserved g c = each-again _ _ _ _ _ _ _ c.loop-test.true _ (ends_at _ _ _ _ _ c.term_end.ensures c.unwrap-e.ensures) c.loop.invariant c.if-not-holds.ensures

pub returns : goal.returns
returns g c = each-done _ _ _ _ _ _ _ c.loop-test.false c.loop.invariant
