-- `alike::some_leaf` meets its contract: no leaf before the place i is of the kind. Assumes nothing.
use native.Mathlib.Omega.{arith}
use Rattle.alike.specs.Same.Leaves.{along-begin, along-parts, along-found, along-again, along-done}
use Rattle.alike.proofs.some_leaf.Goals as goal

pub loop-due-init : goal.loop-due-init
loop-due-init g c = along-begin _ _ _ _ c.requires.reads

pub loop-due-preserved-then-w-i-lt4 : goal.loop-due-preserved-then-w-i-lt4
loop-due-preserved-then-w-i-lt4 g c = search along-parts

pub returns-then-holds : goal.returns-then-holds
returns-then-holds g c =
    along-found _ _ _ _ _ _ c.loop-due.invariant c.loop-due-test.true (λ l. omega arith) c.if-holds.ensures

pub loop-due-preserved : goal.loop-due-preserved
loop-due-preserved g c =
    along-again _ _ _ _ _ _ c.loop-due.invariant c.loop-due-test.true (λ l. omega arith) c.if-holds.ensures

pub returns : goal.returns
returns g c = along-done _ _ _ _ _ _ c.loop-due.invariant c.loop-due-test.false
