-- `following::follow_words` meets its contract: ours are compared up to a word (`UpTo`), and each turn goes a word on.
-- Assumes nothing.
use Rattle.std.proofs.Common.{arith}
use Rattle.following.specs.Agreeing.Following.{up_start, up-ready, up-off, up-there, up_fits, up-on, up-end}
use Rattle.following.proofs.follow_words.Goals as goal

pub loop-k-init : goal.loop-k-init
loop-k-init c = up_start c.requires

pub agree-agreed-requires : goal.agree-agreed-requires
agree-agreed-requires c = up-ready c.loop-k.invariant c.size-total.ensures c.loop-k-test.true

-- the word doesn't agree
pub returns-then-not-agreed : goal.returns-then-not-agreed
returns-then-not-agreed c = up-off c.loop-k.invariant c.loop-k-test.true c.word-v.ensures c.agree-agreed.ensures c.if-not-agreed.true

pub fill-filled-requires : goal.fill-filled-requires
fill-filled-requires c =
    up_fits c.loop-k.invariant c.loop-k-test.true c.word-v.ensures c.agree-agreed.ensures c.if-not-agreed.false c.their-y.ensures (omega arith)
    c.run_of-run.ensures

-- a word stands at the place, so there is a place behind it
pub overflow_add-at : goal.overflow_add-at
overflow_add-at c =
    let there = up-there c.loop-k.invariant c.loop-k-test.true c.word-v.ensures c.agree-agreed.ensures c.if-not-agreed.false in
    omega arith

pub loop-k-preserved : goal.loop-k-preserved
loop-k-preserved c =
    up-on c.loop-k.invariant c.loop-k-test.true c.word-v.ensures c.agree-agreed.ensures c.if-not-agreed.false c.their-y.ensures
    c.run_of-run.ensures c.next-mode.ensures c.fill-filled.ensures c.widened-all.ensures

-- all agree
pub returns : goal.returns
returns c = up-end c.loop-k.invariant c.loop-k-test.false
