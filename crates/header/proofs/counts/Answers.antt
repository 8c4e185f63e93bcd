-- `header::counts` meets its contract: no section that the loop has passed has a count outside its bounds.
-- Assumes nothing.
use Rattle.std.proofs.Common.{◌≡◌, sym, ◌∙◌}
use Rattle.book.specs.Rules.{count_breaks}
use Rattle.header.proofs.Header.{count_at}
use Rattle.header.specs.Scans.Laws.{passed-more, found_at, found_none}
use Rattle.header.proofs.counts.Goals as goal
use Rattle.header.proofs.counts.Goals.{After-outside}

-- what `outside` says of the section's count is whether the section breaks its rule
module _ (c : After-outside) where
  breaks : c.outside.result ≡ count_breaks c.args.book.now c.loop-i.i
  breaks =
      count_at c.args.book.now _ _ _ _ c.of-section.ensures c.wide.ensures.0 c.outside.ensures

pub returns-then-outside : goal.returns-then-outside
returns-then-outside c = found_at _ _ _ c.loop-i.invariant c.loop-i-test.true _ (breaks (goal.at.returns-then-outside c).After-outside) c.if-outside.true

pub loop-i-preserved : goal.loop-i-preserved
loop-i-preserved c = passed-more _ _ c.loop-i.invariant (sym (breaks (goal.at.loop-i-preserved c).After-outside) ∙ c.if-outside.false)

pub returns : goal.returns
returns c = found_none _ _ _ c.loop-i.invariant c.loop-i.auto.i-end c.loop-i-test.false
