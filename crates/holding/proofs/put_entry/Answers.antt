-- `holding::put_entry` meets its contract: itself or its placeholder. Assumes nothing.
use Rattle.words.specs.Overlay.Laws.{wrote_as}
use Rattle.holding.specs.AtRow.Laws.{entry-itself, entry-placeholder}
use Rattle.holding.proofs.put_entry.Goals as goal

pub returns-then-held-lt-STORED : goal.returns-then-held-lt-STORED
returns-then-held-lt-STORED c = wrote_as c.put_each.ensures (entry-itself _ _ c.requires c.if-held-lt-STORED.true)

pub returns : goal.returns
returns c = wrote_as c.put_each-2.ensures (entry-placeholder _ _ c.if-held-lt-STORED.false)
