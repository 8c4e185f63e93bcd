-- `summary::write_party` meets its contract: its words are read off what it holds in the end. Assumes nothing.
use Rattle.std.proofs.Common.{◌∙◌, arith}
use Rattle.book.specs.Headed.Laws.{few-rows}
use Rattle.summary.proofs.Held.{held-wrote}
use Rattle.summary.proofs.write_party.Goals as goal

pub returns : goal.returns
returns c =
    let all = c.steps-never.ensures in
    let count = c.wide-rows.ensures.0 ∙ c.rows.ensures in
    let size = c.hold-entries.ensures.size in
    held-wrote c.requires.ready.valid c.requires.ready.party c.hold-entries.ensures count (omega arith)
    (omega (arith, few-rows c.args.book.now c.requires.ready.valid)) c.write_since.ensures
