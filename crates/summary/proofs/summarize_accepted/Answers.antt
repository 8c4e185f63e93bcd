-- `summary::summarize_accepted` meets its contract: refusal 12, and then the summary. Assumes nothing.
use Rattle.summary.proofs.Held.{summary-wrote, short-came, told-came}
use Rattle.summary.proofs.summarize_accepted.Goals as goal

-- fewer words are lent than the summary has
pub returns-then-out-n : goal.returns-then-out-n
returns-then-out-n c =
    short-came c.args.out.now c.requires.0 c.parties-q.ensures c.rows-t.ensures c.size-n.ensures c.if-out-n.true

-- the counts in front, and the parties' words behind them
pub returns : goal.returns
returns c =
    told-came c.args.out.now c.requires.0 c.parties-q.ensures c.rows-t.ensures c.size-n.ensures c.if-out-n.false
    (summary-wrote c.args.book.now c.parties-q.ensures c.rows-t.ensures c.steps-l.ensures c.put_each-next.ensures c.write_parties.ensures)
