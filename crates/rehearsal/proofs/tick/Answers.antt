-- `rehearsal::tick` meets its contract: the party is at END, waits, or does one event more. Assumes nothing.
use Rattle.std.proofs.Common.{◌<◌, length, arith, rules}
use Rattle.book.specs.Headed.Laws.{few-parties}
use Rattle.rehearsal.proofs.Ticked.{at-end, still-waits, does-next}
use Rattle.rehearsal.proofs.tick.Goals as goal
use Rattle.rehearsal.proofs.tick.Goals.{else-at-end-via-then-at-end+else-not-waits, else-at-end-via-else-at-end}

-- the END is still ahead, and it doesn't wait
pub returns-then-not-waits : goal.returns-then-not-waits
returns-then-not-waits c =
    let a = c.args in
    let inside : a.party < length a.done.now = omega (arith, few-parties) in (
      does-next a.book.now a.sends.now a.receives.now a.ends.now a.done.now a.party c.wide.ensures.0 c.wide-2.ensures.0 c.if-at-end.true
          c.waits.ensures c.wide-then-not-waits.ensures.0 inside c.if-not-waits.true,
      search rules,
    )

-- it waits, or it is at END
pub returns-else-at-end : goal.returns-else-at-end
returns-else-at-end c =
    let a = c.args in (
      elim c.else-at-end.branch [
        | else-at-end-via-then-at-end+else-not-waits w ↦ still-waits a.book.now a.sends.now a.receives.now a.ends.now a.done.now a.party
            c.wide.ensures.0 c.wide-2.ensures.0 w.if-at-end.true w.waits.ensures w.if-not-waits.false
        | else-at-end-via-else-at-end w ↦ at-end a.book.now a.sends.now a.receives.now a.ends.now a.done.now a.party
            c.wide.ensures.0 c.wide-2.ensures.0 w.if-at-end.false
      ],
      c.told-done,
    )
