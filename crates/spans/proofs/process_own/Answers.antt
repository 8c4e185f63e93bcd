-- `spans::process_own` meets its contract, word by word of the table. Assumes nothing.
use Rattle.std.proofs.Common.{rules}
use Rattle.spans.specs.Behind.Laws.{ends-nothing, ends_as}
use Rattle.spans.specs.Behind.Processes.{own_new, own_out, own-inp, own-first, own_split, own-match, own-begin, own-cast-none, own-cast-list, own-none}
use Rattle.spans.proofs.process_own.Goals as goal

pub returns-in_err-end-in-11 : goal.returns-in_err-end-in-11
returns-in_err-end-in-11 c = search (ends-nothing, own-cast-none, c.in_err-end-in-11.ensures)

pub returns-in_ok-end-in-11 : goal.returns-in_ok-end-in-11
returns-in_ok-end-in-11 c =
    ends_as _ _ _ _ _ _ c.in_ok-end-in-11.ensures.after (own-cast-list _ _ c.requires c.in-11.is _ c.in_ok-end-in-11.ensures) c.list_end.ensures

pub returns-in-1 : goal.returns-in-1
returns-in-1 c = search (rules, ends_as, own_new)

pub returns-in-2 : goal.returns-in-2
returns-in-2 c = search (rules, ends_as, own_out)

pub returns-in-3 : goal.returns-in-3
returns-in-3 c = search (rules, ends_as, own-inp)

pub returns-in-6 : goal.returns-in-6
returns-in-6 c = search (rules, ends_as, own_split)

pub returns-in-7 : goal.returns-in-7
returns-in-7 c = search (rules, ends_as, own-match)

pub returns-in-9 : goal.returns-in-9
returns-in-9 c = search (rules, ends_as, own-begin)

pub returns-in-4 : goal.returns-in-4
returns-in-4 c = search (rules, own-first)

pub returns-in_default : goal.returns-in_default
returns-in_default c = search (rules, own-none)

pub returns-in_default-2 : goal.returns-in_default-2
returns-in_default-2 c = search (rules, own-none)
