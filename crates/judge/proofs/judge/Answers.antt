-- `judge::judge` meets its contract: no bytes are behind the words. Assumes nothing.
use mathlib.Core.Path.{ap, ◌∙◌}
use Rattle.renaming.specs.Verdict.{judged}
use Rattle.judge.specs.Program.Judged.{theirs-alone}
use Rattle.judge.proofs.judge.Goals as goal

pub returns : goal.returns
returns c = c.judge_listing.ensures ∙ ap (judged c.args.book.now c.args.party)
    (theirs-alone c.args.listing.now)
