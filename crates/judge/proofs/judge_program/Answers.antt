-- `judge::judge_program` meets its contract: by how far the program agrees, and where their words end. Assumes nothing.
use Rattle.std.proofs.Common.{refl}
use Rattle.judge.specs.Program.Judged.{judged-broken, judged-longer, judged-same}
use Rattle.judge.proofs.judge_program.Goals as goal

pub follow_program-followed-requires : goal.follow_program-followed-requires
follow_program-followed-requires c = (c.requires.1, record { step-size = refl; table-size = refl; log-size = refl; called-size = refl })

-- a word doesn't agree
pub returns-in-Err : goal.returns-in-Err
returns-in-Err c = judged-broken c.requires.0 c.requires.1.party c.in-Err.ensures

-- theirs go on
pub returns-then-at-size : goal.returns-then-at-size
returns-then-at-size c = judged-longer c.requires.0 c.requires.1.party c.in-Ok.ensures c.size.ensures c.if-at-size.true

-- all agree
pub returns-else-at-size : goal.returns-else-at-size
returns-else-at-size c = judged-same c.requires.0 c.requires.1.party c.in-Ok.ensures c.size.ensures c.if-at-size.false
