-- `naming::name_of` meets its contract: by the step's table, or beside the stored placeholder that it is. Assumes
-- nothing.
use Rattle.std.proofs.Common.{◌∙◌}
use Rattle.naming.specs.Called.Laws.{name-recent, name-stored, found-or}
use Rattle.naming.proofs.name_of.Goals as goal

pub returns-then-begin-x : goal.returns-then-begin-x
returns-then-begin-x c = name-recent _ _ c.args.table.now c.args.log.now c.args.n c.args.called.now
    c.if-begin-x.true
    c.recent.ensures

pub returns-else-begin-x : goal.returns-else-begin-x
returns-else-begin-x c = name-stored _ _ c.args.table.now c.args.log.now c.args.n c.args.called.now
    c.if-begin-x.false
    (c.unwrap_or.ensures ∙ found-or c.find.result _ _ c.find.ensures) c.word.ensures
