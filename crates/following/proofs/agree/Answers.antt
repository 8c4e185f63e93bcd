-- `following::agree` meets its contract: by what the word is (`agree-use`, `agree-first`, `agree-plain`), if there is one.
-- Assumes nothing.
use Rattle.following.specs.Agreeing.Laws.{agree-past, agree-use, agree-first, agree-ranged, agree-plain}
use Rattle.following.proofs.agree.Goals as goal

pub returns-then-total-place : goal.returns-then-total-place
returns-then-total-place c = agree-past c.requires _ c.if-total-place.true

-- a placeholder
pub returns-in-Use : goal.returns-in-Use
returns-in-Use c = agree-use c.requires _ c.if-total-place.false c.their-y.ensures c.in-Use.ensures c.name_of.ensures

pub begins_run-requires : goal.begins_run-requires
begins_run-requires c = agree-ranged c.requires c.args.v c.in-First.ensures

-- the first of a run
pub returns-in-First : goal.returns-in-First
returns-in-First c = agree-first c.requires _ c.if-total-place.false c.their-y.ensures c.in-First.ensures c.begins_run.ensures

-- a plain word
pub returns-in_default : goal.returns-in_default
returns-in_default c = agree-plain c.requires _ c.if-total-place.false c.their-y.ensures c.class.ensures
    c.in_default.not-Use c.in_default.not-First
