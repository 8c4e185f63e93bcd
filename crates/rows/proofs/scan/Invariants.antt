-- `rows::scan` meets its contract: a walk over the records. A record passed keeps its rule, so that the counts so far lie in the pool and
-- their sum doesn't wrap. Assumes nothing.
use Rattle.rows.specs.Scanned.{Summed}
use Rattle.rows.proofs.scan.Given as goal

abbrev pub invariant-loop-place : goal.invariant-loop-place
invariant-loop-place g l = let r = g.R.Records in Summed l.book (r.breaks l.book) (r.before l.book) l.place l.sum
