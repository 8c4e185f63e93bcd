-- `holding::partners` meets its contract: each row is entered in turn, a half by `join` and any other as its own
-- partner. Assumes nothing.
use Rattle.holding.specs.Partners.{PartnersBefore}
use Rattle.holding.proofs.partners.Given as goal

abbrev pub invariant-loop-row : goal.invariant-loop-row
invariant-loop-row l = PartnersBefore l.book l.row l.table l.seen
