-- The parties' `rows::Records::breaks` meets its contract: a list that keeps its rule lies in the pool. Assumes nothing.
use Rattle.std.proofs.Common.{sym, ◌∙◌}
use Rattle.book.specs.Rules.Laws.{list-exact}
use Rattle.parties.proofs.PartiesRecords.breaks.Goals as goal

pub entry_falls-requires : goal.entry_falls-requires
entry_falls-requires c = let listed = (list-exact _ _ _ _ _ _ _).0 (sym c.list_breaks.ensures ∙ c.if-list_breaks.false) in (c.requires.0, listed.inside)
