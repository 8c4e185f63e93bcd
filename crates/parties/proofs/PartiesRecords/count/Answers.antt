-- The parties' `rows::Records::count` meets its contract: the counts before the next party are those before this one, and its own. Assumes nothing.
use Rattle.std.proofs.Common.{arith}
use Rattle.words.specs.Sum.Laws.{sum_more}
use Rattle.book.specs.Layout.{party_count}
use Rattle.parties.proofs.PartiesRecords.count.Goals as goal

pub returns : goal.returns
returns c = let more = sum_more (party_count c.args.book.now) c.args.party in omega arith
