-- `parties::scan_parties` meets its contract: no party comes before the first, and no count of one. Assumes nothing.
use Rattle.std.proofs.Common.{arith, rules}
use Rattle.words.specs.Sum.Laws.{sum-none}
use Rattle.book.specs.Layout.{party_count}
use Rattle.parties.proofs.scan_parties.Goals as goal

pub scan-requires : goal.scan-requires
scan-requires c = let none = sum-none (party_count c.args.book.now) in (search rules, omega arith, search rules)
