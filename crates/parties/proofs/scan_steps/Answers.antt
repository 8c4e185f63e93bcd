-- `parties::scan_steps` meets its contract: no step comes before the first, and no count of one. Assumes nothing.
use Rattle.std.proofs.Common.{arith, rules}
use Rattle.words.specs.Sum.Laws.{sum-none}
use Rattle.book.specs.Layout.{step_count}
use Rattle.parties.proofs.scan_steps.Goals as goal

pub scan-requires : goal.scan-requires
scan-requires c = let none = sum-none (step_count c.args.book.now) in (search rules, omega arith, search rules)
