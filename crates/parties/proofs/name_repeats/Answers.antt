-- `parties::name_repeats` meets its contract: every party that the loop has passed has another name. Assumes nothing.
use Rattle.std.proofs.Common.{arith, rules}
use Rattle.header.specs.Scans.Laws.{some-breaks, none-breaks}
use Rattle.header.specs.Tests.{eqb_yes}
use Rattle.parties.proofs.name_repeats.Goals as goal

pub returns-then-party_name-own : goal.returns-then-party_name-own
returns-then-party_name-own c = search (some-breaks, eqb_yes, rules)

pub returns : goal.returns
returns c = none-breaks _ _ _ c.loop-k.invariant (omega arith)
