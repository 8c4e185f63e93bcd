-- `spans::type_own` meets its contract: a nonce has its effects behind its count, and no other type has words of its own but its
-- first. Assumes nothing.
use Rattle.std.proofs.Common.{rules}
use Rattle.spans.specs.Behind.Laws.{ends_as}
use Rattle.spans.specs.Behind.Types.{type-small, type-nonce, type-none}
use Rattle.spans.proofs.type_own.Goals as goal

pub returns-in-5 : goal.returns-in-5
returns-in-5 c = search (rules, ends_as, type-nonce)

pub returns-in-1-to-4 : goal.returns-in-1-to-4
returns-in-1-to-4 c = search (rules, type-small)

pub returns-in_default : goal.returns-in_default
returns-in_default c = search (rules, type-none)

pub returns-in_default-2 : goal.returns-in_default-2
returns-in_default-2 c = search (rules, type-none)
