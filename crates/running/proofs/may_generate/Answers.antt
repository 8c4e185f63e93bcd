-- `running::may_generate` meets its contract: by the type's word. Assumes nothing.
use Rattle.std.proofs.Common.{arith}
use Rattle.std.proofs.lemmas.Bool.Decides.{nat_tests}
use Rattle.ruling.specs.Rules.Decide.{by-law}
use Rattle.running.specs.Rules.Own.{generates}
use Rattle.running.proofs.may_generate.Goals as goal

pub returns-then-c-ne2 : goal.returns-then-c-ne2
returns-then-c-ne2 c = by-law (generates _ _ _ c.requires c.word-c.ensures) (grind (arith, nat_tests))

pub returns-else-c-ne2 : goal.returns-else-c-ne2
returns-else-c-ne2 c = by-law (generates _ _ _ c.requires c.word-c.ensures) (grind (arith, nat_tests))
