-- `calls::read_next` meets its contract: the number is the word of the bytes that came. Assumes nothing.
use Rattle.std.proofs.Common.{arith, rules, sym}
use Rattle.octets.specs.Octets.{word_at}
use Rattle.input.specs.Input.Laws.{came-all}
use Rattle.calls.proofs.read_next.Goals as goal

pub returns-clause-numbered : goal.returns-clause-numbered
unfolding word_at
returns-clause-numbered g c =
    let came = came-all _ _ _ c.in-Ok.ensures.came (omega arith) in
    (c.fill.new.bytes, search rules, sym c.word-function.ensures, came)
