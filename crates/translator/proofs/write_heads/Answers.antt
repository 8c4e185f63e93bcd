-- `translator::write_heads` meets its contract: the heads of the parties passed are written while no walk stops
-- (`heads-on`), and of those that stop the one at the smallest step is kept (`heads-off`). Assumes nothing.
use mathlib.Core.Path.{ap}
use Prim.Native.Nat.{◌+◌, ◌*◌}
use native.Mathlib.Omega.{arith}
use Rattle.translator.proofs.Measuring.{reached, heads-start, heads-next, heads-end}
use Rattle.translator.proofs.write_heads.Goals as goal

-- the first program begins behind the number of parties and two words for each
pub loop-party-init : goal.loop-party-init
loop-party-init c = let begins = ap (λ n. 1 + 2 * n) c.wide.ensures.0 in
    heads-start c.parties-n.ensures c.requires.0.valid c.requires.1 begins

-- the party's walk stops before the step at which one has stopped so far, or doesn't stop
pub loop-party-preserved : goal.loop-party-preserved
loop-party-preserved c =
    let upto = reached c.loop-party.stop c.map_or-upto.ensures (λ x p. grind arith) c.steps-all.ensures in
    heads-next c.parties-n.ensures (omega arith) c.loop-party.invariant upto c.measure-part.ensures c.wide-in-loop-party.ensures.0 c.put.ensures
    c.narrow.ensures c.narrow-in-loop-party.ensures c.put_each-next.ensures c.or-stop.ensures

-- the loop ends behind the last party
pub returns : goal.returns
returns c = heads-end c.parties-n.ensures (omega arith) c.loop-party.invariant
