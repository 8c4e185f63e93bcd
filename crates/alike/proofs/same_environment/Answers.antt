-- `alike::same_environment` meets its contract: the older entries are the same exactly if the environments are.
-- Assumes nothing.
use Rattle.std.proofs.Common.{refl}
use Rattle.spans.specs.Behind.Laws.{ends_at}
use Rattle.alike.specs.Same.Environments.{pairing-begin, pairing-left, pairing-right, pairing-names, pairing-types, pairing-again, pairing-ends}
use Rattle.alike.proofs.same_environment.Goals as goal
use Rattle.alike.proofs.same_environment.Goals.{then-u-i-via-then-u-i, then-u-i-via-else-u-i+then-not-same_type}
use Rattle.alike.proofs.same_environment.Goals.{then-loop-i-test+else-v-j-eq2, else-loop-i-test}

pub loop-i-init : goal.loop-i-init
loop-i-init c = search pairing-begin

pub unwrap-own-requires : goal.unwrap-own-requires
unwrap-own-requires c = search pairing-left

pub unwrap-other-requires : goal.unwrap-other-requires
unwrap-other-requires c = search pairing-right

pub returns-then-u-i : goal.returns-then-u-i
returns-then-u-i c =
    let own = ends_at _ _ _ _ _ c.type_end.ensures c.unwrap-own.ensures in
    let other = ends_at _ _ _ _ _ c.type_end-in-loop-i.ensures c.unwrap-other.ensures in
    elim c.then-u-i.branch [
      | then-u-i-via-then-u-i w ↦ pairing-names _ _ _ _ _ _ _ _ c.loop-i.invariant c.loop-i-test.true c.if-v-j-eq2.true _ own _ other w.if-u-i.true
      | then-u-i-via-else-u-i+then-not-same_type w ↦
          pairing-types _ _ _ _ _ _ _ _ c.loop-i.invariant c.loop-i-test.true c.if-v-j-eq2.true _ own _ other w.if-not-same_type.ensures
    ]

pub loop-i-preserved : goal.loop-i-preserved
loop-i-preserved c =
    pairing-again _ _ _ _ _ _ _ _ c.loop-i.invariant c.loop-i-test.true c.if-v-j-eq2.true
    _ (ends_at _ _ _ _ _ c.type_end.ensures c.unwrap-own.ensures)
    _ (ends_at _ _ _ _ _ c.type_end-in-loop-i.ensures c.unwrap-other.ensures) c.if-u-i.false c.if-not-same_type.ensures

pub returns : goal.returns
returns c =
    pairing-ends _ _ _ _ _ _ _ _ c.loop-i.invariant
    (λ p q. elim c.loop-i-test.branch [ then-loop-i-test+else-v-j-eq2 w ↦ w.if-v-j-eq2.false q | else-loop-i-test w ↦ w.loop-i-test.false p ])
    _ refl
