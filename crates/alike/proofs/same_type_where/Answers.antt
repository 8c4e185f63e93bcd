-- `alike::same_type_where` meets its contract: what is still to come is the same exactly if the types are. Assumes
-- nothing.
use Rattle.std.proofs.Common.{rules, sym, ◌∙◌}
use native.Mathlib.Omega.{arith}
use Rattle.spans.specs.Behind.Laws.{ends_at}
use Rattle.alike.specs.Same.Types.{pairing-begin, pairing-left, pairing-right, pairing-words, pairing-effects, pairing-again, pairing-done, nonce-inside, nonce-reads, agree-none, agree-nonces}
use Rattle.alike.proofs.same_type_where.Goals as goal
use Rattle.alike.proofs.same_type_where.Goals.{else-u-i-eq5-via-then-u-i-eq5+else-not-holds, else-u-i-eq5-via-else-u-i-eq5}

pub loop-due-init : goal.loop-due-init
loop-due-init g c = pairing-begin _ _ _ _ _ _ _ c.requires.reads.0 c.requires.reads.1

pub unwrap-own-requires : goal.unwrap-own-requires
unwrap-own-requires g c = pairing-left _ _ _ _ _ _ _ _ _ _ c.loop-due.invariant c.loop-due-test.true _ c.type_own.ensures

pub unwrap-other-requires : goal.unwrap-other-requires
unwrap-other-requires g c = pairing-right _ _ _ _ _ _ _ _ _ _ c.loop-due.invariant c.loop-due-test.true _ c.type_own-in-loop-due.ensures

pub returns-then-u-i : goal.returns-then-u-i
returns-then-u-i g c = λ ch f makes.
    pairing-words _ _ _ _ _ _ _ _ _ _ c.loop-due.invariant c.loop-due-test.true
    _ (ends_at _ _ _ _ _ c.type_own.ensures c.unwrap-own.ensures)
    _ (ends_at _ _ _ _ _ c.type_own-in-loop-due.ensures c.unwrap-other.ensures) ch f makes c.if-u-i.true

pub bounds-u-i-then-u-i-eq5 : goal.bounds-u-i-then-u-i-eq5
bounds-u-i-then-u-i-eq5 g c =
    omega (
      arith,
      nonce-inside _ _ _ (c.loop-due.invariant.left-inside c.loop-due-test.true)
          (ends_at _ _ _ _ _ c.type_own.ensures c.unwrap-own.ensures) c.if-u-i-eq5.true,
    )

pub bounds-v-j-then-u-i-eq5 : goal.bounds-v-j-then-u-i-eq5
bounds-v-j-then-u-i-eq5 g c =
    omega (
      arith,
      nonce-inside _ _ _ (c.loop-due.invariant.right-inside c.loop-due-test.true)
          (ends_at _ _ _ _ _ c.type_own-in-loop-due.ensures c.unwrap-other.ensures) (sym c.if-u-i.false ∙ c.if-u-i-eq5.true),
    )

pub holds-requires : goal.holds-requires
holds-requires g c =
    let h = c.requires.asked _ _ _ _ _ _
    (nonce-reads _ _ _ (c.loop-due.invariant.left-inside c.loop-due-test.true)
    (ends_at _ _ _ _ _ c.type_own.ensures c.unwrap-own.ensures) c.if-u-i-eq5.true _ c.wide.ensures.0)
    (nonce-reads _ _ _ (c.loop-due.invariant.right-inside c.loop-due-test.true)
    (ends_at _ _ _ _ _ c.type_own-in-loop-due.ensures c.unwrap-other.ensures) (sym c.if-u-i.false ∙ c.if-u-i-eq5.true) _ c.wide-then-u-i-eq5.ensures.0) in
    search rules

pub returns-then-not-holds : goal.returns-then-not-holds
returns-then-not-holds g c =
    let own = ends_at _ _ _ _ _ c.type_own.ensures c.unwrap-own.ensures in
    let other = ends_at _ _ _ _ _ c.type_own-in-loop-due.ensures c.unwrap-other.ensures in
    λ ch f makes.
    pairing-effects _ _ _ _ _ _ _ _ _ _ c.loop-due.invariant c.loop-due-test.true _ own _ other ch f makes c.if-u-i.false
    (agree-nonces _ _ _ _ _ c.if-u-i.false _ _ (c.loop-due.invariant.left-inside c.loop-due-test.true)
    (c.loop-due.invariant.right-inside c.loop-due-test.true) own other c.if-u-i-eq5.true _ _ c.wide.ensures.0 c.wide-then-u-i-eq5.ensures.0
    _ c.if-not-holds.ensures)

pub loop-due-preserved : goal.loop-due-preserved
loop-due-preserved g c =
    let own = ends_at _ _ _ _ _ c.type_own.ensures c.unwrap-own.ensures in
    let other = ends_at _ _ _ _ _ c.type_own-in-loop-due.ensures c.unwrap-other.ensures in
    pairing-again _ _ _ _ _ _ _ _ _ _ c.loop-due.invariant c.loop-due-test.true _ own _ other c.if-u-i.false
    (elim c.else-u-i-eq5.branch [
      | else-u-i-eq5-via-then-u-i-eq5+else-not-holds w ↦
          agree-nonces _ _ _ _ _ c.if-u-i.false _ _ (c.loop-due.invariant.left-inside c.loop-due-test.true)
          (c.loop-due.invariant.right-inside c.loop-due-test.true) own other w.if-u-i-eq5.true _ _ w.wide.ensures.0 w.wide-then-u-i-eq5.ensures.0
          _ w.if-not-holds.ensures
      | else-u-i-eq5-via-else-u-i-eq5 w ↦ agree-none _ _ _ _ _ c.if-u-i.false w.if-u-i-eq5.false
    ])
    _ c.type_parts.ensures.0

pub returns : goal.returns
returns g c = pairing-done _ _ _ _ _ _ _ _ _ _ c.loop-due.invariant c.loop-due-test.false
