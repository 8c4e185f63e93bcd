-- `balance::balanced` meets its contract: what stands in none of the three lists is level. Assumes nothing.
use Rattle.std.proofs.Common.{sym, ◌∙◌}
use Rattle.words.specs.First.Laws.{clash}
use Rattle.balance.specs.Sum.Laws.{balance-fails, balance-holds}
use Rattle.balance.proofs.balanced.Goals as goal
use Rattle.balance.proofs.balanced.Goals.{then-level_all, else-level_all}

pub returns-then-level_all-2 : goal.returns-then-level_all-2
returns-then-level_all-2 c =
    elim c.if-level_all.branch [
      | then-level_all w ↦
          balance-holds _ _ _ _ _ (sym c.level_all.ensures ∙ w.if-level_all.true)
          (sym w.level_all-then-level_all.ensures ∙ sym w.value-is ∙ c.if-level_all-2.true) _ c.level_all-then-level_all-2.ensures
      | else-level_all w ↦ absurd (clash c.if-level_all-2.true (w.value-is ∙ w.if-level_all.false))
    ]

pub returns-else-level_all-2 : goal.returns-else-level_all-2
returns-else-level_all-2 c =
    elim c.if-level_all.branch [
      | then-level_all w ↦
          c.if-level_all-2.false ∙ balance-fails _ _ _ _ _ _ _ w.level_all-then-level_all.ensures (sym w.value-is ∙ c.if-level_all-2.false)
      | else-level_all w ↦ c.if-level_all-2.false ∙ balance-fails _ _ _ _ _ _ _ c.level_all.ensures w.if-level_all.false
    ]
