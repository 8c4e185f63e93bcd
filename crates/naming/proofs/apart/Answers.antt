-- `naming::apart` meets its contract: the runs are apart exactly if one ends before the other begins. Assumes nothing.
use Rattle.std.proofs.Common.{◌+◌, ◌≡◌, sym, ap₂, ◌∙◌, arith, leb, leb-true, leb-false, eq-eqb}
use Rattle.words.specs.First.Laws.{clash}
use Rattle.renaming.specs.Renaming.Fresh.{fresh-run-none, fresh-run-behind, fresh-run-last}
use Rattle.naming.proofs.apart.Goals as goal
use Rattle.naming.proofs.apart.Goals.{then-m-eq0, else-m-eq0}

-- there are none of them, or they end before the others begin
pub returns-then-wide : goal.returns-then-wide
returns-then-wide c =
    c.if-wide.true
    ∙ sym (elim c.if-m-eq0.branch [
      | then-m-eq0 w ↦ fresh-run-none c.args.x c.args.m c.args.y c.args.n w.if-m-eq0.true
      | else-m-eq0 w ↦ (let before = leb-true _ _ (sym w.value-is ∙ c.if-wide.true) in
          fresh-run-behind c.args.x c.args.m c.args.y c.args.n (omega arith))
    ])

-- they are behind the others or they are not
pub returns-else-wide : goal.returns-else-wide
returns-else-wide c = elim c.if-m-eq0.branch [
  | then-m-eq0 w ↦ absurd (clash (w.value-is ∙ eq-eqb _ _ w.if-m-eq0.true) c.if-wide.false)
  | else-m-eq0 w ↦ (let behind = leb-false _ _ (sym w.value-is ∙ c.if-wide.false) in
      let sum : c.wide-else-wide.result + c.wide-else-wide-2.result ≡ c.args.y + c.args.n = omega arith in
      ap₂ leb sum c.wide-else-wide-3.ensures.0
      ∙ fresh-run-last c.args.x c.args.m c.args.y c.args.n c.requires w.if-m-eq0.false (omega arith))
]
