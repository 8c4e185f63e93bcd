-- `naming::find` meets its contract: none of the placeholders before is the one. Assumes nothing.
use Rattle.std.proofs.Common.{refl, sym, ◌∙◌, arith, eq-eqb}
use Rattle.words.specs.First.Laws.{first-at, first-end}
use Rattle.naming.proofs.find.Goals as goal

pub returns-then-word-x : goal.returns-then-word-x
returns-then-word-x c = first-at _ _ _ (omega arith) c.loop-k.invariant (eq-eqb _ _ (sym c.word.ensures ∙ c.if-word-x.true))

pub returns : goal.returns
returns c = first-end _ c.args.n _ refl (λ k h. c.loop-k.invariant k (omega arith))
