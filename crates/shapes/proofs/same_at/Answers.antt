-- `shapes::same_at` meets its contract: at one place they are the same, else they are compared. Assumes nothing.
use Rattle.std.proofs.Common.{eq-eqb, ◌∙◌}
use Rattle.shapes.specs.Shape.Laws.{one_place}
use Rattle.shapes.proofs.same_at.Goals as goal

pub returns-then-a-b : goal.returns-then-a-b
returns-then-a-b g c = eq-eqb _ _ c.if-a-b.true ∙ one_place g.T.Same.same (g.T.Same.value c.args.w.now) _ _ c.if-a-b.true
