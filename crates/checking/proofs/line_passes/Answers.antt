-- `checking::line_passes` meets its contract: a line whose things are there and whose premises fit follows by its rule or not, and any
-- other is no instance. Assumes nothing.
use mathlib.Core.Path.{sym, ◌∙◌, ap}
use Rattle.choosing.specs.Named.{number_of}
use Rattle.checking.specs.Lines.{line_of}
use Rattle.checking.specs.Lines.Laws.{line-unruled, line-not-there, line-unfit, Named, line-ready, line-by}
use Rattle.checking.proofs.line_passes.Goals as goal
use Rattle.checking.proofs.line_passes.Goals.{After-line_at-l}
use Rattle.checking.proofs.line_passes.Goals.{then-not-is_there-via-then-not-is_there, then-not-is_there-via-else-not-is_there+then-not-all_fit}

-- the lines that the line names
named : (c : After-line_at-l) → Named c.args.w.now c.args.i (number_of c.in-Ok.rule) c.line_at-own.result c.line_at-j.result c.line_at-k.result c.line_at-l.result
named c = record {
  rule = c.in-Ok.ensures;
  line = c.line_at-own.ensures;
  first = c.line_at-j.ensures ∙ ap (line_of _) c.line_place.ensures.0;
  second = c.line_at-k.ensures ∙ ap (line_of _) c.line_place-2.ensures.0;
  third = c.line_at-l.ensures ∙ ap (line_of _) c.line_place-3.ensures.0;
}

pub returns-in_default : goal.returns-in_default
returns-in_default c = line-unruled _ _ c.in_default.ensures

pub returns-then-not-is_there : goal.returns-then-not-is_there
returns-then-not-is_there c = elim c.then-not-is_there.branch [
  | then-not-is_there-via-then-not-is_there w ↦
      line-not-there _ _ _ _ _ _ c.in-Ok.ensures c.line_at-own.ensures c.conclusion.ensures c.is_there.ensures w.if-not-is_there.true
  | then-not-is_there-via-else-not-is_there+then-not-all_fit w ↦
      line-unfit _ _ _ _ c.in-Ok.ensures w.all_fit.ensures w.if-not-all_fit.true
]

pub follows-requires : goal.follows-requires
follows-requires c = line-ready _ _ c.requires.1 _ _ _ _ _ _ (named (goal.at.follows-requires c).After-line_at-l) c.conclusion.ensures
    (sym c.is_there.ensures ∙ c.if-not-is_there.false) (sym c.all_fit.ensures ∙ c.if-not-all_fit.false)

pub returns : goal.returns
returns c = line-by _ _ c.requires.1 _ _ _ _ _ _ (named (goal.at.returns c).After-line_at-l) c.conclusion.ensures
    (sym c.is_there.ensures ∙ c.if-not-is_there.false) (sym c.all_fit.ensures ∙ c.if-not-all_fit.false) _ c.follows.ensures
