-- `calling::lent_line` meets its contract: the words of the line are all that the lent bytes make (`loaded-words`).
-- Assumes nothing.
use Prim.Native.Nat.{◌≤◌}
use mathlib.Core.Path.{refl, ◌∙◌, ap}
use native.Mathlib.Omega.{arith}
use lib.ListN.{length, length-take}
use Rattle.octets.specs.Octets.Laws.{words-length, loaded-many}
use Rattle.translation.specs.Outcome.{came}
use Rattle.line.specs.Line.{line_of}
use Rattle.telling.specs.Loaded.{loaded-words}
use Rattle.calling.proofs.lent_line.Goals as goal
use Rattle.calling.proofs.lent_line.Goals.{After-load-n}

-- what was loaded has room
few : (c : After-load-n) → c.load-n.result ≤ 16384
few c = loaded-many c.args.lent.now refl c.load-n.ensures

pub slice_bounds-words-end : goal.slice_bounds-words-end
slice_bounds-words-end c = omega (arith, few (goal.at.slice_bounds-words-end c).After-load-n)

pub slice_bounds-answer_line-end : goal.slice_bounds-answer_line-end
slice_bounds-answer_line-end c = simp length-take (omega (arith, few (goal.at.slice_bounds-answer_line-end c).After-load-n))

-- and is as many words as the bytes make
pub answer_line-requires : goal.answer_line-requires
answer_line-requires c = let lent = c.args.lent.now in
    let all = loaded-words lent refl c.load-n.ensures c.requires.0 in
    let many = ap length all ∙ words-length lent in
    (omega arith, omega (arith, c.requires.1), rw many c.requires.2)

pub returns-clause-line_after : goal.returns-clause-line_after
returns-clause-line_after c = let args = c.args in
    let lent = args.lent.now in
    let all = loaded-words lent refl c.load-n.ensures c.requires.0 in
    c.answer_line.ensures.line_after ∙ ap (λ ws. line_of (came args.answer ws)) all
