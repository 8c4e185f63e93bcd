-- `shelf::lines_of` meets its contract: the lines are those of the words that the bytes make. Assumes nothing.
use mathlib.Core.Path.{refl, ap, ◌∙◌}
use native.Mathlib.Omega.{arith}
use lib.ListN.{length-take}
use Rattle.octets.specs.Octets.Laws.{loaded-many, loaded-all}
use Rattle.shelf.specs.Lines.{book_lines}
use Rattle.shelf.proofs.lines_of.Goals as goal

-- what was loaded has room
pub slice_bounds-words-end : goal.slice_bounds-words-end
slice_bounds-words-end c = omega (arith, loaded-many c.args.bytes.now refl c.load-n.ensures)

pub slice_bounds-seven_lines-end : goal.slice_bounds-seven_lines-end
slice_bounds-seven_lines-end c =
    let few = loaded-many c.args.bytes.now refl c.load-n.ensures in
    simp length-take (omega arith)

pub returns-clause-out_after : goal.returns-clause-out_after
returns-clause-out_after c =
    let all = loaded-all c.args.bytes.now refl c.load-n.ensures (omega arith) (omega arith) in
    c.seven_lines.ensures.out_after ∙ ap book_lines all
