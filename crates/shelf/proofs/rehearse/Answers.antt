-- `shelf::rehearse` meets its contract: so many moves have room in the schedule, and as many are made. Assumes nothing.
use Prim.Native.Nat.{ℕ}
use mathlib.Core.Path.{◌∙◌, ap}
use mathlib.Core.List.{List}
use native.Mathlib.Omega.{arith}
use lib.ListN.{length-take}
use Rattle.shelf.specs.Lines.{rehearsed_line}
use Rattle.shelf.proofs.rehearse.Goals as goal

-- the schedule that is lent has so many moves
pub returns-clause-line_after : goal.returns-clause-line_after
returns-clause-line_after c =
    let args = c.args in
    let of : ℕ → List ℕ = λ moves. rehearsed_line args.book.now moves args.parties args.times args.back in
    c.play.ensures.line_after ∙ ap of (simp length-take (omega arith))
