-- `shelf::run` meets its contract: a book that came is the next (`going-more`), and where none came, all were printed. Assumes nothing.
use Rattle.std.specs.Prelude.{◌≡◌, is_ok}
use Rattle.std.proofs.Common.{arith}
use lib.ListN.{length-take}
use Rattle.shelf.proofs.Going.{going-more, ran-all, ran_none}
use Rattle.shelf.proofs.run.Goals as goal

pub returns-in-Ok-None : goal.returns-in-Ok-None
returns-in-Ok-None g c =
    let none = rw c.in-Ok-None.field-0-is at c.in-Ok-None.ensures.found in
    ran_none _ _ _ _ _ _ none c.loop-books.invariant

pub loop-books-preserved : goal.loop-books-preserved
loop-books-preserved g c =
    let (head, counted, came) = rw c.in-Ok-Some.field-0-is at c.in-Ok-Some.ensures.found in
    let ok : c.is_ok-all.result ≡ is_ok c.print.result = c.is_ok-all.ensures.value in
    rw ok
    (going-more _ _ _ _ _ _ _ _ _ head _ _ c.loop-books-test.true c.loop-books.invariant counted (simp length-take (omega arith)) came
    c.lines_of-end.ensures.out_after c.print.ensures)

pub returns : goal.returns
returns g c = ran-all _ _ _ _ _ _ (omega arith) c.loop-books.invariant
