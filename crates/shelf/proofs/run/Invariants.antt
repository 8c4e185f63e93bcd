-- `shelf::run` meets its contract: so far the lines of all books were printed. Assumes nothing.
use Rattle.shelf.proofs.Going.{Going}
use Rattle.shelf.proofs.run.Given as goal

abbrev pub invariant-loop-books : goal.invariant-loop-books
invariant-loop-books g l = Going l.all l.books (g.R.Read.remaining l.initial.reader) (g.R.Read.remaining l.reader)
    (g.W.Write.contents l.initial.out) (g.W.Write.contents l.out)
