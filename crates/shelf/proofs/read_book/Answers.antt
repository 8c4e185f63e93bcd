-- `shelf::read_book` meets its contract: by how many bytes came of the count, by the count, and by how many came of the book. Assumes
-- nothing.
use Rattle.std.proofs.Common.{arith, rules}
use Rattle.input.specs.Input.Laws.{came-short, came-all}
use Rattle.shelf.specs.Shelf.Laws.{found_none, found_short, found_above, found_filled}
use Rattle.shelf.proofs.read_book.Goals as goal

pub returns-then-n-eq0-clause-found : goal.returns-then-n-eq0-clause-found
returns-then-n-eq0-clause-found g c = found_short _ (came-short _ _ _ 4 (search rules) c.in_ok-n.ensures.came (omega arith))

pub returns-then-n-lt4-clause-found : goal.returns-then-n-lt4-clause-found
returns-then-n-lt4-clause-found g c =
    found_none _ _ _ _ c.stop.ensures (found_short _ (came-short _ _ _ 4 (search rules) c.in_ok-n.ensures.came (omega arith)))

pub returns-then-most-size-clause-found : goal.returns-then-most-size-clause-found
returns-then-most-size-clause-found g c =
    let came = came-all _ _ _ c.in_ok-n.ensures.came (omega arith) in
    found_none _ _ _ _ c.stop-then-most-size.ensures (found_above _ _ _ came (search rules) (omega arith))

pub returns-clause-found : goal.returns-clause-found
returns-clause-found g c =
    let came = came-all _ _ _ c.in_ok-n.ensures.came (omega arith) in
    found_filled c.read_bytes.result _ _ _ _ c.read_bytes.new.bytes _ came (search rules) (omega arith) (omega arith) c.read_bytes.ensures.filled
