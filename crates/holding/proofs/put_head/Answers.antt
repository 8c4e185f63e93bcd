-- `holding::put_head` meets its contract: an image begins by its row's kind, and a row that is no atom, no operation and no
-- cipher is a half. Assumes nothing.
use Prim.Native.Nat.{◌≤◌}
use mathlib.Core.Path.{◌∙◌}
use native.Mathlib.Omega.{arith}
use Rattle.terms.specs.Kind.{last_kind}
use Rattle.words.specs.Overlay.Laws.{wrote_as}
use Rattle.holding.specs.AtRow.Laws.{head-operation, head-cipher, head-half, head-atom}
use Rattle.holding.proofs.put_head.Goals as goal

-- an atom, itself
pub returns-in-0 : goal.returns-in-0
returns-in-0 c = wrote_as c.put_each.ensures
    (head-atom c.args.book.now _ _ c.row_kind-kind.ensures c.of-head.ensures c.in-0.is)

-- an operation, with its tag and how many arguments it has
pub returns-in-1 : goal.returns-in-1
returns-in-1 c = wrote_as c.put_each-in-1.ensures
    (head-operation c.args.book.now _ _ c.row_kind-kind.ensures c.of-head.ensures c.in-1.is
    c.row_tag.ensures (c.narrow-arguments.ensures ∙ c.row_count.ensures.0))

-- a cipher, with how many contents it has
pub returns-in-2 : goal.returns-in-2
returns-in-2 c = wrote_as c.put_each-in-2.ensures
    (head-cipher c.args.book.now _ _ c.row_kind-kind.ensures c.of-head.ensures c.in-2.is
    c.row_count-in-2.ensures.0 c.narrow.ensures)

-- a half, of which there are two kinds: its code alone
pub returns-in_default : goal.returns-in_default
returns-in_default c =
    let (valid, inside) = c.requires in
    let is = c.row_kind-kind.ensures in
    let few = (valid.rows_keep _ inside).kinded in
    let kinded : c.row_kind-kind.result ≤ last_kind = omega arith in
    wrote_as c.put.ensures (head-half c.args.book.now _ _ is c.of-head.ensures (omega arith) kinded)
