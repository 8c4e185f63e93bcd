-- `nghiralum::run` meets its contract: the bytes that came are no more than there was room for, and the front of what the reader had
-- (`came-front`), so the line that is printed is its line (`replied`). Assumes nothing.
use mathlib.Core.Path.{refl}
use native.Mathlib.Omega.{arith}
use Rattle.book.specs.Layout.{loaded_bytes}
use Rattle.input.specs.Input.Laws.{came-front}
use Rattle.nghiralum.specs.Reply.Laws.{replied}
use Rattle.nghiralum.proofs.run.Goals as goal

pub returns : goal.returns
returns g c =
    let read = c.in_ok-n.ensures in
    let front = came-front _ _ _ loaded_bytes refl read.within (omega arith) read.came in
    replied _ _ _ _ _ front c.reply-end.ensures.line_after c.print.ensures
