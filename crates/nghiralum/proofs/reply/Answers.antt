-- `nghiralum::reply` meets its contract: what came of the bytes, read back as words, is their outcome, and what was
-- written lies in the lent words (`inside-bytes`). Assumes nothing.
use mathlib.Core.Path.{◌∙◌, refl, ap}
use native.Mathlib.Omega.{arith}
use Rattle.words.specs.Overlay.Laws.{wrote-length}
use Rattle.line.specs.Line.{line_of}
use Rattle.nghiralum.specs.Reply.{reply_line}
use Rattle.nghiralum.specs.Reply.Laws.{inside-bytes, reply-came}
use Rattle.nghiralum.proofs.reply.Goals as goal

-- what was written had room
pub answer_line-requires : goal.answer_line-requires
answer_line-requires c = let answer = c.translate-answer.result in
    let size = wrote-length c.load.ensures in
    let came = reply-came _ _ _ _ answer _ c.translate-answer.ensures refl c.load.ensures in
    (omega arith, omega arith, inside-bytes answer _ _ _ came (omega arith))

-- the line of what came of the bytes
pub returns-clause-line_after : goal.returns-clause-line_after
unfolding reply_line
returns-clause-line_after c = let answer = c.translate-answer.result in
    let came = reply-came _ _ _ _ answer _ c.translate-answer.ensures refl c.load.ensures in
    c.answer_line.ensures.line_after ∙ ap line_of came
