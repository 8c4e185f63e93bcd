-- `calling::book_line` meets its contract: a question, a judgement, what is on bytes and what is on words each have a
-- line of their own (`calls-question` and its kin). Assumes nothing.
use mathlib.Core.Path.{sym, ◌∙◌}
use native.Mathlib.Omega.{arith}
use Rattle.calling.specs.Call.Laws.{on-words, on-bytes, calls-question, calls-judgement, calls-bytes, calls-words}
use Rattle.calling.proofs.book_line.Goals as goal

pub question_line-requires : goal.question_line-requires
question_line-requires c = (sym c.is_question.ensures ∙ c.if-is_question.true, c.requires.1, omega (arith, c.requires.4))

pub judge_line-requires : goal.judge_line-requires
judge_line-requires c = let (_, first, second, _, room) = c.requires in
    (sym c.is_judgement.ensures ∙ c.if-is_judgement.true, first, second, omega (arith, room))

pub bytes_line-requires : goal.bytes_line-requires
bytes_line-requires c = let (known, _, second, third, room) = c.requires in
    let no-question = on-bytes known c.is_question.ensures c.if-is_question.false in
    let bytes = no-question c.is_judgement.ensures c.if-is_judgement.false c.on_bytes.ensures in
    (bytes c.if-on_bytes.true, second, third, room)

pub loaded_line-requires : goal.loaded_line-requires
loaded_line-requires c = let (known, first, second, third, room) = c.requires in
    let no-question = on-words known c.is_question.ensures c.if-is_question.false in
    let words = no-question c.is_judgement.ensures c.if-is_judgement.false c.on_bytes.ensures in
    (words c.if-on_bytes.false, first, second, third, room)

-- a question
pub returns-then-is_question-clause-line_after : goal.returns-then-is_question-clause-line_after
returns-then-is_question-clause-line_after c = let args = c.args in
    let picks = calls-question args.function args.first.now args.second.now args.third.now in
    c.question_line.ensures.line_after ∙ picks c.is_question.ensures c.if-is_question.true

-- a judgement
pub returns-then-is_judgement-clause-line_after : goal.returns-then-is_judgement-clause-line_after
returns-then-is_judgement-clause-line_after c = let args = c.args in
    let picks = calls-judgement args.function args.first.now args.second.now args.third.now in
    let judges = picks c.is_question.ensures c.if-is_question.false c.is_judgement.ensures in
    c.judge_line.ensures.line_after ∙ judges c.if-is_judgement.true

-- on bytes
pub returns-then-on_bytes-clause-line_after : goal.returns-then-on_bytes-clause-line_after
returns-then-on_bytes-clause-line_after c = let args = c.args in
    let picks = calls-bytes args.function args.first.now args.second.now args.third.now in
    let no-question = picks c.is_question.ensures c.if-is_question.false in
    let bytes = no-question c.is_judgement.ensures c.if-is_judgement.false c.on_bytes.ensures in
    c.bytes_line.ensures.line_after ∙ bytes c.if-on_bytes.true

-- on words
pub returns-clause-line_after : goal.returns-clause-line_after
returns-clause-line_after c = let args = c.args in
    let picks = calls-words args.function args.first.now args.second.now args.third.now in
    let no-question = picks c.is_question.ensures c.if-is_question.false in
    let words = no-question c.is_judgement.ensures c.if-is_judgement.false c.on_bytes.ensures in
    c.loaded_line.ensures.line_after ∙ words c.if-on_bytes.false
