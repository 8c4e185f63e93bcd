-- `relaying::ask_words` meets its contract: the length and the words that are read are those of the words that the bytes
-- make. Assumes nothing.
use Rattle.std.proofs.Common.{sym, length, ◌/◌}
use Rattle.std.proofs.lemmas.Result.{err_from_is_err_and}
use Rattle.octets.specs.Octets.{words_in}
use Rattle.octets.specs.Octets.Laws.{words-length}
use Rattle.summary.specs.Found.{Begins}
use Rattle.summary.specs.Found.Laws.{replied-refused, replied-at}
use Rattle.relaying.proofs.ask_words.Goals as goal
use Rattle.relaying.proofs.ask_words.Goals.{After-find}

-- the three words are the summary's
begins : (c : After-find)
    → Begins (words_in c.args.summary.now) (length c.args.summary.now / 4) c.word_at.result c.word_at-2.result c.word_at-3.result
begins c =
    record {
      many = words-length c.args.summary.now;
      parties = sym c.word_at.ensures;
      rows = sym c.word_at-2.ensures;
      steps = sym c.word_at-3.ensures;
    }

pub returns-in_err-i : goal.returns-in_err-i
returns-in_err-i c =
    let begin = begins (goal.at.returns-in_err-i c).After-find in
    let p = err_from_is_err_and c.from_residual.result c.from_residual.ensures.1 in
    rw (p.1, p.2)
    (replied-refused (words_in c.args.summary.now) c.args.party c.args.row c.args.step _ (c.in_err-i.ensures (words_in c.args.summary.now) begin))

pub returns : goal.returns
returns c =
    let begin = begins (goal.at.returns c).After-find in
    replied-at (words_in c.args.summary.now) c.args.party c.args.row c.args.step _ _ _ (c.in_ok-i.ensures (words_in c.args.summary.now) begin)
    c.word_at-4.ensures c.decide.ensures
