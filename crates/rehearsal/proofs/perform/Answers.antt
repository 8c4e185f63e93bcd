-- `rehearsal::perform` meets its contract: the places are the book's, and the counts the plain machine's
-- (`performed`). Assumes nothing.
use Rattle.std.proofs.Common.{◌∙◌, arith}
use Rattle.book.specs.Headed.Laws.{few-parties}
use Rattle.rehearsal.proofs.Performed.{performed}
use Rattle.rehearsal.proofs.perform.Goals as goal

-- every party begins with no event done
pub returns : goal.returns
returns c =
    let (plays, placed, named) = c.requires in
    let count = c.wide-n.ensures.0 ∙ c.parties.ensures in
    performed placed plays _ named c.play.new.done c.play.ensures count
    (let few = few-parties c.args.book.now plays.valid in omega (arith, c.play.array_long)) c.put_all.ensures
