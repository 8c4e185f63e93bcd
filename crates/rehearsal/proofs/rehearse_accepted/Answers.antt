-- `rehearsal::rehearse_accepted` meets its contract: refusal 11, then 12, and then the events done. Assumes nothing.
use Rattle.std.proofs.Common.{◌<◌, sym}
use Rattle.words.specs.Run.{All}
use Rattle.book.specs.Layout.{parties}
use Rattle.rehearsal.proofs.Came.{long, bad, named, short, told}
use Rattle.rehearsal.proofs.rehearse_accepted.Goals as goal
use Rattle.rehearsal.proofs.rehearse_accepted.Goals.{In_default}

-- there is no bad move: all name a party
names : (c : In_default) → All (λ k. k < parties c.args.book.now) c.args.schedule.now
names c = named c.args.book.now c.args.schedule.now c.parties-q.ensures (sym c.in_default.ensures)

-- there are more than 4,096 moves
pub returns-then-moves-gt-MOVES : goal.returns-then-moves-gt-MOVES
returns-then-moves-gt-MOVES c = long c.args.schedule.now _ c.requires.0 c.narrow.ensures c.if-moves-gt-MOVES.true

pub returns-in-Some : goal.returns-in-Some
returns-in-Some c =
    bad c.args.book.now c.args.schedule.now c.parties-q.ensures c.in-Some.bad c.args.out.now c.requires.0 c.if-moves-gt-MOVES.false
    c.narrow-in-Some.ensures (sym c.in-Some.ensures)

pub returns-then-out-n : goal.returns-then-out-n
returns-then-out-n c =
    short c.args.schedule.now c.args.out.now c.requires.0 c.if-moves-gt-MOVES.false (names (goal.at.returns-then-out-n c).In_default)
    c.parties-q.ensures c.wide-n.ensures.0 c.if-out-n.true

-- the book plays, and its events stand where the lists say
pub perform-requires : goal.perform-requires
perform-requires c = (c.requires.0, c.requires.1, names (goal.at.perform-requires c).In_default)

pub returns : goal.returns
returns c =
    told c.args.schedule.now c.args.out.now c.requires.0 c.if-moves-gt-MOVES.false (names (goal.at.returns c).In_default)
    c.parties-q.ensures c.wide-n.ensures.0 c.if-out-n.false c.perform.ensures
