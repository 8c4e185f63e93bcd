-- `writing::write_bodies` meets its contract: the bytes of the programs of the parties passed are written, and each turn
-- adds one program's (`bodies-on`). Assumes nothing.
use Rattle.std.proofs.Common.{◌<◌, arith}
use Rattle.book.specs.Layout.{parties}
use Rattle.writing.proofs.Parts.{bodies-start, bodies-on}
use Rattle.writing.proofs.write_bodies.Goals as goal

pub loop-party-init : goal.loop-party-init
loop-party-init c = bodies-start c.args.book.now

-- the party is one of the book's
pub write_program-next-requires : goal.write_program-next-requires
write_program-next-requires c =
    let l : c.loop-party.party < parties c.args.book.now = omega arith in
    record { valid = c.requires.valid; partners = c.requires.partners; party = l }

pub loop-party-preserved : goal.loop-party-preserved
loop-party-preserved c = bodies-on c.args.book.now _ c.loop-party.invariant c.write_program-next.ensures
