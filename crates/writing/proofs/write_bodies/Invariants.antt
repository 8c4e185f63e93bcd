-- `writing::write_bodies` meets its contract: the bytes of the programs of the parties passed are written, and each turn
-- adds one program's (`bodies-on`). Assumes nothing.
use Rattle.words.specs.Overlay.{Wrote}
use Rattle.octets.specs.Octets.{bytes_of_all}
use Rattle.translation.specs.Listing.{bodies}
use Rattle.translator.specs.Parts.{programs_to}
use Rattle.writing.proofs.write_bodies.Given as goal

abbrev pub invariant-loop-party : goal.invariant-loop-party
invariant-loop-party l = Wrote (bytes_of_all (bodies (programs_to l.book l.party))) l.initial.out l.at l.out l.next
