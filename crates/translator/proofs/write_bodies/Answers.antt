-- `translator::write_bodies` meets its contract: the programs of the parties passed are written, and each turn adds
-- one (`bodies-on`). Assumes nothing.
use Prim.Native.Nat.{◌<◌}
use native.Mathlib.Omega.{arith}
use Rattle.book.specs.Layout.{parties}
use Rattle.translator.proofs.Laid.{bodies-start, bodies-low, bodies-on}
use Rattle.translator.proofs.write_bodies.Goals as goal

pub loop-party-init : goal.loop-party-init
loop-party-init c = bodies-start

-- no step is refused for anybody, so none for this party
pub write_program-next-requires : goal.write_program-next-requires
write_program-next-requires c = let (writable, low) = c.requires in
    let l : c.loop-party.party < parties c.args.book.now = omega arith in (
      record {
        valid = writable.valid;
        claims = writable.claims;
        partners = writable.partners;
        party = l;
        within = omega arith;
        low = bodies-low writable.valid l low c.loop-party.invariant;
      },
      writable.nobody _ l,
    )

pub loop-party-preserved : goal.loop-party-preserved
loop-party-preserved c = bodies-on c.loop-party.invariant c.write_program-next.ensures
