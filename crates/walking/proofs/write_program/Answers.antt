-- `walking::write_program` meets its contract: the events, END's first words, and the triples that the log has. Assumes
-- nothing.
use Prim.Native.Nat.{ℕ, ◌≤◌}
use Rattle.std.proofs.lemmas.List.{length-take}
use mathlib.Core.Path.{refl}
use native.Mathlib.Omega.{arith}
use Rattle.words.specs.Overlay.Laws.{wrote-length}
use Rattle.walking.proofs.Lengths.{few-triples}
use Rattle.walking.proofs.Whole.{programmed}
use Rattle.walking.proofs.write_program.Goals as goal
use Rattle.walking.proofs.write_program.Goals.{After-walk-events}

-- the triples are few, wherever the walk has ended
few : (c : After-walk-events) → c.walk-events.result.kept ≤ 3072
few c = search few-triples

pub narrow-requires : goal.narrow-requires
narrow-requires c = omega (arith, few (goal.at.narrow-requires c).After-walk-events)

-- and the log is as long as it was
pub slice_bounds-log-end : goal.slice_bounds-log-end
slice_bounds-log-end c = let size = wrote-length c.walk-events.ensures.along.keeps in
    omega (arith, few (goal.at.slice_bounds-log-end c).After-walk-events)

pub slice_bounds-put_all-end : goal.slice_bounds-put_all-end
slice_bounds-put_all-end c = let size = wrote-length c.walk-events.ensures.along.keeps in
    omega (arith, few (goal.at.slice_bounds-put_all-end c).After-walk-events, length-take {A = ℕ})

-- END has a third as many triples as words were stored
pub returns : goal.returns
returns c = let (ready, unrefused) = c.requires in
    programmed ready.valid ready.party refl c.steps.ensures unrefused
    c.walk-events.ensures c.narrow.ensures c.put_each-triples.ensures
    c.put_all.ensures
