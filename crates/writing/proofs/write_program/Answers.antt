-- `writing::write_program` meets its contract: the events' bytes, END's first words', and the triples' that the log has.
-- Assumes nothing.
use Rattle.std.proofs.Common.{◌≤◌, refl, sym, arith, length, length-take-le}
use Rattle.words.specs.Overlay.Laws.{wrote-length}
use Rattle.writing.proofs.Parts.{few-triples, programmed}
use Rattle.writing.proofs.write_program.Goals as goal
use Rattle.writing.proofs.write_program.Goals.{After-write_events-events}

-- the triples are few
few : (c : After-write_events-events) → c.write_events-events.result.kept ≤ 3072
few c = few-triples c.requires c.write_events-events.ensures

pub narrow-n-requires : goal.narrow-n-requires
narrow-n-requires c = omega (arith, few (goal.at.narrow-n-requires c).After-write_events-events)

-- and the log is as long as it was
held : (c : After-write_events-events) → c.write_events-events.result.kept ≤ length c.write_events-events.new.log
held c = let size = wrote-length c.write_events-events.ensures.keeps in omega (arith, few c)

pub slice_bounds-log-end : goal.slice_bounds-log-end
slice_bounds-log-end c = held (goal.at.slice_bounds-log-end c).After-write_events-events

pub slice_bounds-put_words-end-2 : goal.slice_bounds-put_words-end-2
slice_bounds-put_words-end-2 c = sym (length-take-le _ _ (held (goal.at.slice_bounds-put_words-end-2 c).After-write_events-events))

-- END has a third as many triples as words were stored
pub returns : goal.returns
returns c = programmed c.requires refl c.write_events-events.ensures c.narrow-n.ensures c.put_words-triples.ensures c.put_words.ensures
