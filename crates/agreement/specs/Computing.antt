-- What a run of the plain machine is computed with, under one name: an `unfolding` line that names `computes` unfolds all that its own
-- line names. It has no other use, and no statement speaks of it.
use Rattle.words.specs.Choice.{then}
use Rattle.translation.specs.Standing.{standing_at, if_waits}
use Rattle.translation.specs.Spelling.{read_image, read_triples, read_event, read_events, read_program, part_of}
use Rattle.translation.specs.Spelled.{or_end, spelled}
use Rattle.translation.specs.Trials.{computed}
use Rattle.agreement.specs.Change.{change}
use Rattle.agreement.specs.Sight.{holds, value, bind}
use Rattle.agreement.specs.Machine.{send_effect, check_effect, opens_to, open_effect, effect, takes, next, turn, handed, delivered, sent_after, made_after, move, begin, started}
use Rattle.agreement.specs.Sequence.{sequence}
use Rattle.agreement.specs.Agree.{meant, receiver_of}

unfoldable pub computes : Type 0
unfolding computed then standing_at if_waits read_image read_triples read_event read_events read_program part_of or_end spelled holds value change bind send_effect check_effect opens_to open_effect effect takes next turn handed delivered sent_after made_after move begin started sequence meant receiver_of
computes = Unit {0}
