-- `changed::words_end` meets its contract: what is left begins with the words, or not. Assumes nothing.
use Rattle.changed.specs.Put.Laws.{words-here, words-not}
use Rattle.changed.proofs.words_end.Goals as goal

pub returns-then-starts_with : goal.returns-then-starts_with
returns-then-starts_with c = words-here _ _ _ _ c.requires c.starts_with.ensures.value c.if-starts_with.true

pub returns-else-starts_with : goal.returns-else-starts_with
returns-else-starts_with c = words-not _ _ _ _ c.requires c.starts_with.ensures.value c.if-starts_with.false
