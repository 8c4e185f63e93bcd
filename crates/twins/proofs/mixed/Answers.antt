-- `twins::mixed` meets its contract: the sums are the definition's own. Assumes nothing.
use Rattle.twins.specs.Keys.{mixed}
use Rattle.twins.proofs.mixed.Goals as goal

pub returns : goal.returns
unfolding mixed
returns c = rw (
  c.wrapping_add_u32.ensures.value,
  c.wrapping_add_u32-all.ensures.value,
  c.wrapping_add_u32-most.ensures.value,
  c.wrapping_add_u32-sixteen.ensures.value,
  c.wrapping_add_u32-eight.ensures.value,
  c.wrapping_add_u32-four.ensures.value,
  c.wrapping_add_u32-two.ensures.value,
)
