-- What refusals 1 to 3 leave of the header, section by section: all that reading a record or a list takes.
use Rattle.std.specs.Prelude.{ℕ, ◌+◌, ◌*◌, ◌≤◌, List, ◌≡◌, length}
use Rattle.book.specs.Layout.{header, width, least, most, begins, rows, parties, steps, pool}
pub mod Laws

pub record Headed (b : List ℕ) : Type 0 where
  pub rows_from : begins b 0 ≡ header
  pub parties_from : begins b 1 ≡ header + width 0 * rows b
  pub steps_from : begins b 2 ≡ header + width 0 * rows b + width 1 * parties b
  pub pool_from : begins b 3 ≡ header + width 0 * rows b + width 1 * parties b + width 2 * steps b
  pub long : length b ≡ header + width 0 * rows b + width 1 * parties b + width 2 * steps b + width 3 * pool b
  pub some_rows : least 0 ≤ rows b
  pub few_rows : rows b ≤ most 0
  pub some_parties : least 1 ≤ parties b
  pub few_parties : parties b ≤ most 1
  pub few_steps : steps b ≤ most 2
  pub small_pool : pool b ≤ most 3
