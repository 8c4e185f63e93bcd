-- An entry of a dictionary as code has it: a word for each row. 0 where the row is not held; else its remainder by 64, the most steps that
-- a book has, is a step, and how many 64s it has tells how the row is held: none, given at the start; one, made at the step; x + 2, stored
-- at the step under placeholder x. Given is written as 1, so the words from 2 to 63 are never written. How an entry is coded is said here,
-- and only the functions of `Entry` and `put_entry` know it.
use Rattle.std.specs.Prelude.{ℕ, zero, suc, ◌/◌, ◌%◌, ◌^◌}
use Rattle.translation.specs.Dictionary.{Held, free, given, made, stored}
pub mod Laws

-- of its 64s and its remainder
unfoldable pub held_by : ℕ → ℕ → Held
held_by zero s = given
held_by (suc zero) s = made s
held_by (suc (suc x)) s = stored s x

unfoldable pub held_of : ℕ → Held
held_of zero = free
held_of (suc e) = held_by (suc e / 64) (suc e % 64)

-- Document 01: "a party's placeholders count from 0". An entry has room for those below this; no book comes near it (the walk has at
-- most 524,288).
abbrev pub limit : ℕ
limit = 2 ^ 25

-- and for the steps below this
abbrev pub step_limit : ℕ
step_limit = 64
