-- What a program's reading promises. Assumes nothing.
use Rattle.std.specs.Prelude.{ℕ, ◌<◌, ◌≤◌, List, Option, Result, Ok, Err, length, take}
use Rattle.std.specs.Io.KnownBytes.{Consumes, IsAtEnd}
use Rattle.input.specs.declared.Failed.{Failed}
pub mod Laws

-- how many bytes came
abbrev pub Input : Type 0
Input = Result ℕ Failed

-- no more came than there was room for
abbrev pub Within : Input → ℕ → Type 0
Within (Ok n) room = n ≤ room
Within (Err f) room = Unit {0}

-- the bytes that came are the next of those that the reader had left, and it has no more where there is room for more; where a read
-- failed, those that came before it are
abbrev pub Came : Input → Option (List ℕ) → Option (List ℕ) → List ℕ → Type 0
Came (Ok n) old new bytes = Consumes old new (take n bytes) × (n < length bytes → IsAtEnd new)
Came (Err f) old new bytes = (n : ℕ) × (n ≤ length bytes) × Consumes old new (take n bytes)
