-- What reading the number of a function promises. Assumes nothing.
use Rattle.std.specs.Prelude.{ℕ, Option, Some, None}
use Rattle.functions.specs.Functions.{Known}

-- a function that comes is there
abbrev pub Asked : Option ℕ → Type 0
Asked (Some f) = Known f
Asked None = Unit {0}
