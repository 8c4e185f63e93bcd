-- What reading the next book promises. Assumes nothing.
use Rattle.std.specs.Prelude.{ℕ, ◌≤◌, Option, Some, None, Result, Ok, Err}
use Rattle.book.specs.Layout.{loaded_bytes}
use Rattle.input.specs.declared.Failed.{Failed}

-- a book of so many bytes, or nothing more
abbrev pub Next : Type 0
Next = Result (Option ℕ) Failed

-- no more bytes came than there is room for
abbrev pub Fits : Next → Type 0
Fits (Ok (Some n)) = n ≤ loaded_bytes
Fits (Ok None) = Unit {0}
Fits (Err f) = Unit {0}
