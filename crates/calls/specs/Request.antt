-- What is read of a request, and what is printed of it. A slice stands behind its count, filled up to whole words; the numbers stand behind
-- the slices. Assumes nothing.
use Rattle.std.specs.Prelude.{ℕ, ◌+◌, ◌*◌, ◌/◌, ◌<◌, ◌≡◌, Option, Some, None, Result, Ok, Err, List, [], ◌++◌, length, take}
use Rattle.std.specs.Io.KnownBytes.{Consumes}
use Rattle.octets.specs.Octets.{word_at}
use Rattle.functions.specs.Functions.{slices_of, numbers_of, slice_size}
use Rattle.input.specs.declared.Failed.{Failed}
use Rattle.input.specs.Input.{Input}
use Rattle.line.specs.Line.{Printed}
use Rattle.calling.specs.Call.{call_line}
pub mod Laws

-- where all bytes came that were asked for, they are the next that the reader had
abbrev pub Filled : Result (Unit {0}) Failed → Option (List ℕ) → Option (List ℕ) → List ℕ → Type 0
Filled (Ok u) left rest bytes = Consumes left rest bytes
Filled (Err f) left rest bytes = Unit {0}

-- the bytes of a slice whose count is the word of these four
abbrev pub counted : ℕ → List ℕ → ℕ
counted f head = slice_size f (word_at head 0)

-- a slice of the function f, and the bytes that it has in a request
pub record IsSlice (f : ℕ) (bytes slice : List ℕ) : Type 0 where
  pub head : List ℕ
  pub filled : List ℕ
  pub behind : bytes ≡ head ++ filled
  pub four : length head ≡ 4
  pub whole : length filled ≡ (counted f head + 3) / 4 * 4
  pub front : slice ≡ take (counted f head) filled

-- the function's numbers
pub record AreNumbers (f : ℕ) (bytes numbers : List ℕ) : Type 0 where
  pub same : numbers ≡ bytes
  pub words : length bytes ≡ 4 * numbers_of f

-- slice k, or behind the slices the numbers, or nothing
pub record IsNth (f k : ℕ) (bytes nth : List ℕ) : Type 0 where
  pub slice : k < slices_of f → IsSlice f bytes nth
  pub numbers : k ≡ slices_of f → AreNumbers f bytes nth
  pub none : slices_of f < k → (bytes ≡ []) × (nth ≡ [])

-- what came of a request is the part that was asked for, and the reader had its bytes next
abbrev pub Came : (List ℕ → List ℕ → Type 0) → Input → Option (List ℕ) → Option (List ℕ) → List ℕ → Type 0
Came Part (Ok n) left rest bytes = (read : List ℕ) × Part read (take n bytes) × Consumes left rest read
Came Part (Err f) left rest bytes = Unit {0}

-- the three parts of a request came, and its line was printed, or where a write failed, a front of it
pub record CameAndPrinted (f : ℕ) (left rest old new : Option (List ℕ)) : Type 0 where
  pub read : List ℕ
  pub read' : List ℕ
  pub read'' : List ℕ
  pub first : List ℕ
  pub second : List ℕ
  pub third : List ℕ
  pub is_first : IsNth f 0 read first
  pub is_second : IsNth f 1 read' second
  pub is_third : IsNth f 2 read'' third
  pub came : Consumes left rest ((read ++ read') ++ read'')
  pub all : Result (Unit {0}) Failed
  pub printed : Printed all old new (call_line f first second third)

abbrev pub Answered : Result (Unit {0}) Failed → ℕ → Option (List ℕ) → Option (List ℕ) → Option (List ℕ) → Option (List ℕ) → Type 0
Answered (Ok u) f left rest old new = CameAndPrinted f left rest old new
Answered (Err e) f left rest old new = Unit {0}

-- the number that came is the word of the next four bytes
abbrev pub Numbered : Option ℕ → Option (List ℕ) → Option (List ℕ) → Type 0
Numbered (Some f) left rest = (head : List ℕ) × (length head ≡ 4) × (word_at head 0 ≡ f) × Consumes left rest head
Numbered None left rest = Unit {0}
