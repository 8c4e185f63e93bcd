-- Laws of a request that is read: a slice behind its count is the slice, and a slice is the part that it is asked for as. Assumes nothing.
use Rattle.std.specs.Prelude.{ℕ, ◌+◌, ◌*◌, ◌/◌, ◌<◌, ◌≡◌, refl, Option, Ok, Err, List, ◌++◌, length, take}
use Rattle.std.proofs.Common.{arith, ap, ◌∙◌}
use Rattle.std.proofs.lemmas.List.{take-append-le}
use Rattle.functions.specs.Functions.{slices_of}
use Rattle.input.specs.Input.{Input}
use Rattle.calls.specs.Request.{counted, IsSlice, IsNth, Came}

-- of what was read behind a count, the front is the slice
pub slice_behind : (f size : ℕ) (head filled behind : List ℕ) → size ≡ counted f head → length head ≡ 4
    → length filled ≡ (size + 3) / 4 * 4 → IsSlice f (head ++ filled) (take size (filled ++ behind))
slice_behind f size head filled behind e four whole =
    record {
      head = head;
      filled = filled;
      behind = refl;
      four = four;
      whole = whole ∙ ap (λ n. (n + 3) / 4 * 4) e;
      front = take-append-le size filled behind (omega arith) ∙ ap (λ n. take n filled) e;
    }

pub nth-slice : (f k : ℕ) (input : Input) (left rest : Option (List ℕ)) (bytes : List ℕ) → k < slices_of f → Came (IsSlice f) input left rest bytes
    → Came (IsNth f k) input left rest bytes
nth-slice f k (Ok n) left rest bytes h came =
    (came.0, record { slice = λ _. came.1; numbers = λ e. absurd (omega arith); none = λ l. absurd (omega arith) }, came.2)
nth-slice f k (Err e) left rest bytes h came = tt
