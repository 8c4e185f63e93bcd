-- Laws of reading: the bytes that came are no more than there was room for, and are the front of what the reader had left. Assumes
-- nothing.
use Rattle.std.specs.Prelude.{ℕ, ◌<◌, ◌≤◌, ◌≡◌, Option, None, Some, IfSome, Ok, List, [], ◌++◌, length, take}
use Rattle.std.proofs.Common.{arith, ap, ◌∙◌, subst, append-nil, length-take-le}
use Rattle.std.specs.Io.KnownBytes.{Consumes}
use Rattle.std.proofs.Math.Decide.{dec_lt}
use lib.Seq.{take_all, take-append_seam}
use Rattle.input.specs.Input.{Input, Within, Came}

pub within-input : {input : Input} {n room : ℕ} → input ≡ Ok n → Within input room → n ≤ room
within-input e h = rw e at h

-- what a reader gave and what it has left, as far as there was room
front-room : (n room : ℕ) (came left : List ℕ) → length came ≡ n → n ≤ room → (n < room → left ≡ []) → take room (came ++ left) ≡ came
front-room n room came left e few end = elim (dec_lt n room) [
  | yes less ↦ ap (λ l. take room (came ++ l)) (end less) ∙ ap (take room) (append-nil came) ∙ take_all room came (omega arith)
  | no full ↦
      let same : room ≡ length came = omega arith in
      ap (λ r. take r (came ++ left)) same ∙ take-append_seam came left
]

pub came-front : (left new : Option (List ℕ)) (bytes : List ℕ) (room : ℕ) {input : Input} {n : ℕ} → input ≡ Ok n → n ≤ room
    → length bytes ≡ room → Came input left new bytes → IfSome left (λ bs. take room bs ≡ take n bytes)
came-front None new bytes room e few all came = tt
came-front (Some bs) None bytes room {input} {n} e few all came = let c : Came (Ok n) (Some bs) None bytes = rw e at came in absurd c.0
came-front (Some bs) (Some rest) bytes room {input} {n} e few all came =
    let c : Came (Ok n) (Some bs) (Some rest) bytes = rw e at came in
    let within : n ≤ length bytes = omega arith in
    ap (take room) c.0 ∙ front-room n room (take n bytes) rest (length-take-le n bytes within) few (λ less. c.1 (omega arith))

-- where there was room for more, the reader had no more
pub came-short : (left new : Option (List ℕ)) (bytes : List ℕ) (room : ℕ) {n : ℕ} → length bytes ≡ room → Came (Ok n) left new bytes
    → n < room → IfSome left (λ bs. length bs < room)
came-short None new bytes room all came few = tt
came-short (Some bs) None bytes room all came few = absurd came.0
came-short (Some bs) (Some rest) bytes room {n} all came few =
    let whole : bs ≡ take n bytes = came.0 ∙ ap (λ l. take n bytes ++ l) (came.1 (omega arith)) ∙ append-nil (take n bytes) in
    omega (arith, ap length whole, length-take-le n bytes (omega arith))

-- where there was not, all that there was room for
pub came-all : (left new : Option (List ℕ)) (bytes : List ℕ) {n : ℕ} → Came (Ok n) left new bytes → length bytes ≤ n → Consumes left new bytes
came-all left new bytes {n} came all = subst (Consumes left new) (take_all n bytes all) came.0
