-- Laws of a list that is filled: one place more, and in the end all. Assumes nothing.
use Rattle.std.specs.Prelude.{ℕ, ◌+◌, ◌<◌, ◌≡◌, List, length, get_or, set}
use Rattle.std.proofs.Common.{sym, ◌∙◌, ap, arith, zero-add, ext_get_or, get_or-set_same, get_or-set_other, below_more}
use Rattle.words.specs.Run.{values}
use Rattle.words.specs.Run.Laws.{values_length, values-get_d}
use Rattle.shelf.specs.Filled.{Filled}

pub filled_more : (f : ℕ → ℕ) (out : List ℕ) (i w : ℕ) → i < length out → w ≡ f i → Filled f out i → Filled f (set out i w) (i + 1)
filled_more f out i w h e filled =
    below_more (λ k. get_or (set out i w) k 0 ≡ f k) i (λ k l. get_or-set_other out i k w 0 (λ z. omega arith) ∙ filled k l)
    (get_or-set_same out i w 0 h ∙ e)

pub filled-all : (f : ℕ → ℕ) (out : List ℕ) (n : ℕ) → length out ≡ n → Filled f out n → out ≡ values f 0 n
filled-all f out n e filled =
    ext_get_or 0 out (values f 0 n) (e ∙ sym (values_length f 0 n))
    (λ k l. filled k (omega arith) ∙ sym (values-get_d f 0 n k 0 (omega arith) ∙ ap f (zero-add k)))
