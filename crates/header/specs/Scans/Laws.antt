-- What a loop over numbered places knows of the first of them that breaks a rule, or of whether one does. Assumes nothing.
use Rattle.std.specs.Prelude.{ℕ, ◌+◌, ◌≤◌, ◌<◌, Bool, true, false, Some, None, ◌≡◌}
use Rattle.std.proofs.Common.{sym, ◌∙◌, arith, below_none, below_more}
use Rattle.words.specs.First.{any}
use Rattle.words.specs.First.Laws.{any_at, any_none, first-at, first-end}
use Rattle.header.specs.Scans.{Passed, Found}

module _ (t : ℕ → Bool) where
  -- ---- Passed
  pub passed_none : Passed t 0
  passed_none = below_none (λ j. t j ≡ false)

  pub passed-more : (k : ℕ) → Passed t k → t k ≡ false → Passed t (k + 1)
  passed-more = below_more (λ j. t j ≡ false)

  -- ---- Found: the loop over n places stops at place k, of which a call said v, or ends behind the last
  pub found_at : (n k : ℕ) → Passed t k → k < n → (v : Bool) → v ≡ t k → v ≡ true → Found t n (Some k)
  found_at n k s l v d h = (first-at t n k l s (sym d ∙ h), l)

  pub found_none : (n k : ℕ) → Passed t k → k ≤ n → n ≤ k → Found t n None
  found_none n k s l m = let z = first-end t n k (omega arith) s in omega arith

  -- ---- whether a place breaks the rule
  pub some-breaks : (n k : ℕ) → k < n → t k ≡ true → true ≡ any t n
  some-breaks n k l e = sym (any_at t n k l e)

  pub none-breaks : (n k : ℕ) → Passed t k → n ≤ k → false ≡ any t n
  none-breaks n k s l = sym (any_none t n (λ j m. s j (omega arith)))
