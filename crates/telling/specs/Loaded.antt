-- Laws of what was loaded of bytes: into 16,384 words, and what is judged and checked of such words. Assumes nothing.
use Rattle.std.specs.Prelude.{ℕ, ◌≤◌, List, ◌≡◌, length, take}
use Rattle.std.proofs.Common.{ap₂, arith}
use Rattle.words.specs.Overlay.{Wrote}
use Rattle.octets.specs.Octets.{words_in}
use Rattle.octets.specs.Octets.Laws.{loaded-all}
use Rattle.renaming.specs.Verdict.{judged}
use Rattle.typing.specs.Derivation.{verdict as verdict_of}
use Rattle.examining.specs.Checked.{verdict_said}

pub loaded-words : (bs : List ℕ) {old new : List ℕ} {r : ℕ} → length old ≡ 16384 → Wrote (take (length old) (words_in bs)) old 0 new r
    → length bs ≤ 65536 → take r new ≡ words_in bs
loaded-words bs size w few = loaded-all bs size w (omega arith) (omega arith)

-- of a book and of a listing
pub judges-loaded : {a b : List ℕ} (p : ℕ) (xs ls : List ℕ) → a ≡ words_in xs → b ≡ words_in ls
    → judged a p b ≡ judged (words_in xs) p (words_in ls)
judges-loaded p xs ls e e2 = ap₂ (λ ws ts. judged ws p ts) e e2

-- of what is asked and of a derivation
pub checks-loaded : {a b : List ℕ} (xs ds : List ℕ) → a ≡ words_in xs → b ≡ words_in ds
    → verdict_said (verdict_of a b) ≡ verdict_said (verdict_of (words_in xs) (words_in ds))
checks-loaded xs ds e e2 = ap₂ (λ ws ts. verdict_said (verdict_of ws ts)) e e2
