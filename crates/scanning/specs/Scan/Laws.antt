-- Laws of going through a program's words. Assumes nothing.
use Rattle.std.specs.Prelude.{ℕ, ◌+◌, ◌≤◌, ◌<◌, ◌≡◌}
use Rattle.std.proofs.Common.{sym, ap, ◌∙◌, lt-ltb, le-ltb}
use Rattle.words.specs.Choice.Laws.{pick_true, pick-false}
use Rattle.words.specs.Overlay.{cap}
use Rattle.scanning.specs.Scan.{more_pending}

-- ---- images to come
pub pending-more : (l n w : ℕ) → l < cap → w ≡ n → l + w ≡ more_pending l n
unfolding more_pending
pending-more l n w h e = ap (λ k. l + k) e ∙ sym (pick_true _ _ _ (lt-ltb l cap h))

pub pending-full : (l n : ℕ) → cap ≤ l → l ≡ more_pending l n
unfolding more_pending
pending-full l n h = sym (pick-false _ _ _ (le-ltb l cap h))
