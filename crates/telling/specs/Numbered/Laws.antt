-- The line of a text and a number, as it is put. Assumes nothing.
use Rattle.std.specs.Prelude.{ℕ, List, ◌≡◌, take}
use Rattle.std.proofs.Common.{ap, ◌∙◌}
use Rattle.line.specs.Line.{spaced, ended, Put}
use Rattle.line.specs.Line.Laws.{put_then}
use Rattle.telling.specs.Numbered.{numbered_line}

-- the number behind the text, put one behind the other, and the newline
pub line-numbered : (k : ℕ) {text old mid new line : List ℕ} {a r : ℕ} → Put text old 0 mid a → Put (spaced k) mid a new r
    → line ≡ ended (take r new) → line ≡ numbered_line text k
unfolding numbered_line
line-numbered k word number ends = ends ∙ ap ended (put_then word number).front
