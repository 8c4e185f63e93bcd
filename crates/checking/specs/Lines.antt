-- The words of a line, as the functions that check it take them.
use Rattle.std.specs.Prelude.{ℕ, suc, ◌<◌, Bool, true, ◌&&◌, List, [], ◌∷◌, ◌≡◌, ltb, Option, None, Some}
use Rattle.words.specs.Choice.{pick}
use Rattle.words.specs.First.{first, any}
use Rattle.typing.specs.Derivation.{Kind, line_word, effect_count, passes, fails}
use Rattle.ruling.specs.declared.Line.{Line}
use Rattle.choosing.specs.Kinds.{is_kind, kind_at, premises_of}
pub mod Laws

-- the places that line i names, and how many effects
unfoldable pub line_of : List ℕ → ℕ → Line
line_of w i =
    record { e = line_word w i 4; s = line_word w i 5; t = line_word w i 6; f = line_word w i 7; k = effect_count w i }

-- line i names as its premise p an earlier line, whose rule concludes what is of this kind
unfoldable pub fits_at : List ℕ → ℕ → ℕ → Kind → Bool
fits_at w i p k = ltb (line_word w i p) i && is_kind k (kind_at (line_word w (line_word w i p) 0) 0)

-- premises of these kinds do, from premise p on
unfoldable pub fits_from : List ℕ → ℕ → ℕ → List Kind → Bool
fits_from w i p [] = true
fits_from w i p (k ∷ ks) = fits_at w i p k && fits_from w i (suc p) ks

-- all premises of rule n do
unfoldable pub fits_all : List ℕ → ℕ → ℕ → Bool
fits_all w i n = fits_from w i 1 (premises_of n)

-- the first of n lines that does not pass, or none
unfoldable pub first_failing : List ℕ → ℕ → Option ℕ
first_failing w n = pick (any (fails w) n) (Some (first (fails w) n)) None

-- the lines before line i pass
abbrev pub Passed : List ℕ → ℕ → Type 0
Passed w i = (k : ℕ) → k < i → passes w k ≡ true
