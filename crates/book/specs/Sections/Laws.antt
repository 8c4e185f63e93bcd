-- Laws of the sections' numbers. Assumes nothing.
use Rattle.std.specs.Prelude.{ℕ, ◌<◌, ◌≡◌}
use Rattle.std.proofs.Common.{arith}
use Rattle.book.specs.Layout.{sections, width, least, most}
use Rattle.book.specs.declared.Section.{Section}
use Rattle.book.specs.Sections.{OfSection}

-- the three numbers, one by one
pub line : {i : ℕ} {r : Section} → r.width ≡ width i → r.least ≡ least i → r.most ≡ most i → OfSection i r
line w l m = record { width = w; least = l; most = m }

-- of a section that is named
pub section-named : (i n : ℕ) {r : Section} → OfSection n r → i ≡ n → OfSection i r
section-named i n o e = rw e o

-- of any other than the first three
pub section-last : (i : ℕ) {r : Section} → OfSection 3 r → i < sections → (i ≡ 0 → ⊥) → (i ≡ 1 → ⊥) → (i ≡ 2 → ⊥)
    → OfSection i r
section-last i o h a b c = section-named i 3 o (omega arith)
