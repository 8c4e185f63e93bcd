-- Refusals 2 and 3: the counts in the header, and where the sections begin. Assumes nothing.
use Prim.Native.Nat.{ℕ, ◌+◌, ◌*◌, ◌≤◌, ◌<◌}
use mathlib.Core.Bool.{Bool, true, false}
use mathlib.Core.List.{List}
use mathlib.Core.Path.{◌≡◌, refl, sym, ap, ◌∙◌}
use Rattle.std.specs.Prelude.{Some, None}
use lib.ListN.{length}
use native.Mathlib.Omega.{arith}
use borrow.Author.Tests.{lt-ltb, le-ltb}
use Rattle.words.specs.Choice.Laws.{pick_true, pick-false}
use Rattle.words.specs.First.Laws.{first-at, first-end}
use Rattle.book.specs.declared.Section.{Section}
use Rattle.book.specs.Sections.{OfSection}
use Rattle.book.specs.Layout.{at, header, sections, longest, begins, offset}
use Rattle.book.specs.Rules.{outside, count_breaks, stated, offset_breaks}
use Rattle.book.specs.Rules.Laws.{differs-same, differs_true}
use Rattle.book.specs.Headed.Laws.{offset-more, offset-most}
use Rattle.header.specs.Counted.{Counted}
use Rattle.header.specs.Scans.{Passed, Found}
use Rattle.header.specs.Scans.Laws.{passed_none, passed-more}

-- ---- count_breaks: v is what `outside` says of the count of section i, which stands at w
pub count_at : (b : List ℕ) (i w : ℕ) (s : Section) (v : Bool) → OfSection i s → w ≡ 2 * i → v ≡ outside s.least s.most (at b w)
    → v ≡ count_breaks b i
unfolding count_breaks
count_at b i w s v o d e = e ∙ rw (o.least, o.most, d)

-- ---- offset_breaks: what stands for section i is where it has to begin, or not
module _ (b : List ℕ) (i : ℕ) where
  stated-begins : i < sections → stated b i ≡ begins b i
  unfolding stated
  stated-begins l = pick_true _ _ _ (lt-ltb i sections l)

  stated-length : sections ≤ i → stated b i ≡ length b
  unfolding stated
  stated-length l = pick-false _ _ _ (le-ltb i sections l)

  offset-right : stated b i ≡ offset b i → offset_breaks b i ≡ false
  unfolding offset_breaks
  offset-right e = differs-same _ _ e

  offset-wrong : (stated b i ≡ offset b i → ⊥) → offset_breaks b i ≡ true
  unfolding offset_breaks
  offset-wrong n = differs_true _ _ n

-- the sections before section i begin where they have to, and section i has to begin at `next`
pub record Placed (b : List ℕ) (i next : ℕ) : Type 0 where
  pub passed : Passed (offset_breaks b) i
  pub placed : next ≡ offset b i

pub placed-none : {b : List ℕ} → Placed b 0 header
unfolding offset
placed-none {b} = record { passed = passed_none _; placed = refl }

module _ {b : List ℕ} {i next : ℕ} (p : Placed b i next) where
  -- the section's offset stands at u
  module _ (l : i < sections) (u : ℕ) (du : u ≡ 2 * i + 1) where
    pub begins-wrong : (at b u ≡ next → ⊥) → Found (offset_breaks b) (sections + 1) (Some i)
    begins-wrong n = (
      first-at _ _ i (omega arith) p.passed
          (offset-wrong b i (λ e. n (ap (at b) du ∙ sym (stated-begins b i l) ∙ e ∙ sym p.placed))),
      omega arith,
    )

    -- its records lie from there on: their number stands at w, and the next section begins behind them
    module _ (s : Section) (o : OfSection i s) (w : ℕ) (dw : w ≡ 2 * i) where
      behind : next + s.width * at b w ≡ offset b (i + 1)
      behind = rw (p.placed, o.width, dw) (sym (offset-more b i))

      pub begins-right : at b u ≡ next → Placed b (i + 1) (next + s.width * at b w)
      begins-right e =
          record {
            passed = passed-more _ i p.passed (offset-right b i (stated-begins b i l ∙ sym (ap (at b) du) ∙ e ∙ p.placed));
            placed = behind;
          }

      pub next-most : Counted b → next + s.width * at b w ≤ longest
      next-most few = let most = offset-most b few (i + 1) (omega arith) in let e = behind in omega arith

  -- behind the last section the book ends: m is what code compared its length with
  module _ (l : sections ≤ i) (h : i ≤ sections) (m : ℕ) (dm : m ≡ next) where
    last : i ≡ sections
    last = omega arith

    pub length-wrong : (length b ≡ m → ⊥) → Found (offset_breaks b) (sections + 1) (Some sections)
    length-wrong n = (
      first-at _ _ sections (omega arith) (rw last at p.passed)
          (rw last at (offset-wrong b i (λ e. n (sym (stated-length b i l) ∙ e ∙ sym p.placed ∙ sym dm)))),
      omega arith,
    )

    pub length-right : length b ≡ m → Found (offset_breaks b) (sections + 1) None
    length-right e =
        let more = passed-more _ i p.passed (offset-right b i (stated-length b i l ∙ e ∙ dm ∙ p.placed)) in
        first-end _ _ (sections + 1) refl (rw last at more)
