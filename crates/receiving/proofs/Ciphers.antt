-- Which rows open: ciphers only, and a cipher by the partner of its key. Assumes nothing.
use Prim.Native.Nat.{ℕ, ◌<◌}
use mathlib.Core.Bool.{Bool}
use mathlib.Core.List.{List}
use mathlib.Core.Path.{◌≡◌, sym, ap, ◌∙◌}
use lib.Dec.{eqb}
use borrow.Author.Tests.{ne_eqb}
use Rattle.terms.specs.Term.{partner}
use Rattle.terms.specs.Table.{term}
use Rattle.book.specs.Layout.{table, rows, kind, row_first}
use Rattle.book.specs.Valid.{Valid}
use Rattle.book.specs.Span.{entry}
use Rattle.translation.specs.Dictionary.{buildable}
use Rattle.translation.specs.Receive.{can_open}
use Rattle.holding.specs.View.{view}
use Rattle.receiving.specs.Turn.Laws.{opens_not, cipher-row}

module _ (b e : List ℕ) (v : Valid b) (r k : ℕ) (h : r < rows b) (d : k ≡ kind b r) where
  pub no-cipher : (k ≡ 2 → ⊥) → eqb k 2 ≡ can_open (view b e) (term (table b) r)
  no-cipher n = ne_eqb k 2 n ∙ sym (opens_not b v r h (view b e) (λ z. n (d ∙ z)))

  pub by_key : (x : ℕ) (y : Bool) → k ≡ 2 → x ≡ entry b (row_first b r) → y ≡ buildable (view b e) (partner (term (table b) x))
      → y ≡ can_open (view b e) (term (table b) r)
  unfolding can_open
  by_key x y z q p =
      p ∙ ap (λ (i : ℕ). buildable (view b e) (partner (term (table b) i))) q
      ∙ sym (ap (can_open (view b e)) (cipher-row b v r h (sym d ∙ z)))
