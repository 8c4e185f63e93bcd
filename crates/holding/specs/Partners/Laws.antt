-- Laws of halves and partners. Assumes nothing.
use Rattle.std.specs.Prelude.{ℕ, ◌≤◌, ◌<◌, Bool, true, false, List, ◌∷◌, ◌≡◌, eqb, get_or}
use Rattle.std.proofs.Math.Path.{refl}
use Rattle.std.proofs.Common.{sym, ap, ◌∙◌, ne_eqb}
use native.Mathlib.Omega.{arith}
use Rattle.std.proofs.Math.Decide.{ℕ_discrete, dec_lt}
use Rattle.words.specs.Choice.{pick}
use Rattle.terms.specs.Term.{Term, partner, gathered}
use Rattle.terms.specs.Kind.{of_kind, other_half}
use Rattle.terms.specs.Image.{words}
use Rattle.terms.specs.Table.{form, term, terms}
use Rattle.terms.specs.Table.Laws.{term-row, kind_of}
use Rattle.book.specs.Layout.{table, rows, kind, row_first, row_count}
use Rattle.book.specs.Kinds.Laws.{other-low, other-high, other-private, other-public}
use Rattle.book.specs.Valid.{Valid}
use Rattle.book.specs.Valid.Laws.{formed, equal-terms, row-kind}
use Rattle.translation.specs.Dictionary.{free, Dictionary, buildable, image_or, image}
use Rattle.holding.specs.View.{row_of, view}
use Rattle.holding.specs.View.Laws.{row-stands, row-of, view-none}
use Rattle.book.specs.Span.{entry}
use Rattle.book.specs.Span.Laws.{list-more, some-part, part_low}
use Rattle.holding.specs.Partners.{Partners, HalfOf}

-- a half of a term: kind 3 public, 4 private
unfoldable half : ℕ → Term → Term
half k t = pick (eqb k 3) (Term.public t) (Term.private t)

kind-half : (k : ℕ) (t : Term) → 3 ≤ k → k ≤ 4 → kind_of (half k t) ≡ k
unfolding kind_of half pick
kind-half k t l h = elim (ℕ_discrete k 3) [ yes e ↦ rw e | no e ↦ (let z : k ≡ 4 = omega arith in rw z) ]

half-part : (k : ℕ) (t u : Term) → half k t ≡ half k u → t ≡ u
unfolding half pick
half-part k t u = go (eqb k 3)
  where
    go : (x : Bool) → pick x (Term.public t) (Term.private t) ≡ pick x (Term.public u) (Term.private u) → t ≡ u
    go true e = cc
    go false e = cc

module _ (b : List ℕ) (v : Valid b) where
  half-row : (r : ℕ) → r < rows b → 3 ≤ kind b r → term (table b) r ≡ half (kind b r) (term (table b) (entry b (row_first b r)))
  unfolding form half pick terms gathered table
  half-row r h k =
      let l = (v.rows_keep r h).kinded in
      let s = list-more b (row_first b r) (row_count b r) (some-part b v r h (omega arith)) in
      let t = term-row (rows b) (table b) (formed b v) r h in
      elim (ℕ_discrete (kind b r) 3) [ yes e ↦ rw (t, e, s) | no e ↦ (let z : kind b r ≡ 4 = omega arith in rw (t, z, s)) ]

  -- ---- partner
  partner-plain : (t : Term) → kind_of t < 3 → partner t ≡ t
  unfolding partner kind_of
  partner-plain (Term.atom r) h = refl
  partner-plain (Term.operation g ts) h = refl
  partner-plain (Term.cipher k ts) h = refl
  partner-plain (Term.public t) h = absurd (omega arith)
  partner-plain (Term.private t) h = absurd (omega arith)

  pub partner-itself : (r k : ℕ) → r < rows b → k ≡ kind b r → k < 3 → partner (term (table b) r) ≡ term (table b) r
  partner-itself r k h e l = partner-plain (term (table b) r) (rw (row-kind b v r h) (omega arith))

  partner-half : (k : ℕ) (t : Term) → partner (half k t) ≡ half (other_half k) t
  unfolding partner half other_half pick
  partner-half k t = elim (ℕ_discrete k 3) [ yes e ↦ rw e | no n ↦ rw (ne_eqb k 3 n) ]

  partner-other : (r k p : ℕ) → r < rows b → k ≡ kind b r → 3 ≤ k → p ≡ entry b (row_first b r) → partner (term (table b) r)
      ≡ half (other_half k) (term (table b) p)
  partner-other r k p h e l g =
      let i : term (table b) r ≡ half k (term (table b) p) = half-row r h (omega arith) ∙ rw (← e, g) in
      ap partner i ∙ partner-half k (term (table b) p)

  -- ---- the halves of one row
  module _ {p r : ℕ} (h : r < rows b) (f : HalfOf b p r) where
    kind-partner : kind_of (partner (term (table b) r)) ≡ other_half (kind b r)
    kind-partner =
        ap kind_of (partner-other r (kind b r) p h refl f.half (sym f.part))
        ∙ kind-half (other_half (kind b r)) (term (table b) p) (other-low (kind b r)) (other-high (kind b r))

    part-row : p < rows b
    part-row = let e = f.part in let l = part_low b v r h (let k = f.half in omega arith) in omega arith

    -- a half is not its own partner
    pub half-alone : term (table b) r ≡ partner (term (table b) r) → ⊥
    half-alone e =
        let k : kind b r ≡ other_half (kind b r) = sym (row-kind b v r h) ∙ ap kind_of e ∙ kind-partner in
        elim (ℕ_discrete (kind b r) 3) [
          | yes z ↦ (let o = other-private (kind b r) z in omega arith)
          | no z ↦ (let o = other-public (kind b r) z in omega arith)
        ]

    module _ {j : ℕ} (u : j < rows b) where
      -- its partner is a half of the same row
      pub partner-half-of : term (table b) j ≡ partner (term (table b) r) → HalfOf b p j
      partner-half-of e =
          let k : kind b j ≡ other_half (kind b r) = sym (row-kind b v j u) ∙ ap kind_of e ∙ kind-partner in
          let l = other-low (kind b r) in
          let low = part_low b v j u (omega arith) in
          let is : half (kind b j) (term (table b) (entry b (row_first b j))) ≡ half (kind b j) (term (table b) p) =
          sym (half-row j u (omega arith)) ∙ e ∙ partner-other r (kind b r) p h refl f.half (sym f.part)
          ∙ ap (λ i. half i (term (table b) p)) (sym k) in
          record { half = omega arith; part = equal-terms b v _ p (omega arith) part-row (half-part (kind b j) _ _ is) }

      -- and another half of the same row is its partner
      pub halves-partners : HalfOf b p j → (j ≡ r → ⊥) → term (table b) j ≡ partner (term (table b) r)
      halves-partners g n =
          let own : term (table b) r ≡ half (kind b r) (term (table b) p) = half-row r h f.half ∙ rw f.part in
          let other : term (table b) j ≡ half (kind b j) (term (table b) p) = half-row j u g.half ∙ rw g.part in
          let low = f.half in
          let high = (v.rows_keep r h).kinded in
          let low' = g.half in
          let high' = (v.rows_keep j u).kinded in
          let turned : kind b j ≡ other_half (kind b r) =
          elim (ℕ_discrete (kind b j) (kind b r)) [
            | yes z ↦ absurd (n (equal-terms b v j r u h (other ∙ ap (λ k. half k (term (table b) p)) z ∙ sym own)))
            | no z ↦
                elim (ℕ_discrete (kind b r) 3) [
                  | yes y ↦ (let o = other-private (kind b r) y in omega arith)
                  | no y ↦ (let o = other-public (kind b r) y in omega arith)
                ]
          ] in
          other ∙ ap (λ k. half k (term (table b) p)) turned ∙ sym (partner-other r (kind b r) p h refl f.half (sym f.part))

-- ---- a half that is not held: buildable and its image by its part
can-half : (δ : Dictionary) (k : ℕ) (t : Term) → δ (half k t) ≡ free → buildable δ (half k t) ≡ buildable δ t
unfolding buildable half pick
can-half δ k t = go (eqb k 3)
  where
    go : (x : Bool) → δ (pick x (Term.public t) (Term.private t)) ≡ free → buildable δ (pick x (Term.public t) (Term.private t)) ≡ buildable δ t
    go true e = rw e
    go false e = rw e

image-half : (row : Term → ℕ) (δ : Dictionary) (k : ℕ) (t : Term) → 3 ≤ k → k ≤ 4 → δ (half k t) ≡ free
    → words row (image δ (half k t)) ≡ (of_kind k).code ∷ words row (image δ t)
unfolding image words half pick image_or
image-half row δ k t l m = elim (ℕ_discrete k 3) [ yes e ↦ rw e (λ z. rw z) | no e ↦ (let y : k ≡ 4 = omega arith in rw y (λ z. rw z)) ]

-- ---- the partner of row r, where it was looked up at w
pub looked-up : {b l : List ℕ} {r w : ℕ} → Partners b l → r < rows b → w ≡ r → get_or l w 0 ≡ row_of b (partner (term (table b) r))
looked-up {b} {l} g h d = ap (λ i. get_or l i 0) d ∙ g.names _ h

-- ---- the partner of row r, which stands in row o
module _ (b e : List ℕ) (v : Valid b) {r o : ℕ} (h : r < rows b) (d : o ≡ row_of b (partner (term (table b) r))) where
  stands : o < rows b → term (table b) o ≡ partner (term (table b) r)
  stands m = ap (term (table b)) d ∙ row-stands b (partner (term (table b) r)) (omega arith)

  pub opens_row : o < rows b → {x : Bool} → x ≡ buildable (view b e) (term (table b) o) → x ≡ buildable (view b e) (partner (term (table b) r))
  opens_row m x = x ∙ ap (buildable (view b e)) (stands m)

  pub shows-row : o < rows b → words (row_of b) (image (view b e) (partner (term (table b) r))) ≡ words (row_of b) (image (view b e) (term (table b) o))
  shows-row m = ap (λ t. words (row_of b) (image (view b e) t)) (sym (stands m))

  -- ---- or which is no row: then r is a half, and p its part
  module _ (m : rows b ≤ o) where
    pub key-half : 3 ≤ kind b r
    key-half =
        elim (dec_lt (kind b r) 3) [
          | yes l ↦ (let z = row-of b v r _ h (sym (partner-itself b v r (kind b r) h refl l)) in absurd (omega arith))
          | no l ↦ omega arith
        ]

    module _ {p : ℕ} (dp : p ≡ entry b (row_first b r)) where
      is : partner (term (table b) r) ≡ half (other_half (kind b r)) (term (table b) p)
      is = partner-other b v r (kind b r) p h refl key-half dp

      nowhere : view b e (half (other_half (kind b r)) (term (table b) p)) ≡ free
      nowhere = view-none b v e _ (λ s u w. let z = row-of b v s _ u (w ∙ sym is) in omega arith)

      pub opens-part : {x : Bool} → x ≡ buildable (view b e) (term (table b) p) → x ≡ buildable (view b e) (partner (term (table b) r))
      opens-part x = x ∙ sym (ap (buildable (view b e)) is ∙ can-half (view b e) (other_half (kind b r)) (term (table b) p) nowhere)

      -- c is the code of the other half
      pub shows-part : {c : ℕ} → c ≡ (of_kind (other_half (kind b r))).code
          → words (row_of b) (image (view b e) (partner (term (table b) r))) ≡ c ∷ words (row_of b) (image (view b e) (term (table b) p))
      shows-part q =
          ap (λ t. words (row_of b) (image (view b e) t)) is
          ∙ image-half (row_of b) (view b e) (other_half (kind b r)) (term (table b) p) (other-low (kind b r)) (other-high (kind b r)) nowhere
          ∙ ap (λ c. c ∷ words (row_of b) (image (view b e) (term (table b) p))) (sym q)
