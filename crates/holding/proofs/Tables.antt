-- The table of partners, filled row by row. Assumes nothing.
use Prim.Native.Nat.{ℕ, ◌+◌, ◌≤◌, ◌<◌}
use mathlib.Core.List.{List}
use mathlib.Core.Path.{◌≡◌, refl, sym, ap, ◌∙◌}
use native.Mathlib.Omega.{arith}
use native.Mathlib.Decide.{ℕ_discrete, dec_lt}
use lib.ListN.{get_or, set, replicate, length-set, length-replicate, get_or-replicate}
use lib.Seq.{get_or-set_same, get_or-set_other}
use Rattle.words.specs.First.Laws.{first-le}
use Rattle.terms.specs.Term.{partner}
use Rattle.terms.specs.Term.Laws.{partner-partner}
use Rattle.terms.specs.Table.{term, number}
use Rattle.book.specs.Layout.{table, rows, kind, row_first}
use Rattle.book.specs.Headed.Laws.{few-rows}
use Rattle.book.specs.Span.{entry}
use Rattle.book.specs.Span.Laws.{part_low}
use Rattle.book.specs.Valid.{Valid}
use Rattle.book.specs.Valid.Laws.{equal-terms}
use Rattle.holding.specs.View.{row_of}
use Rattle.holding.specs.View.Laws.{row-of, row-stands}
use Rattle.holding.specs.Partners.{Partners, HalfOf, PartnersBefore}
use Rattle.holding.specs.Partners.Laws.{partner-itself, half-alone, partner-half-of, halves-partners}

-- ---- at the start no row is passed
pub partners-start : {b : List ℕ} → Valid b → {n : ℕ} → n ≡ rows b → PartnersBefore b 0 (replicate 1024 0) (replicate 1024 n)
partners-start {b} v {n} e =
    let m = few-rows b v in
    record {
      within = omega arith;
      size = length-replicate {A = ℕ} 1024 0;
      seen_size = length-replicate {A = ℕ} 1024 n;
      found = λ r h. absurd (omega arith);
      absent = λ r h. absurd (omega arith);
      seen = λ p h l. let z = get_or-replicate {A = ℕ} 1024 p n 0 (omega arith) in absurd (omega arith);
      unseen = λ p h l. (let z = get_or-replicate {A = ℕ} 1024 p n 0 (omega arith) in omega arith, λ j u. absurd (omega arith));
    }

module _ {b : List ℕ} (v : Valid b) {i : ℕ} {l s : List ℕ} (g : PartnersBefore b i l s) (h : i < rows b) where
  -- a row before i whose partner is row i is the partner of row i
  turned : (r : ℕ) → term (table b) i ≡ partner (term (table b) r) → term (table b) r ≡ partner (term (table b) i)
  turned r e = sym (partner-partner (term (table b) r)) ∙ ap partner (sym e)

  -- ---- row i is no half, and its own partner
  pub partners-plain : kind b i < 3 → {w : ℕ} → w ≡ i → PartnersBefore b (i + 1) (set l w i) s
  partners-plain k {w} dw =
      let m = few-rows b v in
      let z = g.size in
      let own = partner-itself b v i (kind b i) h refl k in
      let same : get_or (set l w i) i 0 ≡ i = ap (λ x. get_or (set l x i) i 0) dw ∙ get_or-set_same l i i 0 (omega arith) in
      let other : (r : ℕ) → (r ≡ i → ⊥) → get_or (set l w i) r 0 ≡ get_or l r 0 = λ r n. get_or-set_other l w r i 0 (λ q. n (q ∙ dw)) in
      record {
        within = omega arith;
        size = length-set l w i ∙ z;
        seen_size = g.seen_size;
        found = λ r u o.
            elim (ℕ_discrete r i) [
              | yes q ↦ rw q (ap (term (table b)) same ∙ sym own)
              | no q ↦ (let y = other r q in ap (term (table b)) y ∙ g.found r (omega arith) (omega arith))
            ];
        absent = λ r u o.
            elim (ℕ_discrete r i) [
              | yes q ↦ (let y : get_or (set l w i) r 0 ≡ i = rw q same in absurd (omega arith))
              | no q ↦
                  (let y = other r q in
                  let (end, none) = g.absent r (omega arith) (omega arith) in (
                    y ∙ end,
                    λ j a e.
                        elim (ℕ_discrete j i) [
                          | yes t ↦
                              q (equal-terms b v r i (omega arith) h (turned r (ap (term (table b)) (sym t) ∙ e) ∙ own))
                          | no t ↦ none j (omega arith) e
                        ],
                  ))
            ];
        seen = λ p u o. (let (before, half) = g.seen p u o in (omega arith, half));
        unseen = λ p u o.
            (let (end, none) = g.unseen p u o in (
              end,
              λ j a f.
                  elim (ℕ_discrete j i) [ yes t ↦ (let y = f.half in absurd (omega (arith, ap (kind b) t))) | no t ↦ none j (omega arith) f ],
            ));
      }

  -- ---- row i is a half of row p: o is the other half, or none was seen
  module _ (k : 3 ≤ kind b i) {p o : ℕ} (dp : p ≡ entry b (row_first b i)) (ds : o ≡ get_or s p 0) where
    own : HalfOf b p i
    own = record { half = k; part = sym dp }

    low : p < rows b
    low = let y = part_low b v i h (omega arith) in omega arith

    -- what was seen afterwards
    seen_next : (q : ℕ) → q < rows b → get_or (set s p i) q 0 < rows b → (get_or (set s p i) q 0 < i + 1) × HalfOf b q (get_or (set s p i) q 0)
    seen_next q u y =
        let m = few-rows b v in
        let z = g.seen_size in
        elim (ℕ_discrete q p) [
          | yes t ↦
              (let same : get_or (set s p i) q 0 ≡ i = rw t (get_or-set_same s p i 0 (let x = low in omega arith)) in
              (omega arith, rw (same, t) own))
          | no t ↦
              (let other = get_or-set_other s p q i 0 t in
              let (before, half) = g.seen q u (omega arith) in
              (omega arith, rw other half))
        ]

    unseen-next : (q : ℕ) → q < rows b → rows b ≤ get_or (set s p i) q 0
        → (get_or (set s p i) q 0 ≡ rows b) × ((j : ℕ) → j < i + 1 → HalfOf b q j → ⊥)
    unseen-next q u y =
        let m = few-rows b v in
        let z = g.seen_size in
        elim (ℕ_discrete q p) [
          | yes t ↦
              (let same : get_or (set s p i) q 0 ≡ i = rw t (get_or-set_same s p i 0 (let x = low in omega arith)) in absurd (omega arith))
          | no t ↦
              (let other = get_or-set_other s p q i 0 t in
              let (end, none) = g.unseen q u (omega arith) in (
                other ∙ end,
                λ j a f.
                    elim (ℕ_discrete j i) [
                      | yes x ↦ t (sym f.part ∙ ap (λ y. entry b (row_first b y)) x ∙ sym dp)
                      | no x ↦ none j (omega arith) f
                    ],
              ))
        ]

    -- the other half stands before
    join-both : o < rows b → PartnersBefore b (i + 1) (set (set l i o) o i) (set s p i)
    join-both y =
        let m = few-rows b v in
        let z = g.size in
        let (before, half) = g.seen p low (omega arith) in
        let pair : term (table b) o ≡ partner (term (table b) i) =
        halves-partners b v h own (omega arith) (rw ds half) (λ t. absurd (omega arith)) in
        let at_other : get_or (set (set l i o) o i) o 0 ≡ i = get_or-set_same (set l i o) o i 0 (let x = length-set l i o in omega arith) in
        let at_own : get_or (set (set l i o) o i) i 0 ≡ o =
        get_or-set_other (set l i o) o i i 0 (λ t. absurd (omega arith)) ∙ get_or-set_same l i o 0 (omega arith) in
        let else : (r : ℕ) → (r ≡ i → ⊥) → (r ≡ o → ⊥) → get_or (set (set l i o) o i) r 0 ≡ get_or l r 0 =
        λ r a c. get_or-set_other (set l i o) o r i 0 c ∙ get_or-set_other l i r o 0 a in
        record {
          within = omega arith;
          size = length-set (set l i o) o i ∙ length-set l i o ∙ z;
          seen_size = length-set s p i ∙ g.seen_size;
          found = λ r u x.
              elim (ℕ_discrete r i) [
                | yes q ↦ rw q (ap (term (table b)) at_own ∙ pair)
                | no q ↦
                    elim (ℕ_discrete r o) [
                      | yes t ↦ rw t (ap (term (table b)) at_other ∙ sym (ap partner pair ∙ partner-partner (term (table b) i)))
                      | no t ↦ (let y = else r q t in ap (term (table b)) y ∙ g.found r (omega arith) (omega arith))
                    ]
              ];
          absent = λ r u x.
              elim (ℕ_discrete r i) [
                | yes q ↦ (let y : get_or (set (set l i o) o i) r 0 ≡ o = rw q at_own in absurd (omega arith))
                | no q ↦
                    elim (ℕ_discrete r o) [
                      | yes t ↦ (let y : get_or (set (set l i o) o i) r 0 ≡ i = rw t at_other in absurd (omega arith))
                      | no t ↦
                          (let y = else r q t in
                          let (end, none) = g.absent r (omega arith) (omega arith) in (
                            y ∙ end,
                            λ j a e.
                                elim (ℕ_discrete j i) [
                                  | yes c ↦ t (equal-terms b v r o (omega arith) (omega arith) (turned r (ap (term (table b)) (sym c) ∙ e) ∙ sym pair))
                                  | no c ↦ none j (omega arith) e
                                ],
                          ))
                    ]
              ];
          seen = seen_next;
          unseen = unseen-next;
        }

    -- no half of that row stands before
    join-alone : rows b ≤ o → PartnersBefore b (i + 1) (set l i o) (set s p i)
    join-alone y =
        let m = few-rows b v in
        let z = g.size in
        let (end, none) = g.unseen p low (omega arith) in
        let same : get_or (set l i o) i 0 ≡ o = get_or-set_same l i o 0 (omega arith) in
        record {
          within = omega arith;
          size = length-set l i o ∙ z;
          seen_size = length-set s p i ∙ g.seen_size;
          found = λ r u x.
              elim (ℕ_discrete r i) [
                | yes q ↦ (let w : get_or (set l i o) r 0 ≡ o = rw q same in absurd (omega arith))
                | no q ↦ (let w = get_or-set_other l i r o 0 q in ap (term (table b)) w ∙ g.found r (omega arith) (omega arith))
              ];
          absent = λ r u x.
              elim (ℕ_discrete r i) [
                | yes q ↦ (
                  ap (λ x. get_or (set l i o) x 0) q ∙ same ∙ ds ∙ end,
                  λ j a e.
                      (let e' : term (table b) j ≡ partner (term (table b) i) = rw q at e in
                      elim (ℕ_discrete j i) [
                        | yes c ↦ half-alone b v h own (ap (term (table b)) (sym c) ∙ e')
                        | no c ↦ none j (omega arith) (partner-half-of b v h own (omega arith) e')
                      ]),
                )
                | no q ↦
                    (let w = get_or-set_other l i r o 0 q in
                    let (end', none') = g.absent r (omega arith) (omega arith) in (
                      w ∙ end',
                      λ j a e.
                          elim (ℕ_discrete j i) [
                            | yes c ↦ none r (omega arith) (partner-half-of b v h own (omega arith) (turned r (ap (term (table b)) (sym c) ∙ e)))
                            | no c ↦ none' j (omega arith) e
                          ],
                    ))
              ];
          seen = seen_next;
          unseen = unseen-next;
        }

  -- as code has it: the half seen was read at q, and w, x and y are the places that were written
  module _ (k : 3 ≤ kind b i) {p q w y : ℕ} {t : List ℕ} (dp : p ≡ entry b (row_first b i)) (dq : q ≡ p) (dw : w ≡ i) (dy : y ≡ p) where
    pub partners-join : {x : ℕ} → get_or s q 0 < rows b → x ≡ get_or s q 0 → t ≡ set (set l w (get_or s q 0)) x i
        → PartnersBefore b (i + 1) t (set s y i)
    partners-join u dx e = rw (e, dx, dw, dy) (join-both k dp (ap (λ j. get_or s j 0) dq) u)

    pub partners-alone : rows b ≤ get_or s q 0 → t ≡ set l w (get_or s q 0) → PartnersBefore b (i + 1) t (set s y i)
    partners-alone u e = rw (e, dw, dy) (join-alone k dp (ap (λ j. get_or s j 0) dq) u)

-- ---- all rows are passed
pub partners-done : {b l s : List ℕ} {i n : ℕ} → Valid b → PartnersBefore b i l s → n ≡ rows b → n ≤ i → Partners b l
unfolding number
partners-done {b} {l} {s} {i} {n} v g dn m =
    record {
      names = λ r h.
          elim (dec_lt (get_or l r 0) (rows b)) [
            | yes u ↦ sym (row-of b v (get_or l r 0) _ u (g.found r (omega arith) u))
            | no u ↦
                (let (end, none) = g.absent r (omega arith) (omega arith) in
                let t = partner (term (table b) r) in
                elim (dec_lt (row_of b t) (rows b)) [
                  | yes z ↦ absurd (none (row_of b t) (omega arith) (row-stands b t z))
                  | no z ↦ (let y : row_of b t ≤ rows b = first-le _ (rows b) in omega arith)
                ])
          ];
    }
