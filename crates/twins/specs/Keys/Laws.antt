-- Laws of row keys and of chains. Assumes nothing.
use Rattle.std.specs.Prelude.{◌≡◌, ℕ, ◌+◌, ◌-◌, ◌%◌, ◌<◌, ◌≤◌, false, List, ◌∷◌, replicate, ◌≢◌, slice_index, slice_index_or, slice_set, refl}
use Rattle.std.proofs.Math.Path.{sym, ap}
use Rattle.std.proofs.Common.{◌∙◌, get_or-set_same}
use native.Mathlib.Omega.{arith}
use Rattle.std.proofs.Math.Decide.{ℕ_discrete, dec_lt}
use Rattle.std.proofs.Math.ListN.{length-set}
use Rattle.std.proofs.lemmas.List.{length-replicate, get_or-replicate}
use Rattle.std.proofs.Math.Seq.{get_or-set_other}
use Rattle.book.specs.Layout.{most, rows, kind, tag, row_first, row_count, pooled, list_at}
use Rattle.book.specs.Rules.{Alike, alike}
use Rattle.book.specs.Rules.Laws.{not_alike}
use Rattle.book.specs.Span.Laws.{list-none, list-more}
use Rattle.twins.specs.Keys.{mixed, mixed_all, key_of, chains, chain_of, NextIn, ChainedFrom}

-- ---- a key, word by word: what is left of the parts, mixed into the key so far, gives the row's key
abbrev pub Mixing : List ℕ → ℕ → ℕ → ℕ → ℕ → ℕ → Type 0
Mixing b r f n key j = mixed_all key (list_at b (f + j) (n - j)) ≡ key_of b r

module _ (b : List ℕ) (r f n : ℕ) where
  pub mixing-starts : (c t key : ℕ) → c ≡ kind b r → t ≡ tag b r → f ≡ row_first b r → n ≡ row_count b r → key ≡ mixed c t
      → Mixing b r f n key 0
  unfolding key_of
  mixing-starts c t key dc dt df dn d =
      let y : f + 0 ≡ row_first b r = omega arith in
      let z : n - 0 ≡ row_count b r = omega arith in
      rw (d, dc, dt, y, z)

  pub mixing-on : (key j p next : ℕ) → j < n → Mixing b r f n key j → p ≡ pooled b f j → next ≡ mixed key p → Mixing b r f n next (j + 1)
  unfolding mixed_all
  mixing-on key j p next h g dp d =
      let y : f + j + 1 ≡ f + (j + 1) = omega arith in
      let z : n - j - 1 ≡ n - (j + 1) = omega arith in
      let same : pooled b f j ≡ pooled b (f + j) 0 = ap (λ i. slice_index b i) (omega arith) in
      let more : list_at b (f + j) (n - j) ≡ p ∷ list_at b (f + (j + 1)) (n - (j + 1)) =
      list-more b (f + j) (n - j) (omega arith) ∙ rw (dp, same, y, z) in
      rw d (sym (ap (mixed_all key) more) ∙ g)

  pub mixing-ends : (key j : ℕ) → n ≤ j → Mixing b r f n key j → key ≡ key_of b r
  unfolding mixed_all
  mixing-ends key j h g = sym (ap (mixed_all key) (list-none b (f + j) (n - j) (omega arith))) ∙ g

-- ---- rows that are alike have equal keys, so they are in one chain
module _ (b : List ℕ) (r k : ℕ) where
  key-same : Alike b r k → key_of b k ≡ key_of b r
  unfolding key_of
  key-same x = rw (x.kinds, x.tags, x.partss)

  pub key-differs : (y y' : ℕ) → y ≡ key_of b r → y' ≡ key_of b k → (y' ≢ y) → alike b r k ≡ false
  key-differs y y' d d' n = not_alike b r k (λ x. n (d' ∙ key-same x ∙ sym d))

  chain-differs : (chain_of b k ≢ chain_of b r) → alike b r k ≡ false
  unfolding chain_of
  chain-differs n = not_alike b r k (λ x. n (ap (λ y. y % chains) (key-same x)))

-- ---- along a chain: what is left out between two rows of it can't be alike, and row r itself is in its own chain
module _ {b : List ℕ} {r from to : ℕ} (h : r < rows b) (l : from ≤ r) (g : NextIn b (chain_of b r) from to) where
  pub next-within : to ≤ r
  next-within = elim (dec_lt r to) [ yes u ↦ absurd (g.none r l u refl) | no u ↦ omega arith ]

  pub next-passed : (j : ℕ) → from ≤ j → j < to → alike b r j ≡ false
  next-passed j u w = chain-differs b r j (g.none j u w)

  pub next-chained : chain_of b to ≡ chain_of b r
  next-chained = let w = next-within in g.inside (omega arith)

-- ---- chaining the rows, from the last to the first
pub chained-start : {b : List ℕ} {n : ℕ} → n ≡ rows b → ChainedFrom b (rows b) (replicate 1024 0) (replicate chains n) (replicate 1024 0)
chained-start {b} {n} d =
    record {
      within = omega arith;
      keys-size = length-replicate {A = ℕ} 1024 0;
      heads-size = length-replicate {A = ℕ} chains n;
      nexts-size = length-replicate {A = ℕ} 1024 0;
      key = λ r u w. absurd (omega arith);
      first = λ c u.
          (let z = get_or-replicate {A = ℕ} chains c n 0 u in
          record { after = omega arith; within = omega arith; none = λ j a e. absurd (omega arith); inside = λ a. absurd (omega arith) });
      next = λ r u w. absurd (omega arith);
    }

module _ {b keys heads nexts : List ℕ} {i : ℕ} (few : rows b ≤ most 0) (h : 0 < i) (g : ChainedFrom b i keys heads nexts) where
  -- row i - 1, with its key y, comes in front of its chain c
  pub chained-on : {y c w w' w'' : ℕ} → y ≡ key_of b (i - 1) → c ≡ y % chains → w ≡ i - 1 → w' ≡ c → w'' ≡ i - 1
      → ChainedFrom b (i - 1) (slice_set keys w y) (slice_set heads w' (i - 1)) (slice_set nexts w'' (slice_index heads c))
  unfolding chain_of
  chained-on {y} {c} {w} {w'} {w''} dy dc dw dw' dw'' =
      let r = i - 1 in
      let inside = g.within in
      let ks = g.keys-size in
      let hs = g.heads-size in
      let ns = g.nexts-size in
      let own : chain_of b r ≡ c = ap (λ x. x % chains) (sym dy) ∙ sym dc in
      let low : c < chains = omega arith in
      let z : r + 1 ≡ i = omega arith in
      record {
        within = omega arith;
        keys-size = length-set keys w y ∙ ks;
        heads-size = length-set heads w' r ∙ hs;
        nexts-size = length-set nexts w'' (slice_index heads c) ∙ ns;
        key = λ q u v.
            elim (ℕ_discrete q r) [
              | yes e ↦ rw (e, dw) (get_or-set_same keys r y 0 (omega arith) ∙ dy)
              | no e ↦ get_or-set_other keys w q y 0 (λ x. e (x ∙ dw)) ∙ g.key q (omega arith) v
            ];
        first = λ q u.
            elim (ℕ_discrete q c) [
              | yes e ↦
                  (let same : slice_index_or (slice_set heads w' r) q 0 ≡ r = rw (e, dw') (get_or-set_same heads c r 0 (omega arith)) in
                  rw same (record { after = omega arith; within = omega arith; none = λ j a o. absurd (omega arith); inside = λ a. own ∙ sym e }))
              | no e ↦
                  (let same : slice_index_or (slice_set heads w' r) q 0 ≡ slice_index_or heads q 0 = get_or-set_other heads w' q r 0 (λ x. e (x ∙ dw')) in
                  let f = g.first q u in
                  let fa = f.after in
                  rw same
                  (record {
                    after = omega arith;
                    within = f.within;
                    none = λ j a o x. elim (ℕ_discrete j r) [ yes t ↦ e (sym x ∙ ap (chain_of b) t ∙ own) | no t ↦ f.none j (omega arith) o x ];
                    inside = f.inside;
                  }))
            ];
        next = λ q u v.
            elim (ℕ_discrete q r) [
              | yes e ↦
                  (let same : slice_index_or (slice_set nexts w'' (slice_index heads c)) q 0 ≡ slice_index_or heads c 0 =
                  rw (e, dw'') (get_or-set_same nexts r (slice_index heads c) 0 (omega arith)) in
                  rw (same, e, own, z) (g.first c low))
              | no e ↦
                  (let same : slice_index_or (slice_set nexts w'' (slice_index heads c)) q 0 ≡ slice_index_or nexts q 0 =
                  get_or-set_other nexts w'' q (slice_index heads c) 0 (λ x. e (x ∙ dw'')) in
                  rw same (g.next q (omega arith) v))
            ];
      }

pub chained-done : {b keys heads nexts : List ℕ} {i : ℕ} → i ≤ 0 → ChainedFrom b i keys heads nexts → ChainedFrom b 0 keys heads nexts
chained-done {b} {keys} {heads} {nexts} {i} h g = let z : i ≡ 0 = omega arith in rw z at g
