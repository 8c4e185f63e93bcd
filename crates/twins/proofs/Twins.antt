-- Refusal 6: rows that agree in kind, tag and parts, and a row that repeats an earlier one. Assumes nothing.
use Rattle.std.proofs.Common.{◌≡◌, ℕ, ◌+◌, ◌%◌, ◌<◌, ◌≤◌, Bool, true, false, not, ltb, is_some, Some, None, Option, lt-ltb, le-ltb, List, length, get_or, sym, ap, ◌∙◌, true≢false, arith, ext_get_or, below_none, below_more, eq-eqb, ne_eqb}
use native.Mathlib.Decide.{dec_lt}
use borrow.Author.Tests.{not-true, not-false}
use Rattle.words.specs.Choice.Laws.{pick_true, pick-false}
use Rattle.words.specs.First.{first, any}
use Rattle.words.specs.Run.Laws.{run_length, run-get_d}
use Rattle.book.specs.Layout.{begins, rows, kind, tag, row_first, row_count, pooled, parts}
use Rattle.book.specs.Rules.{Alike, alike, repeats}
use Rattle.book.specs.Rules.Laws.{none_of, of_none, differs-same, differs_false, alike-exact, not_alike}
use Rattle.twins.specs.Heads.{heads_differ}
use Rattle.twins.specs.Keys.{key_of, chains, chain_of, NextIn, ChainedFrom}
use Rattle.twins.specs.Keys.Laws.{next-within, next-passed, next-chained}
use Rattle.header.specs.Scans.{Scanning, Found}
use Rattle.header.specs.Scans.Laws.{passed-more}

-- ---- the parts of a row, as numbers: how many there are, and which
parts-length : (b : List ℕ) (r : ℕ) → length (parts b r) ≡ row_count b r
parts-length b r = run_length b (begins b 3 + row_first b r) (row_count b r)

parts_at : (b : List ℕ) (r j : ℕ) → j < row_count b r → get_or (parts b r) j 0 ≡ pooled b (row_first b r) j
parts_at b r j l = run-get_d b (begins b 3 + row_first b r) (row_count b r) j l

-- ---- Alike: rows that are alike have as many parts, and the same; and the other way round
module _ (b : List ℕ) (r k : ℕ) where
  alike-counts : Alike b r k → row_count b k ≡ row_count b r
  alike-counts x = sym (parts-length b k) ∙ ap length x.partss ∙ parts-length b r

  alike-parts : Alike b r k → (j : ℕ) → j < row_count b r → pooled b (row_first b k) j ≡ pooled b (row_first b r) j
  alike-parts x j l =
      let c = alike-counts x in
      sym (parts_at b k j (omega arith)) ∙ ap (λ (w : List ℕ). get_or w j 0) x.partss ∙ parts_at b r j l

  same_parts : row_count b k ≡ row_count b r → ((j : ℕ) → j < row_count b r → pooled b (row_first b k) j ≡ pooled b (row_first b r) j)
      → parts b k ≡ parts b r
  same_parts e h =
      let p = parts-length b k in
      let q = parts-length b r in
      ext_get_or 0 _ _ (omega arith) (λ j l. parts_at b k j (omega arith) ∙ h j (omega arith) ∙ sym (parts_at b r j (omega arith)))

  -- ---- rows whose heads differ are not alike; v is what a call said
  module _ (v : Bool) (d : v ≡ heads_differ b r k) where
    heads-same : Alike b r k → v ≡ false
    unfolding heads_differ
    heads-same x = d ∙ of_none _ (differs-same _ _ x.kinds, (differs-same _ _ x.tags, (differs-same _ _ (alike-counts x), tt)))

    pub heads-differ : not v ≡ false → alike b r k ≡ false
    heads-differ e = not_alike b r k (λ x. true≢false (sym (not-false v e) ∙ heads-same x))

    heads-agree : not v ≡ true → (kind b k ≡ kind b r) × (tag b k ≡ tag b r) × (row_count b k ≡ row_count b r)
    unfolding heads_differ
    heads-agree e =
        let t = none_of _ (sym d ∙ not-true v e) in
        (differs_false _ _ t.0, differs_false _ _ t.1.0, differs_false _ _ t.1.1.0)

-- ---- SameHeads: the rows r and k are the same in kind and tag, and both have n parts, which begin at f and at g in the pool
pub record SameHeads (b : List ℕ) (r k f g n : ℕ) : Type 0 where
  pub kinds : kind b k ≡ kind b r
  pub tags : tag b k ≡ tag b r
  pub own_first : f ≡ row_first b r
  pub own-count : n ≡ row_count b r
  pub other-first : g ≡ row_first b k
  pub other-count : n ≡ row_count b k

-- and their first j parts are equal
pub record SameTo (b : List ℕ) (r k f g n j : ℕ) : Type 0 where
  pub heads : SameHeads b r k f g n
  pub within : j ≤ n
  pub equal : (i : ℕ) → i < j → pooled b g i ≡ pooled b f i

-- y, f and n are what was read of row r: its key, where its parts begin and how many they are
pub record Own (b : List ℕ) (r y f n : ℕ) : Type 0 where
  pub key : y ≡ key_of b r
  pub first : f ≡ row_first b r
  pub count : n ≡ row_count b r

-- the heads do not differ, as a call said, and the parts of row k begin at g
pub same-begins : {b : List ℕ} {r y f n : ℕ} → Own b r y f n → (k : ℕ) (v : Bool) → v ≡ heads_differ b r k → not v ≡ true
    → (g : ℕ) → g ≡ row_first b k → SameTo b r k f g n 0
same-begins {b} {r} own k v d e g dg =
    let (kinds, tags, counts) = heads-agree b r k v d e in
    let n = own.count in
    record {
      heads = record {
        kinds = kinds;
        tags = tags;
        own_first = own.first;
        own-count = n;
        other-first = dg;
        other-count = omega arith;
      };
      within = omega arith;
      equal = below_none _;
    }

module _ (b : List ℕ) (r k f g n j : ℕ) (a : SameTo b r k f g n j) where
  -- the parts, where the two lists were read
  own-part : (i : ℕ) → pooled b f i ≡ pooled b (row_first b r) i
  own-part i = ap (λ w. pooled b w i) a.heads.own_first

  other-part : (i : ℕ) → pooled b g i ≡ pooled b (row_first b k) i
  other-part i = ap (λ w. pooled b w i) a.heads.other-first

  -- p and q are the parts j that were read
  module _ (z : j ≡ n → ⊥) (p q : ℕ) (dp : p ≡ pooled b g j) (dq : q ≡ pooled b f j) where
    pub same-goes : p ≡ q → SameTo b r k f g n (j + 1)
    same-goes e =
        let l = a.within in
        record { heads = a.heads; within = omega arith; equal = below_more _ j a.equal (sym dp ∙ e ∙ dq) }

    pub part-differs : (p ≡ q → ⊥) → alike b r k ≡ false
    part-differs m =
        let l = a.within in
        let c = a.heads.own-count in
        not_alike b r k (λ x. m (dp ∙ other-part j ∙ alike-parts b r k x j (omega arith) ∙ sym (own-part j) ∙ sym dq))

  -- all parts are equal
  pub same_alike : j ≡ n → alike b r k ≡ true
  same_alike z =
      let c = a.heads.own-count in
      let d = a.heads.other-count in
      (alike-exact b r k).1
      (record {
        kinds = a.heads.kinds;
        tags = a.heads.tags;
        partss = same_parts b r k (omega arith) (λ i l. sym (other-part i) ∙ a.equal i (omega arith) ∙ own-part i);
      })

-- ---- Hunting: along the chain of row r the hunt has come to row k, and no row before it is alike
pub record Hunting (b : List ℕ) (r k : ℕ) : Type 0 where
  pub scan : Scanning (alike b r) r k
  pub chained : chain_of b k ≡ chain_of b r
  pub inside : r < rows b

module _ {b keys heads nexts : List ℕ} {r : ℕ} (g : ChainedFrom b 0 keys heads nexts) (h : r < rows b) where
  -- the key that was read at w
  pub key-read : {w : ℕ} → w ≡ r → get_or keys w 0 ≡ key_of b r
  key-read d = ap (λ i. get_or keys i 0) d ∙ g.key r (omega arith) h

  -- the chain's first row, read at c
  pub hunting-starts : {c : ℕ} → c ≡ key_of b r % chains → Hunting b r (get_or heads c 0)
  unfolding chain_of
  hunting-starts {c} d =
      let first = rw d at (g.first c (omega arith)) in
      record {
        scan = rw d (record { passed = λ j l. next-passed h (omega arith) first j (omega arith) l; within = next-within h (omega arith) first });
        chained = rw d (next-chained h (omega arith) first);
        inside = h;
      }

  -- row k isn't alike, and the next of its chain was read at w
  pub hunting-goes : {k w : ℕ} → Hunting b r k → (k ≡ r → ⊥) → alike b r k ≡ false → w ≡ k → Hunting b r (get_or nexts w 0)
  hunting-goes {k} {w} f n e d =
      let within = f.scan.within in
      let next : NextIn b (chain_of b r) (k + 1) (get_or nexts w 0) = rw (d, ← f.chained) (g.next k (omega arith) (omega arith)) in
      record {
        scan = record {
          passed = λ j l.
              elim (dec_lt j (k + 1)) [
                | yes u ↦ passed-more (alike b r) k f.scan.passed e j u
                | no u ↦ next-passed h (omega arith) next j (omega arith) l
              ];
          within = next-within h (omega arith) next;
        };
        chained = next-chained h (omega arith) next;
        inside = h;
      }

  -- it is a later row
  pub hunting-on : {k w : ℕ} → Hunting b r k → (k ≡ r → ⊥) → w ≡ k → k < get_or nexts w 0
  hunting-on {k} {w} f n d =
      let within = f.scan.within in
      let after = (g.next k (omega arith) (omega arith)).after in
      rw d (omega arith)

-- ---- repeats: an atom repeats nothing; another row, if its twin t is an earlier row
module _ (b : List ℕ) (r k : ℕ) (d : k ≡ kind b r) where
  pub repeats-atom : k ≡ 0 → false ≡ repeats b r
  unfolding repeats
  repeats-atom e = sym (pick_true _ _ _ (eq-eqb (kind b r) 0 (omega arith)))

  pub repeats-twin : (k ≡ 0 → ⊥) → (t : Option ℕ) → Found (alike b r) r t → is_some t ≡ repeats b r
  unfolding repeats any
  repeats-twin n t e = some t e ∙ sym (pick-false _ _ _ (ne_eqb (kind b r) 0 (λ z. n (d ∙ z))))
    where
      some : (t : Option ℕ) → Found (alike b r) r t → is_some t ≡ ltb (first (alike b r) r) r
      some None e = sym (le-ltb _ _ (omega arith))
      some (Some k) e = sym (lt-ltb _ _ (omega arith))
