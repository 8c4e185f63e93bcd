-- Laws of the header. Assumes nothing.
use Rattle.std.specs.Prelude.{ℕ, zero, suc, ◌+◌, ◌*◌, ◌≤◌, ◌<◌, List, length, ◌≡◌}
use Rattle.std.proofs.Common.{add-one, arith, ap}
use Rattle.words.specs.Choice.{pick}
use Rattle.book.specs.Layout.{at, header, sections, width, most, longest, counted, begins, rows, parties, steps, pool, field, pooled, offset}
use Rattle.book.specs.Rules.{CountRule, stated, OffsetRule}
use Rattle.book.specs.Valid.{Valid}
use Rattle.book.specs.Headed.{Headed}

pub rules-headed : (b : List ℕ) → ((i : ℕ) → i < sections → CountRule b i) → ((i : ℕ) → i < sections + 1 → OffsetRule b i) → Headed b
unfolding offset stated pick
rules-headed b counts offsets =
    let c0 = counts 0 (omega arith) in
    let c1 = counts 1 (omega arith) in
    let c2 = counts 2 (omega arith) in
    let c3 = counts 3 (omega arith) in
    record {
      rows_from = offsets 0 (omega arith);
      parties_from = offsets 1 (omega arith);
      steps_from = offsets 2 (omega arith);
      pool_from = offsets 3 (omega arith);
      long = (let o = offsets 4 (omega arith) in omega arith);
      some_rows = c0.low;
      few_rows = c0.high;
      some_parties = c1.low;
      few_parties = c1.high;
      few_steps = c2.high;
      small_pool = c3.high;
    }

pub valid-headed : (b : List ℕ) → Valid b → Headed b
valid-headed b v = rules-headed b v.counts v.offsets

-- the bounds that a valid book's header keeps, each as a rule for `omega`
pub few-rows : (b : List ℕ) → Valid b → rows b ≤ most 0
few-rows b v = (valid-headed b v).few_rows

pub few-parties : (b : List ℕ) → Valid b → parties b ≤ most 1
few-parties b v = (valid-headed b v).few_parties

pub few-steps : (b : List ℕ) → Valid b → steps b ≤ most 2
few-steps b v = (valid-headed b v).few_steps

pub small-pool : (b : List ℕ) → Valid b → pool b ≤ most 3
small-pool b v = (valid-headed b v).small_pool

-- what a valid book's header says, for a tactic
pub ruleset headed_rules = (valid-headed, few-rows, few-parties, few-steps, small-pool)

-- no headed book is longer than the longest
pub long-most : (b : List ℕ) → Headed b → length b ≤ longest
long-most b h = omega arith

-- ---- offset
pub offset-more : (b : List ℕ) (i : ℕ) → offset b (i + 1) ≡ offset b i + width i * counted b i
unfolding offset
offset-more b i = rw add-one

-- no section begins behind the longest book's end, where the counts are within their bounds
pub offset-most : (b : List ℕ) → ((i : ℕ) → i < sections → counted b i ≤ most i) → (i : ℕ) → i ≤ sections → offset b i ≤ longest
unfolding offset
offset-most b few zero h = omega arith
offset-most b few (suc zero) h = let r = few 0 (omega arith) in omega arith
offset-most b few (suc (suc zero)) h = let r = few 0 (omega arith) in let p = few 1 (omega arith) in omega arith
offset-most b few (suc (suc (suc zero))) h =
    let r = few 0 (omega arith) in
    let p = few 1 (omega arith) in
    let s = few 2 (omega arith) in
    omega arith
offset-most b few (suc (suc (suc (suc zero)))) h =
    let r = few 0 (omega arith) in
    let p = few 1 (omega arith) in
    let s = few 2 (omega arith) in
    let w = few 3 (omega arith) in
    omega arith
offset-most b few (suc (suc (suc (suc (suc i))))) h = absurd (omega arith)

-- ---- where code finds a record's word and a list's: `w` is where the record begins and `o` where the pool does, as it read them
pub row_at : (b : List ℕ) → Headed b → (r k w : ℕ) → w ≡ header + width 0 * r → at b (w + k) ≡ field b 0 r k
row_at b h r k w e = let f = h.rows_from in let z : w + k ≡ begins b 0 + width 0 * r + k = omega arith in ap (at b) z

module _ (b : List ℕ) where
  pub field_at : (i r k w : ℕ) → w ≡ begins b i + width i * r → at b (w + k) ≡ field b i r k
  field_at i r k w e = rw e

  pub pooled-at : (f j o : ℕ) → o ≡ begins b 3 → at b (o + f + j) ≡ pooled b f j
  pooled-at f j o d = rw d
