-- Laws of words and bytes: writing the bytes of words one after another, and that the bytes of words make these words again.
-- Assumes nothing.
use Rattle.std.specs.Prelude.{ℕ, zero, suc, ◌+◌, ◌-◌, ◌*◌, ◌/◌, ◌%◌, ◌≤◌, ◌<◌, min, false, not, List, [], ◌∷◌, ◌++◌, ◌≡◌, refl, length, get_or, take, drop, replicate}
use Rattle.std.proofs.Common.{append-nil, append_assoc, sym, ap, ap₂, ◌∙◌, arith, add-one, zero-add, length-take, length-drop, take-suc, take_all, ext_get_or, get_or-drop, drop-drop, eq-eqb}
use Rattle.std.proofs.lemmas.List.{length-replicate}
use Rattle.std.proofs.Math.ListN.{get_or-eq_default}
use Rattle.std.proofs.Math.Seq.{take-nil, drop-append-add, length-sets}
use Rattle.std.proofs.lemmas.List.Edits.{sets, sets-eq}
use Rattle.words.specs.Overlay.{cap, Wrote}
use Rattle.words.specs.Overlay.Laws.{wrote_none, wrote_then, wrote_as, wrote-more, wrote-take}
use Rattle.words.specs.Run.{All, values}
use Rattle.words.specs.Run.Laws.{values_length, values-get_d, zeros}
use Rattle.octets.specs.Octets.{word_of, word_at, words_in, uneven, spare, bytes_of, bytes_of_all}

-- the front of a list, which ends where the list does
take_min : (ws : List ℕ) (n i : ℕ) → i ≡ min n (length ws) → take n ws ≡ take i ws
take_min [] n i e = let z : i ≡ 0 = omega arith in rw z (take-nil n)
take_min (w ∷ ws) zero i e = let z : i ≡ 0 = omega arith in rw z
take_min (w ∷ ws) (suc n) zero e = absurd (omega arith)
take_min (w ∷ ws) (suc n) (suc i) e = ap (λ (l : List ℕ). w ∷ l) (take_min ws n i (omega arith))

-- ---- words_in
pub words-length : (bs : List ℕ) → length (words_in bs) ≡ length bs / 4
words-length bs = values_length (word_at bs) 0 (length bs / 4)

pub words-at : (bs : List ℕ) (i : ℕ) → i < length bs / 4 → get_or (words_in bs) i 0 ≡ word_at bs i
words-at bs i h = values-get_d (word_at bs) 0 (length bs / 4) i 0 h ∙ ap (word_at bs) (zero-add i)

-- past the last
pub words-past : (bs : List ℕ) (i : ℕ) → length bs / 4 ≤ i → get_or (words_in bs) i 0 ≡ 0
words-past bs i h = get_or-eq_default (words_in bs) 0 (let n = words-length bs in omega arith)

-- ---- bytes_of_all
pub bytes-append : (vs ws : List ℕ) → bytes_of_all (vs ++ ws) ≡ bytes_of_all vs ++ bytes_of_all ws
unfolding bytes_of_all bytes_of
bytes-append [] ws = refl
bytes-append (v ∷ vs) ws = ap (λ (bs : List ℕ). bytes_of v ++ bs) (bytes-append vs ws)

pub bytes-length : (ws : List ℕ) → length (bytes_of_all ws) ≡ 4 * length ws
unfolding bytes_of_all bytes_of
bytes-length [] = refl
bytes-length (w ∷ ws) = let e = bytes-length ws in omega arith

bytes_one : (w : ℕ) → bytes_of_all (w ∷ []) ≡ bytes_of w
unfolding bytes_of_all
bytes_one w = append-nil (bytes_of w)

-- writing them: none, one word more of a list, and one list behind another
pub bytes-none : {o : List ℕ} {a : ℕ} → Wrote (bytes_of_all []) o a o a
unfolding bytes_of_all
bytes-none = wrote_none

pub bytes-then : (vs ws : List ℕ) {o m n : List ℕ} {a p r : ℕ} → Wrote (bytes_of_all vs) o a m p → Wrote (bytes_of_all ws) m p n r
    → Wrote (bytes_of_all (vs ++ ws)) o a n r
bytes-then vs ws f g = wrote_as (wrote_then f g) (bytes-append vs ws)

pub bytes-more : (ws : List ℕ) (i : ℕ) {o m n : List ℕ} {a p r : ℕ} → i < length ws → Wrote (bytes_of_all (take i ws)) o a m p
    → Wrote (bytes_of (get_or ws i 0)) m p n r → Wrote (bytes_of_all (take (i + 1) ws)) o a n r
bytes-more ws i h f g =
    let more = bytes-then (take i ws) (get_or ws i 0 ∷ []) f (wrote_as g (bytes_one (get_or ws i 0))) in
    wrote_as more (ap bytes_of_all (ap (λ k. take k ws) (add-one i) ∙ take-suc ws i 0 h))

-- ---- loading the words that the bytes make: one word more, and all that have room
pub load-more : (bs : List ℕ) (i : ℕ) {w : ℕ} {o m n : List ℕ} {a p r : ℕ} → i < length bs / 4 → w ≡ get_or (words_in bs) i 0
    → Wrote (take i (words_in bs)) o a m p → Wrote (w ∷ []) m p n r → Wrote (take (i + 1) (words_in bs)) o a n r
load-more bs i h e f g =
    let l = words-length bs in
    wrote-more (words_in bs) i (omega arith) f (rw e at g) refl

pub load-all : (bs o : List ℕ) (i : ℕ) {n : List ℕ} {a r : ℕ} → i ≡ min (length o) (length bs / 4)
    → Wrote (take i (words_in bs)) o a n r → Wrote (take (length o) (words_in bs)) o a n r
load-all bs o i e f = wrote_as f (take_min (words_in bs) (length o) i (let l = words-length bs in omega arith))

-- ---- the bytes of words below 2^32 make these words again
-- a word is the word of its four bytes
word_bytes : (w : ℕ) → w < 4294967296 → word_of (w % 256) (w / 256 % 256) (w / 65536 % 256) (w / 16777216 % 256) ≡ w
word_bytes w h =
    let a : w / 256 / 256 ≡ w / 65536 = omega arith in
    let b : w / 65536 / 256 ≡ w / 16777216 = omega arith in
    let c : w / 16777216 < 256 = omega arith in
    let d : w / 16777216 % 256 ≡ w / 16777216 = omega arith in
    omega arith

-- the word that bytes begin with, and the words behind it
word_first : (w : ℕ) (bs : List ℕ) → w < 4294967296 → word_at (bytes_of w ++ bs) 0 ≡ w
unfolding word_at bytes_of
word_first w bs h = word_bytes w h

past-four : (a b c d : ℕ) (bs : List ℕ) (i k : ℕ) → k ≡ i + 4 → get_or (a ∷ b ∷ c ∷ d ∷ bs) k 0 ≡ get_or bs i 0
past-four a b c d bs i k e = let f : k ≡ suc (suc (suc (suc i))) = omega arith in rw f

word-later : (w : ℕ) (bs : List ℕ) (i : ℕ) → word_at (bytes_of w ++ bs) (suc i) ≡ word_at bs i
unfolding word_at bytes_of
word-later w bs i =
    let past = past-four (w % 256) (w / 256 % 256) (w / 65536 % 256) (w / 16777216 % 256) bs in
    let e = past (4 * i) (4 * suc i) (omega arith) in
    let f = past (4 * i + 1) (4 * suc i + 1) (omega arith) in
    let g = past (4 * i + 2) (4 * suc i + 2) (omega arith) in
    let h = past (4 * i + 3) (4 * suc i + 3) (omega arith) in
    rw (e, f, g, h)

words-cons : (w : ℕ) (bs : List ℕ) → w < 4294967296 → words_in (bytes_of w ++ bs) ≡ w ∷ words_in bs
unfolding bytes_of
words-cons w bs h =
    let n = words-length (bytes_of w ++ bs) in
    let m = words-length bs in
    ext_get_or 0 (words_in (bytes_of w ++ bs)) (w ∷ words_in bs) (omega arith) at_each
  where
    at_each : (k : ℕ) → k < length (words_in (bytes_of w ++ bs)) → get_or (words_in (bytes_of w ++ bs)) k 0 ≡ get_or (w ∷ words_in bs) k 0
    at_each zero l = words-at (bytes_of w ++ bs) 0 (let n = words-length (bytes_of w ++ bs) in omega arith) ∙ word_first w bs h
    at_each (suc k) l =
        let n = words-length (bytes_of w ++ bs) in
        words-at (bytes_of w ++ bs) (suc k) (omega arith) ∙ word-later w bs k ∙ sym (words-at bs k (omega arith))

pub words-bytes : (ws bs : List ℕ) → All (λ w. w < 4294967296) ws → words_in (bytes_of_all ws ++ bs) ≡ ws ++ words_in bs
unfolding bytes_of_all
words-bytes [] bs h = refl
words-bytes (w ∷ ws) bs h =
    ap words_in (append_assoc (bytes_of w) (bytes_of_all ws) bs) ∙ words-cons w (bytes_of_all ws ++ bs) h.0
    ∙ ap (λ (l : List ℕ). w ∷ l) (words-bytes ws bs h.1)

-- alone they are whole, and make these and no more
pub bytes-even : (ws : List ℕ) → uneven (bytes_of_all ws) ≡ false
bytes-even ws = let n = bytes-length ws in let e : length (bytes_of_all ws) % 4 ≡ 0 = omega arith in ap not (eq-eqb _ _ e)

pub bytes_back : (ws : List ℕ) → All (λ w. w < 4294967296) ws → words_in (bytes_of_all ws) ≡ ws
unfolding values
bytes_back ws h = ap words_in (sym (append-nil (bytes_of_all ws))) ∙ words-bytes ws [] h ∙ append-nil ws

-- ---- bytes of words laid over the front of bytes
-- word i of bytes whose first m words are left out
word-drop : (bs : List ℕ) (m i : ℕ) → word_at (drop (4 * m) bs) i ≡ word_at bs (m + i)
unfolding word_at
word-drop bs m i =
    let at_byte = get_or-drop (4 * m) bs in
    let e : get_or (drop (4 * m) bs) (4 * i) 0 ≡ get_or bs (4 * (m + i)) 0 = at_byte (4 * i) 0 ∙ ap (λ k. get_or bs k 0) (omega arith) in
    let f : get_or (drop (4 * m) bs) (4 * i + 1) 0 ≡ get_or bs (4 * (m + i) + 1) 0 = at_byte (4 * i + 1) 0 ∙ ap (λ k. get_or bs k 0) (omega arith) in
    let g : get_or (drop (4 * m) bs) (4 * i + 2) 0 ≡ get_or bs (4 * (m + i) + 2) 0 = at_byte (4 * i + 2) 0 ∙ ap (λ k. get_or bs k 0) (omega arith) in
    let h : get_or (drop (4 * m) bs) (4 * i + 3) 0 ≡ get_or bs (4 * (m + i) + 3) 0 = at_byte (4 * i + 3) 0 ∙ ap (λ k. get_or bs k 0) (omega arith) in
    rw (e, f, g, h)

words-drop : (bs : List ℕ) (m : ℕ) → m ≤ length bs / 4 → words_in (drop (4 * m) bs) ≡ drop m (words_in bs)
words-drop bs m h =
    let n = words-length bs in
    let d = words-length (drop (4 * m) bs) in
    let l = length-drop (4 * m) bs in
    let k = length-drop m (words_in bs) in
    ext_get_or 0 (words_in (drop (4 * m) bs)) (drop m (words_in bs)) (omega arith)
    (λ i j. words-at (drop (4 * m) bs) i (omega arith) ∙ word-drop bs m i ∙ sym (get_or-drop m (words_in bs) i 0 ∙ words-at bs (m + i) (omega arith)))

module _ (ws out : List ℕ) (low : All (λ w. w < 4294967296) ws) (room : length ws ≤ length out / 4) where
  bytes-laid : sets out 0 (bytes_of_all ws) ≡ bytes_of_all ws ++ drop (4 * length ws) out
  bytes-laid =
      let l = bytes-length ws in
      let e : 0 + length (bytes_of_all ws) ≡ 4 * length ws = omega arith in
      sets-eq (bytes_of_all ws) out 0 (omega arith) ∙ ap (λ k. bytes_of_all ws ++ drop k out) e

  -- the words that they then make are the words, laid over those that they made
  pub words-laid : words_in (sets out 0 (bytes_of_all ws)) ≡ sets (words_in out) 0 ws
  words-laid =
      let n = words-length out in
      let e : 0 + length ws ≡ length ws = omega arith in
      ap words_in bytes-laid ∙ words-bytes ws (drop (4 * length ws) out) low ∙ ap (λ (l : List ℕ). ws ++ l) (words-drop out (length ws) room)
      ∙ sym (sets-eq ws (words_in out) 0 (omega arith) ∙ ap (λ k. ws ++ drop k (words_in out)) e)

  -- and the spare bytes stay
  pub spare-laid : spare (sets out 0 (bytes_of_all ws)) ≡ spare out
  spare-laid =
      let n = 4 * (length out / 4) in
      let k = n - 4 * length ws in
      let l = bytes-length ws in
      let same : 4 * (length (sets out 0 (bytes_of_all ws)) / 4) ≡ n = ap (λ i. 4 * (i / 4)) (length-sets out 0 (bytes_of_all ws)) in
      let past : n ≡ length (bytes_of_all ws) + k = omega arith in
      let behind : 4 * length ws + k ≡ n = omega arith in
      ap₂ drop (same ∙ past) bytes-laid ∙ drop-append-add (bytes_of_all ws) (drop (4 * length ws) out) k ∙ drop-drop k (4 * length ws) out
      ∙ ap (λ i. drop i out) behind

-- ---- what was loaded into n words: so many, and these
module _ (bs : List ℕ) {old new : List ℕ} {n r : ℕ} (size : length old ≡ n) (w : Wrote (take (length old) (words_in bs)) old 0 new r) where
  pub loaded-many : r ≤ n
  loaded-many =
      let l = length-take (length old) (words_in bs) in
      let e = w.next in
      omega arith

  pub loaded-front : n ≤ cap → take r new ≡ take n (words_in bs)
  loaded-front h =
      let l = length-take (length old) (words_in bs) in
      let e = w.next in
      let many : r ≡ length (take (length old) (words_in bs)) = omega arith in
      ap (λ k. take k new) many ∙ wrote-take w (omega arith) ∙ ap (λ k. take k (words_in bs)) size

  -- all, where they have room
  pub loaded-all : n ≤ cap → length bs / 4 ≤ n → take r new ≡ words_in bs
  loaded-all h few = let l = words-length bs in loaded-front h ∙ take_all n (words_in bs) (omega arith)

-- ---- bytes that are all 0
word-zeros : (n i : ℕ) → word_at (replicate n 0) i ≡ 0
unfolding word_at
word-zeros n i = rw (zeros n (4 * i), zeros n (4 * i + 1), zeros n (4 * i + 2), zeros n (4 * i + 3))

pub words-zeros : (n : ℕ) → words_in (replicate (4 * n) 0) ≡ replicate n 0
words-zeros n =
    let bs : List ℕ = replicate (4 * n) 0 in
    let l = length-replicate {A = ℕ} (4 * n) 0 in
    let m = words-length bs in
    let k = length-replicate {A = ℕ} n 0 in
    ext_get_or 0 (words_in bs) (replicate n 0) (omega arith) (λ i h. words-at bs i (omega arith) ∙ word-zeros (4 * n) i ∙ sym (zeros n i))
