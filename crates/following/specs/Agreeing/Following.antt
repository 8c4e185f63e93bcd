-- Their words compared with ours word by word: laws of `UpTo`. Assumes nothing.
use Rattle.std.specs.Prelude.{ℕ, zero, suc, ◌+◌, ◌≤◌, ◌<◌, Bool, true, false, Ok, Err, List, [], ◌∷◌, ◌++◌, ◌⊎◌, ◌≡◌, refl, length, get_or, drop, leb}
use Rattle.std.proofs.Common.{append-nil, inl, inr, sym, ap, ap₂, ◌∙◌, arith, add-one, length-append, drop-cons, get_or-drop, leb-true}
use Rattle.std.proofs.Math.ListN.{get_or-eq_default}
use Rattle.std.proofs.Math.Seq.{drop-length}
use Rattle.words.specs.Choice.{pick}
use Rattle.words.specs.Choice.Laws.{pick-false}
use Rattle.words.specs.First.Laws.{clash}
use Rattle.words.specs.Run.{values}
use Rattle.words.specs.Overlay.{Wrote}
use Rattle.translation.specs.Low.{word_limit}
use Rattle.renaming.specs.Slot.{Slot, InOrder, handed}
use Rattle.renaming.specs.Renaming.{numbers, agrees, named, stands, Followed, follow}
use Rattle.renaming.specs.Renaming.Laws.{follow-on, follow-stops, stands-within, stands-agrees, numbers-length}
use Rattle.scanning.specs.declared.Class.{Class}
use Rattle.scanning.specs.declared.Mode.{Mode}
use Rattle.scanning.specs.declared.Mode.TheVariants.{Event}
use Rattle.scanning.specs.Scan.{next_mode, class_of, slot_of, run_by, run_of, scan, after}
use Rattle.naming.specs.declared.Range.{Range}
use Rattle.naming.specs.Mirror.{handed_by, told}
use Rattle.naming.specs.Mirror.Laws.{mode-on, told-on}
use Rattle.naming.specs.Called.{Wider}
use Rattle.naming.specs.Called.Laws.{ranged-run, called-run, filled_on}
use Rattle.following.specs.Agreeing.{AgreeReady, WordsReady, WordsFollowed, UpTo}

-- ---- what a slot hands out, by its class
named-run : (names : List ℕ) (c : Class) (w v y : ℕ) → named names (slot_of c w v) y ≡ names ++ numbers y (run_by c v)
unfolding named values
named-run names Class.Plain w v y = sym (append-nil names)
named-run names Class.Use w v y = sym (append-nil names)
named-run names Class.First w v y = refl
named-run names Class.Length w v y = sym (append-nil names)

handed-run : (c : Class) (w v : ℕ) (ss : List Slot) → handed (slot_of c w v ∷ ss) ≡ run_by c v + handed ss
unfolding handed
handed-run Class.Plain w v ss = omega arith
handed-run Class.Use w v ss = omega arith
handed-run Class.First w v ss = refl
handed-run Class.Length w v ss = omega arith

-- ---- in order, a word on
order-known : {old : ℕ → Type 0} {begin n : ℕ} (c : Class) (w v : ℕ) {ss : List Slot} → InOrder old begin n (slot_of c w v ∷ ss)
    → c ≡ Class.Use → ((begin ≤ w) × (w < n)) ⊎ old w
order-known Class.Plain w v o e = cc
order-known Class.Use w v (InOrder.kept k o) e = inr k
order-known Class.Use w v (InOrder.since h l o) e = inl (h, l)
order-known Class.First w v o e = cc
order-known Class.Length w v o e = cc

order-at : {old : ℕ → Type 0} {begin n m : ℕ} {ss : List Slot} → n ≡ m → InOrder old begin n ss → InOrder old begin m ss
order-at e o = rw (← e) o

order-on : {old : ℕ → Type 0} {begin n : ℕ} (c : Class) (w v : ℕ) {ss : List Slot} → InOrder old begin n (slot_of c w v ∷ ss)
    → InOrder old begin (n + run_by c v) ss
order-on Class.Plain w v (InOrder.plain o) = order-at (omega arith) o
order-on Class.Use w v (InOrder.kept k o) = order-at (omega arith) o
order-on Class.Use w v (InOrder.since h l o) = order-at (omega arith) o
order-on Class.First w v (InOrder.runs o) = o
order-on Class.Length w v (InOrder.plain o) = order-at (omega arith) o

-- ---- a run that stands there fits 32 bits
run_fits : (names : List ℕ) (c : Class) (w v y : ℕ) → agrees names (slot_of c w v) y ≡ true → y < word_limit → y + run_by c v ≤ word_limit
unfolding agrees
run_fits names Class.Plain w v y h l = omega arith
run_fits names Class.Use w v y h l = omega arith
run_fits names Class.First w zero y h l = omega arith
run_fits names Class.First w (suc v) y h l = go (leb (y + suc v) word_limit) refl
  where
    go : (b : Bool) → leb (y + suc v) word_limit ≡ b → y + suc v ≤ word_limit
    go true e = leb-true _ _ e
    go false e = absurd (clash h (pick-false _ _ _ e))
run_fits names Class.Length w v y h l = omega arith

-- ---- a slot more, or none
follow-more : (ws : List ℕ) (s : Slot) (ss : List Slot) (a : ℕ) (names : List ℕ) → stands ws a names s ≡ true
    → follow ws (s ∷ ss) a names ≡ follow ws ss (a + 1) (named names s (get_or ws a 0))
follow-more ws s ss a names h = rw add-one (follow-on ws s ss a names h)

follow-none : (ws : List ℕ) (a : ℕ) (names : List ℕ) → follow ws [] a names ≡ record { at = a; names = names; whole = true }
unfolding follow
follow-none ws a names = refl

-- ---- our words, a word on
scan-on : (m : Mode) (ours : List ℕ) (k : ℕ) → k < length ours
    → scan m (drop k ours) ≡ slot_of (class_of m) (get_or ours k 0) (get_or ours (k + 1) 0) ∷ scan (next_mode m (get_or ours k 0)) (drop (k + 1) ours)
unfolding scan
scan-on m ours k h =
    rw (add-one, drop-cons ours k 0 h)
    (ap (λ v. slot_of (class_of m) (get_or ours k 0) v ∷ scan (next_mode m (get_or ours k 0)) (drop (suc k) ours)) ahead)
  where
    ahead : get_or (drop (suc k) ours) 0 0 ≡ get_or ours (suc k) 0
    ahead = get_or-drop (suc k) ours 0 0 ∙ ap (λ j. get_or ours j 0) (omega arith)

after_on : (m : Mode) (ours : List ℕ) (k : ℕ) → k < length ours → after m (drop k ours) ≡ after (next_mode m (get_or ours k 0)) (drop (k + 1) ours)
unfolding after
after_on m ours k h = rw (add-one, drop-cons ours k 0 h)

scan-none : (m : Mode) → scan m [] ≡ []
unfolding scan
scan-none m = refl

no-slots : handed [] ≡ 0
unfolding handed
no-slots = refl

after_none : (m : Mode) → after m [] ≡ m
unfolding after
after_none m = refl

-- ---- at an event, the names are those that their words hand out
pub told-event : (ws : List ℕ) (a w : ℕ) → told ws a Event w ≡ handed_by ws a
unfolding pick
told-event ws a w = append-nil (handed_by ws a)

-- ---- before the first word
pub up_start : {ws ours : List ℕ} {a begin : ℕ} {table log : List ℕ} {n : ℕ} {called : List ℕ} {range : Range}
    → WordsReady ws ours a begin table log n called range → UpTo ws ours a 0 a Event begin 0 table log n called range
up_start {ws} {ours} {a} {begin} g =
    let e = told-event ws a (get_or ours 0 0) in
    let b = g.begins in
    record {
      within = omega arith;
      mode = sym g.mode;
      rest = ap (follow ws (scan Event ours) a) (sym e);
      calls = rw e g.calls;
      ranged = rw e g.ranged;
      count = rw e (omega arith);
      order = rw e (order-at b g.order);
      sum = omega arith;
      room = g.room;
      ends = refl;
    }

module _ {ws ours : List ℕ} {a k at : ℕ} {m : Mode} {begin filled : ℕ} {table log : List ℕ} {n : ℕ} {called : List ℕ} {range : Range}
    (u : UpTo ws ours a k at m begin filled table log n called range) where
  abbrev w : ℕ
  w = get_or ours k 0

  abbrev names : List ℕ
  names = told ws at m w

  -- ---- a word can be compared
  pub up-ready : {t : ℕ} → t ≡ length ws → k < length ours → AgreeReady ws t at m w begin table log n called range
  up-ready e h =
      record {
        total = e;
        mode = u.mode;
        calls = u.calls;
        ranged = u.ranged;
        known = λ z. order-known (class_of m) w (get_or ours (k + 1) 0) (rw (scan-on m ours k h) at u.order) z;
      }

  module _ (h : k < length ours) {v : ℕ} (ahead : v ≡ get_or ours (k + 1) 0) where
    abbrev slot : Slot
    slot = slot_of (class_of m) w (get_or ours (k + 1) 0)

    rest-there : follow ws (scan Event ours) a (handed_by ws a) ≡ follow ws (slot ∷ scan (next_mode m w) (drop (k + 1) ours)) at names
    rest-there = u.rest ∙ ap (λ (ss : List Slot). follow ws ss at names) (scan-on m ours k h)

    -- ---- it doesn't agree
    pub up-off : {t : Bool} → t ≡ stands ws at names (slot_of (class_of m) w v) → t ≡ false
        → WordsFollowed ws ours a begin table log n called (Err at)
    up-off s f =
        let z = rest-there ∙ follow-stops ws slot _ at names (ap (λ x. stands ws at names (slot_of (class_of m) w x)) (sym ahead) ∙ sym s ∙ f) in
        record {
          at = ap (λ (x : Followed). x.at) z;
          whole = ap (λ (x : Followed). x.whole) z;
          all = tt;
          size = u.calls.size;
        }

    -- ---- it agrees
    module _ {t : Bool} (s : t ≡ stands ws at names (slot_of (class_of m) w v)) (f : t ≡ true) where
      agreed : stands ws at names slot ≡ true
      agreed = ap (λ x. stands ws at names (slot_of (class_of m) w x)) (sym ahead) ∙ sym s ∙ f

      word-agrees : agrees names slot (get_or ws at 0) ≡ true
      word-agrees = stands-agrees ws at names slot agreed

      pub up-there : at < length ws
      up-there = stands-within ws at names slot agreed

      pub up_fits : {y c : ℕ} → y ≡ get_or ws at 0 → y < word_limit → c ≡ run_of m v → y + c ≤ word_limit
      up_fits {y} {c} e l q =
          let z = run_fits names (class_of m) w (get_or ours (k + 1) 0) (get_or ws at 0) word-agrees (omega arith) in
          let p : c ≡ run_by (class_of m) (get_or ours (k + 1) 0) = q ∙ ap (run_by (class_of m)) ahead in
          omega arith

      -- ---- a word on
      module _ {y c : ℕ} (e : y ≡ get_or ws at 0) (q : c ≡ run_of m v) {m' : Mode} (t' : m' ≡ next_mode m w) where
        run_is : run_by (class_of m) (get_or ours (k + 1) 0) ≡ c
        run_is = sym (q ∙ ap (run_by (class_of m)) ahead)

        told-there : told ws (at + 1) m' (get_or ours (k + 1) 0) ≡ named names slot (get_or ws at 0)
        told-there =
            ap (λ (x : Mode). told ws (at + 1) x (get_or ours (k + 1) 0)) t' ∙ told-on ws at m w (get_or ours (k + 1) 0) u.mode word-agrees

        names-on : told ws (at + 1) m' (get_or ours (k + 1) 0) ≡ names ++ numbers y c
        names-on =
            told-there ∙ named-run names (class_of m) w (get_or ours (k + 1) 0) (get_or ws at 0) ∙ ap₂ (λ z j. names ++ numbers z j) (sym e) run_is

        more-names : length names + run_by (class_of m) (get_or ours (k + 1) 0) ≡ length (names ++ numbers y c)
        more-names =
            let l = length-append names (numbers y c) in let z = numbers-length y c in let i = run_is in omega arith

        sum-on : (filled + c) + handed (scan m' (drop (k + 1) ours)) ≡ handed (scan Event ours)
        sum-on =
            let r = rw (scan-on m ours k h) at u.sum in
            let d = handed-run (class_of m) w (get_or ours (k + 1) 0) (scan (next_mode m w) (drop (k + 1) ours)) in
            let i = run_is in
            rw t' (omega arith)

        pub up-on : {table' : List ℕ} {r : ℕ} {range' : Range} → Wrote (numbers y c) table filled table' r
            → Wider range.low range.high y c range'.low range'.high → UpTo ws ours a (k + 1) (at + 1) m' begin r table' log n called range'
        up-on {table'} {r} f' wide =
            let size = u.calls.size in
            let sum = sum-on in
            let room = u.room in
            let more = filled_on u.calls filled y c u.count (omega arith) f' in
            record {
              within = omega arith;
              mode = t' ∙ mode-on ws at m w (get_or ours (k + 1) 0) u.mode word-agrees;
              rest = rest-there ∙ follow-more ws slot _ at names agreed
                  ∙ ap₂ (λ (x : Mode) (l : List ℕ). follow ws (scan x (drop (k + 1) ours)) (at + 1) l) (sym t') (sym told-there);
              calls = rw names-on (called-run u.calls filled y c u.count (omega arith) f');
              ranged = rw names-on (ranged-run u.ranged wide);
              count = rw names-on more;
              order = rw (names-on, t') (order-at more-names
                  (order-on (class_of m) w (get_or ours (k + 1) 0) (rw (scan-on m ours k h) at u.order)));
              sum = let z = more-names in let i = run_is in let d = u.count in omega arith;
              room = u.room;
              ends = ap (λ (x : Mode). after x (drop (k + 1) ours)) t' ∙ sym (after_on m ours k h) ∙ u.ends;
            }

  -- ---- they all agree
  pub up-end : length ours ≤ k → WordsFollowed ws ours a begin table log n called (Ok (record { at = at; range = range }))
  up-end h =
      let most = u.within in
      let last : k ≡ length ours = omega arith in
      let none = ap (λ j. drop j ours) last ∙ drop-length ours in
      let zero : get_or ours k 0 ≡ 0 = get_or-eq_default ours 0 h in
      let ends : m ≡ after Event ours = sym (ap (after m) none ∙ after_none m) ∙ u.ends in
      let place : told ws at m w ≡ told ws at (after Event ours) 0 = ap₂ (λ (x : Mode) z. told ws at x z) ends zero in
      let handed-none = rw (none, scan-none m) at u.sum in
      let all : length names ≡ begin + handed (scan Event ours) = let d = u.count in let e = no-slots in omega arith in
      let z = u.rest ∙ ap (λ (x : List ℕ). follow ws (scan m x) at names) none ∙ ap (λ (x : List Slot). follow ws x at names) (scan-none m)
      ∙ follow-none ws at names in
      record {
        at = ap (λ (x : Followed). x.at) z;
        whole = ap (λ (x : Followed). x.whole) z;
        all = record {
          mode = sym u.mode ∙ ends;
          names = ap (λ (x : Followed). x.names) z ∙ place;
          count = rw place at all;
          calls = rw place at u.calls;
          ranged = rw place at u.ranged;
        };
        size = u.calls.size;
      }
