-- Receiving the rows of a list one after another: `Going` says how far it got, and its laws are the loops'. Assumes nothing.
use Prim.Native.Nat.{ℕ, ◌+◌, ◌-◌, ◌≤◌, ◌<◌}
use native.Mathlib.Omega.{arith}
use mathlib.Core.List.{List, append-nil}
use mathlib.Core.Path.{◌≡◌, refl, sym, ap, ap₂, ◌∙◌}
use lib.ListN.{length, length-append}
use Rattle.words.specs.Overlay.Laws.{wrote-length}
use Rattle.terms.specs.Term.{Terms, count, listed}
use Rattle.terms.specs.Term.Laws.{count-listed}
use Rattle.terms.specs.Table.{terms}
use Rattle.book.specs.Layout.{table, rows, list_at}
use Rattle.book.specs.Span.{entry}
use Rattle.book.specs.Span.Laws.{list-none, span_tail}
use Rattle.book.specs.Valid.{Valid}
use Rattle.translation.specs.Receive.{Did, nothing, followed, receive_all}
use Rattle.holding.specs.Entry.{limit}
use Rattle.holding.specs.Partners.{Partners}
use Rattle.holding.specs.View.{view}
use Rattle.holding.specs.Doing.Laws.{doing-as, doing-none, doing-then}
use Rattle.receiving.specs.declared.Dictionary.{Dictionary}
use Rattle.receiving.specs.declared.Received.{Received}
use Rattle.receiving.specs.Turn.{in_turn}
use Rattle.receiving.specs.Turn.Laws.{terms-count, all_none, all_more}
use Rattle.receiving.specs.Receiving.{standing, row_did, rest_did, list_did, Timely, Fits, RowReady, RestReady, ListReady, Led, Brought, Going}

-- ---- a row that is handed on with a fresh dictionary d; and what is left behind, at the step that it was
pub fresh-ready : {b ps : List ℕ} {r p i n k a : ℕ} {e : List ℕ} {d : Dictionary} → d ≡ (standing i e n k 0).dictionary
    → RowReady b ps r p (standing i e n k a) → RowReady b ps r p (record { dictionary = d; at = a })
fresh-ready f ready = rw f ready

pub fresh-brought : (r p : ℕ) {b : List ℕ} {i n k a : ℕ} {e l m o s : List ℕ} {d : Dictionary} {y : Received} → d ≡ (standing i e n k 0).dictionary
    → Brought b (row_did b r p (record { dictionary = d; at = a })) (record { dictionary = d; at = a }) l m o s y
    → Brought b (row_did b r p (standing i e n k a)) (standing i e n k a) l m o s
    (standing i y.dictionary.entries y.dictionary.next y.dictionary.kept y.at)
fresh-brought r p f brought = let w = rw f at brought in record { led = w.led; size = w.size; same = refl }

-- ---- at the start
-- the list's placeholders are handed out
pub going_start : {b ps : List ℕ} {bound f c q s : ℕ} {e : List ℕ} {n k a j : ℕ} {l o : List ℕ}
    → ListReady b ps bound f c (standing s e n k a) → q ≡ c → j ≡ n + q
    → Going b bound (list_did b f c (standing s e n k a)) (standing s e n k a) l o f c n (standing s e j k a) l o
unfolding in_turn
going_start {b} {ps} {bound} {f} {c} {q} {s} {e} {n} {k} {a} {j} ready d g =
    let ts = terms (table b) (list_at b f c) in
    let δ = view b e in
    let many : count ts ≡ c = terms-count b f c in
    let next : j ≡ n + count ts = omega arith in
    let so : receive_all s ts n δ j ≡ receive_all s ts n δ (n + count ts) = ap (receive_all s ts n δ) next in
    let z = ap (λ (d : Did). length d.given) so in
    let u = length-append (listed ts) (receive_all s ts n δ (n + count ts)).given in
    let w = count-listed ts in
    let h = ready.fits in
    record {
      span = ready.span;
      low = omega arith;
      size = ready.size;
      same = refl;
      fits = omega arith;
      rest = λ m t y v. (let v' = doing-as v (sym so) in
          record { holds = v'.holds; goes = (let a = v'.goes in omega arith); wrote = v'.wrote; keeps = v'.keeps });
      logs = refl;
      outs = refl;
    }

-- as a loop counts
pub going_begin : {b ps : List ℕ} {bound f c q s : ℕ} {e : List ℕ} {n k a j : ℕ} {l o : List ℕ}
    → ListReady b ps bound f c (standing s e n k a) → q ≡ c → j ≡ n + q
    → Going b bound (list_did b f c (standing s e n k a)) (standing s e n k a) l o (f + 0) (c - 0) (n + 0) (standing s e j k a) l o
going_begin {f = f} {c = c} {n = n} ready d g =
    let first : f + 0 ≡ f = omega arith in
    let left : c - 0 ≡ c = omega arith in
    let place : n + 0 ≡ n = omega arith in
    rw (first, left, place) (going_start ready d g)

-- ---- one row more: the row r at i is received, and then the rest
module _ (b : List ℕ) (i k p r : ℕ) (x : Received) (h : 0 < k) (d : r ≡ entry b i) where
  splits : rest_did b i k p x ≡ followed (row_did b r p x)
      (receive_all x.dictionary.step (terms (table b) (list_at b (i + 1) (k - 1))) (p + 1) (row_did b r p x).dictionary
      (x.dictionary.next + length (row_did b r p x).given))
  splits = rw d (all_more x.dictionary.step b i k p (view b x.dictionary.entries) x.dictionary.next h)

  head-fits : Fits x (rest_did b i k p x) → Fits x (row_did b r p x)
  head-fits y =
      let g = ap (λ (d : Did). length d.given) splits in
      omega (arith, simp length-append at g)

  module _ {l m o s : List ℕ} {y : Received} (w : Led b (row_did b r p x) x l m o s y) (same : y.dictionary.step ≡ x.dictionary.step) where
    abbrev rest : Terms
    rest = terms (table b) (list_at b (i + 1) (k - 1))

    after : rest_did b i k p x ≡ followed (row_did b r p x) (rest_did b (i + 1) (k - 1) (p + 1) y)
    after =
        splits
        ∙ ap (followed (row_did b r p x)) (ap₂ (receive_all x.dictionary.step rest (p + 1)) (sym w.holds) (sym w.goes)
        ∙ ap (λ i. receive_all i rest (p + 1) (view b y.dictionary.entries) y.dictionary.next) (sym same))

    tail-fits : Fits x (rest_did b i k p x) → Fits y (rest_did b (i + 1) (k - 1) (p + 1) y)
    tail-fits z =
        let g = ap (λ (d : Did). length d.given) after in
        let c = length-append (row_did b r p x).given (rest_did b (i + 1) (k - 1) (p + 1) y).given in
        let n = w.goes in
        omega arith

    tail-led : (z : Received) {m' s' : List ℕ} → Led b (rest_did b (i + 1) (k - 1) (p + 1) y) y m m' s s' z
        → Led b (rest_did b i k p x) x l m' o s' z
    tail-led z u = doing-as (doing-then b _ _ w u) after

module _ {b : List ℕ} {bound : ℕ} {d : Did} {whole : Received} {log₀ out₀ : List ℕ} {i k p : ℕ} {x : Received} {l o : List ℕ}
    (g : Going b bound d whole log₀ out₀ i k p x l o) where
  pub going-fits : (r : ℕ) → 0 < k → r ≡ entry b i → Fits x (row_did b r p x)
  going-fits r h e = head-fits b i k p r x h e g.fits

  pub going_on : {r : ℕ} {y : Received} {m s : List ℕ} → 0 < k → r ≡ entry b i → Brought b (row_did b r p x) x l m o s y
      → Going b bound d whole log₀ out₀ (i + 1) (k - 1) (p + 1) y m s
  going_on {r} h e brought =
      let w = brought.led in
      record {
        span = span_tail b bound i k g.span h;
        low = let u = w.goes in let v = g.low in omega arith;
        size = brought.size;
        same = brought.same ∙ g.same;
        fits = tail-fits b i k p r x h e w brought.same g.fits;
        rest = λ m' s' z u. g.rest m' s' z (tail-led b i k p r x h e w brought.same z u);
        logs = wrote-length w.keeps ∙ g.logs;
        outs = wrote-length w.wrote ∙ g.outs;
      }

  -- ---- the rest is received at once
  pub going-ready : {ps : List ℕ} → Timely whole → Valid b → Partners b ps → bound ≤ rows b → RestReady b ps bound i k p x
  going-ready t v ps h =
      record { valid = v; partners = ps; bounded = h; span = g.span; low = g.low; timely = rw g.same t; size = g.size; fits = g.fits }

  -- ---- at the end nothing is left
  pub going_end : k ≤ 0 → Brought b d whole log₀ l out₀ o x
  going_end z =
      record {
        led = g.rest l o x (doing-as doing-none (all_none x.dictionary.step b i k p (view b x.dictionary.entries) x.dictionary.next z));
        size = g.size;
        same = g.same;
      }

  -- ---- and as a part of another doing
  pub going-within : {e : Did} {from : Received} {log out : List ℕ} → whole.dictionary.step ≡ from.dictionary.step
      → length log₀ ≡ length log → length out₀ ≡ length out
      → ((m s : List ℕ) (y : Received) → Led b d whole log₀ m out₀ s y → Led b e from log m out s y)
      → Going b bound e from log out i k p x l o
  going-within t a c f =
      record {
        span = g.span;
        low = g.low;
        size = g.size;
        same = g.same ∙ t;
        fits = g.fits;
        rest = λ m s y w. f m s y (g.rest m s y w);
        logs = g.logs ∙ a;
        outs = g.outs ∙ c;
      }

-- ---- as loops count: j of the n rows from f on are received, and the next gets the placeholder q + m, where m was read as j
module _ {b : List ℕ} {bound : ℕ} {d : Did} {whole : Received} {log₀ out₀ : List ℕ} (f n q j : ℕ) {x : Received} {l o : List ℕ}
    (g : Going b bound d whole log₀ out₀ (f + j) (n - j) (q + j) x l o) (h : j < n) {r m : ℕ} (e : r ≡ entry b (f + j)) (t : m ≡ j) where
  pub next-fits : Fits x (row_did b r (q + m) x)
  next-fits = rw t (going-fits g r (omega arith) e)

  pub going_next : {y : Received} {l' o' : List ℕ} → Brought b (row_did b r (q + m) x) x l l' o o' y
      → Going b bound d whole log₀ out₀ (f + (j + 1)) (n - (j + 1)) (q + (j + 1)) y l' o'
  going_next {y} {l'} {o'} w =
      let brought : Brought b (row_did b r (q + j) x) x l l' o o' y = rw (← t) w in
      let here : f + (j + 1) ≡ f + j + 1 = omega arith in
      let left : n - (j + 1) ≡ n - j - 1 = omega arith in
      let place : q + (j + 1) ≡ q + j + 1 = omega arith in
      rw (here, left, place) (going_on g (omega arith) e brought)

-- ---- a doing that is done, with nothing left
followed-nothing : (d : Did) → followed d (nothing d.dictionary) ≡ d
followed-nothing d = rw (append-nil d.given, append-nil d.events, append-nil d.stored)

pub going-none : {b : List ℕ} {bound p : ℕ} {d : Did} {x y : Received} {l m o s : List ℕ} → Brought b d x l m o s y
    → x.dictionary.next + length d.given ≤ limit → p ≤ y.dictionary.next → Going b bound d x l o 0 0 p y m s
going-none {b} {bound} {p} {d} {x} {y} {l} {m} {o} {s} w h q =
    let u = w.led in
    let none = all_none y.dictionary.step b 0 0 p (view b y.dictionary.entries) y.dictionary.next (omega arith) in
    let g = u.goes in
    record {
      span = record { inside = omega arith; below = rw (list-none b 0 0 (omega arith)) tt; few = omega arith };
      low = omega arith;
      size = w.size;
      same = w.same;
      fits = (let z = ap (λ (e : Did). length e.given) none in omega arith);
      rest = λ m' s' z v.
          doing-as (doing-then b d (nothing (view b y.dictionary.entries)) u (doing-as v (sym none)))
          (sym (followed-nothing d) ∙ ap (λ δ. followed d (nothing δ)) (sym u.holds));
      logs = wrote-length u.keeps;
      outs = wrote-length u.wrote;
    }
