-- Laws of where a party's walk stops. Assumes nothing.
use Rattle.std.specs.Prelude.{ℕ, ◌+◌, ◌<◌, Bool, ◌||◌, List, Option, None, Some}
use Rattle.std.specs.Option.{is_some}
use Rattle.std.proofs.lemmas.Option.{none-some}
use Rattle.std.proofs.Math.Decide.{dec_lt}
use native.Mathlib.Omega.{arith}
use Rattle.std.proofs.Math.Bool.{true, false, not}
use Rattle.std.proofs.Common.{true≢false, ◌∙◌}
use Rattle.std.proofs.Math.Path.{◌≡◌, refl, sym, ap, ap₂}
use Rattle.std.proofs.Math.Dec.{eqb}
use borrow.Author.Tests.{eqb-true}
use borrow.Author.Count.{below_more}
use Rattle.words.specs.Choice.{pick}
use Rattle.words.specs.Choice.Laws.{pick_true, pick-false}
use Rattle.words.specs.First.Laws.{clash}
use Rattle.terms.specs.Table.{terms}
use Rattle.book.specs.Layout.{table, parties, steps, mark, sender, messages}
use Rattle.book.specs.Stop.{number_of}
use Rattle.book.specs.declared.Against.{Against}
use Rattle.book.specs.declared.Stop.{Stop}
use Rattle.translation.specs.Dictionary.{Dictionary}
use Rattle.translation.specs.Build.{build_all}
use Rattle.translation.specs.Narration.{narration}
use Rattle.translation.specs.Taken.{taken, made_at, sender_makes, unmakeable, stops_at, unplayable, stop_row, stop_number}
use Rattle.sending.specs.Sending.{against_in, first_in}
use Rattle.sending.specs.Sending.Laws.{some-stops, none-stops}
use Rattle.claims.specs.Claims.{Claims}
use Rattle.translation.proofs.Source.Laws.{made-here}
use Rattle.translation.specs.Taken.Laws.{sender-makes, nobodys-exact, makeable-exact}
use Rattle.translation.specs.Steps.{before}
use Rattle.walking.specs.Walk.{refused_for, Unrefused, IdleUntil}
use Rattle.walking.specs.Walk.Laws.{refused-idle}
use Rattle.walking.specs.Stops.{stops_in, against_of, stop_of, StopsBefore}

module _ (b : List ℕ) (s : ℕ) (h : s < steps b) where
  -- where code stops is where refusals 10 and 13 say
  module _ (w : ℕ → Option Against)
      (d : (r : ℕ) → w r ≡ pick (taken (narration b) s r) (Some Against.Taken) (pick (sender_makes (narration b) s) None (Some Against.Maker))) where
    free : (r : ℕ) → unmakeable (narration b) s r ≡ false → w r ≡ None
    free r e =
        let m = (makeable-exact (narration b) s r).0 e in
        d r ∙ pick-false _ _ _ ((nobodys-exact (narration b) s r).1 m.nobodys) ∙ pick_true _ _ _ m.maker

    bars : (r : ℕ) → unmakeable (narration b) s r ≡ true → w r ≡ Some (pick (taken (narration b) s r) Against.Taken Against.Maker)
    unfolding unmakeable pick
    bars r e = d r ∙ go (taken (narration b) s r) (sender_makes (narration b) s) e
      where
        go : (t m : Bool) → (t || not m) ≡ true
            → ◌≡◌ {A = Option Against} (pick t (Some Against.Taken) (pick m None (Some Against.Maker))) (Some (pick t Against.Taken Against.Maker))
        go true m h = refl
        go false true h = absurd (true≢false (sym h))
        go false false h = refl

    stops_first : first_in w s None (made_at (narration b) s) ≡ pick (unplayable (narration b) s) (Some (stop_of b s)) None
    unfolding unplayable stops_at stop_row pick
    stops_first = go (unplayable (narration b) s) refl
      where
        go : (x : Bool) → unplayable (narration b) s ≡ x → first_in w s None (made_at (narration b) s) ≡ pick x (Some (stop_of b s)) None
        go true e =
            some-stops w s (unmakeable (narration b) s) (λ r. pick (taken (narration b) s r) Against.Taken Against.Maker) free bars
            (made_at (narration b) s) e
        go false e =
            none-stops w s (unmakeable (narration b) s) (λ r. pick (taken (narration b) s r) Against.Taken Against.Maker) free bars
            (made_at (narration b) s) e

  pub stops-exact : (l : List ℕ) (p : ℕ) (δ : Dictionary) → Claims b l → p < parties b → δ ≡ (before b p s).dictionary
      → stops_in b l p s δ ≡ pick (refused_for b p s) (Some (stop_of b s)) None
  unfolding stops_in refused_for pick against_in
  stops-exact l p δ c j d = go (eqb (sender b s) p) refl
    where
      go : (x : Bool) → eqb (sender b s) p ≡ x
          → pick x (first_in (against_in l (mark b p) s) s None (build_all s (terms (table b) (messages b s)) δ).made) None
          ≡ pick (pick x (unplayable (narration b) s) false) (Some (stop_of b s)) None
      go true e =
          let same = eqb-true (sender b s) p e in
          let maker : eqb (mark b p) 1 ≡ sender_makes (narration b) s =
          ap (λ q. eqb (mark b q) 1) (sym same) ∙ sym (sender-makes b s h (omega arith)) in
          ap (first_in (against_in l (mark b p) s) s None)
          (ap (λ ε. (build_all s (terms (table b) (messages b s)) ε).made) d ∙ sym (made-here b s h p j same))
          ∙ stops_first (against_in l (mark b p) s)
          (λ q. ap₂ (λ t m. pick t (Some Against.Taken) (pick m None (Some Against.Maker))) (c s q) maker)
      go false e = refl

-- a stop's number is the refusal's
pub stop-number : (b : List ℕ) (s : ℕ) → number_of (against_of b s) ≡ stop_number (narration b) s
unfolding stop_number pick
stop-number b s = go (taken (narration b) s (stop_row (narration b) s))
  where
    go : (t : Bool) → number_of (pick t Against.Taken Against.Maker) ≡ pick t 10 13
    go true = refl
    go false = refl

-- ---- whether it stops, as code asks
pub some-stop : {x : Option Stop} {u : Bool} → u ≡ is_some x → u ≡ true → x ≡ None → ⊥
some-stop d e z = true≢false (sym e ∙ d ∙ ap is_some z)

pub no-stop : (x : Option Stop) {u : Bool} → u ≡ is_some x → u ≡ false → x ≡ None
no-stop None d e = refl
no-stop (Some t) d e = absurd (true≢false (sym d ∙ e))

-- ---- one step more
module _ (b : List ℕ) (p i : ℕ) (x : Option Stop) (e : x ≡ pick (refused_for b p i) (Some (stop_of b i)) None) where
  -- the walk stops at this step
  pub stops-here : {n : ℕ} → i < n → Unrefused b p i → (x ≡ None → ⊥) → StopsBefore b p n x
  unfolding pick
  stops-here {n} l u z = go (refused_for b p i) refl e
    where
      go : (y : Bool) → refused_for b p i ≡ y → x ≡ pick y (Some (stop_of b i)) None → StopsBefore b p n x
      go true r d = rw d (StopsBefore.one {s = i} l r u)
      go false r d = absurd (z d)

  -- or this step is not refused
  pub unrefused-on : Unrefused b p i → x ≡ None → Unrefused b p (i + 1)
  unfolding pick
  unrefused-on u z = below_more (λ k. refused_for b p k ≡ false) i u (go (refused_for b p i) refl e)
    where
      go : (y : Bool) → refused_for b p i ≡ y → x ≡ pick y (Some (stop_of b i)) None → refused_for b p i ≡ false
      go true r d = absurd (none-some (stop_of b i) (sym z ∙ d))
      go false r d = r

-- ---- steps in which the party has no part
pub unrefused-skip : {b : List ℕ} {p i r : ℕ} → IdleUntil b p i r → Unrefused b p i → Unrefused b p r
unrefused-skip {b} {p} {i} w u k l = elim (dec_lt k i) [ yes h ↦ u k h | no h ↦ refused-idle b p k (w.idle k (omega arith) l).0 ]

-- ---- where nothing is refused, the walk stops nowhere
pub stops-unrefused : {b : List ℕ} {p i : ℕ} {x : Option Stop} → Unrefused b p i → StopsBefore b p i x → x ≡ None
stops-unrefused u (StopsBefore.none n) = refl
stops-unrefused u (StopsBefore.one {s = s} l r n) = absurd (clash r (u s l))
