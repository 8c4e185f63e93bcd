-- The walk, step by step: `Walked` says how far it got, and its laws are the loop's. Assumes nothing.
use Prim.Native.Nat.{ℕ, ◌+◌, ◌≤◌, ◌<◌}
use native.Mathlib.Omega.{arith}
use mathlib.Core.List.{List}
use mathlib.Core.Path.{◌≡◌, refl, sym, ap, ◌∙◌}
use lib.ListN.{length, length-append}
use Rattle.words.specs.Choice.{pick}
use Rattle.book.specs.Layout.{steps, sender, receiver}
use Rattle.book.specs.Headed.Laws.{few-steps}
use Rattle.std.specs.Prelude.{Option, None, Some}
use Rattle.book.specs.declared.Stop.{Stop}
use Rattle.translation.specs.Receive.{Did}
use Rattle.translation.specs.Places.{places_of}
use Rattle.translation.specs.Steps.{before}
use Rattle.translation.proofs.Steps.Laws.{before-none}
use Rattle.translation.specs.Long.{most_events}
use Rattle.translation.proofs.Long.Laws.{before-within, all-within}
use Rattle.holding.specs.View.{row_of}
use Rattle.holding.specs.Doing.Laws.{doing-none, doing-as}
use Rattle.receiving.specs.declared.Received.{Received}
use Rattle.receiving.specs.Receiving.{standing}
use Rattle.walking.specs.Walk.{refused_for, Unrefused, IdleUntil}
use Rattle.walking.specs.Walk.Laws.{before-skip}
use Rattle.walking.specs.Stops.{stop_of, StopsBefore}
use Rattle.walking.specs.Stops.Laws.{stops-exact, stops-here, unrefused-on, unrefused-skip}
use Rattle.walking.specs.Placed.Laws.{send-place, receive-place, few-events}
use Rattle.walking.specs.Noted.{NotedStep, StepsNoted}
use Rattle.walking.specs.Noted.Laws.{noted-start, noted-on, noted-skip}
use Rattle.walking.specs.Walking.{act_did, ActReady, Acting, WalkReady, Started, Along, Walking}
use Rattle.walking.specs.Walking.Laws.{along-fits, along-more, along-on}
use Rattle.walking.proofs.Lengths.{ends_at, ends-kept}

-- party p came through the first i steps, with the place a at the start; it had e events and noted their places, and none of the steps is
-- refused for it
pub record Walked (b : List ℕ) (p i : ℕ) (log₀ log : List ℕ) (a : ℕ) (out₀ out : List ℕ) (x : Received) (e : ℕ)
    (sends₀ sends receives₀ receives : List ℕ) : Type 0 where
  pub within : i ≤ steps b
  pub along : Along b p i log₀ log a out₀ out x.dictionary.entries x.dictionary.next x.dictionary.kept x.at
  pub now : x.dictionary.step ≡ i
  pub size : length x.dictionary.entries ≡ 1024
  pub events : e ≡ length (before b p i).events
  pub noted : StepsNoted b p i sends₀ sends receives₀ receives
  pub unrefused : Unrefused b p i

-- a step in which the party has no part adds nothing
pub walked_idle : {b : List ℕ} {p i a e n k z : ℕ} {log₀ log out₀ out held sends₀ sends receives₀ receives : List ℕ}
    → IdleUntil b p i (i + 1) → Walked b p i log₀ log a out₀ out (standing i held n k z) e sends₀ sends receives₀ receives
    → Walked b p (i + 1) log₀ log a out₀ out (standing (i + 1) held n k z) e sends₀ sends receives₀ receives
walked_idle {b} {p} w g =
    let same = before-skip b p w in
    record {
      within = w.within;
      along = doing-as g.along same;
      now = refl;
      size = g.size;
      events = g.events ∙ ap (λ (k : Did). length k.events) (sym same);
      noted = noted-skip g.noted w;
      unrefused = unrefused-skip w g.unrefused;
    }

-- ---- at the start the party holds what it knows, and has had no event
pub walked_start : {b : List ℕ} {p a k : ℕ} {log out e sends receives : List ℕ} → Started b p e → k ≡ 0
    → Walked b p 0 log log a out out (standing 0 e 0 0 a) k sends sends receives receives
walked_start {b} {p} {e = e} started none =
    record {
      within = omega arith;
      along = doing-as (rw (← started.holds) (doing-none {b = b} {x = e})) (before-none b p);
      now = refl;
      size = started.size;
      events = none ∙ sym (ap (λ (k : Did). length k.events) (before-none b p));
      noted = noted-start;
      unrefused = λ k l. absurd (omega arith);
    }

module _ {b l ps : List ℕ} {p upto i a e : ℕ} {log₀ log out₀ out sends₀ sends receives₀ receives : List ℕ} {x : Received}
    (ready : WalkReady b l ps p upto a) (h : i < upto) (g : Walked b p i log₀ log a out₀ out x e sends₀ sends receives₀ receives) where
  pub in-book : i < steps b
  in-book = let u = ready.within in omega arith

  -- ---- there is room for one step more
  pub walked-ready : ActReady b ps p i x
  walked-ready =
      let at = ends_at ready.valid p g.within ready.low g.along in
      let kept = ends-kept ready.valid p g.within g.along in
      let words = (before-within b ready.valid (row_of b) p i g.within).words in
      let steps = few-steps b ready.valid in
      let there = in-book in
      let stored = (all-within b ready.valid (row_of b) p i g.within).stored in
      let low = ready.low in
      record {
        valid = ready.valid;
        partners = ready.partners;
        step = in-book;
        now = g.now;
        size = g.size;
        fits = along-fits b p i g.along ready.valid in-book;
        low = omega arith;
        room = omega arith;
      }

  module _ {log_after out_after : List ℕ} {y : Received} {ahead more : ℕ} {t : Option Stop} (w : Acting b l p i x log log_after out out_after y ahead more t) where
    further : Along b p (i + 1) log₀ log_after a out₀ out_after y.dictionary.entries y.dictionary.next y.dictionary.kept y.at
    further = along-on b p i g.along w.doing

    -- ---- the events so far
    counted : e + more ≡ length (before b p (i + 1)).events
    counted =
        let so_far = g.events in
        let here = w.events in
        let all = ap (λ (d : Did). length d.events) (along-more b p i g.along) in
        let sum = length-append (before b p i).events (act_did b p i x).events in
        omega arith

    pub walked-few : (e + more ≤ most_events) × (ahead ≤ more)
    walked-few = let c = counted in let j = in-book in let m = few-events b ready.valid p (i + 1) (omega arith) in (omega arith, w.ahead)

    -- the SEND is the last event of its step, and the RECEIVE the first
    send-there : sender b i ≡ p → e + ahead ≡ (places_of b).sends i
    send-there q =
        let c = counted in
        let k = w.sends q in
        let s : length (before b p (i + 1)).events ≡ (places_of b).sends i + 1 =
        ap (λ o. length (before b o (i + 1)).events) (sym q) ∙ send-place b ready.valid i in-book in
        omega arith

    receive-there : receiver b i ≡ p → e + ahead ≡ (places_of b).receives i
    receive-there q =
        let so_far = g.events in
        let k = w.receives q in
        let s : (places_of b).receives i ≡ length (before b p i).events =
        receive-place b ready.valid i in-book ∙ ap (λ o. length (before b o i).events) q in
        omega arith

    -- where the step stops is where refusals 10 and 13 say
    exact : t ≡ pick (refused_for b p i) (Some (stop_of b i)) None
    exact = w.stops ∙ stops-exact b i in-book l p _ ready.claims ready.party g.along.holds

    module _ {sends_after receives_after : List ℕ} (n : NotedStep b p i (e + ahead) sends sends_after receives receives_after) where
      noted : StepsNoted b p (i + 1) sends₀ sends_after receives₀ receives_after
      noted = noted-on g.noted n send-there receive-there

      -- ---- a step at which it stops is the last
      pub walked-stops : (t ≡ None → ⊥)
          → Walking b p upto y.dictionary.entries log₀ log_after a out₀ out_after sends₀ sends_after receives₀ receives_after
          (record { kept = y.dictionary.kept; at = y.at; events = e + more; stop = t })
      walked-stops z =
          let j = in-book in
          record {
            far = i + 1;
            within = omega arith;
            next = y.dictionary.next;
            along = further;
            size = w.size;
            events = counted;
            noted = noted;
            stops = stops-here b p i t exact h g.unrefused z;
            whole = λ q m. absurd (z q);
          }

      -- ---- else the walk goes on
      pub walked_on : t ≡ None
          → Walked b p (i + 1) log₀ log_after a out₀ out_after
          (standing (i + 1) y.dictionary.entries y.dictionary.next y.dictionary.kept y.at)
          (e + more) sends₀ sends_after receives₀ receives_after
      walked_on z =
          let j = in-book in
          record {
            within = omega arith;
            along = further;
            now = refl;
            size = w.size;
            events = counted;
            noted = noted;
            unrefused = unrefused-on b p i t exact g.unrefused z;
          }

-- ---- it stopped nowhere
pub walked-ends : {b : List ℕ} {p upto i a e : ℕ} {log₀ log out₀ out sends₀ sends receives₀ receives : List ℕ} {x : Received}
    → Walked b p i log₀ log a out₀ out x e sends₀ sends receives₀ receives
    → upto ≤ i → Walking b p upto x.dictionary.entries log₀ log a out₀ out sends₀ sends receives₀ receives
    (record { kept = x.dictionary.kept; at = x.at; events = e; stop = None })
walked-ends {i = i} {x = x} g h =
    record {
      far = i;
      within = g.within;
      next = x.dictionary.next;
      along = g.along;
      size = g.size;
      events = g.events;
      noted = g.noted;
      stops = StopsBefore.none (λ k l. g.unrefused k (omega arith));
      whole = λ q z. let m = g.within in omega arith;
    }
