-- A party's events written step by step as bytes: `Flushed` says how far it got, and its laws are the loop's. Assumes nothing.
use Prim.Native.Nat.{ℕ, ◌+◌, ◌≤◌, ◌<◌}
use native.Mathlib.Omega.{arith}
use mathlib.Core.List.{List, [], map}
use mathlib.Core.Path.{◌≡◌, refl, sym, ap, ◌∙◌}
use lib.ListN.{length, take}
use Rattle.words.specs.Overlay.{forward, Wrote}
use Rattle.words.specs.Overlay.Laws.{wrote-length, wrote-take, wrote_as}
use Rattle.octets.specs.Octets.{bytes_of_all}
use Rattle.octets.specs.Octets.Laws.{bytes-none, bytes-then}
use Rattle.terms.specs.Table.{term}
use Rattle.book.specs.Layout.{table, steps, known}
use Rattle.std.specs.Prelude.{Option}
use Rattle.book.specs.declared.Stop.{Stop}
use Rattle.book.specs.Valid.{Valid}
use Rattle.translation.specs.Dictionary.{start}
use Rattle.translation.specs.Receive.{Did}
use Rattle.translation.specs.Listing.{program_words}
use Rattle.translation.proofs.Listing.Laws.{program-append}
use Rattle.translation.specs.Steps.{before}
use Rattle.translation.proofs.Steps.Laws.{before-none}
use Rattle.translation.specs.Long.{step_words}
use Rattle.translation.proofs.Long.Laws.{step-within, all-within, triples-length}
use Rattle.holding.specs.View.{row_of, view}
use Rattle.holding.specs.Doing.Laws.{doing-none, doing-as, doing-counted}
use Rattle.receiving.specs.declared.Received.{Received}
use Rattle.receiving.specs.Receiving.{standing}
use Rattle.walking.specs.Walk.{IdleUntil}
use Rattle.walking.specs.Walk.Laws.{before-skip}
use Rattle.holding.specs.Partners.{Partners}
use Rattle.walking.specs.Walking.{act_did, ActReady, Acting, Along}
use Rattle.walking.specs.Walking.Laws.{along-more, along-fits, along-on}
use Rattle.writing.specs.Events.{WroteEvents}

-- party p came through the first i steps: `count` words, whose bytes were written from a on. It holds the entries e, m is its next
-- placeholder, and k the words of what it stored
pub record Flushed (b : List ℕ) (p i : ℕ) (log₀ log out₀ : List ℕ) (a : ℕ) (out : List ℕ) (next : ℕ)
    (e : List ℕ) (m k : ℕ) (step : List ℕ)
    : Type 0 where
  pub valid : Valid b
  pub within : i ≤ steps b
  pub count : ℕ
  pub along : Along b p i log₀ log 0 [] [] e m k count
  pub wrote : Wrote (bytes_of_all (program_words (row_of b) (before b p i).events)) out₀ a out next
  pub size : length step ≡ step_words
  pub long : length e ≡ 1024

-- steps in which the party has no part add nothing
pub flushed-skip : {b : List ℕ} {p i j : ℕ} {log₀ log out₀ : List ℕ} {a : ℕ} {out : List ℕ} {next : ℕ} {e : List ℕ} {m k : ℕ} {step : List ℕ}
    → IdleUntil b p i j → Flushed b p i log₀ log out₀ a out next e m k step → Flushed b p j log₀ log out₀ a out next e m k step
flushed-skip {b} {p} idle g =
    let same = before-skip b p idle in
    record {
      valid = g.valid;
      within = idle.within;
      count = g.count;
      along = doing-as g.along same;
      wrote = wrote_as g.wrote (ap (λ (d : Did). bytes_of_all (program_words (row_of b) d.events)) same);
      size = g.size;
      long = g.long;
    }

-- ---- at the start the party holds what it knows
pub flushed-start : {b : List ℕ} {p : ℕ} {log out e : List ℕ} {a : ℕ} {step : List ℕ} → Valid b → length e ≡ 1024
    → view b e ≡ start (map (term (table b)) (known b p)) → length step ≡ step_words → Flushed b p 0 log log out a out a e 0 0 step
unfolding program_words
flushed-start {b} {p} {e = e} v long h l =
    let none = before-none b p in
    record {
      valid = v;
      within = omega arith;
      count = 0;
      along = doing-as (rw (← h) (doing-none {b = b} {x = e})) none;
      wrote = wrote_as bytes-none (ap (λ (f : Did). bytes_of_all (program_words (row_of b) f.events)) none);
      size = l;
      long = long;
    }

module _ {b : List ℕ} {p i : ℕ} (h : i < steps b) {log₀ log out₀ : List ℕ} {a : ℕ} {out : List ℕ} {next : ℕ} {e : List ℕ} {m k : ℕ}
    {step : List ℕ} (g : Flushed b p i log₀ log out₀ a out next e m k step) where
  -- ---- a step more can be done
  pub flushed-ready : {ps : List ℕ} → Partners b ps → ActReady b ps p i (standing i e m k 0)
  flushed-ready partners =
      let kept = g.along.keeps.next in
      let triples = triples-length (row_of b) (before b p i).stored in
      let stored = (all-within b g.valid (row_of b) p i g.within).stored in
      record {
        valid = g.valid;
        partners = partners;
        step = h;
        now = refl;
        size = g.long;
        fits = along-fits b p i g.along g.valid h;
        low = omega arith;
        room = omega arith;
      }

  module _ {l log_after step_after : List ℕ} {y : Received} {ahead more : ℕ} {t : Option Stop}
      (w : Acting b l p i (standing i e m k 0) log log_after step step_after y ahead more t)
    where
      -- the step's words stand in front of the buffer
      abbrev did : Did
      did = act_did b p i (standing i e m k 0)

      few : length (program_words (row_of b) did.events) ≤ step_words
      few = (step-within b g.valid (row_of b) p i h _ _).words

      pub flushed-size : length step_after ≡ step_words
      flushed-size = wrote-length w.doing.wrote ∙ g.size

      behind : y.at ≡ length (program_words (row_of b) did.events)
      behind = let n = w.doing.wrote.next in let f = few in omega arith

      pub flushed-few : y.at ≤ length step_after
      flushed-few = let e = behind in let f = few in let s = flushed-size in omega arith

      front : take y.at step_after ≡ program_words (row_of b) did.events
      front =
          let f = few in
          let s = g.size in
          ap (λ k. take k step_after) behind ∙ wrote-take w.doing.wrote (omega arith)

      -- ---- and its bytes are behind those of the steps before
      pub flushed-on : {out_after : List ℕ} {after : ℕ} → Wrote (bytes_of_all (take y.at step_after)) out next out_after after
          → Flushed b p (i + 1) log₀ log_after out₀ a out_after after y.dictionary.entries y.dictionary.next y.dictionary.kept step_after
      flushed-on put =
          let events = program_words (row_of b) (before b p i).events in
          let both = bytes-then events (program_words (row_of b) did.events) g.wrote (wrote_as put (ap bytes_of_all (sym front))) in
          let joined = program-append (row_of b) (before b p i).events did.events in
          let more = ap (λ (f : Did). program_words (row_of b) f.events) (along-more b p i g.along) ∙ joined in
          record {
            valid = g.valid;
            within = omega arith;
            count = forward g.count (length (program_words (row_of b) did.events));
            along = along-on b p i g.along (doing-counted w.doing g.count);
            wrote = wrote_as both (ap bytes_of_all more);
            size = flushed-size;
            long = w.size;
          }

-- ---- all steps
pub flushed-end : {b : List ℕ} {p i : ℕ} {log₀ log out₀ : List ℕ} {a : ℕ} {out : List ℕ} {next : ℕ} {e : List ℕ} {m k : ℕ} {step : List ℕ}
    → i ≡ steps b → Flushed b p i log₀ log out₀ a out next e m k step → WroteEvents b p log₀ log out₀ a out next k
flushed-end all g = record { wrote = rw all at g.wrote; keeps = rw all at g.along.keeps }
