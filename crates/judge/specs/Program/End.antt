-- END behind the steps, and the verdict on the whole program. Assumes nothing.
use Rattle.std.specs.Prelude.{ℕ, ◌+◌, ◌/◌, ◌≤◌, ◌<◌, Result, Err, List, [], ◌∷◌, ◌≡◌, get_or}
use Rattle.std.proofs.Common.{arith, sym, ◌∙◌, length-take-le}
use Rattle.std.proofs.Math.Path.{ap}
use Rattle.std.proofs.Math.ListN.{length, take}
use Rattle.words.specs.Overlay.{Wrote}
use Rattle.words.specs.Overlay.Laws.{wrote_then, wrote-take, wrote-length}
use Rattle.terms.specs.Term.{Term}
use Rattle.book.specs.Layout.{parties, steps}
use Rattle.book.specs.Valid.{Valid}
use Rattle.book.specs.Headed.Laws.{valid-headed}
use Rattle.translation.specs.Receive.{Event, Did}
use Rattle.translation.specs.Listing.{event_words}
use Rattle.translation.specs.Steps.{before}
use Rattle.translation.proofs.Long.Laws.{stored-few}
use Rattle.renaming.specs.Slot.{Slot, program_slots, event_slots, handed}
use Rattle.renaming.specs.Slot.Laws.{order-more, handed-triples}
use Rattle.renaming.specs.Slot.Order.{before-kept, end-ordered, part-slots}
use Rattle.renaming.specs.Renaming.{Followed, follow}
use Rattle.renaming.specs.Renaming.Laws.{follow-append-whole, follow-append-part}
use Rattle.holding.specs.View.{row_of}
use Rattle.following.specs.declared.Far.{Far}
use Rattle.naming.specs.declared.Range.{Range}
use Rattle.scanning.specs.declared.Mode.TheVariants as modes
use Rattle.scanning.specs.Scan.{scan}
use Rattle.scanning.specs.Scan.Program.{scan-end}
use Rattle.naming.specs.Mirror.{handed_by}
use Rattle.naming.specs.Called.{placeholder_at}
use Rattle.following.specs.Agreeing.{WordsReady, WordsFollowed}
use Rattle.following.specs.Stepping.{placeholders, Agreed, Buffers, Broken}
use Rattle.following.specs.Stepping.Laws.{log-at, at-kept, kept-stored}
use Rattle.judge.specs.Program.{ProgramFollowed}

-- END hands out nothing
end-handed : (row : Term → ℕ) (ps : List _) → handed (event_slots row (Event.ends ps)) ≡ 0
unfolding event_slots handed
end-handed row ps = handed-triples row ps

-- ---- not all steps agree, and so not the program
pub program-broken : {b : List ℕ} {p k : ℕ} {ws : List ℕ} → p < parties b → Broken b p ws k → ProgramFollowed b p ws (Err k)
program-broken {b} {p} {ws = ws} h g =
    let row = row_of b in
    let d = before b p (steps b) in
    let z = ap (λ (s : List Slot). follow ws s 0 []) (part-slots b p h)
    ∙ follow-append-part ws (program_slots row d.events) (event_slots row (Event.ends d.stored)) 0 [] g.whole in
    record {
      at = ap (λ (y : Followed). y.at) z ∙ g.at;
      whole = ap (λ (y : Followed). y.whole) z ∙ g.whole;
    }

-- ---- all agree, and END is compared
module _ {b : List ℕ} {p : ℕ} (v : Valid b) (h : p < parties b) {ws step table log called : List ℕ} {at : ℕ} {range : Range} {given kept : ℕ}
    (a : Agreed b (before b p (steps b)) ws at range given kept log called) (l : Buffers step table log called) where
  abbrev row : Term → ℕ
  row = row_of b

  abbrev d : Did
  d = before b p (steps b)

  many : kept / 3 ≡ length d.stored
  many = let e = a.kept in omega arith

  few : length d.stored ≤ 1024
  few = let s = stored-few b v p (steps b) (omega arith) in let f = (valid-headed b v).few_rows in omega arith

  pub end_kept : kept ≤ length log
  end_kept = let e = a.kept in let f = few in let s = l.log-size in omega arith

  pub end-narrow : kept / 3 ≤ 4294967295
  end-narrow = let e = many in let f = few in omega arith

  module _ {n t e : ℕ} {step_one step_two : List ℕ} (third : n ≡ kept / 3) (one : Wrote (6 ∷ n ∷ []) step 0 step_one t)
      (two : Wrote (take kept log) step_one t step_two e) where
    both : Wrote (6 ∷ n ∷ take kept log) step 0 step_two e
    both = wrote_then one two

    size : length (6 ∷ n ∷ take kept log) ≡ 2 + kept
    size = let s = length-take-le kept log end_kept in omega arith

    place : e ≡ length (6 ∷ n ∷ take kept log)
    place = let q = both.next in let s = size in let k = a.kept in let f = few in omega arith

    pub end-few : e ≤ length step_two
    end-few =
        let q = place in let s = size in let k = a.kept in let f = few in let w = wrote-length both in let z = l.step-size in omega arith

    pub end-sized : e ≡ length (take e step_two)
    end-sized = sym (length-take-le e step_two end-few)

    front : take e step_two ≡ event_words row (Event.ends d.stored)
    unfolding event_words
    front =
        let q = place in
        let s = size in
        let k = a.kept in
        let f = few in
        let z = l.step-size in
        let x : n ≡ length d.stored = third ∙ many in
        ap (λ i. take i step_two) place ∙ wrote-take both (omega arith) ∙ rw (x, a.triples)

    slots : scan modes.Event (take e step_two) ≡ event_slots row (Event.ends d.stored)
    slots = ap (scan modes.Event) front ∙ scan-end row d.stored

    logged : (j : ℕ) → j < kept / 3 → placeholder_at log j ≡ get_or (placeholders d.stored) j 0
    logged j u = let m = many in log-at row d.stored log kept j a.triples a.kept (omega arith)

    pub end-compare : WordsReady ws (take e step_two) at given table log (kept / 3) called range
    end-compare =
        let m = many in
        let f = few in
        let z = a.names in
        record {
          mode = a.mode;
          calls = record {
            recent = λ x u w. absurd (omega arith);
            older = λ j u. a.older j (omega arith) ∙ ap (λ x. get_or (handed_by ws at) x 0) (sym (logged j u));
            below = λ j u. (let y = logged j u in let q = a.given in
                let k = before-kept b p (steps b) _ (at-kept d.stored j (omega arith)) in omega arith);
            begun = omega arith;
            size = l.table-size;
            few = omega arith;
          };
          ranged = a.ranged;
          begins = omega arith;
          order = rw slots (order-more (λ x k. kept-stored d.stored logged many k) (end-ordered row d.stored given));
          room = rw slots (let e = end-handed row d.stored in omega arith);
        }

    pub end-followed : {table_after : List ℕ} {x : Result Far ℕ} → WordsFollowed ws (take e step_two) at given table_after log (kept / 3) called x
        → ProgramFollowed b p ws x
    end-followed f =
        let w = a.follows in
        let z = ap (λ (s : List Slot). follow ws s 0 []) (part-slots b p h)
        ∙ follow-append-whole ws (program_slots row d.events) (event_slots row (Event.ends d.stored)) 0 [] (ap (λ (y : Followed). y.whole) w)
        ∙ ap (λ (y : Followed). follow ws (event_slots row (Event.ends d.stored)) y.at y.names) w
        ∙ ap (λ (s : List Slot). follow ws s at (handed_by ws at)) (sym slots) in
        record {
          at = ap (λ (y : Followed). y.at) z ∙ f.at;
          whole = ap (λ (y : Followed). y.whole) z ∙ f.whole;
        }
