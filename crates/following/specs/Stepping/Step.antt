-- A party's steps compared with their words, one after another: laws of `Stepped`. Assumes nothing.
use Rattle.std.specs.Prelude.{ℕ, zero, suc, ◌+◌, ◌-◌, ◌*◌, ◌/◌, ◌≤◌, ◌<◌, Bool, true, false, Option, Ok, Err, List, [], ◌++◌, map, ◌≡◌, refl, length, get_or, take, ltb}
use Rattle.std.proofs.Common.{arith, append-nil, append_assoc, sym, ap, ap₂, ◌∙◌, length-append, length-take-le, ltb-true, ltb-false}
use Rattle.words.specs.Overlay.{forward, Wrote}
use Rattle.words.specs.Overlay.Laws.{wrote-length, wrote-take}
use Rattle.terms.specs.Term.{Term}
use Rattle.terms.specs.Table.{term}
use Rattle.book.specs.Layout.{table as table_of, steps, known}
use Rattle.book.specs.declared.Stop.{Stop}
use Rattle.book.specs.Valid.{Valid}
use Rattle.book.specs.Headed.Laws.{valid-headed}
use Rattle.translation.specs.Dictionary.{start}
use Rattle.translation.specs.Receive.{Event, Did, nothing}
use Rattle.translation.specs.Listing.{program_words, triple_words}
use Rattle.translation.specs.Steps.{step_did, before}
use Rattle.translation.proofs.Steps.Laws.{before-none, before_more}
use Rattle.translation.specs.Long.{step_words}
use Rattle.translation.proofs.Long.Laws.{step-within, triples-length, stored-few}
use Rattle.renaming.specs.Slot.{Slot, program_slots, handed}
use Rattle.renaming.specs.Slot.Laws.{slots-append, order-more}
use Rattle.renaming.specs.Slot.Order.{step-ordered, step-handed, step-stored, before-kept}
use Rattle.renaming.specs.Renaming.{Followed, follow}
use Rattle.renaming.specs.Renaming.Laws.{follow-append-whole, follow-append-part}
use Rattle.holding.specs.View.{row_of, view}
use Rattle.holding.specs.Doing.Laws.{doing-none, doing-as, doing-counted}
use Rattle.holding.specs.Partners.{Partners}
use Rattle.receiving.specs.declared.Received.{Received}
use Rattle.receiving.specs.Receiving.{standing}
use Rattle.walking.specs.Walk.{IdleUntil}
use Rattle.walking.specs.Walk.Laws.{before-skip}
use Rattle.walking.specs.Walking.{act_did, ActReady, Acting, Along}
use Rattle.walking.specs.Walking.Laws.{along-more, along-fits, along-on}
use Rattle.following.specs.declared.Far.{Far}
use Rattle.following.specs.declared.Reached.{Reached}
use Rattle.scanning.specs.declared.Mode.TheVariants as modes
use Rattle.scanning.specs.Scan.{scan, after, Through}
use Rattle.scanning.specs.Scan.Program.{through-program, through-all}
use Rattle.scanning.specs.Scan.Inside.{inner-step}
use Rattle.naming.specs.declared.Range.{Range}
use Rattle.naming.specs.Mirror.{mode_at, handed_by, told}
use Rattle.naming.specs.Called.{placeholder_at, recent_names, Called}
use Rattle.naming.specs.Called.Laws.{ranged-none, wrote-before, wrote-there}
use Rattle.following.specs.Agreeing.{WordsReady, AllFollowed, WordsFollowed}
use Rattle.following.specs.Agreeing.Following.{told-event}
use Rattle.following.specs.Stepping.{placeholders, Agreed, Buffers, Stepped, StepFollowed}
use Rattle.following.specs.Stepping.Laws.{log-at, placeholders-front, placeholders-back, at-kept, kept-stored}

agreed-as : {b : List ℕ} {d f : Did} {ws : List ℕ} {at : ℕ} {range : Range} {m k : ℕ} {log called : List ℕ} → d ≡ f
    → Agreed b d ws at range m k log called → Agreed b f ws at range m k log called
agreed-as e g = rw (← e) g

-- steps in which the party has no part add nothing
pub stepped-skip : {b : List ℕ} {p i j : ℕ} {ws step table log called e : List ℕ} {r : Reached} → IdleUntil b p i j
    → Stepped b p i ws step table log called e r → Stepped b p j ws step table log called e r
stepped-skip {b} {p} idle g =
    let same = before-skip b p idle in
    record {
      valid = g.valid;
      within = idle.within;
      count = g.count;
      log-first = g.log-first;
      along = doing-as g.along same;
      agreed = agreed-as (sym same) g.agreed;
      buffers = g.buffers;
      long = g.long;
    }

-- ---- at the start the party holds what it knows, and nothing was compared
agreed-none : (b ws : List ℕ) (δ : _) (range : Range) (log called : List ℕ) → Agreed b (nothing δ) ws 0 range 0 0 log called
unfolding follow program_slots mode_at handed_by triple_words
agreed-none b ws δ range log called =
    record {
      follows = refl;
      mode = refl;
      names = refl;
      given = refl;
      ranged = ranged-none;
      kept = refl;
      triples = refl;
      older = λ j h. absurd (omega arith);
    }

pub stepped_start : {b : List ℕ} {p : ℕ} {ws step table log called e : List ℕ} {range : Range} → Valid b → length e ≡ 1024
    → view b e ≡ start (map (term (table_of b)) (known b p)) → Buffers step table log called
    → Stepped b p 0 ws step table log called e (record { at = 0; range = range; given = 0; kept = 0 })
stepped_start {b} {p} {ws = ws} {log = log} {called} {e = e} {range} v long h l =
    let none = before-none b p in
    record {
      valid = v;
      within = omega arith;
      count = 0;
      log-first = log;
      along = doing-as (rw (← h) (doing-none {b = b} {x = e})) none;
      agreed = agreed-as (sym none) (agreed-none b ws _ range log called);
      buffers = l;
      long = long;
    }

-- ---- the events of more steps begin with those of fewer
later-events : (b : List ℕ) (p i j : ℕ) → (rest : List Event) × ((before b p (i + j)).events ≡ (before b p i).events ++ rest)
later-events b p i zero = ([], ap (λ n. (before b p n).events) (omega arith) ∙ sym (append-nil _))
later-events b p i (suc j) =
    let r = later-events b p i j in
    let n : i + suc j ≡ suc (i + j) = omega arith in
    let d = step_did b p (i + j) (before b p (i + j)).dictionary (length (before b p (i + j)).given) in (
      r.0 ++ d.events,
      ap (λ n. (before b p n).events) n ∙ ap (λ (x : Did). x.events) (before_more b p (i + j))
          ∙ ap (λ (l : List Event). l ++ d.events) r.1 ∙ append_assoc (before b p i).events r.0 d.events,
    )

followed-is : (x : Followed) {a : ℕ} {names : List ℕ} → x.at ≡ a → x.names ≡ names → x.whole ≡ true
    → x ≡ record { at = a; names = names; whole = true }
followed-is x e f g = rw (← e, ← f, ← g)

-- ---- one step more
module _ {b : List ℕ} {p i : ℕ} (h : i < steps b) {ws step table log called e : List ℕ} {r : Reached}
    (g : Stepped b p i ws step table log called e r) where
  abbrev m : ℕ
  m = r.given

  abbrev k : ℕ
  k = r.kept

  abbrev at : ℕ
  at = r.at

  abbrev past : Did
  past = before b p i

  abbrev row : Term → ℕ
  row = row_of b

  -- as many are stored as there are triples, and no more than rows
  stored-many : k / 3 ≡ length past.stored
  stored-many = let q = g.agreed.kept in omega arith

  stored-within : length past.stored ≤ 1024
  stored-within =
      let s = stored-few b g.valid p i g.within in let f = (valid-headed b g.valid).few_rows in omega arith

  -- ---- it can be done
  pub stepped-ready : {ps : List ℕ} → Partners b ps → ActReady b ps p i (standing i e m k 0)
  stepped-ready partners =
      let kept = g.agreed.kept in
      let few = stored-within in
      record {
        valid = g.valid;
        partners = partners;
        step = h;
        now = refl;
        size = g.long;
        fits = along-fits b p i g.along g.valid h;
        low = omega arith;
        room = omega arith;
      }

  module _ {l log_after step_after : List ℕ} {y : Received} {ahead more : ℕ} {t : Option Stop}
      (w : Acting b l p i (standing i e m k 0) log log_after step step_after y ahead more t)
    where
      abbrev did : Did
      did = act_did b p i (standing i e m k 0)

      -- it is what the party does there
      same : did ≡ step_did b p i past.dictionary (length past.given)
      same = let n = g.along.goes in ap₂ (step_did b p i) g.along.holds (omega arith)

      -- the step's words stand in front of the buffer
      few : length (program_words row did.events) ≤ step_words
      few = (step-within b g.valid row p i h _ _).words

      pub stepped-step : length step_after ≡ step_words
      stepped-step = wrote-length w.doing.wrote ∙ g.buffers.step-size

      behind : y.at ≡ length (program_words row did.events)
      behind = let n = w.doing.wrote.next in let f = few in omega arith

      pub stepped-few : y.at ≤ length step_after
      stepped-few = let e = behind in let f = few in let s = stepped-step in omega arith

      pub stepped-sized : y.at ≡ length (take y.at step_after)
      stepped-sized = let f = stepped-few in sym (length-take-le y.at step_after f)

      front : take y.at step_after ≡ program_words row did.events
      front =
          let f = few in
          let s = g.buffers.step-size in
          ap (λ k. take k step_after) behind ∙ wrote-take w.doing.wrote (omega arith)

      -- and are its slots
      through : Through modes.Event (program_words row did.events) (program_slots row did.events) modes.Event
      through = let f = few in through-program row did.events (inner-step b p i _ _) (omega arith)

      abbrev ours : List ℕ
      ours = take y.at step_after

      slots : scan modes.Event ours ≡ program_slots row did.events
      slots = ap (scan modes.Event) front ∙ through-all through

      ends : after modes.Event ours ≡ modes.Event
      ends = ap (after modes.Event) front ∙ through.mode

      -- ---- the log behind it: the triples before, and then the step's
      next-along : Along b p (i + 1) g.log-first log_after 0 [] [] y.dictionary.entries y.dictionary.next y.dictionary.kept
          (forward g.count (length (program_words row did.events)))
      next-along = along-on b p i g.along (doing-counted w.doing g.count)

      all-stored : (before b p (i + 1)).stored ≡ past.stored ++ did.stored
      all-stored = ap (λ (d : Did). d.stored) (along-more b p i g.along)

      all-few : length (before b p (i + 1)).stored ≤ 1024
      all-few =
          let s = stored-few b g.valid p (i + 1) (omega arith) in let f = (valid-headed b g.valid).few_rows in omega arith

      log-size : length log_after ≡ 3072
      log-size = wrote-length w.doing.keeps ∙ g.buffers.log-size

      log-start : length g.log-first ≡ 3072
      log-start = sym (wrote-length g.along.keeps) ∙ g.buffers.log-size

      all-kept : y.dictionary.kept ≡ 3 * length (before b p (i + 1)).stored
      all-kept =
          let n = next-along.keeps.next in
          let l = triples-length row (before b p (i + 1)).stored in
          let f = all-few in
          omega arith

      all-triples : take y.dictionary.kept log_after ≡ triple_words row (before b p (i + 1)).stored
      all-triples =
          let l = triples-length row (before b p (i + 1)).stored in
          let f = all-few in
          let z = log-start in
          ap (λ k. take k log_after) (all-kept ∙ sym l) ∙ wrote-take next-along.keeps (omega arith)

      stored_at : (j : ℕ) → j < length (before b p (i + 1)).stored → placeholder_at log_after j ≡ get_or (placeholders (before b p (i + 1)).stored) j 0
      stored_at j l = log-at row (before b p (i + 1)).stored log_after _ j all-triples all-kept l

      older-at : (j : ℕ) → j < k / 3 → placeholder_at log_after j ≡ get_or (placeholders past.stored) j 0
      older-at j l =
          let n = stored-many in
          let a = ap (λ (s : List _). length s) all-stored ∙ length-append past.stored did.stored in
          stored_at j (omega arith) ∙ ap (λ (s : List _). get_or (placeholders s) j 0) all-stored
          ∙ placeholders-front past.stored did.stored j (omega arith)

      -- ---- its words can be compared
      pub stepped-compare : WordsReady ws ours at m table log_after (k / 3) called r.range
      stepped-compare =
          let a = g.agreed in
          let n = stored-many in
          let s = stored-within in
          let z = a.names in
          let q = a.given in
          record {
            mode = a.mode;
            calls = record {
              recent = λ x o u. absurd (omega arith);
              older = λ j u. a.older j (omega arith) ∙ ap (λ x. get_or (handed_by ws at) x 0) (sym (older-at j u));
              below = λ j u. (let v = older-at j u in let r = before-kept b p i _ (at-kept past.stored j (omega arith)) in omega arith);
              begun = omega arith;
              size = g.buffers.table-size;
              few = omega arith;
            };
            ranged = a.ranged;
            begins = omega arith;
            order = rw slots (rw (same, q) (order-more (λ x o. kept-stored past.stored older-at n o) (step-ordered b p i row)));
            room = rw slots (rw same (let d = step-handed b p i row in
                let f = (step-within b g.valid row p i h past.dictionary (length past.given)).given in
                omega arith));
          }

      -- ---- what comparing them tells
      follow-step : follow ws (program_slots row (before b p (i + 1)).events) 0 [] ≡ follow ws (scan modes.Event ours) at (handed_by ws at)
      follow-step =
          let a = g.agreed.follows in
          let both = ap (λ (d : Did). program_slots row d.events) (along-more b p i g.along) ∙ slots-append row past.events did.events in
          ap (λ (s : List Slot). follow ws s 0 []) both
          ∙ follow-append-whole ws (program_slots row past.events) (program_slots row did.events) 0 [] (ap (λ (x : Followed). x.whole) a)
          ∙ ap (λ (x : Followed). follow ws (program_slots row did.events) x.at x.names) a
          ∙ ap (λ (s : List Slot). follow ws s at (handed_by ws at)) (sym slots)

      -- they don't agree
      module _ {table_after : List ℕ} {place : ℕ} (f : WordsFollowed ws ours at m table_after log_after (k / 3) called (Err place)) where
        broken : (follow ws (program_slots row (before b p (i + 1)).events) 0 []).whole ≡ false
        broken = ap (λ (x : Followed). x.whole) follow-step ∙ f.whole

        broken-all : follow ws (program_slots row (before b p (steps b)).events) 0 [] ≡ follow ws (program_slots row (before b p (i + 1)).events) 0 []
        broken-all =
            let r = later-events b p (i + 1) (steps b - (i + 1)) in
            let n : i + 1 + (steps b - (i + 1)) ≡ steps b = omega arith in
            ap (λ (es : List Event). follow ws (program_slots row es) 0 []) (ap (λ z. (before b p z).events) (sym n) ∙ r.1)
            ∙ ap (λ (s : List Slot). follow ws s 0 []) (slots-append row (before b p (i + 1)).events r.0)
            ∙ follow-append-part ws (program_slots row (before b p (i + 1)).events) (program_slots row r.0) 0 [] broken

        pub stepped-broken : StepFollowed b p i ws step_after table_after log_after called y.dictionary.entries (Err place)
        stepped-broken = (
          record {
            at = ap (λ (x : Followed). x.at) (broken-all ∙ follow-step) ∙ f.at;
            whole = ap (λ (x : Followed). x.whole) broken-all ∙ broken;
          },
          record {
            step-size = stepped-step;
            table-size = f.size;
            log-size = log-size;
            called-size = g.buffers.called-size;
          },
        )

      -- they agree
      module _ {table_after : List ℕ} {far : Far} (f : WordsFollowed ws ours at m table_after log_after (k / 3) called (Ok far)) where
        abbrev all : AllFollowed ws ours at m table_after log_after (k / 3) called far
        all = f.all

        abbrev names : List ℕ
        names = handed_by ws far.at

        names-are : told ws far.at (after modes.Event ours) 0 ≡ names
        names-are = ap (λ z. told ws far.at z 0) ends ∙ told-event ws far.at 0

        calls : Called names m table_after log_after (k / 3) called
        calls = rw names-are at all.calls

        names-many : length names ≡ m + length did.given
        names-many =
            let c = rw names-are at all.count in
            let s = ap handed slots in
            let d = ap (λ (x : Did). handed (program_slots row x.events)) same ∙ step-handed b p i row
            ∙ ap (λ (x : Did). length x.given) (sym same) in
            omega arith

        pub stepped-keep : (k / 3 ≤ y.dictionary.kept / 3) × (y.dictionary.kept / 3 ≤ 1024)
        stepped-keep =
            let n = stored-many in
            let a = ap (λ (s : List _). length s) all-stored ∙ length-append past.stored did.stored in
            let e = all-kept in
            let l = all-few in
            (omega arith, omega arith)

        module _ {called_after : List ℕ} {next : ℕ}
            (keep : Wrote (recent_names log_after m table_after (k / 3) (y.dictionary.kept / 3 - k / 3)) called (k / 3) called_after next)
          where
            abbrev recent : ℕ → ℕ
            recent j = get_or table_after (placeholder_at log_after j - m) 0

            new-bounds : (j : ℕ) → k / 3 ≤ j → j < length (before b p (i + 1)).stored
                → (m ≤ placeholder_at log_after j) × (placeholder_at log_after j < length names)
            new-bounds j u v =
                let n = stored-many in
                let q = g.agreed.given in
                let a = ap (λ (s : List _). length s) all-stored ∙ length-append past.stored did.stored in
                let z = j - length past.stored in
                let e : length past.stored + z ≡ j = omega arith in
                let x = stored_at j v ∙ ap (λ (s : List _). get_or (placeholders s) j 0) all-stored
                ∙ ap (λ t. get_or (placeholders (past.stored ++ did.stored)) t 0) (sym e) ∙ placeholders-back past.stored did.stored z in
                let there = x ∙ ap (λ (d : Did). get_or (placeholders d.stored) z 0) same in
                let c = rw same at (at-kept did.stored z (omega arith)) in
                let s = ap (λ (d : Did). length d.given) same in
                let bounds = step-stored b p i _ c in
                let many = names-many in
                let (from, below) = bounds in
                (omega arith, omega arith)

            keep-sum : k / 3 + (y.dictionary.kept / 3 - k / 3) ≡ length (before b p (i + 1)).stored
            keep-sum = let (low, high) = stepped-keep in let e = all-kept in omega arith

            older : (j : ℕ) → j < length (before b p (i + 1)).stored
                → get_or called_after j 0 ≡ get_or names (get_or (placeholders (before b p (i + 1)).stored) j 0) 0
            older j v = go (ltb j (k / 3)) refl ∙ ap (λ x. get_or names x 0) (stored_at j v)
              where
                there : (j : ℕ) → k / 3 ≤ j → j < length (before b p (i + 1)).stored → get_or called_after j 0 ≡ recent j
                there j u v =
                    let s = keep-sum in
                    let c = g.buffers.called-size in
                    let few = all-few in
                    let within = rw (← s) at v in
                    let room = rw (← s) at few in
                    wrote-there recent (k / 3) (y.dictionary.kept / 3 - k / 3) keep j u within (rw c room)

                go : (t : Bool) → ltb j (k / 3) ≡ t → get_or called_after j 0 ≡ get_or names (placeholder_at log_after j) 0
                go true e =
                    let u = ltb-true j (k / 3) e in
                    wrote-before recent (k / 3) (y.dictionary.kept / 3 - k / 3) keep j u ∙ calls.older j u
                go false e =
                    let u = ltb-false j (k / 3) e in
                    let (from, below) = new-bounds j u v in
                    there j u v ∙ calls.recent _ from below

            -- the steps so far agree
            agreed-on : Agreed b (before b p (i + 1)) ws far.at far.range y.dictionary.next y.dictionary.kept log_after called_after
            agreed-on =
                let goes = w.doing.goes in
                let all-goes = next-along.goes in
                record {
                  follows = followed-is _ (ap (λ (x : Followed). x.at) follow-step ∙ f.at)
                      (ap (λ (x : Followed). x.names) follow-step ∙ all.names ∙ names-are)
                      (ap (λ (x : Followed). x.whole) follow-step ∙ f.whole);
                  mode = all.mode ∙ ends;
                  names = let n = names-many in omega arith;
                  given = omega arith;
                  ranged = rw names-are at all.ranged;
                  kept = all-kept;
                  triples = all-triples;
                  older = older;
                }

            pub stepped-on : StepFollowed b p i ws step_after table_after log_after called_after y.dictionary.entries
                (Ok (record { at = far.at; range = far.range; given = y.dictionary.next; kept = y.dictionary.kept }))
            stepped-on =
                record {
                  valid = g.valid;
                  within = omega arith;
                  count = forward g.count (length (program_words row did.events));
                  log-first = g.log-first;
                  along = next-along;
                  agreed = agreed-on;
                  buffers = record {
                    step-size = stepped-step;
                    table-size = f.size;
                    log-size = log-size;
                    called-size = wrote-length keep ∙ g.buffers.called-size;
                  };
                  long = w.size;
                }
