-- Laws of `Acting`: a party's part in one step, by who it is in the step. Of the step, code has read f and n, where its messages
-- stand and how many they are, z, its sender, and y, its receiver. Assumes nothing.
use Prim.Native.Nat.{ℕ, ◌+◌, ◌-◌, ◌*◌, ◌/◌, ◌≤◌}
use native.Mathlib.Nat.{add-zero}
use native.Mathlib.Omega.{arith}
use mathlib.Core.List.{List, [], ◌∷◌, map}
use mathlib.Core.Path.{◌≡◌, refl, sym, ap, ◌∙◌}
use lib.ListN.{length, length-map, length-append}
use borrow.Author.Tests.{eq-eqb, ne_eqb}
use Rattle.words.specs.Choice.Laws.{pick_true, pick-false}
use Rattle.words.specs.Run.Laws.{run_length}
use Rattle.words.specs.Overlay.{Wrote}
use Rattle.words.specs.Overlay.Laws.{wrote_none, wrote_as}
use Rattle.terms.specs.Term.{count, listed}
use Rattle.terms.specs.Term.Laws.{count-gathered, count-listed}
use Rattle.terms.specs.Table.{term, terms}
use Rattle.book.specs.Layout.{table, rows, mark, sender, receiver, step_first, step_count, messages, list_at}
use Rattle.book.specs.Span.Laws.{span-step, messages-at}
use Rattle.book.specs.Headed.Laws.{few-steps}
use Rattle.translation.specs.Build.{build_all}
use Rattle.translation.specs.Build.Laws.{build_all-made}
use Rattle.translation.specs.Receive.{Did, Event, followed, receive_all}
use Rattle.translation.proofs.Receive.Laws.{receive_all-settles}
use Rattle.translation.specs.Program.{sent}
use Rattle.translation.specs.Listing.{program_words, triple_words, event_words}
use Rattle.translation.proofs.Steps.Laws.{step-sends, step-receives, step-idle}
use Rattle.translation.specs.Long.{step_size}
use Rattle.translation.proofs.Long.Laws.{step-sizes, step-within, triples-length}
use Rattle.holding.specs.View.{row_of, view}
use Rattle.holding.specs.Doing.Laws.{doing-none, doing-then, doing-as}
use Rattle.sending.specs.Sending.{SendReady, Sends}
use Rattle.sending.specs.declared.Sent.{Sent}
use Rattle.receiving.specs.declared.Received.{Received}
use Rattle.receiving.specs.Turn.{in_turn}
use Rattle.receiving.specs.Receiving.{standing, list_did, ListReady, Led, Brought}
use Rattle.std.specs.Prelude.{None}
use Rattle.walking.specs.Stops.{stops_in}
use Rattle.walking.specs.Walking.{act_did, ActReady, Acting}

-- ---- the party sends the step
module _ {b ps : List ℕ} {p s : ℕ} {x : Received} {f n : ℕ} (ready : ActReady b ps p s x) (df : f ≡ step_first b s) (dn : n ≡ step_count b s) where
  -- a step makes few atoms
  pub send-ready : SendReady b s f n x.dictionary.entries x.at
  send-ready =
      let δ = view b x.dictionary.entries in
      let made = build_all-made s (terms (table b) (messages b s)) δ in
      let sizes = step-sizes b ready.valid s ready.step in
      let same = ap (λ ts. length (build_all s ts δ).made) (messages-at b s f n df dn) in
      let low = ready.low in
      record {
        valid = ready.valid;
        span = span-step b ready.valid f n s ready.step df dn;
        size = ready.size;
        step = let few = few-steps b ready.valid in let in-book = ready.step in omega arith;
        few = omega arith;
        low = omega arith;
      }

  pub few-made : {l : List ℕ} {k : ℕ} {e out out_after : List ℕ} {m : Sent}
      → Sends b l k s (build_all s (terms (table b) (list_at b f n)) (view b x.dictionary.entries)) x.at e out out_after m → m.made ≤ step_size
  few-made w = let made = w.made in let few = send-ready.few in omega arith

  pub acts-send : {l : List ℕ} {k z : ℕ} {e out out_after log : List ℕ} {m : Sent} → z ≡ sender b s → z ≡ p → k ≡ mark b p
      → Sends b l k s (build_all s (terms (table b) (list_at b f n)) (view b x.dictionary.entries)) x.at e out out_after m
      → Acting b l p s x log log out out_after (standing s e x.dictionary.next x.dictionary.kept m.at) m.made (m.made + 1) m.stop
  unfolding triple_words stops_in
  acts-send {m = m} dz e dk w =
      let same = messages-at b s _ _ df dn in
      let δ = view b x.dictionary.entries in
      let is : sender b s ≡ p = sym dz ∙ e in
      let g = build_all s (terms (table b) (messages b s)) δ in
      let news = length-append (map Event.new g.made) (Event.sends s g.images ∷ []) in
      let count = length-map g.made Event.new in
      let made : m.made ≡ length g.made = w.made ∙ ap (λ ts. length (build_all s ts δ).made) same in
      let did = ap (λ (d : Did). length d.events) (step-sends b p s δ x.dictionary.next is) in
      record {
        doing = doing-as (record {
          holds = w.holds ∙ ap (λ ts. (build_all s ts δ).dictionary) same;
          goes = sym (add-zero _);
          wrote = wrote_as w.wrote (ap (λ ts. program_words (row_of b) (sent s (build_all s ts δ)).events) (sym same));
          keeps = wrote_none;
        }) (step-sends b p s δ x.dictionary.next is);
        events = omega arith;
        ahead = omega arith;
        sends = λ q. refl;
        receives = λ q. absurd ((ready.valid.steps_keep s ready.step).two (is ∙ sym q));
        stops = w.stops ∙ sym (pick_true _ _ _ (eq-eqb (sender b s) p is) ∙ rw (← same, ← dk));
        size = w.size;
      }

-- ---- it receives the step: RECEIVE, and then the messages in turn
-- RECEIVE alone
abbrev announced : List ℕ → ℕ → ℕ → Received → Did
announced b s n x =
    record { dictionary = view b x.dictionary.entries; given = []; events = Event.receives s x.dictionary.next n ∷ []; stored = [] }

module _ (b : List ℕ) (p s : ℕ) {f n z y : ℕ} (df : f ≡ step_first b s) (dn : n ≡ step_count b s)
    (dz : z ≡ sender b s) (e : z ≡ p → ⊥) (dy : y ≡ receiver b s) (h : y ≡ p) where
  many : count (terms (table b) (messages b s)) ≡ n
  unfolding terms
  many =
      count-gathered (map (term (table b)) (messages b s)) ∙ length-map (messages b s) (term (table b))
      ∙ run_length b _ (step_count b s) ∙ sym dn

  step-turns : (x : Received) → x.dictionary.step ≡ s → act_did b p s x ≡ followed (announced b s n x) (list_did b f n x)
  unfolding in_turn
  step-turns x now =
      step-receives b p s (view b x.dictionary.entries) x.dictionary.next (λ q. e (dz ∙ q)) (sym dy ∙ h)
      ∙ rw (messages-at b s f n df dn, many, now)

-- what n messages took that stand at f in the pool, to the placeholder `next` and the place `kept`: three words of the log a stored term,
-- and a placeholder for each that was compared, opened or stored
pub record Took (b : List ℕ) (f n : ℕ) (x : Received) (next kept : ℕ) : Type 0 where
  pub to-kept : kept ≡ x.dictionary.kept + 3 * length (list_did b f n x).stored
  pub to-next : next ≡ x.dictionary.next + (length (list_did b f n x).events + length (list_did b f n x).stored)
  pub given : length (list_did b f n x).events + length (list_did b f n x).stored ≤ step_size

module _ {b : List ℕ} {p s : ℕ} {x : Received} {f n z y : ℕ} where
  -- the messages hand out what the step does, and that fits
  pub step-ready : {ps : List ℕ} {d a : ℕ} → ActReady b ps p s x → d ≡ rows b → f ≡ step_first b s → n ≡ step_count b s
      → z ≡ sender b s → (z ≡ p → ⊥) → y ≡ receiver b s → y ≡ p → ListReady b ps d f n (record { dictionary = x.dictionary; at = a })
  step-ready {d = d} ready dd df dn dz e dy h =
      record {
        valid = ready.valid;
        partners = ready.partners;
        bounded = omega arith;
        timely = let few = few-steps b ready.valid in let in-book = ready.step in let now = ready.now in omega arith;
        size = ready.size;
        span = rw dd (span-step b ready.valid f n s ready.step df dn);
        fits = let fits = ready.fits in let same = ap (λ (g : Did). length g.given) (step-turns b p s df dn dz e dy h x ready.now) in omega arith;
      }

  pub took : {ps log log_after middle out_after : List ℕ} {a : ℕ} {r : Received} → ActReady b ps p s x → f ≡ step_first b s → n ≡ step_count b s
      → z ≡ sender b s → (z ≡ p → ⊥) → y ≡ receiver b s → y ≡ p
      → Brought b (list_did b f n x) (record { dictionary = x.dictionary; at = a }) log log_after middle out_after r
      → Took b f n x r.dictionary.next r.dictionary.kept
  unfolding in_turn
  took ready df dn dz e dy h t =
      let ts = terms (table b) (list_at b f n) in
      let k = x.dictionary.next in
      let δ = view b x.dictionary.entries in
      let did = step-turns b p s df dn dz e dy h x ready.now in
      let within = step-within b ready.valid (row_of b) p s ready.step δ k in
      let given = within.given in
      let stored = within.stored in
      let same-given = ap (λ (d : Did). length d.given) did in
      let same-stored = ap (λ (d : Did). length d.stored) did in
      let goes = t.led.goes in
      let keeps = t.led.keeps.next in
      let triples = triples-length (row_of b) (list_did b f n x).stored in
      let settles = receive_all-settles x.dictionary.step ts k δ (k + count ts) in
      let all = length-append (listed ts) (receive_all x.dictionary.step ts k δ (k + count ts)).given in
      let counted = count-listed ts in
      let room = ready.room in
      record { to-kept = omega arith; to-next = omega arith; given = omega arith }

  pub acts-receive : {ps l log log_after out middle out_after : List ℕ} {a c m : ℕ} {r : Received}
      → ActReady b ps p s x → f ≡ step_first b s → n ≡ step_count b s → z ≡ sender b s → (z ≡ p → ⊥) → y ≡ receiver b s → y ≡ p
      → c ≡ n → Wrote (3 ∷ s ∷ x.dictionary.next ∷ c ∷ []) out x.at middle a
      → Brought b (list_did b f n x) (record { dictionary = x.dictionary; at = a }) log log_after middle out_after r
      → m ≡ (r.dictionary.kept - x.dictionary.kept) / 3
      → Acting b l p s x log log_after out out_after r 0 (1 + (r.dictionary.next - x.dictionary.next) - m) None
  unfolding triple_words program_words event_words stops_in
  acts-receive {log = log} {out = out} {middle = middle} {a = a} ready df dn dz e dy h dc w t dm =
      let head : Led b (announced b s n x) x log log out middle (record { dictionary = x.dictionary; at = a }) =
      record { holds = refl; goes = sym (add-zero _); wrote = wrote_as w (rw dc); keeps = wrote_none } in
      let did = step-turns b p s df dn dz e dy h x ready.now in
      let many = ap (λ (d : Did). length d.events) did in
      let takes = took ready df dn dz e dy h t in
      let kept = takes.to-kept in
      let next = takes.to-next in
      record {
        doing = doing-as (doing-then b _ _ head t.led) did;
        events = omega arith;
        ahead = omega arith;
        sends = λ q. absurd (e (dz ∙ q));
        receives = λ q. refl;
        stops = sym (pick-false _ _ _ (ne_eqb (sender b s) p (λ q. e (dz ∙ q))));
        size = t.size;
      }

-- ---- it has no part in the step
pub acts-idle : {b l : List ℕ} {p s : ℕ} {x : Received} {z y : ℕ} {log out : List ℕ} → length x.dictionary.entries ≡ 1024
    → z ≡ sender b s → (z ≡ p → ⊥) → y ≡ receiver b s → (y ≡ p → ⊥)
    → Acting b l p s x log log out out x 0 0 None
unfolding stops_in
acts-idle {b} {p = p} {s = s} {x = x} size dz e dy h =
    let no : sender b s ≡ p → ⊥ = λ q. e (dz ∙ q) in
    let did = step-idle b p s (view b x.dictionary.entries) x.dictionary.next no (λ q. h (dy ∙ q)) in
    record {
      doing = doing-as doing-none did;
      events = sym (ap (λ (d : Did). length d.events) did);
      ahead = omega arith;
      sends = λ q. absurd (no q);
      receives = λ q. refl;
      stops = sym (pick-false _ _ _ (ne_eqb (sender b s) p no));
      size = size;
    }
