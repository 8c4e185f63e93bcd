-- A program's events rise, and hold the SEND of each step that the party sends. Assumes nothing.
use Rattle.std.specs.Prelude.{ℕ, ◌+◌, ◌≤◌, ◌<◌, ◌⊎◌, ◌≡◌, refl}
use Rattle.std.proofs.Common.{zero-le, le_trans, arith, inl, inr, ⊎_elim, sym}
use Rattle.std.proofs.Math.Nat.{le-suc}
use mathlib.Core.List.Memᴰ
use mathlib.Core.List.{List, [], ◌∷◌, ◌++◌, map, append_assoc, Memᴰ}
use Rattle.std.proofs.Math.Path.{subst}
use Rattle.std.proofs.Math.ListN.{length}
use Rattle.terms.specs.Term.{Terms}
use Rattle.terms.specs.Image.{Images}
use Rattle.translation.specs.Dictionary.{Dictionary, start}
use Rattle.translation.specs.Build.{build_all}
use Rattle.translation.specs.Receive.{Event}
use Rattle.translation.proofs.Receive.Laws.{Quiet, receive_all-quiet}
use Rattle.translation.specs.Program.{Act, act, walk, walked, program}
use Rattle.translation.specs.Narration.{Narration, known_to, program_of}
use Rattle.translation.specs.Taken.{step_of}
use Rattle.agreement.specs.Machine.{Shown}
use Rattle.agreement.specs.Machine.Laws.{Showing}
use Rattle.agreement.specs.Agree.{receiver_of}
use Rattle.agreement.specs.Acts.{ActsFrom}
use Rattle.agreement.specs.Acts.Laws.{own-acts, own-sends-in}
use Rattle.agreement.specs.Order.{Rising, ToSend, Of, Among}

module _ (N : Narration) (p : ℕ) where
  -- ---- Rising
  rising-low : {low high : ℕ} {es : List Event} → low ≤ high → Rising N p high es → Rising N p low es
  rising-low l Rising.end = Rising.end
  rising-low l (Rising.new h) = Rising.new (rising-low l h)
  rising-low l (Rising.sends m e h) = Rising.sends (le_trans l m) e h
  rising-low l (Rising.receives m w e h) = Rising.receives (le_trans l m) w e h
  rising-low l (Rising.checks h) = Rising.checks (rising-low l h)
  rising-low l (Rising.opens h) = Rising.opens (rising-low l h)

  quiet-rising : {low : ℕ} {es fs : List Event} → Quiet es → Rising N p low fs → Rising N p low (es ++ fs)
  quiet-rising Quiet.nil k = k
  quiet-rising (Quiet.checks h) k = Rising.checks (quiet-rising h k)
  quiet-rising (Quiet.opens h) k = Rising.opens (quiet-rising h k)

  news-rising : {low : ℕ} (rs : List ℕ) (es fs : List Event) → Rising N p low (es ++ fs) → Rising N p low ((map Event.new rs ++ es) ++ fs)
  news-rising [] es fs h = h
  news-rising (r ∷ rs) es fs h = Rising.new (news-rising rs es fs h)

  -- what follows a party's part rises from any step on
  walk-rising : {low : ℕ} {acts : List Act} (fs : List Event) → ((high : ℕ) → Rising N p high fs) → ActsFrom N p low acts
      → (δ : Dictionary) (n : ℕ) → Rising N p low ((walk acts δ n).events ++ fs)
  unfolding walk act receiver_of
  walk-rising fs h ActsFrom.nil δ n = h _
  walk-rising {low} fs h (ActsFrom.sends {s = s} {ts = ts} l w e r) δ n =
      let d = act (Act.sends s ts) δ n in
      let b = build_all s ts δ in
      subst (Rising N p low) (sym (append_assoc d.events _ fs))
      (news-rising b.made (Event.sends s b.images ∷ []) _ (Rising.sends l e (walk-rising fs h r d.dictionary (n + length d.given))))
  walk-rising {low} fs h (ActsFrom.receives {s = s} {ts = ts} l w e r) δ n =
      let d = act (Act.receives s ts) δ n in
      subst (Rising N p low) (sym (append_assoc d.events _ fs))
      (Rising.receives l w.within e (quiet-rising (receive_all-quiet s ts n δ _) (walk-rising fs h r d.dictionary (n + length d.given))))

  pub program-rising : Rising N p 0 (program_of N p)
  unfolding program_of program walked
  program-rising = walk-rising _ (λ high. Rising.end) (own-acts N p) (start (known_to N p)) 0

  -- what is left when an event was done
  pub rising-did : {low : ℕ} {e : Event} {es : List Event} {o : Shown} → Rising N p low (e ∷ es) → Showing e o → Rising N p 0 es
  rising-did Rising.end x = elim x [ ]
  rising-did (Rising.receives l w e h) x = elim x [ ]
  rising-did (Rising.new h) Showing.new = rising-low zero-le h
  rising-did (Rising.sends l e h) Showing.sends = rising-low zero-le h
  rising-did (Rising.checks h) Showing.checks = rising-low zero-le h
  rising-did (Rising.opens h) Showing.opens = rising-low zero-le h

  pub rising-took : {low s f n : ℕ} {es : List Event} → Rising N p low (Event.receives s f n ∷ es) → Rising N p 0 es
  rising-took (Rising.receives l w e h) = rising-low zero-le h

-- ---- Holds
among_none : {s : ℕ} → Among s [] → ⊥
among_none h = elim h [ ]

pub rising-among : {N : Narration} {p low s : ℕ} {es : List Event} → Rising N p low es → Among s es → low ≤ s
rising-among Rising.end (Among.here x) = elim x [ ]
rising-among (Rising.new h) (Among.here x) = elim x [ ]
rising-among (Rising.checks h) (Among.here x) = elim x [ ]
rising-among (Rising.opens h) (Among.here x) = elim x [ ]
rising-among Rising.end (Among.later k) = absurd (among_none k)
rising-among (Rising.new h) (Among.later k) = rising-among h k
rising-among (Rising.sends l e h) (Among.here Of.sends) = l
rising-among (Rising.sends l e h) (Among.later k) = le_trans l (le_trans (le-suc _) (rising-among h k))
rising-among (Rising.receives l w e h) (Among.here Of.receives) = l
rising-among (Rising.receives l w e h) (Among.later k) = le_trans l (le_trans (le-suc _) (rising-among h k))
rising-among (Rising.checks h) (Among.later k) = rising-among h k
rising-among (Rising.opens h) (Among.later k) = rising-among h k

-- before an event of a step no other is of that step
pub rising-once : {N : Narration} {p low s : ℕ} {e : Event} {es : List Event} → Rising N p low (e ∷ es) → Among s es → Of s e → ⊥
rising-once Rising.end k x = elim k [ ]
rising-once (Rising.new h) k x = elim x [ ]
rising-once (Rising.checks h) k x = elim x [ ]
rising-once (Rising.opens h) k x = elim x [ ]
rising-once (Rising.sends l e h) k Of.sends = let a = rising-among h k in absurd (omega arith)
rising-once (Rising.receives l w e h) k Of.receives = let a = rising-among h k in absurd (omega arith)

-- what is left behind an event that is not the last
pub rising-left : {N : Narration} {p low s : ℕ} {e : Event} {es : List Event} → Rising N p low (e ∷ es) → Among s es → Rising N p 0 es
rising-left Rising.end k = absurd (among_none k)
rising-left {N} {p} (Rising.new h) k = rising-low N p zero-le h
rising-left {N} {p} (Rising.sends l e h) k = rising-low N p zero-le h
rising-left {N} {p} (Rising.receives l w e h) k = rising-low N p zero-le h
rising-left {N} {p} (Rising.checks h) k = rising-low N p zero-le h
rising-left {N} {p} (Rising.opens h) k = rising-low N p zero-le h

-- a SEND is of a step that the party sends
pub rising-sender : {N : Narration} {p low s : ℕ} {is : Images} {es : List Event} → Rising N p low (Event.sends s is ∷ es) → (step_of N s).sender ≡ p
rising-sender (Rising.sends l e h) = e

-- ---- Sends
pub to_send-none : {s : ℕ} → ToSend s [] → ⊥
to_send-none h = elim h [ ]

pub to_send-among : {s : ℕ} {es : List Event} → ToSend s es → Among s es
to_send-among ToSend.here = Among.here Of.sends
to_send-among (ToSend.later h) = Among.later (to_send-among h)

pub rising-to_send : {N : Narration} {p low s : ℕ} {es : List Event} → Rising N p low es → ToSend s es → low ≤ s
rising-to_send h k = rising-among h (to_send-among k)

pub to_send-did : {s : ℕ} {e : Event} {es : List Event} {o : Shown} → ToSend s (e ∷ es) → Showing e o
    → ToSend s es ⊎ ((ts : Terms) × (o ≡ Shown.sent s ts))
to_send-did ToSend.here (Showing.sends {ts = ts}) = inr (ts, refl)
to_send-did (ToSend.later h) w = inl h

pub to_send-took : {s a f n : ℕ} {es : List Event} → ToSend s (Event.receives a f n ∷ es) → ToSend s es
to_send-took (ToSend.later h) = h

to_send-left : {s : ℕ} {es : List Event} (fs : List Event) → ToSend s es → ToSend s (es ++ fs)
to_send-left fs ToSend.here = ToSend.here
to_send-left fs (ToSend.later h) = ToSend.later (to_send-left fs h)

to_send-right : {s : ℕ} (es : List Event) {fs : List Event} → ToSend s fs → ToSend s (es ++ fs)
to_send-right [] h = h
to_send-right (e ∷ es) h = ToSend.later (to_send-right es h)

walk-to_send : {s : ℕ} {ts : Terms} (acts : List Act) (δ : Dictionary) (n : ℕ) → Memᴰ (Act.sends s ts) acts → ToSend s (walk acts δ n).events
unfolding walk act
walk-to_send [] δ n m = absurd (Memᴰ.not-nil m)
walk-to_send {s} {ts} (a ∷ acts) δ n m =
    let d = act a δ n in
    let rest = walk-to_send acts d.dictionary (n + length d.given) in
    ⊎_elim (λ e. to_send-left _ (subst (λ b. ToSend s (act b δ n).events) e (to_send-right (map Event.new (build_all s ts δ).made) ToSend.here)))
    (λ k. to_send-right d.events (rest k)) (Memᴰ.cases_cons m)

pub program-to_send : (N : Narration) (s : ℕ) → s < length N.says → ToSend s (program_of N (step_of N s).sender)
unfolding program_of program walked
program-to_send N s l = to_send-left _ (walk-to_send _ _ 0 (own-sends-in N (step_of N s).sender s l refl))
