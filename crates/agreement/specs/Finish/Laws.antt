-- Every run can finish, and a fair one does. Assumes nothing.
use Prim.Native.Nat.{ℕ, zero, suc, ◌+◌, ◌-◌, ◌≤◌, ◌<◌}
use Rattle.std.proofs.Common.{add-zero, add-suc, arith, sym, ◌∙◌, subst}
use Rattle.std.proofs.Math.Decide.{dec_lt}
use Rattle.std.specs.Prelude.{List, [], ◌∷◌, ◌⊎◌, ◌≡◌, refl}
use Rattle.std.proofs.Math.Logic.{inl, inr}
use Rattle.std.proofs.Math.Option.{some}
use Rattle.std.proofs.Math.Path.{ap}
use Rattle.terms.specs.Term.{Terms}
use Rattle.book.specs.Layout.{parties}
use Rattle.translation.specs.Receive.{Event}
use Rattle.translation.specs.Narration.{Narration, narration, known_to}
use Rattle.translation.specs.Outcome.{outcome}
use Rattle.translation.specs.Spelled.{spelled, Programs}
use Rattle.translation.proofs.Spelled.Laws.{accepted-programs}
use Rattle.agreement.specs.Machine.{System, Move, move, begin, started, Reach}
use Rattle.agreement.specs.Agree.{receiver_of, Does, CanMove}
use Rattle.agreement.specs.Flow.Laws.{does-handed}
use Rattle.agreement.specs.Start.{PlayableAmong, reached-going, reached-flow, reached-agree, accepted-playable}
use Rattle.agreement.specs.Finish.{to_do, to_do_all, Lowers, EachDoes, AllAtEnd, Finishes, state, Fair, rounds, Ends}
use Rattle.agreement.specs.Finish.Rounds.{round-fair}
use Rattle.agreement.specs.Finish.Counts.{sum-some, end-to_do, move-lowers, does-changes, none_left}

module _ (N : Narration) (Q : ℕ) (programs : ℕ → List Event) (v : PlayableAmong N Q) (w : Programs N Q programs) where
  abbrev Reached : System → Type 0
  Reached S = Reach (receiver_of N) (begin (known_to N) programs) S

  -- ---- while something is left to do, a move gets something done: a party's own, or the handing over of a step
  data Live (S : System) : Move → Type 0 where
    own : {p : ℕ} → p < Q → Live S (Move.own p)
    delivery : {s : ℕ} {ts : Terms} → S.sent s ≡ some ts → Live S (Move.delivery s)

  record Doing (S : System) : Type 0 where
    pub who : ℕ
    pub by : Move
    pub does : Does N S by who
    pub live : Live S by

  doing : {S : System} → Reached S → 0 < to_do_all Q S → Doing S
  unfolding to_do_all
  doing {S} r h =
      let z = sum-some (λ q. to_do (S.party q).left) Q h in
      let k = z.2 in
      let a = (reached-agree N Q programs v w r).moves z.0 z.1 (λ e. let c = end-to_do e in absurd (omega arith)) in
      go a.who a.within a.can
    where
      go : (p : ℕ) → p < Q → CanMove N S p → Doing S
      go p l (CanMove.by_own d) = record { who = p; by = Move.own p; does = d; live = Live.own l }
      go p l (CanMove.by_delivery s d) = record { who = p; by = Move.delivery s; does = d; live = Live.delivery (does-handed N S s p d).sent }

  lowers : {S : System} → Reached S → (m : Move) → Lowers N Q S m
  lowers {S} r = move-lowers N Q S (reached-going N Q programs v w r) (reached-flow N Q programs v w r)

  all-ended : {S : System} → Reached S → to_do_all Q S ≡ 0 → AllAtEnd Q S
  all-ended {S} r = none_left N Q S (reached-going N Q programs v w r) (reached-flow N Q programs v w r)

  changes : {S : System} → Reached S → (d : Doing S) → move (receiver_of N) d.by S ≡ S → ⊥
  changes {S} r d = does-changes N Q S (reached-going N Q programs v w r) (reached-flow N Q programs v w r) d.does

  -- ---- a run to the end
  run : (k : ℕ) {S : System} → Reached S → to_do_all Q S ≡ k → Finishes N Q S
  run zero {S} r e = record { moves = []; last = S; each_does = EachDoes.stop; many = sym e; ended = all-ended r e }
  run (suc k) {S} r e = go (lowers r d.by) (λ z. run k (Reach.after d.by r) z)
    where
      d : Doing S
      d = doing r (omega arith)

      later : System
      later = move (receiver_of N) d.by S

      go : Lowers N Q S d.by → (to_do_all Q later ≡ k → Finishes N Q later) → Finishes N Q S
      go (inl z) again = absurd (changes r d z)
      go (inr z) again =
          let f = again (omega arith) in
          let n = f.many in
          record { moves = d.by ∷ f.moves; last = f.last; each_does = EachDoes.more d.who d.does f.each_does; many = omega arith; ended = f.ended }

  -- ---- a fair run
  module _ (ms : ℕ → Move) (S : System) (fair : Fair N Q ms S) (r : Reached S) where
    abbrev state_at : ℕ → System
    state_at n = state (receiver_of N) ms S n

    reached : (n : ℕ) → Reached (state_at n)
    unfolding state
    reached zero = r
    reached (suc n) = Reach.after (ms n) (reached n)

    abbrev Lower : ℕ → Type 0
    Lower n = (k : ℕ) × (to_do_all Q (state_at k) < to_do_all Q (state_at n))

    -- for d moves nothing changes, or something gets done
    meanwhile : (d n : ℕ) → Lower n ⊎ (state_at (n + d) ≡ state_at n)
    unfolding state
    meanwhile zero n = inr (ap state_at (add-zero n))
    meanwhile (suc d) n = go (meanwhile d n) (lowers (reached (n + d)) (ms (n + d)))
      where
        go : Lower n ⊎ (state_at (n + d) ≡ state_at n) → Lowers N Q (state_at (n + d)) (ms (n + d)) → Lower n ⊎ (state_at (n + suc d) ≡ state_at n)
        go (inl l) m = inl l
        go (inr e) (inl z) = inr (ap state_at (add-suc n d) ∙ (unfold state in z) ∙ e)
        go (inr e) (inr z) = inl (suc (n + d), unfold state in (let y = ap (to_do_all Q) e in omega arith))

    -- a move that could get something done is made
    comes : (n : ℕ) {m : Move} → Live (state_at n) m → (k : ℕ) × (n ≤ k) × (ms k ≡ m)
    comes n (Live.own {p = p} l) = fair.parties p n l
    comes n (Live.delivery {s = s} {ts = ts} e) = fair.carrier s n ts e

    lower : (n : ℕ) → 0 < to_do_all Q (state_at n) → Lower n
    lower n h = go (meanwhile (c.0 - n) n)
      where
        d : Doing (state_at n)
        d = doing (reached n) h

        c : (k : ℕ) × (n ≤ k) × (ms k ≡ d.by)
        c = comes n d.live

        last : state_at c.0 ≡ state_at n → Lowers N Q (state_at c.0) (ms c.0) → Lower n
        last e (inl z) =
            absurd (changes (reached n) d (subst (λ m. move (receiver_of N) m (state_at n) ≡ state_at n) c.2
            (subst (λ S. move (receiver_of N) (ms c.0) S ≡ S) e z)))
        last e (inr z) = (suc c.0, unfold state in (let y = ap (to_do_all Q) e in omega arith))

        go : Lower n ⊎ (state_at (n + (c.0 - n)) ≡ state_at n) → Lower n
        go (inl l) = l
        go (inr e) = let k = c.1 in let y : n + (c.0 - n) ≡ c.0 = omega arith in last (ap state_at (sym y) ∙ e) (lowers (reached c.0) (ms c.0))

    ends : (k n : ℕ) → to_do_all Q (state_at n) < k → Ends N Q ms S
    ends zero n h = absurd (omega arith)
    ends (suc k) n h = go (dec_lt 0 (to_do_all Q (state_at n))) (λ j l. ends k j l)
      where
        go : Dec (0 < to_do_all Q (state_at n)) → ((j : ℕ) → to_do_all Q (state_at j) < k → Ends N Q ms S) → Ends N Q ms S
        go (yes l) again = let z = lower n l in let y = z.1 in again z.0 (omega arith)
        go (no l) again = record { time = n; ended = all-ended (reached n) (omega arith) }

-- ---- every run of an accepted book's programs
module _ (b out : List ℕ) (accepted : (outcome b out).says.number ≡ 0) {S : System}
    (r : Reach (receiver_of (narration b)) (started b (outcome b out).lent) S) where
  again : Reached (narration b) (parties b) (spelled b (outcome b out).lent) (accepted-playable b out accepted) (accepted-programs b out accepted) S
  unfolding started
  again = r

  -- each move changes nothing, or lowers the number of events left to do by one
  pub each-move : (m : Move) → Lowers (narration b) (parties b) S m
  each-move = lowers (narration b) (parties b) (spelled b (outcome b out).lent) (accepted-playable b out accepted) (accepted-programs b out accepted) again

  -- moves that get something done, as many as that number, bring all parties to END
  pub finishes : Finishes (narration b) (parties b) S
  finishes =
      run (narration b) (parties b) (spelled b (outcome b out).lent) (accepted-playable b out accepted) (accepted-programs b out accepted)
      (to_do_all (parties b) S) again refl

  -- "if everything sent is handed over and every party keeps moving, all reach END"
  pub fair-ends : (ms : ℕ → Move) → Fair (narration b) (parties b) ms S → Ends (narration b) (parties b) ms S
  fair-ends ms f =
      ends (narration b) (parties b) (spelled b (outcome b out).lent) (accepted-playable b out accepted) (accepted-programs b out accepted) ms S f again
      (suc (to_do_all (parties b) S)) 0 (unfold state in omega arith)

  -- so do the moves that go round and round
  pub round-ends : Ends (narration b) (parties b) rounds S
  round-ends = fair-ends rounds (round-fair (narration b) (parties b) S)
