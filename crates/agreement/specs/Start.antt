-- Laws: demand 3 for a playable narration, whose parties start with their programs. Assumes nothing.
use Rattle.std.specs.Prelude.{ℕ, ◌<◌, ◌≡◌, length}
use Rattle.std.proofs.Math.Decide.{dec_lt}
use Rattle.std.proofs.Common.{arith, sym}
use mathlib.Core.List.Memᴰ
use mathlib.Core.List.{List, [], Memᴰ}
use Rattle.std.proofs.Math.Logic.{inl}
use Rattle.std.proofs.Math.Option.{some-ne-none}
use Rattle.std.proofs.Math.Path.{refl, subst}
use Rattle.words.specs.Run.{NoRepeat}
use Rattle.book.specs.Layout.{parties, steps}
use Rattle.translation.specs.Receive.{Event}
use Rattle.translation.specs.Program.{Step, acts_of}
use Rattle.translation.specs.Narration.{Narration, step_at, narration, known_to, program_of}
use Rattle.translation.specs.Taken.{Nobodys, step_of, Playable}
use Rattle.translation.specs.Taken.Laws.{steps-length, step_is}
use Rattle.translation.specs.Spelled.{end_alone, Programs}
use Rattle.translation.proofs.Spelled.Laws.{accepted-plays}
use Rattle.translation.specs.Outcome.{outcome, Plays}
use Rattle.agreement.specs.Machine.{System, Move, begin, Reach}
use Rattle.agreement.specs.Agree.{meant, receiver_of, AtEnd, Agree}
use Rattle.agreement.specs.Sound.{sight_of}
use Rattle.agreement.specs.Safe.{Safe}
use Rattle.agreement.specs.Safe.Laws.{program-safe}
use Rattle.agreement.specs.Going.{Going}
use Rattle.agreement.specs.Going.Laws.{reach-going, going-bound, going-faithful}
use Rattle.agreement.specs.Acts.Laws.{own-acts, acts-narrated}
use Rattle.agreement.specs.Order.{Rising, ToSend}
use Rattle.agreement.specs.Order.Laws.{program-rising, program-to_send}
use Rattle.agreement.specs.Flow.{Flow}
use Rattle.agreement.specs.Flow.Laws.{reach-flow}
use Rattle.agreement.specs.Progress.{progress}
use Rattle.agreement.specs.Once.{copy-once}
use Rattle.agreement.specs.News.{news}
use Rattle.agreement.specs.News.Laws.{program-free, program-once, program-apart}
use Rattle.agreement.specs.Log.{Logged}
use Rattle.agreement.specs.Log.Laws.{reach-logged}

-- a narration among the first Q parties that refusals 10 and 13 let pass
pub record PlayableAmong (N : Narration) (Q : ℕ) : Type 0 where
  pub senders : (s : ℕ) → s < length N.says → (step_of N s).sender < Q
  pub playable : (s : ℕ) → s < length N.says → Playable N s

module _ (N : Narration) (Q : ℕ) (programs : ℕ → List Event) (v : PlayableAmong N Q) (w : Programs N Q programs) where
  abbrev pub starting : System
  starting = begin (known_to N) programs

  each : (A : ℕ → List Event → Type 0) → ((p : ℕ) → A p (program_of N p)) → ((p : ℕ) → A p end_alone) → (p : ℕ) → A p (programs p)
  each A f g p = elim (dec_lt p Q) [ yes l ↦ subst (A p) (sym (w.party p l)) (f p) | no l ↦ subst (A p) (sym (w.nobody p (omega arith))) (g p) ]

  start-going : Going N starting
  unfolding begin sight_of
  start-going =
      record {
        parties = λ p. record {
          unhalted = refl;
          holding = known_to N p;
          bound = [];
          sees = refl;
          safe = each (λ q es. Safe N (meant N q) es (known_to N q) []) (λ q. safe q) (λ q. (tt, (meant N q, refl))) p;
        };
        messages = λ s ts e. absurd (some-ne-none ts (sym e));
      }
    where
      safe : (q : ℕ) → Safe N (meant N q) (program_of N q) (known_to N q) []
      safe q = unfold program_of meant in program-safe N _ (known_to N q) (acts_of q 0 N.says) (acts-narrated N q (own-acts N q)) refl

  start-flow : Flow N Q starting
  unfolding begin
  start-flow =
      record {
        rising = each (λ p es. Rising N p 0 es) (λ p. program-rising N p) (λ p. Rising.end);
        sends = λ s l. inl (subst (ToSend s) (sym (w.party _ (v.senders s l))) (program-to_send N s l));
        nobody = λ p l. subst AtEnd (sym (w.nobody p l)) AtEnd.end;
      }

  start-logged : Logged (Nobodys N 0) starting
  unfolding begin news
  start-logged =
      record {
        once = tt;
        fresh = λ r m. absurd (Memᴰ.not-nil m);
        not_yet = λ p r m n. Memᴰ.not-nil n;
        fresh_later = λ p r m. program-free N v.playable p r (its p r m);
        once_later = each (λ p es. NoRepeat (news es)) (λ p. program-once N v.playable p) (λ p. tt);
        apart = λ p q r m n. program-apart N v.playable p q r (its p r m) (its q r n);
      }
    where
      its : (p r : ℕ) → Memᴰ r (news (programs p)) → Memᴰ r (news (program_of N p))
      its p r =
          each (λ q es. Memᴰ r (news es) → Memᴰ r (news (program_of N q))) (λ q m. m)
          (λ q m. absurd (Memᴰ.not-nil (unfold news in m))) p

  module _ {S : System} (r : Reach (receiver_of N) starting S) where
    pub reached-going : Going N S
    reached-going = reach-going N r start-going

    pub reached-flow : Flow N Q S
    reached-flow = reach-flow N Q r start-flow

    pub reached-agree : Agree N Q S
    reached-agree =
        let l = reach-logged (Nobodys N 0) r start-logged in
        record {
          bound = going-bound N S reached-going;
          faithful = going-faithful N S reached-going;
          made = record { once = l.once; untaken = l.fresh };
          moves = progress N Q v.senders S reached-going reached-flow;
          taken_once = λ s. copy-once N s S (reached-flow.rising (receiver_of N s))
              ((reach-going N (Reach.after (Move.delivery s) r) start-going).parties (receiver_of N s)).unhalted;
        }

-- ---- a book that plays, and one whose outcome is a listing
pub plays-playable : (b : List ℕ) → Plays b → PlayableAmong (narration b) (parties b)
unfolding step_at
plays-playable b plays =
    let e = steps-length b in
    record {
      senders = λ s l.
          let k : s < steps b = omega arith in
          subst (λ (a : Step). a.sender < parties b) (sym (step_is b s k)) (plays.valid.steps_keep s k).sends;
      playable = λ s l. plays.playable s (omega arith);
    }

pub accepted-playable : (b out : List ℕ) → (outcome b out).says.number ≡ 0 → PlayableAmong (narration b) (parties b)
accepted-playable b out accepted = plays-playable b (accepted-plays b out accepted)
