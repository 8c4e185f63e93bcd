-- The clauses of demand 3 are not empty: each fails for a damaged program, computed. Document 01, 'Four ways to a plausible wrong
-- listing': each of them breaks a clause; and so do a step that one party skips, and one received twice. (That idle translators are caught by demand 2 is in
-- the translation's Idle.)
-- A fresh atom in place of a missing one is made in two ways, since NEW makes the atom of its row. Of the missing atom's row, it is found
-- by clause (c), which looks at what is made, and not by the receiver's comparison; of a row that is nobody's, by that, so by clause (b).
use Rattle.std.specs.Prelude.{ℕ, zero, suc, ◌<◌, true, List, [], ◌∷◌, ◌≡◌, refl}
use Rattle.std.proofs.Common.{arith, true≢false, ⊎_elim, sym, ap, subst}
use mathlib.Core.List.Memᴰ
use Rattle.std.proofs.Math.Option.{some, some-ne-none}
use Rattle.terms.specs.Term.{Term, Terms, Occurs}
use Rattle.terms.specs.Image.{Image, Images}
use Rattle.translation.specs.Receive.{Event}
use Rattle.translation.specs.Program.{Step}
use Rattle.translation.specs.Narration.{Narration, known_to, program_of}
use Rattle.translation.specs.Taken.{Taken, Nobodys, unplayable}
use Rattle.translation.specs.Taken.Laws.{nobodys-exact}
use Rattle.agreement.specs.Change.{change}
use Rattle.agreement.specs.Machine.{Shown, Effect, effect, System, Move, begin, Reach}
use Rattle.agreement.specs.Sequence.{sequence, sequence-reach}
use Rattle.agreement.specs.Agree.{receiver_of, Bound, Faithful, MadeOnce, CanMove, Moves, Dropped, TakesCopy, TakenOnce}
use Rattle.agreement.specs.Flow.Laws.{does-handed}
use Rattle.agreement.specs.Computing.{computes}

-- the programs of a narration reach a state in which the clause fails
pub record Breaks (N : Narration) (programs : ℕ → List Event) (Clause : System → Type 0) : Type 0 where
  pub state : System
  pub reached : Reach (receiver_of N) (begin (known_to N) programs) state
  pub fails : Clause state → ⊥

-- the state after some moves
unfoldable pub state_after : Narration → (ℕ → List Event) → List Move → System
state_after N programs ms = sequence (receiver_of N) ms (begin (known_to N) programs)

-- ---- the narrations: A, B and C are parties 0, 1 and 2, with the names of rows 0, 1 and 2; other atoms from row 3 on
abbrev pub party_name : ℕ → Term
party_name p = Term.atom p

abbrev pub key : Term
key = Term.atom 3

abbrev pub nonce : Term
nonce = Term.atom 4

abbrev pub token : Term
token = Term.atom 5

abbrev pub one_term : Term → Terms
one_term t = Terms.cons t Terms.nil

abbrev pub two_terms : Term → Term → Terms
two_terms t u = Terms.cons t (one_term u)

abbrev pub step_from : ℕ → ℕ → Terms → Step
step_from p q ts = record { sender = p; receiver = q; messages = ts }

-- one party's program put in place of another
abbrev pub instead : ℕ → List Event → (ℕ → List Event) → ℕ → List Event
instead p es programs = change programs p es

-- ---- (a) "Comparing row against row where duplicates are let in": B knows the key of both ciphers, but the first has it as another row,
-- so that B finds that it can't open that one, and stores it. From then on its placeholders are off.
abbrev pub made_key : Term
made_key = Term.operation 7 (one_term key)

unfoldable pub duplicates : Narration
duplicates =
    record {
      names = party_name 0 ∷ party_name 1 ∷ [];
      knows = (made_key ∷ nonce ∷ []) ∷ (made_key ∷ []) ∷ [];
      makes = true ∷ true ∷ [];
      says = step_from 0 1 (two_terms (Term.cipher made_key (one_term nonce)) (Term.cipher made_key (one_term token))) ∷ [];
    }

pub duplicates-right : program_of duplicates 1
    ≡ Event.receives 0 0 2 ∷ Event.opens 0 2 1 (Image.itself made_key)
    ∷ Event.opens 1 3 1 (Image.itself made_key) ∷ Event.ends ((nonce, 2, 0) ∷ (token, 3, 0) ∷ []) ∷ []
unfolding computes duplicates
duplicates-right = refl

unfoldable pub row_by_row : ℕ → List Event
row_by_row =
    instead 1
    (Event.receives 0 0 2 ∷ Event.opens 1 2 1 (Image.itself made_key)
    ∷ Event.ends ((Term.cipher made_key (one_term nonce), 0, 0) ∷ (token, 2, 0) ∷ []) ∷ [])
    (program_of duplicates)

pub row-by-row-breaks : Breaks duplicates row_by_row (Bound duplicates)
unfolding computes state_after duplicates row_by_row
row-by-row-breaks =
    let ms : List Move = Move.own 0 ∷ Move.own 0 ∷ Move.delivery 0 ∷ Move.own 1 ∷ [] in
    record {
      state = state_after duplicates row_by_row ms;
      reached = sequence-reach (receiver_of duplicates) _ ms Reach.start;
      fails = λ h. (let e : some nonce ≡ some token = h 1 2 token refl in let z : ◌≡◌ {A = ℕ} 4 5 = cc in omega arith);
    }

-- ---- (b) "Opening with the cipher's own key where its partner is asked": B halts.
unfoldable pub sealed : Narration
sealed =
    record {
      names = party_name 0 ∷ party_name 1 ∷ [];
      knows = (Term.public key ∷ []) ∷ (key ∷ []) ∷ [];
      makes = true ∷ true ∷ [];
      says = step_from 0 1 (one_term (Term.cipher (Term.public key) (one_term nonce))) ∷ [];
    }

pub sealed-right : program_of sealed 1
    ≡ Event.receives 0 0 1 ∷ Event.opens 0 1 1 (Image.private (Image.itself key)) ∷ Event.ends ((nonce, 1, 0) ∷ []) ∷ []
unfolding computes sealed
sealed-right = refl

unfoldable pub own_key : ℕ → List Event
own_key =
    instead 1 (Event.receives 0 0 1 ∷ Event.opens 0 1 1 (Image.public (Image.itself key)) ∷ Event.ends ((nonce, 1, 0) ∷ []) ∷ []) (program_of sealed)

pub own-key-breaks : Breaks sealed own_key (Faithful sealed)
unfolding computes state_after sealed own_key
own-key-breaks =
    let ms : List Move = Move.own 0 ∷ Move.own 0 ∷ Move.delivery 0 ∷ Move.own 1 ∷ [] in
    record {
      state = state_after sealed own_key ms;
      reached = sequence-reach (receiver_of sealed) _ ms Reach.start;
      fails = λ h. true≢false (h.unhalted 1);
    }

-- ---- (c) "Making a fresh atom whenever one is missing": refusal 10 is due, and without it B makes an atom that A knows at the start.
unfoldable pub missing : Narration
missing =
    record {
      names = party_name 0 ∷ party_name 1 ∷ [];
      knows = (nonce ∷ []) ∷ [] ∷ [];
      makes = true ∷ true ∷ [];
      says = step_from 1 0 (one_term nonce) ∷ [];
    }

pub missing-refused : unplayable missing 0 ≡ true
unfolding computes missing
missing-refused = refl

pub fresh-breaks : Breaks missing (program_of missing) (MadeOnce missing)
unfolding computes state_after missing
fresh-breaks =
    let ms : List Move = Move.own 1 ∷ [] in
    record {
      state = state_after missing (program_of missing) ms;
      reached = sequence-reach (receiver_of missing) _ ms Reach.start;
      fails = λ h. h.untaken 4 (Memᴰ.head refl)
          (Taken.known {k = nonce ∷ []} {t = nonce} (Memᴰ.head refl) (Memᴰ.head refl) Occurs.atom);
    }

-- when A has taken the message and is about to compare it, its comparison succeeds
abbrev pub about_to_compare : (ℕ → List Event) → System
about_to_compare programs = state_after missing programs (Move.own 1 ∷ Move.own 1 ∷ Move.delivery 0 ∷ [])

pub fresh-compares :
    let v = ((about_to_compare (program_of missing)).party 0).sight in
    effect (Event.checks 0 (Image.itself nonce)) v ≡ Effect.does Shown.nothing v
unfolding computes state_after missing
fresh-compares = refl

-- ---- (b) the same, with an atom that is nobody's: B makes that and sends it for the one that it lacks. Nothing is wrong with what is made,
-- and A's comparison fails.
pub missing-right : program_of missing 0
    ≡ Event.receives 0 0 1 ∷ Event.checks 0 (Image.itself nonce) ∷ Event.ends [] ∷ []
unfolding computes missing
missing-right = refl

unfoldable pub other_atom : ℕ → List Event
other_atom = instead 1 (Event.new 5 ∷ Event.sends 0 (Images.cons (Image.itself token) Images.nil) ∷ Event.ends [] ∷ []) (program_of missing)

unfoldable pub comparing : System
unfolding computes state_after missing other_atom
comparing = about_to_compare other_atom

pub comparing-made : MadeOnce missing comparing
unfolding computes missing comparing
comparing-made =
    record {
      once = (Memᴰ.not-nil, tt);
      untaken = λ r m. ⊎_elim (λ e. subst (Nobodys missing 0) (sym e) ((nobodys-exact missing 0 5).0 refl)) (λ n. absurd (Memᴰ.not-nil n))
          (Memᴰ.cases_cons m);
    }

pub comparison-next : (comparing.party 0).left ≡ Event.checks 0 (Image.itself nonce) ∷ Event.ends [] ∷ []
unfolding comparing
comparison-next = refl

pub comparison-fails : effect (Event.checks 0 (Image.itself nonce)) (comparing.party 0).sight ≡ Effect.fails
unfolding computes comparing
comparison-fails = refl

pub other-atom-breaks : Breaks missing other_atom (Faithful missing)
unfolding comparing
other-atom-breaks =
    record {
      state = comparing;
      reached = sequence-reach (receiver_of missing) _ (Move.own 1 ∷ Move.own 1 ∷ Move.delivery 0 ∷ []) Reach.start;
      fails = λ h. h.succeeds 0 _ _ comparison-next comparison-fails;
    }

-- ---- (c) "Testing "taken" per party instead of over the whole book": C has never seen the atom that A made, and makes it again.
unfoldable pub unseen : Narration
unseen =
    record {
      names = party_name 0 ∷ party_name 1 ∷ party_name 2 ∷ [];
      knows = [] ∷ [] ∷ [] ∷ [];
      makes = true ∷ true ∷ true ∷ [];
      says = step_from 0 1 (one_term nonce) ∷ step_from 2 1 (one_term nonce) ∷ [];
    }

pub unseen-refused : unplayable unseen 1 ≡ true
unfolding computes unseen
unseen-refused = refl

pub per-party-breaks : Breaks unseen (program_of unseen) (MadeOnce unseen)
unfolding computes state_after unseen
per-party-breaks =
    let ms : List Move = Move.own 0 ∷ Move.own 2 ∷ [] in
    record {
      state = state_after unseen (program_of unseen) ms;
      reached = sequence-reach (receiver_of unseen) _ ms Reach.start;
      fails = λ h. h.once.0 (Memᴰ.head refl);
    }

-- ---- (d) a step skipped by one party: A is at END after the first step, and B waits for the second for ever. (Were it skipped by all
-- parties, demand 3 would hold, "with nothing left to fail"; demand 2 catches that.)
unfoldable pub two_steps : Narration
two_steps =
    record {
      names = party_name 0 ∷ party_name 1 ∷ [];
      knows = (nonce ∷ token ∷ []) ∷ [] ∷ [];
      makes = true ∷ true ∷ [];
      says = step_from 0 1 (one_term nonce) ∷ step_from 0 1 (one_term token) ∷ [];
    }

pub two_steps-right : program_of two_steps 0
    ≡ Event.sends 0 (Images.cons (Image.itself nonce) Images.nil) ∷ Event.sends 1 (Images.cons (Image.itself token) Images.nil) ∷ Event.ends [] ∷ []
unfolding computes two_steps
two_steps-right = refl

unfoldable pub skipping : ℕ → List Event
skipping = instead 0 (Event.sends 0 (Images.cons (Image.itself nonce) Images.nil) ∷ Event.ends [] ∷ []) (program_of two_steps)

unfoldable pub stuck : System
unfolding computes state_after two_steps skipping
stuck = state_after two_steps skipping (Move.own 0 ∷ Move.delivery 0 ∷ [])

no_move : (p : ℕ) → p < 2 → CanMove two_steps stuck p → ⊥
unfolding stuck
no_move zero l (CanMove.by_own d) = let z : ◌≡◌ {A = ℕ} 1 2 = d.one_more in omega arith
no_move zero l (CanMove.by_delivery s d) =
    let t = does-handed two_steps stuck s 0 d in
    let w : Event.ends [] ∷ [] ≡ Event.receives s t.first t.many ∷ t.rest = t.waits in
    let z : ◌≡◌ {A = ℕ} 0 1 = cc in
    omega arith
no_move (suc zero) l (CanMove.by_own d) = let z : ◌≡◌ {A = ℕ} 1 2 = d.one_more in omega arith
no_move (suc zero) l (CanMove.by_delivery s d) =
    let t = does-handed two_steps stuck s 1 d in
    let w : Event.receives 1 1 1 ∷ Event.ends ((nonce, 0, 0) ∷ (token, 1, 1) ∷ []) ∷ [] ≡ Event.receives s t.first t.many ∷ t.rest = t.waits in
    let e : s ≡ 1 = cc in
    some-ne-none t.messages (sym (subst (λ n. stuck.sent n ≡ some t.messages) e t.sent))
no_move (suc (suc p)) l c = absurd (omega arith)

pub skipping-breaks : Breaks two_steps skipping (Moves two_steps 2)
unfolding stuck
skipping-breaks =
    record {
      state = stuck;
      reached = sequence-reach (receiver_of two_steps) _ (Move.own 0 ∷ Move.delivery 0 ∷ []) Reach.start;
      fails = λ h. (let z = h 1 (omega arith) (λ e. elim e [ ]) in no_move z.who z.within z.can);
    }

-- ---- (e) a step received twice: B waits for the first step again behind its RECEIVE, and takes a second copy of it.
unfoldable pub receiving_twice : ℕ → List Event
receiving_twice =
    instead 1
    (Event.receives 0 0 1 ∷ Event.receives 0 1 1 ∷ Event.receives 1 2 1 ∷ Event.ends ((nonce, 0, 0) ∷ (token, 2, 1) ∷ []) ∷ [])
    (program_of two_steps)

unfoldable pub sent_once : System
unfolding computes state_after two_steps receiving_twice
sent_once = state_after two_steps receiving_twice (Move.own 0 ∷ [])

first_taken : Dropped two_steps 0 sent_once → ⊥
unfolding sent_once
first_taken d = let z : ◌≡◌ {A = ℕ} 1 0 = ap (λ (S : System). (S.party 1).done) d in omega arith

second-taken : TakesCopy two_steps 0 sent_once → ⊥
unfolding sent_once
second-taken k = let z : ◌≡◌ {A = ℕ} 2 1 = ap (λ (S : System). (S.party 1).done) (k.none_later Reach.start) in omega arith

pub receiving-twice-breaks : Breaks two_steps receiving_twice (TakenOnce two_steps)
unfolding sent_once
receiving-twice-breaks =
    record {
      state = sent_once;
      reached = sequence-reach (receiver_of two_steps) _ (Move.own 0 ∷ []) Reach.start;
      fails = λ h. ⊎_elim first_taken second-taken (h 0);
    }
