-- The plain machine, over the events that the listing's words spell. Document 01, 'The rehearsal': "a plain machine over terms in
-- which a failed CHECK or OPEN halts its party"; "a party's own move at a RECEIVE does nothing, and there is one kind of move more, in
-- which the carrier hands over a copy of a sent step's messages, any number of times or never, and the receiver takes it if it waits
-- for that step; otherwise the copy is dropped."
-- Decided where the paper leaves it open. An image that names what the party lacks has no value, and an event that needs it fails;
-- so does a RECEIVE of another count of messages: a wrong program must not go on. A failed event halts its party, which does nothing
-- from then on. NEW makes the atom of its row, whoever has it already; that none does is for demand 3 to say, so what is made is
-- written down. A step sent again replaces what was sent. Nothing behind END is ever done.
use Rattle.std.specs.Prelude.{ℕ, suc, Bool, true, false, List, [], ◌∷◌, eqb}
use Rattle.std.proofs.Math.Option.{Option, none, some}
use Rattle.words.specs.Choice.{pick, choose, then}
use Rattle.terms.specs.Term.{Term, Terms, same, count, partner}
use Rattle.translation.specs.Receive.{Event}
use Rattle.translation.specs.Standing.{standing_at, if_waits}
use Rattle.translation.specs.Narration.{narration, known_to}
use Rattle.translation.specs.Spelled.{spelled}
use Rattle.agreement.specs.Change.{change}
use Rattle.agreement.specs.Sight.{Sight, value, value_all, binds, gains}
pub mod Laws

-- ---- what an event of a party's own does: it fails, or does nothing, or is done and changes what the party sees
-- what others can see of it: nothing, a step's messages, an atom made
pub data Shown : Type 0 where
  nothing : Shown
  sent : ℕ → Terms → Shown
  made : ℕ → Shown

pub data Effect : Type 0 where
  fails : Effect
  idles : Effect
  does : Shown → Sight → Effect

unfoldable pub send_effect : ℕ → Option Terms → Sight → Effect
send_effect s none v = Effect.fails
send_effect s (some ts) v = Effect.does (Shown.sent s ts) v

-- "A CHECK succeeds if both terms are equal"
unfoldable pub check_effect : Option Term → Option Term → Sight → Effect
check_effect none u v = Effect.fails
check_effect (some t) none v = Effect.fails
check_effect (some t) (some u) v = choose (same t u) (Effect.does Shown.nothing v) Effect.fails

-- "an OPEN succeeds if the term is a cipher with n contents whose key is the partner of the key image's term"
unfoldable pub opens_to : Term → ℕ → Term → Option Terms
opens_to (Term.atom r) n k = none
opens_to (Term.operation g ts) n k = none
opens_to (Term.cipher l ts) n k = pick (eqb n (count ts)) (choose (same l (partner k)) (some ts) none) none
opens_to (Term.public t) n k = none
opens_to (Term.private t) n k = none

unfoldable pub open_effect : ℕ → Option Terms → Sight → Effect
open_effect f none v = Effect.fails
open_effect f (some ts) v = Effect.does Shown.nothing (binds f ts v)

unfoldable pub effect : Event → Sight → Effect
effect (Event.new r) v = Effect.does (Shown.made r) (gains r v)
effect (Event.sends s is) v = send_effect s (value_all v is) v
effect (Event.receives s f n) v = Effect.idles
effect (Event.checks x i) v = check_effect (v.placeholders x) (value v i) v
effect (Event.opens x f n i) v = open_effect f (then (v.placeholders x) (λ t. then (value v i) (opens_to t n))) v
effect (Event.ends ps) v = Effect.idles

-- ---- a party, with the events that it has left, and how many it has done, END not counted
pub record Party : Type 0 where
  pub halted : Bool
  pub left : List Event
  pub sight : Sight
  pub done : ℕ

abbrev pub halts : Party → Party
halts P = record { halted = true; left = P.left; sight = P.sight; done = P.done }

-- its next event is done, es are left, and it sees v
abbrev pub goes_on : Party → List Event → Sight → Party
goes_on P es v = record { halted = P.halted; left = es; sight = v; done = suc P.done }

-- a party after its own move, and what others can see of it
pub record Turn : Type 0 where
  pub party : Party
  pub shown : Shown

abbrev pub stays : Party → Turn
stays P = record { party = P; shown = Shown.nothing }

unfoldable pub takes : Effect → Party → List Event → Turn
takes Effect.fails P es = stays (halts P)
takes Effect.idles P es = stays P
takes (Effect.does s v) P es = record { party = goes_on P es v; shown = s }

unfoldable pub next : List Event → Party → Turn
next [] P = stays P
next (e ∷ es) P = takes (effect e P.sight) P es

unfoldable pub turn : Party → Turn
turn P = pick P.halted (stays P) (next P.left P)

-- it waits for n messages, for the placeholders from f on, and is given these: it takes them, and es are left; another count fails
abbrev pub gets : ℕ → ℕ → Terms → Party → List Event → Party
gets f n ts P es = pick (eqb n (count ts)) (goes_on P es (binds f ts P.sight)) (halts P)

-- a copy of step s's messages is handed over to a party that has the events left
unfoldable pub handed : List Event → ℕ → Terms → Party → Party
handed [] s ts P = P
handed (e ∷ es) s ts P = if_waits (standing_at e) (λ a f n. pick (eqb a s) (gets f n ts P es) P) P

unfoldable pub delivered : ℕ → Option Terms → Party → Party
delivered s none P = P
delivered s (some ts) P = pick P.halted P (handed P.left s ts P)

-- ---- all parties, by number; what was sent, by step; the atoms made
pub record System : Type 0 where
  pub party : ℕ → Party
  pub sent : ℕ → Option Terms
  pub made : List ℕ

unfoldable pub sent_after : Shown → (ℕ → Option Terms) → ℕ → Option Terms
sent_after Shown.nothing f = f
sent_after (Shown.sent s ts) f = change f s (some ts)
sent_after (Shown.made r) f = f

unfoldable pub made_after : Shown → List ℕ → List ℕ
made_after Shown.nothing l = l
made_after (Shown.sent s ts) l = l
made_after (Shown.made r) l = r ∷ l

pub data Move : Type 0 where
  -- a party's own
  own : ℕ → Move
  -- the carrier hands over a copy of a sent step's messages
  delivery : ℕ → Move

-- `receiver` gives each step's receiver
unfoldable pub move : (ℕ → ℕ) → Move → System → System
move receiver (Move.own p) S =
    let t = turn (S.party p) in
    record { party = change S.party p t.party; sent = sent_after t.shown S.sent; made = made_after t.shown S.made }
move receiver (Move.delivery s) S =
    record { party = change S.party (receiver s) (delivered s (S.sent s) (S.party (receiver s))); sent = S.sent; made = S.made }

-- ---- the start, from what each party knows and its program; and what any sequence of moves reaches
unfoldable pub begin : (ℕ → List Term) → (ℕ → List Event) → System
begin known programs =
    record {
      party = λ p. record { halted = false; left = programs p; sight = record { itself = known p; placeholders = λ x. none }; done = 0 };
      sent = λ s. none;
      made = [];
    }

-- of the book b and the words w of a listing: each party knows what the book says, and has the program that the words spell
unfoldable pub started : List ℕ → List ℕ → System
started b w = begin (known_to (narration b)) (spelled b w)

pub data Reach (receiver : ℕ → ℕ) (B : System) : System → Type 0 where
  start : Reach receiver B B
  after : {S : System} (m : Move) → Reach receiver B S → Reach receiver B (move receiver m S)
