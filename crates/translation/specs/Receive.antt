-- Receiving, figure 3's R. Document 01: "The n messages get the next n placeholders; a party's placeholders count from 0." Then, left
-- to right, each by its rule, in the order of document 02, [2]. Which rule fits is `rule`'s answer and nobody else's.
use Rattle.std.specs.Prelude.{ℕ, suc, ◌+◌, Bool, true, false, List, [], ◌∷◌, ◌++◌, ◌↔◌, ◌≡◌, length}
use Rattle.words.specs.Choice.{pick}
use Rattle.terms.specs.Term.{Term, Terms, count, listed, partner}
use Rattle.terms.specs.Image.{Image, Images}
use Rattle.translation.specs.Dictionary.{Held, Dictionary, enter, buildable, image}

-- ---- events
-- a term that was stored: the placeholder, and the step
abbrev pub Stored : Type 0
Stored = Term × ℕ × ℕ

-- "NEW 1, row. SEND 2, step, n, n images. RECEIVE 3, step, first placeholder, n. CHECK 4, placeholder, image. OPEN 5, placeholder,
-- first new placeholder, n, key image. END 6, m, then m" triples "of row, placeholder, step" (document 02, [6])
pub data Event : Type 0 where
  new : ℕ → Event
  sends : ℕ → Images → Event
  receives : ℕ → ℕ → ℕ → Event
  checks : ℕ → Image → Event
  opens : ℕ → ℕ → ℕ → Image → Event
  ends : List Stored → Event

-- What a party's doing adds: the dictionary afterwards; the narration's terms for the placeholders that were handed out, so that
-- their number is its length; the events; and what was stored under which placeholder at which step, in the order of storing.
pub record Did : Type 0 where
  pub dictionary : Dictionary
  pub given : List Term
  pub events : List Event
  pub stored : List Stored

abbrev pub nothing : Dictionary → Did
nothing δ = record { dictionary = δ; given = []; events = []; stored = [] }

abbrev pub followed : Did → Did → Did
followed d e = record { dictionary = e.dictionary; given = d.given ++ e.given; events = d.events ++ e.events; stored = d.stored ++ e.stored }

-- ---- the three rules
pub data Rule : Type 0 where
  unlock : Rule
  compare : Rule
  store : Rule

-- "It is a cipher and the partner of its key is buildable." The partner need not be a row, nor held.
unfoldable pub can_open : Dictionary → Term → Bool
can_open δ (Term.atom r) = false
can_open δ (Term.operation g ts) = false
can_open δ (Term.cipher k ts) = buildable δ (partner k)
can_open δ (Term.public t) = false
can_open δ (Term.private t) = false

-- Document 02, [2], in place of document 01's order: "a cipher whose key's partner is buildable is opened first; then a buildable row
-- is compared; then storing"
unfoldable pub rule : Dictionary → Term → Rule
rule δ t = pick (can_open δ t) unlock (pick (buildable δ t) compare store)

-- each rule exactly when: which tests of a term lead to it, and that no others do
pub record RuleExact (δ : Dictionary) (t : Term) : Type 0 where
  pub opens : (rule δ t ≡ Rule.unlock) ↔ (can_open δ t ≡ true)
  pub compares : (rule δ t ≡ Rule.compare) ↔ ((can_open δ t ≡ false) × (buildable δ t ≡ true))
  pub stores : (rule δ t ≡ Rule.store) ↔ ((can_open δ t ≡ false) × (buildable δ t ≡ false))

unfoldable pub by_rule : Rule → Did → Did → Did → Did
by_rule compare c o s = c
by_rule unlock c o s = o
by_rule store c o s = s

-- the term t is at placeholder p
abbrev pub compared : Term → ℕ → Dictionary → Did
compared t p δ = record { dictionary = δ; given = []; events = Event.checks p (image δ t) ∷ []; stored = [] }

abbrev pub kept : ℕ → Term → ℕ → Dictionary → Did
kept s t p δ = record { dictionary = enter δ t (Held.stored s p); given = []; events = []; stored = (t, p, s) ∷ [] }

-- a cipher under the key k is opened, and its contents get the placeholders from n on
abbrev pub opened : Term → Terms → ℕ → Dictionary → ℕ → Did
opened k ts p δ n = record { dictionary = δ; given = listed ts; events = Event.opens p n (count ts) (image δ (partner k)) ∷ []; stored = [] }

-- ---- receiving at step s: the term at placeholder p, where n is the next placeholder. "the contents get the next placeholders and are
-- received in turn". Only a cipher is ever opened
unfoldable mutual
  pub receive : ℕ → Term → ℕ → Dictionary → ℕ → Did
  receive s (Term.atom r) p δ n = by_rule (rule δ (Term.atom r)) (compared (Term.atom r) p δ) (nothing δ) (kept s (Term.atom r) p δ)
  receive s (Term.operation g ts) p δ n =
      by_rule (rule δ (Term.operation g ts)) (compared (Term.operation g ts) p δ) (nothing δ) (kept s (Term.operation g ts) p δ)
  receive s (Term.cipher k ts) p δ n =
      by_rule (rule δ (Term.cipher k ts)) (compared (Term.cipher k ts) p δ)
      (followed (opened k ts p δ n) (receive_all s ts n δ (n + count ts))) (kept s (Term.cipher k ts) p δ)
  receive s (Term.public t) p δ n = by_rule (rule δ (Term.public t)) (compared (Term.public t) p δ) (nothing δ) (kept s (Term.public t) p δ)
  receive s (Term.private t) p δ n = by_rule (rule δ (Term.private t)) (compared (Term.private t) p δ) (nothing δ) (kept s (Term.private t) p δ)

  -- the terms at placeholders p, p + 1, ..
  pub receive_all : ℕ → Terms → ℕ → Dictionary → ℕ → Did
  receive_all s Terms.nil p δ n = nothing δ
  receive_all s (Terms.cons t ts) p δ n =
      let d = receive s t p δ n in followed d (receive_all s ts (suc p) d.dictionary (n + length d.given))
