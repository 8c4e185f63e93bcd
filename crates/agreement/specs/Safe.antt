-- The events that a party has left go well: with what it holds and has bound, each comparison and opening succeeds, each message
-- sent is the narration's, each triple of END stands at its placeholder, and what gets bound is, in the end, all that the narration has. One predicate over
-- the events left, of which every clause of demand 3 takes its share.
use Rattle.std.specs.Prelude.{List, [], ◌∷◌, ◌++◌, ◌≡◌, length}
use Rattle.std.proofs.Math.Option.{some}
use Rattle.std.proofs.Math.ListN.{get_elem?}
use Rattle.terms.specs.Term.{Term, Terms, count, listed, partner}
use Rattle.translation.specs.Receive.{Event, Stored}
use Rattle.translation.specs.Narration.{Narration}
use Rattle.agreement.specs.Sight.{value, value_all}
use Rattle.agreement.specs.Agree.{Narrated}
use Rattle.agreement.specs.Sound.{sight_of}
pub mod Laws

-- the placeholder of each that was stored stands for its term
abbrev pub StoredAt : List Term → List Stored → Type 0
StoredAt ns [] = Unit {0}
StoredAt ns (p ∷ ps) = (get_elem? ns p.1 ≡ some p.0) × StoredAt ns ps

-- hs are held as themselves, the placeholders stand for ns; all: what the narration has at the party's placeholders
module _ (N : Narration) (all : List Term) where
  abbrev pub Safe : List Event → List Term → List Term → Type 0
  Safe [] hs ns = (l : List Term) × (ns ++ l ≡ all)
  Safe (Event.new r ∷ es) hs ns = Safe es (Term.atom r ∷ hs) ns
  Safe (Event.sends s is ∷ es) hs ns = (ts : Terms) × Narrated N s ts × (value_all (sight_of hs ns) is ≡ some ts) × Safe es hs ns
  Safe (Event.receives s f n ∷ es) hs ns = (ts : Terms) × Narrated N s ts × (f ≡ length ns) × (n ≡ count ts) × Safe es hs (ns ++ listed ts)
  Safe (Event.checks x i ∷ es) hs ns = (t : Term) × (get_elem? ns x ≡ some t) × (value (sight_of hs ns) i ≡ some t) × Safe es hs ns
  Safe (Event.opens x f n i ∷ es) hs ns =
      (k : Term) × (ts : Terms) × (get_elem? ns x ≡ some (Term.cipher k ts)) × (f ≡ length ns) × (n ≡ count ts)
      × (value (sight_of hs ns) i ≡ some (partner k)) × Safe es hs (ns ++ listed ts)
  Safe (Event.ends ps ∷ es) hs ns = StoredAt ns ps × Safe es hs ns
