-- Of what kinds a rule's conclusion and its premises are, by the rule's number.
use Rattle.std.specs.Prelude.{ℕ, Bool, false, eqb, List, [], ◌∷◌}
use Rattle.std.proofs.Math.Option.{Option, none, some}
use Rattle.typing.specs.Judgement.{Judgement}
use Rattle.typing.specs.Rule.{Rule}
use Rattle.typing.specs.Check.{printed}
use Rattle.typing.specs.Derivation.{Kind, Numbered, nth, rule_of}
pub mod Laws

-- the kinds by number, to tell them apart
unfoldable pub kind_number : Kind → ℕ
kind_number Kind.of_environment = 1
kind_number Kind.of_type = 2
kind_number Kind.of_effect = 3
kind_number Kind.of_term = 4
kind_number Kind.of_process = 5

-- a kind is there, and is this one
unfoldable pub is_kind : Kind → Option Kind → Bool
is_kind k none = false
is_kind k (some j) = eqb (kind_number j) (kind_number k)

unfoldable pub kind_of : Judgement → Kind
kind_of (Judgement.environment E) = Kind.of_environment
kind_of (Judgement.type E T) = Kind.of_type
kind_of (Judgement.effect E es) = Kind.of_effect
kind_of (Judgement.term E M T) = Kind.of_term
kind_of (Judgement.process E P es) = Kind.of_process

unfoldable pub kinds_of : List Judgement → List Kind
kinds_of [] = []
kinds_of (J ∷ Js) = kind_of J ∷ kinds_of Js

-- a rule's premises, as they are printed, whatever it is written from
unfoldable pub premise_kinds : Rule → List Kind
premise_kinds r = kinds_of (printed [] (Judgement.environment []) r).0

-- the conclusion's kind and behind it the premises', where there is a rule
unfoldable pub all_kinds : Option Numbered → List Kind
all_kinds none = []
all_kinds (some r) = r.kind ∷ premise_kinds r.rule

-- of rule n: the kind of its conclusion, at 0, and of its premises, from 1 on; none where it has none
unfoldable pub kind_at : ℕ → ℕ → Option Kind
kind_at n p = nth (all_kinds (rule_of n)) p

-- the kinds of its premises
unfoldable pub premises_of : ℕ → List Kind
premises_of n = elim (rule_of n) [ none ↦ [] | some r ↦ premise_kinds r.rule ]
