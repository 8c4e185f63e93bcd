-- Kinds of the code are equal exactly if they say the same kind. Assumes nothing.
use Rattle.std.specs.Prelude.{◌≡◌, refl, Bool, true, false, not, eqb, Option, None, Some}
use Rattle.std.proofs.Math.Option.{Option as Maybe, some}
use Rattle.std.proofs.Common.{sym, ◌∙◌, true≢false}
use borrow.Author.Tests.{not-true, not-false}
use Rattle.std.specs.Option.{option_eq}
use Rattle.choosing.specs.contracts.KindPartialEq.TheImpl.{eq-value}
use Rattle.typing.specs.Derivation.{Kind as Said}
use Rattle.choosing.specs.declared.Kind.{Kind}
use Rattle.choosing.specs.declared.Kind.TheVariants.{Environment, «Type», Effect, Term, Process}
use Rattle.choosing.specs.Named.{kind_says, kind_found}
use Rattle.choosing.specs.Kinds.{kind_number, is_kind}
use Rattle.choosing.specs.Kinds.Laws.{is_kind-at, kind_is}

same_kinds : (j k : Kind) → eq-value.it j k ≡ eqb (kind_number (kind_says j)) (kind_number (kind_says k))
unfolding kind_number
same_kinds Environment Environment = refl
same_kinds Environment «Type» = refl
same_kinds Environment Effect = refl
same_kinds Environment Term = refl
same_kinds Environment Process = refl
same_kinds «Type» Environment = refl
same_kinds «Type» «Type» = refl
same_kinds «Type» Effect = refl
same_kinds «Type» Term = refl
same_kinds «Type» Process = refl
same_kinds Effect Environment = refl
same_kinds Effect «Type» = refl
same_kinds Effect Effect = refl
same_kinds Effect Term = refl
same_kinds Effect Process = refl
same_kinds Term Environment = refl
same_kinds Term «Type» = refl
same_kinds Term Effect = refl
same_kinds Term Term = refl
same_kinds Term Process = refl
same_kinds Process Environment = refl
same_kinds Process «Type» = refl
same_kinds Process Effect = refl
same_kinds Process Term = refl
same_kinds Process Process = refl

pub found_kind : (o : Option Kind) (k : Kind) → option_eq eq-value.it o (Some k) ≡ is_kind (kind_says k) (kind_found o)
unfolding is_kind
found_kind None k = refl
found_kind (Some j) k = same_kinds j k

-- a test against a kind
pub is-found : (o : Option Kind) (k : Kind) {p : Maybe Said} {b : Bool} → kind_found o ≡ p → b ≡ not (option_eq eq-value.it o (Some k)) → b ≡ false
    → p ≡ some (kind_says k)
is-found o k {p} {b} e t q = sym e ∙ kind_is (kind_says k) (kind_found o) (sym (found_kind o k) ∙ not-false _ (sym t ∙ q))

pub other-found : (o : Option Kind) (k : Kind) {p : Maybe Said} {b : Bool} → kind_found o ≡ p → b ≡ not (option_eq eq-value.it o (Some k)) → b ≡ true
    → p ≡ some (kind_says k) → ⊥
other-found o k {p} {b} e t q s =
    true≢false (sym (is_kind-at (kind_says k) (kind_found o) (e ∙ s)) ∙ sym (found_kind o k) ∙ not-true _ (sym t ∙ q))
