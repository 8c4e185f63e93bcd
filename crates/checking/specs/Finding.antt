-- What is found, or that it is refused, as the verdict that it is; a refusal but 24 is none.
use Rattle.std.specs.Prelude.{Result, Ok, Err}
use Rattle.std.proofs.Math.Option.{Option, none, some}
use Rattle.typing.specs.Derivation.{Verdict}
use Rattle.book.specs.declared.Refusal.{Refusal}
use Rattle.book.specs.declared.Refusal.TheVariants.{Large}
use Rattle.checking.specs.declared.Finding.{Finding}
use Rattle.checking.specs.declared.Finding.TheVariants.{Safe, Bad, Another}
pub mod Laws

abbrev pub found_verdict : Finding → Verdict
found_verdict Safe = Verdict.safe
found_verdict (Bad i) = Verdict.bad i
found_verdict Another = Verdict.another

abbrev pub finding_says : Result Finding Refusal → Option Verdict
finding_says (Ok f) = some (found_verdict f)
finding_says (Err (Large n)) = some (Verdict.refused n)
finding_says (Err r) = none
