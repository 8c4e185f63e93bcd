-- What is read at a place is its value. Assumes nothing.
use Rattle.std.specs.Prelude.{ℕ, List, [], ◌≡◌, drop}
use Rattle.std.proofs.Math.Option.{some}
use Rattle.typing.specs.Term.{Term}
use Rattle.typing.specs.Types.{Ty}
use Rattle.typing.specs.Process.{Process}
use Rattle.typing.specs.Reading.{term, type_at, environment_at, process_at}
use Rattle.spans.specs.Behind.{rest_of}
use Rattle.alike.specs.Same.{term_in, type_in, environment_in}
use Rattle.alike.specs.Same.Laws.{read-value}
use Rattle.parts.specs.Place.{process_in}

module _ (w : List ℕ) (a e : ℕ) where
  pub term_reads : rest_of (term (drop a w)) ≡ some (drop e w) → term (drop a w) ≡ some (term_in w a, drop e w)
  unfolding term_in
  term_reads h = read-value (Term.bound 0) (term (drop a w)) (drop e w) h

  pub type_reads : rest_of (type_at (drop a w)) ≡ some (drop e w) → type_at (drop a w) ≡ some (type_in w a, drop e w)
  unfolding type_in
  type_reads h = read-value Ty.Un (type_at (drop a w)) (drop e w) h

  pub environment_reads : rest_of (environment_at (drop a w)) ≡ some (drop e w) → environment_at (drop a w) ≡ some (environment_in w a, drop e w)
  unfolding environment_in
  environment_reads h = read-value [] (environment_at (drop a w)) (drop e w) h

  pub process_reads : rest_of (process_at (drop a w)) ≡ some (drop e w) → process_at (drop a w) ≡ some (process_in w a, drop e w)
  unfolding process_in
  process_reads h = read-value Process.stop (process_at (drop a w)) (drop e w) h
