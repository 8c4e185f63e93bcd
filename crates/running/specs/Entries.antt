-- An environment with one entry more, as tests of the newest entry and of the older ones. Assumes nothing.
use Rattle.std.specs.Prelude.{ℕ, ◌+◌, List, ◌&&◌, ◌∷◌, ◌≡◌, eqb, drop, get_or}
use Rattle.std.proofs.Common.{sym, ◌∙◌, eq-eqb, eqb-true}
use Rattle.typing.specs.Types.{Ty, Environment, ◌⦂◌, same_type, same_environment}
use Rattle.typing.specs.Reading.{type_at, environment_at}
use Rattle.spans.specs.Behind.{rest_of, At}
use Rattle.alike.specs.Same.{type_in, environment_in, test}
use Rattle.shapes.specs.Shape.{Reads}
use Rattle.shapes.specs.Shape.Laws.{entry-parts}
use Rattle.ruling.specs.Rules.Decide.{Tells, ◌&◌, is, same-tests}

same-number : (m n : ℕ) → Tells (eqb m n) (m ≡ n)
same-number m n = record { holds = eqb-true m n; so = eq-eqb m n }

module _ (w : List ℕ) (a : ℕ) (t : Reads environment_at w a) (two : get_or w a 0 ≡ 2) (e : ℕ)
    (q : At w (a + 2) (rest_of (type_at (drop (a + 2) w))) e) where
  pub entry-tests : (x : ℕ) (T : Ty) (E : Environment) → test (same_environment (environment_in w a) ((x ⦂ T) ∷ E))
      ≡ (eqb (get_or w (a + 1) 0) x && (test (same_type (type_in w (a + 2)) T) && test (same_environment (environment_in w e) E)))
  entry-tests x T E =
      let parts = entry-parts w a t two e q in
      same-tests (is (same_environment (environment_in w a) ((x ⦂ T) ∷ E)))
      (same-number (get_or w (a + 1) 0) x & is (same_type (type_in w (a + 2)) T) & is (same_environment (environment_in w e) E))
      (λ z. let p = sym parts ∙ z in (cc, (cc, cc)))
      (λ p. cc)
