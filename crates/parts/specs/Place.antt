-- Where a process's own parts stand.
use Rattle.std.specs.Prelude.{ℕ, ◌+◌, ◌≤◌, ◌<◌, Bool, ◌&&◌, List, [], ◌≡◌, length, drop, get_or}
use Rattle.std.proofs.Math.Option.{some}
use Rattle.words.specs.Run.{run, same_words}
use Rattle.typing.specs.Term.{Term, same_term}
use Rattle.typing.specs.Types.{Ty, same_list, same_type, same_effects}
use Rattle.typing.specs.Process.{Process}
use Rattle.typing.specs.Reading.{Read, term, type_at, several, process_at}
use Rattle.spans.specs.Behind.{rest_of, At}
use Rattle.alike.specs.Same.{value_or, test}
use Rattle.parts.specs.Own.{Own, own, names_of, terms_of, types_of, cast_effects, own_of}
use Rattle.parts.specs.Own.Same.{Exact}
use Rattle.parts.specs.declared.Parts.{Parts}
pub mod Laws
pub mod Values
pub mod Several
pub mod Lists
pub mod Processes

-- k of what a reader reads from the place a on
unfoldable pub list_in : {A : Type 0} → (List ℕ → Read A) → List ℕ → ℕ → ℕ → List A
list_in r w a k = value_or [] (several r k (drop a w))

-- what is read at a place; where nothing is, STOP
unfoldable pub process_in : List ℕ → ℕ → Process
process_in w a = value_or Process.stop (process_at (drop a w))

-- a process's own words are there
pub record Spelled (w : List ℕ) (i : ℕ) : Type 0 where
  pub behind : List ℕ
  pub reads : rest_of (own_of (drop i w)) ≡ some behind

-- the own words of the process that begins at i, whose parts stand at the places r
unfoldable pub own_in : List ℕ → ℕ → Parts → Own
own_in w i r =
    own (get_or w i 0) (run w (i + 1) (names_of (get_or w i 0))) (list_in term w r.terms (terms_of (get_or w i 0)))
    (list_in type_at w r.types (types_of (get_or w i 0))) (value_or [] (cast_effects (get_or w i 0) (drop r.list w)))

-- these are the places
pub record Places (w : List ℕ) (i : ℕ) (r : Parts) : Type 0 where
  pub word : i < length w
  pub names : i + names_of (get_or w i 0) < length w
  pub at-terms : r.terms ≡ i + 1 + names_of (get_or w i 0)
  pub terms : At w r.terms (rest_of (several term (terms_of (get_or w i 0)) (drop r.terms w))) r.types
  pub types : At w r.types (rest_of (several type_at (types_of (get_or w i 0)) (drop r.types w))) r.list
  pub effects : At w r.list (rest_of (cast_effects (get_or w i 0) (drop r.list w))) r.next
  pub own : own_of (drop i w) ≡ some (own_in w i r, drop r.next w)
  pub exact : Exact (own_in w i r)

-- two processes' own words are the same, but for the first
unfoldable pub same_own : Own → Own → Bool
same_own o p =
    same_words o.names p.names && (test (same_list same_term o.terms p.terms)
    && (test (same_list same_type o.types p.types) && test (same_effects o.effects p.effects)))
