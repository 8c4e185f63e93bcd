-- A process by its pieces.
use Rattle.std.specs.Prelude.{ℕ, zero, suc, ◌+◌, ◌≤◌, ◌<◌, List, ◌≡◌, length, drop, get_or}
use Rattle.std.proofs.Math.Option.{some}
use Rattle.typing.specs.Bag.{bag}
use Rattle.typing.specs.Process.{Process}
use Rattle.typing.specs.Reading.{term, effects, type_at, process_at}
use Rattle.spans.specs.Behind.{rest_of, At}
use Rattle.alike.specs.Same.{term_in, effects_in, type_in}
use Rattle.parts.specs.Own.{names_of, terms_of, types_of}
use Rattle.parts.specs.Place.{process_in}
use Rattle.shapes.specs.Shape.{Reads}
use Rattle.pieces.specs.declared.Pieces.{Pieces}
pub mod Laws

-- the process that begins with a word, of the pieces that stand at these places; its names stand behind its word
module _ (w : List ℕ) (s : ℕ) (r : Pieces) where
  abbrev x : ℕ
  x = get_or w (s + 1) 0

  abbrev y : ℕ
  y = get_or w (s + 2) 0

  abbrev P : Process
  P = process_in w r.p

  unfoldable pub built : ℕ → Process
  built zero = P
  built (suc zero) = Process.new x (type_in w r.t) P
  built (suc (suc zero)) = Process.out (term_in w r.m) (term_in w r.n) P
  built (suc (suc (suc zero))) = Process.inp (term_in w r.m) x (type_in w r.t) P
  built (suc (suc (suc (suc zero)))) = P
  built (suc (suc (suc (suc (suc zero))))) = P
  built (suc (suc (suc (suc (suc (suc zero)))))) = Process.split (term_in w r.m) x (type_in w r.t) y (type_in w r.u) P
  built (suc (suc (suc (suc (suc (suc (suc zero))))))) = Process.match (term_in w r.m) (term_in w r.n) x (type_in w r.t) P
  built (suc (suc (suc (suc (suc (suc (suc (suc zero)))))))) = Process.decrypt (term_in w r.m) (term_in w r.n) x (type_in w r.t) P
  built (suc (suc (suc (suc (suc (suc (suc (suc (suc zero))))))))) = Process.begin (term_in w r.m) P
  built (suc (suc (suc (suc (suc (suc (suc (suc (suc (suc zero)))))))))) = Process.end (term_in w r.m) P
  built (suc (suc (suc (suc (suc (suc (suc (suc (suc (suc (suc zero))))))))))) = Process.cast (term_in w r.m) x (bag (effects_in w r.f r.k)) P
  built (suc (suc (suc (suc (suc (suc (suc (suc (suc (suc (suc (suc zero)))))))))))) = Process.check (term_in w r.m) (term_in w r.n) P
  built (suc (suc (suc (suc (suc (suc (suc (suc (suc (suc (suc (suc (suc c))))))))))))) = P

-- the process at s has these pieces
pub record Pieced (w : List ℕ) (s : ℕ) (r : Pieces) : Type 0 where
  pub low : 0 < get_or w s 0
  pub high : get_or w s 0 ≤ 12
  pub inside : s < length w
  pub names : s + names_of (get_or w s 0) < length w
  pub one : (get_or w s 0 ≡ 4 → ⊥) → (get_or w s 0 ≡ 5 → ⊥) → (process_in w s ≡ built w s r (get_or w s 0)) × Reads process_at w r.p
  pub two : get_or w s 0 ≡ 4 → Reads process_at w r.p × ((q : ℕ) → At w r.p (rest_of (process_at (drop r.p w))) q
      → (process_in w s ≡ Process.parallel (process_in w r.p) (process_in w q)) × Reads process_at w q)
  pub parallel : get_or w s 0 ≡ 4 → (P : Process) × (Q : Process) × (process_in w s ≡ Process.parallel P Q)
  pub stop : get_or w s 0 ≡ 5 → process_in w s ≡ Process.stop
  pub first-term : 1 ≤ terms_of (get_or w s 0) → Reads term w r.m
  pub second-term : 2 ≤ terms_of (get_or w s 0) → Reads term w r.n
  pub first-type : 1 ≤ types_of (get_or w s 0) → Reads type_at w r.t
  pub second_type : 2 ≤ types_of (get_or w s 0) → Reads type_at w r.u
  pub effects : get_or w s 0 ≡ 11 → Reads (effects r.k) w r.f
