-- What the loops over parties, known rows and steps have marked: at the start, after one round more, at the end. Assumes nothing.
use Prim.Native.Nat.{ℕ, ◌+◌, ◌<◌}
use mathlib.Core.List.{List, [], ◌∷◌, ◌++◌, map}
use mathlib.Core.Path.{◌≡◌, refl}
use native.Mathlib.Omega.{arith}
use lib.ListN.{length}
use Rattle.words.specs.Run.{values}
use Rattle.terms.specs.Term.{Term}
use Rattle.terms.specs.Table.{term}
use Rattle.book.specs.Layout.{rows, parties, steps, table, name, step_first, step_count, pooled, list_at, known}
use Rattle.book.specs.Valid.{Valid}
use Rattle.book.specs.Span.{Span}
use Rattle.book.specs.Span.Laws.{span-step}
use Rattle.translation.specs.Narration.{narration}
use Rattle.translation.specs.Taken.{joined}
use Rattle.claims.specs.Marked.{Marked}
use Rattle.claims.specs.Marked.Laws.{marked-none, marked-end, marked-party, marked-pooled}
use Rattle.claims.specs.Claims.{Claims, ClaimsBefore}
use Rattle.claims.specs.Claims.Laws.{claims-step, claims-end}

-- ---- what one party knows: the first j of its rows
pub record Knows (b : List ℕ) (f j : ℕ) (l m : List ℕ) : Type 0 where
  pub done : Marked (map (term (table b)) (list_at b f j)) 1 l m

pub knows_start : {b : List ℕ} {f : ℕ} {l : List ℕ} → length l ≡ 1024 → Knows b f 0 l l
knows_start {b} {f} {l} h = record { done = marked-end b f 0 1 l refl h }

-- the rows known were marked with x, which is 1: they are taken from step 0 on
pub knows_on : {b : List ℕ} {f j r x : ℕ} {l m k : List ℕ} → r ≡ pooled b f j → Knows b f j l m
    → Marked (term (table b) r ∷ []) x m k → x ≡ 1 → Knows b f (j + 1) l k
knows_on {b} {f} {j} d i y o = record { done = marked-pooled b f j i.done (rw (← d) (rw o at y)) }

-- ---- the names of the p parties passed, and what they know
abbrev name_term : List ℕ → ℕ → Term
name_term b p = term (table b) (name b p)

abbrev known_terms : List ℕ → ℕ → List Term
known_terms b p = map (term (table b)) (known b p)

pub record Begun (b : List ℕ) (p : ℕ) (l m : List ℕ) : Type 0 where
  pub done : Marked (values (name_term b) 0 p ++ joined (values (known_terms b) 0 p)) 1 l m

pub begun-start : (b : List ℕ) {l : List ℕ} → length l ≡ 1024 → Begun b 0 l l
unfolding values joined
begun-start b {l} h = record { done = marked-none 1 l h }

-- the name and the knowledge of party q were marked, which is the next one
pub begun-on : {b : List ℕ} {p q r : ℕ} {l m k o : List ℕ} → Begun b p l m → r ≡ name b p → Marked (term (table b) r ∷ []) 1 m k
    → Marked (map (term (table b)) (known b q)) 1 k o → q ≡ p → Begun b (p + 1) l o
begun-on {b} {p} {m = m} {k = k} {o = o} i d x y e =
    let named : Marked (name_term b p ∷ []) 1 m k = rw (← d) x in
    let knows : Marked (known_terms b p) 1 k o = rw (← e) y in
    record { done = marked-party (name_term b) (known_terms b) p i.done named knows }

pub begun-end : {b : List ℕ} {p : ℕ} {l m : List ℕ} → p ≡ parties b → Begun b p l m
    → Marked ((narration b).names ++ joined (narration b).knows) 1 l m
unfolding narration
begun-end z i = rw (← z) i.done

-- ---- the steps
-- the messages of a step that the loop is at, below a bound that was read as the number of rows
pub step-span : (b : List ℕ) → Valid b → (bound n s f k : ℕ) → bound ≡ rows b → n ≡ steps b → s < n → f ≡ step_first b s
    → k ≡ step_count b s → Span b bound f k
step-span b v bound n s f k d e h p q = rw d (span-step b v f k s (omega arith) p q)

-- the messages of step s were marked with x, which is s + 2: they are taken from step s + 1 on
pub step-claimed : {b : List ℕ} {s f n x : ℕ} {l m : List ℕ} → f ≡ step_first b s → n ≡ step_count b s → ClaimsBefore b s l
    → Marked (map (term (table b)) (list_at b f n)) x l m → x ≡ s + 2 → ClaimsBefore b (s + 1) m
step-claimed {b} {s} {f} {n} {x} {l} {m} d e c y o = claims-step b s l m c (rw (← d, ← e) (rw o at y))

pub steps-claimed : {b : List ℕ} {s : ℕ} {l : List ℕ} → s ≡ steps b → ClaimsBefore b s l → Claims b l
steps-claimed {b} {s} {l} e c = claims-end b s l e c
