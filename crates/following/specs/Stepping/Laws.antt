-- Laws of what is stored and of what they call it. Assumes nothing.
use Rattle.std.specs.Prelude.{ℕ, zero, suc, ◌+◌, ◌*◌, ◌<◌, List, [], ◌∷◌, ◌++◌, ◌≡◌, refl, length, get_or, take}
use Rattle.std.proofs.Common.{inl, inr, sym, ap, ◌∙◌, arith, get_or-take}
use Rattle.terms.specs.Term.{Term}
use Rattle.translation.specs.Receive.{Stored}
use Rattle.translation.specs.Listing.{triple_words}
use Rattle.renaming.specs.Slot.{Kept}
use Rattle.naming.specs.Called.{placeholder_at, StoredIn}
use Rattle.following.specs.Stepping.{placeholders}

-- ---- the placeholders among the triples' words
triples-at : (row : Term → ℕ) (ps : List Stored) (j : ℕ) → j < length ps → get_or (triple_words row ps) (3 * j + 1) 0 ≡ get_or (placeholders ps) j 0
unfolding triple_words
triples-at row [] j h = absurd (omega arith)
triples-at row (p ∷ ps) zero h = refl
triples-at row (p ∷ ps) (suc j) h =
    let e : 3 * suc j + 1 ≡ suc (suc (suc (3 * j + 1))) = omega arith in
    ap (λ k. get_or (triple_words row (p ∷ ps)) k 0) e ∙ triples-at row ps j (omega arith)

pub log-at : (row : Term → ℕ) (ps : List Stored) (log : List ℕ) (k j : ℕ) → take k log ≡ triple_words row ps → k ≡ 3 * length ps
    → j < length ps → placeholder_at log j ≡ get_or (placeholders ps) j 0
log-at row ps log k j t e h =
    sym (get_or-take k log (3 * j + 1) 0 (omega arith)) ∙ ap (λ (l : List ℕ). get_or l (3 * j + 1) 0) t ∙ triples-at row ps j h

-- the first of them
pub placeholders-front : (ps qs : List Stored) (j : ℕ) → j < length ps → get_or (placeholders (ps ++ qs)) j 0 ≡ get_or (placeholders ps) j 0
placeholders-front [] qs j h = absurd (omega arith)
placeholders-front (p ∷ ps) qs zero h = refl
placeholders-front (p ∷ ps) qs (suc j) h = placeholders-front ps qs j (omega arith)

pub placeholders-back : (ps qs : List Stored) (j : ℕ) → get_or (placeholders (ps ++ qs)) (length ps + j) 0 ≡ get_or (placeholders qs) j 0
placeholders-back [] qs j = ap (λ k. get_or (placeholders qs) k 0) (omega arith)
placeholders-back (p ∷ ps) qs j =
    let e : suc (length ps) + j ≡ suc (length ps + j) = omega arith in
    ap (λ k. get_or (placeholders ((p ∷ ps) ++ qs)) k 0) e ∙ placeholders-back ps qs j

-- ---- what is stored, by its place
pub at-kept : (ps : List Stored) (j : ℕ) → j < length ps → Kept (get_or (placeholders ps) j 0) ps
at-kept [] j h = absurd (omega arith)
at-kept (p ∷ ps) zero h = inl refl
at-kept (p ∷ ps) (suc j) h = inr (at-kept ps j (omega arith))

kept_at : (x : ℕ) (ps : List Stored) → Kept x ps → (j : ℕ) × (j < length ps) × (get_or (placeholders ps) j 0 ≡ x)
kept_at x [] k = absurd k
kept_at x (p ∷ ps) (inl e) = (0, omega arith, e)
kept_at x (p ∷ ps) (inr k) = let r = kept_at x ps k in (suc r.0, (let l = r.1 in omega arith), r.2)

pub kept-stored : (ps : List Stored) {x n : ℕ} {log : List ℕ} → ((j : ℕ) → j < n → placeholder_at log j ≡ get_or (placeholders ps) j 0)
    → n ≡ length ps → Kept x ps → StoredIn log n x
kept-stored ps {x} {n} {log} f e k =
    let r = kept_at x ps k in
    let l = r.1 in
    let h : r.0 < n = omega arith in
    record { index = r.0; within = h; there = f r.0 h ∙ r.2 }
