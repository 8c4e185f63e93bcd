-- Following finds what document 02, [7] asks for, where our slots are in order: their first i words can be turned into ours by a one-to-one
-- renaming exactly if they are followed that far; so all agree exactly if theirs is ours up to a renaming, and else the place is the
-- smallest word at which no renaming can agree, or the shorter length. Assumes nothing.
use Prim.Native.Nat.{ℕ, zero, suc, ◌+◌, ◌≤◌, ◌<◌}
use Rattle.std.specs.Prelude.{Bool, ◌↔◌, ◌⊎◌, ◌≡◌, length, get_or, ltb}
use Rattle.std.proofs.Math.Bool.{true, false}
use mathlib.Core.List.{List, [], ◌∷◌, ◌++◌}
use Rattle.std.proofs.Math.Logic.{inl, inr}
use Rattle.std.proofs.Common.{⊎_elim, sym, ap, ◌∙◌, add-zero}
use Rattle.std.proofs.Math.Path.{refl}
use native.Mathlib.Omega.{arith}
use Rattle.std.proofs.Math.Decide.{ℕ_discrete, dec_lt}
use Rattle.std.proofs.Math.Nat.{zero-add}
use Rattle.std.proofs.Math.Dec.{eqb}
use borrow.Author.Tests.{lt-ltb, ltb-true, eqb-true, eq-eqb}
use Rattle.words.specs.Choice.{pick}
use Rattle.words.specs.Choice.Laws.{pick_true, pick_ind}
use Rattle.words.specs.First.{first}
use Rattle.words.specs.First.Laws.{clash, first_holds, any_at, any-first}
use Rattle.translation.specs.Dictionary.Laws.{and_both, both-and}
use Rattle.renaming.specs.Slot.{Slot, Ordered}
use Rattle.renaming.specs.Renaming.{agrees, numbers, named, Followed, stands, follow, all_agree, place_of, OneToOne, Turns, Renames, Same, Differs}
use Rattle.renaming.specs.Renaming.Laws.{NoName, fresh-exact, NameAt, name-at, follow-least, follow-most, follow-whole, follow-part, follow-within, follow-on, stands-agrees, agrees-stands}
use Rattle.renaming.specs.Renaming.Turning.{OrderedFrom, ordered-first, ordered-named, Unnames, unnames-before, agrees-turns, turns-agrees, turns-named}

-- ---- the renaming that a list of names gives: a name is turned into its place in the list, another number into one past all places
module _ (names : List ℕ) where
  among : ℕ → ℕ
  among z = first (λ x. eqb (get_or names x 0) z) (length names)

  turned : ℕ → ℕ
  turned z = pick (ltb (among z) (length names)) (among z) (length names + z)

  -- what is known of a number by what it is turned into
  abbrev Into : ℕ → ℕ → Type 0
  Into z r = ((r < length names) × (get_or names r 0 ≡ z)) ⊎ (r ≡ length names + z)

  turned-cases : (z : ℕ) → Into z (turned z)
  unfolding turned among
  turned-cases z =
      pick_ind (Into z) (ltb (among z) (length names)) _ _
      (λ e. (let l = ltb-true (among z) (length names) e in inl (l, eqb-true _ _ (first_holds (λ x. eqb (get_or names x 0) z) (length names) l))))
      (λ e. inr refl)

  turned-one : OneToOne turned
  turned-one x y e = go (turned-cases x) (turned-cases y)
    where
      go : Into x (turned x) → Into y (turned y) → x ≡ y
      go (inl p) (inl q) = sym p.1 ∙ ap (λ k. get_or names k 0) e ∙ q.1
      go (inl p) (inr q) = let l = p.0 in absurd (omega arith)
      go (inr p) (inl q) = let l = q.0 in absurd (omega arith)
      go (inr p) (inr q) = omega arith

-- no name stands in the list twice
abbrev Distinct : List ℕ → Type 0
Distinct names = (x z : ℕ) → x < length names → z < length names → get_or names x 0 ≡ get_or names z 0 → x ≡ z

turned-names : (names : List ℕ) → Distinct names → Unnames (turned names) names
unfolding turned among
turned-names names d x h =
    let t : ℕ → Bool = λ k. eqb (get_or names k 0) (get_or names x 0) in
    let l = any-first t (length names) (any_at t (length names) x h (eq-eqb (get_or names x 0) _ refl)) in
    pick_true _ _ _ (lt-ltb _ _ l) ∙ d _ x l h (eqb-true _ _ (first_holds t (length names) l))

-- ---- no name comes twice, since each run was fresh
distinct-run : (names : List ℕ) (y n : ℕ) → Distinct names → NoName names y n → Distinct (names ++ numbers y n)
distinct-run names y n d c x z h l e = go (name-at names y n x h) (name-at names y n z l) e
  where
    go : {m k : ℕ} → NameAt names y n x m → NameAt names y n z k → m ≡ k → x ≡ z
    go (NameAt.older p f) (NameAt.older q g) r = d x z p q (sym f ∙ r ∙ g)
    go (NameAt.older p f) (NameAt.newer j q v g) r = absurd (c x p (omega arith) (omega arith))
    go (NameAt.newer i p u f) (NameAt.older q g) r = absurd (c z q (omega arith) (omega arith))
    go (NameAt.newer i p u f) (NameAt.newer j q v g) r = omega arith

distinct_named : (names : List ℕ) (s : Slot) (y : ℕ) → Distinct names → agrees names s y ≡ true → Distinct (named names s y)
unfolding agrees named
distinct_named names (Slot.plain w) y d e = d
distinct_named names (Slot.uses x) y d e = d
distinct_named names (Slot.runs f zero) y d e = distinct-run names y 0 d (λ x h l m. omega arith)
distinct_named names (Slot.runs f (suc n)) y d e = distinct-run names y (suc n) d ((fresh-exact names y (suc n)).0 (and_both _ _ e).1)

module _ (ws : List ℕ) where
  follow-distinct : (ss : List Slot) (a : ℕ) (names : List ℕ) → Distinct names → Distinct (follow ws ss a names).names
  unfolding follow
  follow-distinct [] a names d = d
  follow-distinct (s ∷ ss) a names d =
      pick_ind (λ (f : Followed). Distinct f.names) (stands ws a names s) _ _
      (λ e. follow-distinct ss (suc a) _ (distinct_named names s (get_or ws a 0) d (stands-agrees ws a names s e))) (λ e. d)

  -- ---- as far as they are followed, what turns the names turns the words
  module _ (τ : ℕ → ℕ) where
    unnames-start : (ss : List Slot) (a : ℕ) (names : List ℕ) → Unnames τ (follow ws ss a names).names → Unnames τ names
    unfolding follow
    unnames-start [] a names u = u
    unnames-start (s ∷ ss) a names u =
        pick_ind (λ (f : Followed). Unnames τ f.names → Unnames τ names) (stands ws a names s) _ _
        (λ e v. unnames-before τ names s (get_or ws a 0) (unnames-start ss (suc a) _ v)) (λ e v. v) u

    followed-turns : (ss : List Slot) (a : ℕ) (names : List ℕ) → OrderedFrom (length names) ss → Unnames τ (follow ws ss a names).names
        → (k : ℕ) → a + k < (follow ws ss a names).at → Turns τ (get_or ss k (Slot.plain 0)) (get_or ws (a + k) 0)
    unfolding follow
    followed-turns [] a names o u k h = absurd (omega arith)
    followed-turns (s ∷ ss) a names o u k h =
        pick_ind (λ (f : Followed). Unnames τ f.names → a + k < f.at → Turns τ (get_or (s ∷ ss) k (Slot.plain 0)) (get_or ws (a + k) 0))
        (stands ws a names s) _ _
        (λ e v l. go e v (followed-turns ss (suc a) _ (ordered-named names s ss (get_or ws a 0) o) v) k l)
        (λ e v l. absurd (omega arith)) u h
      where
        more : List ℕ
        more = named names s (get_or ws a 0)

        go : stands ws a names s ≡ true → Unnames τ (follow ws ss (suc a) more).names
            → ((k : ℕ) → suc a + k < (follow ws ss (suc a) more).at → Turns τ (get_or ss k (Slot.plain 0)) (get_or ws (suc a + k) 0))
            → (k : ℕ) → a + k < (follow ws ss (suc a) more).at → Turns τ (get_or (s ∷ ss) k (Slot.plain 0)) (get_or ws (a + k) 0)
        go e v r zero l =
            rw add-zero (agrees-turns τ names s (get_or ws a 0) (ordered-first o) (stands-agrees ws a names s e) (unnames-start ss (suc a) more v))
        go e v r (suc k) l = let z : a + suc k ≡ suc a + k = omega arith in rw z (r k (omega arith))

    -- ---- as far as a one-to-one renaming turns the words, they are followed
    turned-follows : OneToOne τ → (ss : List Slot) (a : ℕ) (names : List ℕ) → OrderedFrom (length names) ss → Unnames τ names → (i : ℕ)
        → i ≤ length ss → a + i ≤ length ws → ((k : ℕ) → k < i → Turns τ (get_or ss k (Slot.plain 0)) (get_or ws (a + k) 0))
        → a + i ≤ (follow ws ss a names).at
    turned-follows one ss a names o u zero h l t = omega (arith, follow-least ws ss a names)
    turned-follows one [] a names o u (suc i) h l t = absurd (omega arith)
    turned-follows one (s ∷ ss) a names o u (suc i) h l t =
        let y = get_or ws a 0 in
        let here = rw add-zero at (t 0 (omega arith)) in
        let e = agrees-stands ws a names s (omega arith) (turns-agrees τ names u one s y (ordered-first o) here) in
        let r = turned-follows one ss (suc a) (named names s y) (ordered-named names s ss y o) (turns-named τ names u s y (ordered-first o) here) i
        (omega arith) (omega arith) (λ k m. let z : a + suc k ≡ suc a + k = omega arith in rw z at (t (suc k) (omega arith))) in
        rw (follow-on ws s ss a names e) (omega arith)

-- ---- a one-to-one renaming turns their first i words into ours exactly if they are followed that far
module _ (ss : List Slot) (ws : List ℕ) (o : Ordered ss) where
  followed-renames : (i : ℕ) → i ≤ place_of ss ws → Renames ss ws i
  unfolding place_of
  followed-renames i h =
      let names = (follow ws ss 0 []).names in
      let d : Distinct names = follow-distinct ws ss 0 [] (λ x z l. absurd (omega arith)) in
      let m = follow-most ws ss 0 [] in
      let w = follow-within ws ss 0 [] (omega arith) in
      record {
        to = turned names;
        one-to-one = turned-one names;
        slots = omega arith;
        words = omega arith;
        turns = λ k l. rw zero-add at (followed-turns ws (turned names) ss 0 [] o (turned-names names d) k (omega arith));
      }

  renames-followed : (i : ℕ) → Renames ss ws i → i ≤ place_of ss ws
  unfolding place_of
  renames-followed i r =
      let w = r.words in
      let z = turned-follows ws r.to r.one-to-one ss 0 [] o (λ x h. absurd (omega arith)) i r.slots (omega arith)
      (λ k h. rw zero-add (r.turns k h)) in
      omega arith

  pub follow-exact : (i : ℕ) → (i ≤ place_of ss ws) ↔ Renames ss ws i
  follow-exact i = (followed-renames i, renames-followed i)

  -- ---- all agree exactly if theirs is ours up to a renaming
  agree-whole : all_agree ss ws ≡ true → (place_of ss ws ≡ length ss) × (length ws ≡ length ss)
  unfolding all_agree place_of
  agree-whole e =
      let (w, q) = and_both _ _ e in
      let m = follow-whole ws ss 0 [] w in
      let z = eqb-true _ (length ws) q in
      (omega arith, omega arith)

  whole_agree : length ss ≤ place_of ss ws → length ws ≡ length ss → all_agree ss ws ≡ true
  unfolding all_agree place_of
  whole_agree h e = go (follow ws ss 0 []).whole refl
    where
      go : (v : Bool) → (follow ws ss 0 []).whole ≡ v
          → pick (follow ws ss 0 []).whole (eqb (follow ws ss 0 []).at (length ws)) false ≡ true
      go true f = let m = follow-whole ws ss 0 [] f in both-and _ _ f (eq-eqb (follow ws ss 0 []).at (length ws) (omega arith))
      go false f = let m = follow-part ws ss 0 [] f in absurd (omega arith)

  pub same-exact : (all_agree ss ws ≡ true) ↔ Same ss ws
  same-exact = (
    λ e. (let (p, w) = agree-whole e in record { renames = followed-renames (length ss) (omega arith); size = w }),
    λ s. whole_agree (renames-followed (length ss) s.renames) s.size,
  )

  -- ---- else the place is where no renaming can agree
  place-most : (place_of ss ws ≤ length ss) × (place_of ss ws ≤ length ws)
  unfolding place_of
  place-most = let m = follow-most ws ss 0 [] in let w = follow-within ws ss 0 [] (omega arith) in (omega arith, omega arith)

  differs-there : (k : ℕ) → all_agree ss ws ≡ false → place_of ss ws ≡ k → Differs ss ws k
  differs-there k n e =
      let m = place-most in
      record {
        before = followed-renames k (omega arith);
        there =
            elim (ℕ_discrete k (length ss)) [
              | yes p ↦
                  elim (ℕ_discrete k (length ws)) [
                    | yes q ↦ absurd (clash (whole_agree (omega arith) (omega arith)) n)
                    | no q ↦ inr (inl (p, omega arith))
                  ]
              | no p ↦
                  elim (ℕ_discrete k (length ws)) [
                    | yes q ↦ inr (inr (q, omega arith))
                    | no q ↦ inl (omega arith, omega arith, λ r. let l = renames-followed (k + 1) r in omega arith)
                  ]
            ];
      }

  there-place : (k : ℕ) → Differs ss ws k → place_of ss ws ≡ k
  there-place k d =
      let h = renames-followed k d.before in
      let m = place-most in
      ⊎_elim
      (λ t. elim (ℕ_discrete (place_of ss ws) k) [ yes e ↦ e | no e ↦ absurd (t.2 (followed-renames (k + 1) (omega arith))) ])
      (λ u. ⊎_elim (λ t. omega arith) (λ t. omega arith) u) d.there

  differs-not : (k : ℕ) → Differs ss ws k → all_agree ss ws ≡ false
  differs-not k d = go (there-place k d) (all_agree ss ws) refl
    where
      go : place_of ss ws ≡ k → (v : Bool) → all_agree ss ws ≡ v → all_agree ss ws ≡ false
      go p true e =
          let (q, w) = agree-whole e in
          absurd (⊎_elim (λ u. omega arith) (λ u. ⊎_elim (λ v. omega arith) (λ v. omega arith) u) d.there)
      go p false e = e

  pub differs-exact : (k : ℕ) → ((all_agree ss ws ≡ false) × (place_of ss ws ≡ k)) ↔ Differs ss ws k
  differs-exact k = (λ u. differs-there k u.0 u.1, λ d. (differs-not k d, there-place k d))

-- ---- of any slots: never both, and never two places
module _ (ss : List Slot) (ws : List ℕ) where
  -- what turns the first i words turns fewer
  pub renames-less : (i j : ℕ) → Renames ss ws i → j ≤ i → Renames ss ws j
  renames-less i j r h =
      let l = r.slots in
      let m = r.words in
      record { to = r.to; one-to-one = r.one-to-one; slots = omega arith; words = omega arith; turns = λ k n. r.turns k (omega arith) }

  -- a renaming that goes past a place at which they differ
  differs-most : (i k : ℕ) → Renames ss ws i → Differs ss ws k → i ≤ k
  differs-most i k r d =
      let l = r.slots in
      let m = r.words in
      ⊎_elim (λ t. elim (dec_lt k i) [ yes h ↦ absurd (t.2 (renames-less i (k + 1) r (omega arith))) | no h ↦ omega arith ])
      (λ u. ⊎_elim (λ t. omega arith) (λ t. omega arith) u) d.there

  pub same_differs : Same ss ws → (k : ℕ) → Differs ss ws k → ⊥
  same_differs s k d =
      let h = differs-most (length ss) k s.renames d in
      let e = s.size in
      ⊎_elim (λ t. omega arith) (λ u. ⊎_elim (λ t. omega arith) (λ t. omega arith) u) d.there

  pub differs-one : (j k : ℕ) → Differs ss ws j → Differs ss ws k → j ≡ k
  differs-one j k d e = let h = differs-most j k d.before e in let l = differs-most k j e.before d in omega arith

-- and one of the two always, where the slots are in order
pub same-or-differs : (ss : List Slot) (ws : List ℕ) → Ordered ss → Same ss ws ⊎ Differs ss ws (place_of ss ws)
same-or-differs ss ws o = go (all_agree ss ws) refl
  where
    go : (v : Bool) → all_agree ss ws ≡ v → Same ss ws ⊎ Differs ss ws (place_of ss ws)
    go true e = inl ((same-exact ss ws o).0 e)
    go false e = inr ((differs-exact ss ws o (place_of ss ws)).0 (e, refl))
