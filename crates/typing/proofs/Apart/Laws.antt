-- The test holds exactly where the bound names are apart (`apart-exact`). Assumes nothing.
use Rattle.std.specs.Prelude.{ℕ, Bool, true, false, not, ◌↔◌, ◌≡◌, refl, eqb}
use Rattle.std.proofs.Common.{true≢false, sym, ap, eqb-true, eq-eqb}
use mathlib.Core.List.{List, [], ◌∷◌, Memᴰ}
use Rattle.std.proofs.lemmas.Bool.{not-true}
use Rattle.words.specs.Choice.{then}
use Rattle.words.specs.Choice.Laws.{or_cases, or_left, or_right}
use Rattle.words.specs.First.Laws.{clash}
use Rattle.words.specs.Run.{All, NoRepeat}
use Rattle.typing.proofs.Check.Laws.{both, and_both}
use Rattle.typing.specs.Reading.{environment_at, process_at}
use Rattle.typing.specs.Derivation.{holds, whole}
use Rattle.typing.proofs.Derivation.Laws.{then-came, holds-came, whole-came}
use Rattle.typing.specs.Apart.{binders, names, among, clear, keeps_apart, KeepsApart}

among-member : (x : ℕ) (l : List ℕ) → among x l ≡ true → Memᴰ x l
unfolding among
among-member x [] e = absurd (true≢false (sym e))
among-member x (y ∷ l) e = or_cases (eqb x y) (among x l) e (λ h. Memᴰ.head (eqb-true x y h)) (λ h. Memᴰ.tail (among-member x l h))

member-among : (x : ℕ) (l : List ℕ) → Memᴰ x l → among x l ≡ true
unfolding among
member-among x [] m = elim m [ ]
member-among x (y ∷ l) (Memᴰ.head e) = or_left (eqb x y) (among x l) (eq-eqb x y e)
member-among x (y ∷ l) (Memᴰ.tail m) = or_right (eqb x y) (among x l) (member-among x l m)

away : (x : ℕ) (l : List ℕ) → not (among x l) ≡ true → Memᴰ x l → ⊥
away x l e m = clash (member-among x l m) (not-true _ e)

not-among : (x : ℕ) (l : List ℕ) → (Memᴰ x l → ⊥) → not (among x l) ≡ true
not-among x l h = go (among x l) refl
  where
    go : (b : Bool) → among x l ≡ b → not (among x l) ≡ true
    go true e = absurd (h (among-member x l e))
    go false e = ap not e

clear-each : (bs ns : List ℕ) → clear bs ns ≡ true → NoRepeat bs
unfolding clear
clear-each [] ns e = tt
clear-each (x ∷ bs) ns e =
    let (h, r) = both _ _ e in
    let (p, q) = both (not (among x bs)) (not (among x ns)) h in
    (away x bs p, clear-each bs ns r)

clear-new : (bs ns : List ℕ) → clear bs ns ≡ true → All (λ x. Memᴰ x ns → ⊥) bs
unfolding clear
clear-new [] ns e = tt
clear-new (x ∷ bs) ns e =
    let (h, r) = both _ _ e in
    let (p, q) = both (not (among x bs)) (not (among x ns)) h in
    (away x ns q, clear-new bs ns r)

apart-clear : (bs ns : List ℕ) → NoRepeat bs → All (λ x. Memᴰ x ns → ⊥) bs → clear bs ns ≡ true
unfolding clear
apart-clear [] ns e n = refl
apart-clear (x ∷ bs) ns e n =
    and_both _ _ (and_both _ _ (not-among x bs e.0) (not-among x ns n.0)) (apart-clear bs ns e.1 n.1)

keeps-apart : (a : List ℕ) → keeps_apart a ≡ true → KeepsApart a
unfolding keeps_apart
keeps-apart a e =
    let ((E, v), p, d) = then-came (environment_at a) _ true (holds-came _ e) in
    let (P, q, c) = then-came (whole (process_at v)) _ true d in
    let h : clear (binders P) (names E) ≡ true = cc in
    record {
      E = E;
      P = P;
      spells = record { behind = v; environment = p; process = whole-came _ P q };
      apart = record { each = clear-each _ _ h; new = clear-new _ _ h };
    }

apart-keeps : (a : List ℕ) → KeepsApart a → keeps_apart a ≡ true
unfolding keeps_apart whole then holds
apart-keeps a h =
    rw (h.spells.environment, then, h.spells.process, then)
    (apart-clear (binders h.P) (names h.E) h.apart.each h.apart.new)

pub apart-exact : (a : List ℕ) → (keeps_apart a ≡ true) ↔ KeepsApart a
apart-exact a = (keeps-apart a, apart-keeps a)
