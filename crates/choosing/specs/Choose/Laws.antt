-- Laws of what lines say by their kinds. Assumes nothing.
use Rattle.std.specs.Prelude.{ℕ, Bool, true, List, [], ◌∷◌, ◌≡◌}
use Rattle.std.proofs.Math.Option.{Option, none, some}
use Rattle.std.proofs.Common.{sym, ◌∙◌, ap}
use Rattle.typing.proofs.Check.Laws.{both, and_both}
use Rattle.typing.specs.Derivation.{Kind, Numbered, rule_of}
use Rattle.ruling.specs.declared.Line.{Line}
use Rattle.choosing.specs.Kinds.{premise_kinds}
use Rattle.choosing.specs.Choose.{There, is_there, AllThere, Ready, follows_by}
use Rattle.choosing.specs.Choose.Tests.{reads-there, there-reads}

-- ---- a line of a kind is there exactly if the kind's test holds
pub there-test : (k : Kind) (w : List ℕ) (l : Line) → is_there k w l ≡ true → There k w l
unfolding is_there
there-test Kind.of_environment w l e = record { environment = reads-there _ _ _ e }
there-test Kind.of_type w l e =
    let (d, t) = both _ _ e in
    record { environment = reads-there _ _ _ d; type = reads-there _ _ _ t }
there-test Kind.of_effect w l e =
    let (d, f) = both _ _ e in
    record { environment = reads-there _ _ _ d; effects = reads-there _ _ _ f }
there-test Kind.of_term w l e =
    let (d, h) = both _ _ e in
    let (s, t) = both _ _ h in
    record { environment = reads-there _ _ _ d; term = reads-there _ _ _ s; type = reads-there _ _ _ t }
there-test Kind.of_process w l e =
    let (d, h) = both _ _ e in
    let (s, f) = both _ _ h in
    record { environment = reads-there _ _ _ d; process = reads-there _ _ _ s; effects = reads-there _ _ _ f }

pub test-there : (k : Kind) (w : List ℕ) (l : Line) → There k w l → is_there k w l ≡ true
unfolding is_there
test-there Kind.of_environment w l t = there-reads _ _ _ t.environment
test-there Kind.of_type w l t = and_both _ _ (there-reads _ _ _ t.environment) (there-reads _ _ _ t.type)
test-there Kind.of_effect w l t = and_both _ _ (there-reads _ _ _ t.environment) (there-reads _ _ _ t.effects)
test-there Kind.of_term w l t =
    and_both _ _ (there-reads _ _ _ t.environment) (and_both _ _ (there-reads _ _ _ t.term) (there-reads _ _ _ t.type))
test-there Kind.of_process w l t =
    and_both _ _ (there-reads _ _ _ t.environment) (and_both _ _ (there-reads _ _ _ t.process) (there-reads _ _ _ t.effects))

-- ---- a rule by its number: what its function asks, one part a line, and what it answers
abbrev Parts : Kind → List Kind → List ℕ → (i j k l : Line) → Type 0
Parts c [] w i j k l = There c w i
Parts c (a ∷ []) w i j k l = There c w i × There a w j
Parts c (a ∷ b ∷ []) w i j k l = There c w i × There a w j × There b w k
Parts c (a ∷ b ∷ d ∷ ks) w i j k l = There c w i × There a w j × There b w k × There d w l

abbrev pub Asked : Option Numbered → List ℕ → (i j k l : Line) → Type 0
Asked none w i j k l = ⊥
Asked (some r) w i j k l = Parts r.kind (premise_kinds r.rule) w i j k l

there-parts : (c : Kind) (ks : List Kind) (w : List ℕ) (i j k l : Line) → There c w i → AllThere ks w (j ∷ k ∷ l ∷ [])
    → Parts c ks w i j k l
there-parts c [] w i j k l t ts = t
there-parts c (a ∷ []) w i j k l t ts = (t, ts.0)
there-parts c (a ∷ b ∷ []) w i j k l t ts = (t, ts.0, ts.1.0)
there-parts c (a ∷ b ∷ d ∷ ks) w i j k l t ts = (t, ts.0, ts.1.0, ts.1.1.0)

ready-asked : (o : Option Numbered) (w : List ℕ) (i j k l : Line) → Ready o w i (j ∷ k ∷ l ∷ []) → Asked o w i j k l
ready-asked none w i j k l t = t
ready-asked (some r) w i j k l t = there-parts r.kind (premise_kinds r.rule) w i j k l t.0 t.1

pub ready_at : (m n : ℕ) (w : List ℕ) (i j k l : Line) → n ≡ m → Ready (rule_of n) w i (j ∷ k ∷ l ∷ []) → Asked (rule_of m) w i j k l
ready_at m n w i j k l e t = rw (← e) (ready-asked (rule_of n) w i j k l t)

pub follows-at : (m n : ℕ) (w : List ℕ) (i : Line) (ls : List Line) (b : Bool) → n ≡ m → b ≡ follows_by (rule_of m) w i ls
    → b ≡ follows_by (rule_of n) w i ls
follows-at m n w i ls b e t = t ∙ ap (λ (x : ℕ). follows_by (rule_of x) w i ls) (sym e)
