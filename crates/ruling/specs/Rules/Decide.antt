-- A test that holds exactly if a rule is written out from its parts is the rule's own. Assumes nothing.
use Rattle.std.specs.Prelude.{Bool, ◌&&◌, List, ◌≡◌, refl}
use Rattle.std.proofs.Math.Bool.{true, false}
use Rattle.std.proofs.Common.{true≢false, sym, ◌∙◌}
use Rattle.words.specs.Choice.{choose}
use Rattle.words.specs.Choice.Laws.{choose_yes}
use Rattle.typing.specs.Judgement.{Judgement, same_judgement, same_judgements}
use Rattle.typing.specs.Rule.{Rule}
use Rattle.typing.specs.Check.{printed, asks, follows}
use Rattle.typing.proofs.Check.Laws.{both, and_both}
use Rattle.alike.specs.Same.{test}
use Rattle.alike.specs.Same.Laws.{test-yes, test-true}

-- as it is written out
pub record Written (r : Rule) (Js : List Judgement) (J : Judgement) : Type 0 where
  pub premises : Js ≡ (printed Js J r).0
  pub conclusion : J ≡ (printed Js J r).1
  pub asked : asks r J ≡ true

module _ (r : Rule) (Js : List Judgement) (J : Judgement) where
  written-follows : Written r Js J → follows r Js J ≡ true
  unfolding follows
  written-follows w =
      choose_yes (same_judgements Js (printed Js J r).0) _ _ w.premises ∙ choose_yes (same_judgement J (printed Js J r).1) _ _ w.conclusion
      ∙ w.asked

  follows-written : follows r Js J ≡ true → Written r Js J
  unfolding follows choose
  follows-written e = go (same_judgements Js (printed Js J r).0) (same_judgement J (printed Js J r).1) e
    where
      go : (c : Dec (Js ≡ (printed Js J r).0)) (d : Dec (J ≡ (printed Js J r).1)) → choose c (choose d (asks r J) false) false ≡ true → Written r Js J
      go (yes p) (yes q) h = record { premises = p; conclusion = q; asked = h }
      go (yes p) (no q) h = absurd (true≢false (sym h))
      go (no p) d h = absurd (true≢false (sym h))

-- ---- a test holds exactly of a fact
pub record Tells (b : Bool) (P : Type 0) : Type 0 where
  pub holds : b ≡ true → P
  pub so : P → b ≡ true

pub is : {P : Type 0} (d : Dec P) → Tells (test d) P
is d = record { holds = test-true d; so = test-yes d }

pub itself : (b : Bool) → Tells b (b ≡ true)
itself b = record { holds = λ e. e; so = λ e. e }

infixr 40 ◌&◌
pub ◌&◌ : {a b : Bool} {P Q : Type 0} → Tells a P → Tells b Q → Tells (a && b) (P × Q)
◌&◌ {a} {b} s t =
    record {
      holds = λ e.
          let (p, q) = both a b e in
          (s.holds p, t.holds q);
      so = λ h. and_both a b (s.so h.0) (t.so h.1);
    }

-- two tests of one fact
pub same-tests : {a b : Bool} {P Q : Type 0} → Tells a P → Tells b Q → (P → Q) → (Q → P) → a ≡ b
same-tests {a} {b} s t f g = go a b (λ e. t.so (f (s.holds e))) (λ e. s.so (g (t.holds e)))
  where
    go : (c d : Bool) → (c ≡ true → d ≡ true) → (d ≡ true → c ≡ true) → c ≡ d
    go true d h k = sym (h refl)
    go false true h k = k refl
    go false false h k = refl

-- the rule's own test, from a test of the parts that it is written out from
pub by-tests : {r : Rule} {Js : List Judgement} {J : Judgement} {b : Bool} {P : Type 0} → Tells b P → (P → Written r Js J) → (Written r Js J → P)
    → follows r Js J ≡ b
by-tests {r} {Js} {J} t f g = same-tests (record { holds = follows-written r Js J; so = written-follows r Js J }) t g f

-- nothing is written out so
pub never-follows : {r : Rule} {Js : List Judgement} {J : Judgement} → (Written r Js J → ⊥) → false ≡ follows r Js J
never-follows {r} {Js} {J} d = go (follows r Js J) (follows-written r Js J)
  where
    go : (b : Bool) → (b ≡ true → Written r Js J) → false ≡ b
    go true h = absurd (d (h refl))
    go false h = refl

-- a test that is a law's
pub by-law : {r a b : Bool} → a ≡ b → r ≡ b → r ≡ a
by-law e d = d ∙ sym e
