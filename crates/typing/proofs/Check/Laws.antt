-- The test holds exactly of the rules' instances. Assumes nothing.
use Rattle.std.specs.Prelude.{Bool, true, false, not, ◌&&◌, ◌≡◌, refl, ◌↔◌}
use Rattle.std.proofs.Common.{true≢false, sym, subst, subst₂}
use mathlib.Core.List.{List, [], ◌∷◌, Memᴰ}
use Rattle.std.proofs.lemmas.Bool.{not-true}
use Rattle.words.specs.Choice.{choose}
use Rattle.words.specs.Choice.Laws.{choose_yes}
use Rattle.typing.specs.Types.{Entry, Environment, same_entry}
use Rattle.typing.specs.Judgement.{Judgement, same_judgement, same_judgements}
use Rattle.typing.specs.Rule.{Rule, Instance}
use Rattle.typing.specs.Check.{left, right, name_of, second, promised, entry_name, entry_type, newest, older, parts_of, environment_of, term_of, type_of, effects_of, process_of, first, rest, printed, asks, stands, follows}

-- ---- tests
pub both : (a b : Bool) → (a && b) ≡ true → (a ≡ true) × (b ≡ true)
both true true e = (refl, refl)
both true false e = absurd (true≢false (sym e))
both false b e = absurd (true≢false (sym e))

pub and_both : (a b : Bool) → a ≡ true → b ≡ true → (a && b) ≡ true
and_both true true p q = refl
and_both true false p q = absurd (true≢false (sym q))
and_both false b p q = absurd (true≢false (sym p))

false-not : (a : Bool) → a ≡ false → not a ≡ true
false-not true e = absurd (true≢false e)
false-not false e = refl

-- ---- stands
pub stands-member : (a : Entry) (E : Environment) → stands a E ≡ true → Memᴰ a E
unfolding stands choose
stands-member a [] e = absurd (true≢false (sym e))
stands-member a (b ∷ E) e = go (same_entry a b) (λ h. stands-member a E h) e
  where
    go : (d : Dec (a ≡ b)) → (stands a E ≡ true → Memᴰ a E) → choose d true (stands a E) ≡ true → Memᴰ a (b ∷ E)
    go (yes p) f h = Memᴰ.head p
    go (no p) f h = Memᴰ.tail (f h)

pub member-stands : (a : Entry) (E : Environment) → Memᴰ a E → stands a E ≡ true
unfolding stands choose
member-stands a [] m = elim m [ ]
member-stands a (b ∷ E) (Memᴰ.head e) = choose_yes (same_entry a b) true (stands a E) e
member-stands a (b ∷ E) (Memᴰ.tail m) = go (same_entry a b) (member-stands a E m)
  where
    go : (d : Dec (a ≡ b)) → stands a E ≡ true → choose d true (stands a E) ≡ true
    go (yes p) h = refl
    go (no p) h = h

-- ---- a rule as it is written out is an instance, if what it asks holds
sound : (r : Rule) (Js : List Judgement) (J : Judgement) → asks r (printed Js J r).1 ≡ true
    → Instance r (printed Js J r).0 (printed Js J r).1
unfolding left right name_of second promised entry_name entry_type newest older parts_of environment_of term_of type_of effects_of process_of first rest printed asks
sound Rule.empty Js J e = Instance.empty
sound Rule.entry Js J e = Instance.entry
sound Rule.effect-none Js J e = Instance.effect-none
sound Rule.effect-end Js J e = Instance.effect-end
sound Rule.effect-check Js J e = Instance.effect-check
sound Rule.type-Un Js J e = Instance.type-Un
sound Rule.type-pair Js J e = Instance.type-pair
sound Rule.type-channel Js J e = Instance.type-channel
sound Rule.type-symkey Js J e = Instance.type-symkey
sound Rule.type-nonce Js J e = Instance.type-nonce
sound Rule.name Js J e = Instance.name (stands-member _ _ e)
sound Rule.pair Js J e = Instance.pair
sound Rule.cipher Js J e = Instance.cipher
sound Rule.cipher-Un Js J e = Instance.cipher-Un
sound Rule.pair-Un Js J e = Instance.pair-Un
sound Rule.stop Js J e = Instance.stop
sound Rule.begin Js J e = Instance.begin e
sound Rule.end Js J e = Instance.end e
sound Rule.parallel Js J e = Instance.parallel
sound Rule.new Js J e = let (p, q) = both _ _ e in Instance.new p (not-true _ q)
sound Rule.out Js J e = Instance.out
sound Rule.inp Js J e = Instance.inp (not-true _ e)
sound Rule.split Js J e = let (p, q) = both _ _ e in Instance.split (not-true _ p) (not-true _ q)
sound Rule.match Js J e = Instance.match (not-true _ e)
sound Rule.cast Js J e = Instance.cast (not-true _ e)
sound Rule.check Js J e = Instance.check
sound Rule.decrypt Js J e = Instance.decrypt (not-true _ e)
sound Rule.out-Un Js J e = Instance.out-Un
sound Rule.inp-Un Js J e = Instance.inp-Un (not-true _ e)
sound Rule.split-Un Js J e = let (p, q) = both _ _ e in Instance.split-Un (not-true _ p) (not-true _ q)
sound Rule.match-Un Js J e = Instance.match-Un (not-true _ e)
sound Rule.decrypt-Un Js J e = Instance.decrypt-Un (not-true _ e)

-- ---- an instance is the rule as it is written out from its parts, and what it asks holds
pub record Written (r : Rule) (Js : List Judgement) (J : Judgement) : Type 0 where
  pub premises : Js ≡ (printed Js J r).0
  pub conclusion : J ≡ (printed Js J r).1
  pub asked : asks r J ≡ true

complete : {r : Rule} {Js : List Judgement} {J : Judgement} → Instance r Js J → Written r Js J
unfolding left right name_of second promised entry_name entry_type newest older parts_of environment_of term_of type_of effects_of process_of first rest printed asks
complete Instance.empty = record { premises = refl; conclusion = refl; asked = refl }
complete Instance.entry = record { premises = refl; conclusion = refl; asked = refl }
complete Instance.effect-none = record { premises = refl; conclusion = refl; asked = refl }
complete Instance.effect-end = record { premises = refl; conclusion = refl; asked = refl }
complete Instance.effect-check = record { premises = refl; conclusion = refl; asked = refl }
complete Instance.type-Un = record { premises = refl; conclusion = refl; asked = refl }
complete Instance.type-pair = record { premises = refl; conclusion = refl; asked = refl }
complete Instance.type-channel = record { premises = refl; conclusion = refl; asked = refl }
complete Instance.type-symkey = record { premises = refl; conclusion = refl; asked = refl }
complete Instance.type-nonce = record { premises = refl; conclusion = refl; asked = refl }
complete (Instance.name m) = record { premises = refl; conclusion = refl; asked = member-stands _ _ m }
complete Instance.pair = record { premises = refl; conclusion = refl; asked = refl }
complete Instance.cipher = record { premises = refl; conclusion = refl; asked = refl }
complete Instance.cipher-Un = record { premises = refl; conclusion = refl; asked = refl }
complete Instance.pair-Un = record { premises = refl; conclusion = refl; asked = refl }
complete Instance.stop = record { premises = refl; conclusion = refl; asked = refl }
complete (Instance.begin e) = record { premises = refl; conclusion = refl; asked = e }
complete (Instance.end e) = record { premises = refl; conclusion = refl; asked = e }
complete Instance.parallel = record { premises = refl; conclusion = refl; asked = refl }
complete (Instance.new g e) = record { premises = refl; conclusion = refl; asked = and_both _ _ g (false-not _ e) }
complete Instance.out = record { premises = refl; conclusion = refl; asked = refl }
complete (Instance.inp e) = record { premises = refl; conclusion = refl; asked = false-not _ e }
complete (Instance.split e d) = record { premises = refl; conclusion = refl; asked = and_both _ _ (false-not _ e) (false-not _ d) }
complete (Instance.match e) = record { premises = refl; conclusion = refl; asked = false-not _ e }
complete (Instance.cast e) = record { premises = refl; conclusion = refl; asked = false-not _ e }
complete Instance.check = record { premises = refl; conclusion = refl; asked = refl }
complete (Instance.decrypt e) = record { premises = refl; conclusion = refl; asked = false-not _ e }
complete Instance.out-Un = record { premises = refl; conclusion = refl; asked = refl }
complete (Instance.inp-Un e) = record { premises = refl; conclusion = refl; asked = false-not _ e }
complete (Instance.split-Un e d) = record { premises = refl; conclusion = refl; asked = and_both _ _ (false-not _ e) (false-not _ d) }
complete (Instance.match-Un e) = record { premises = refl; conclusion = refl; asked = false-not _ e }
complete (Instance.decrypt-Un e) = record { premises = refl; conclusion = refl; asked = false-not _ e }

-- ---- follows
pub follows-instance : (r : Rule) (Js : List Judgement) (J : Judgement) → follows r Js J ≡ true → Instance r Js J
unfolding follows choose
follows-instance r Js J e = go (same_judgements Js (printed Js J r).0) (same_judgement J (printed Js J r).1) e
  where
    go : (d : Dec (Js ≡ (printed Js J r).0)) (c : Dec (J ≡ (printed Js J r).1)) → choose d (choose c (asks r J) false) false ≡ true → Instance r Js J
    go (yes p) (yes q) h = subst₂ (λ (Ks : List Judgement) (K : Judgement). Instance r Ks K) (sym p) (sym q)
        (sound r Js J (subst (λ (K : Judgement). asks r K ≡ true) q h))
    go (yes p) (no q) h = absurd (true≢false (sym h))
    go (no p) (yes q) h = absurd (true≢false (sym h))
    go (no p) (no q) h = absurd (true≢false (sym h))

pub instance-follows : (r : Rule) (Js : List Judgement) (J : Judgement) → Instance r Js J → follows r Js J ≡ true
unfolding follows choose
instance-follows r Js J i =
    let w = complete i in
    rw (
      choose_yes (same_judgements Js (printed Js J r).0) (choose (same_judgement J (printed Js J r).1) (asks r J) false) false w.premises,
      choose_yes (same_judgement J (printed Js J r).1) (asks r J) false w.conclusion,
    ) w.asked

-- the test holds exactly of the instances
pub exact : (r : Rule) (Js : List Judgement) (J : Judgement) → (follows r Js J ≡ true) ↔ Instance r Js J
exact r Js J = (follows-instance r Js J, instance-follows r Js J)
