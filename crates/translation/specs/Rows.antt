-- What a program names as held as itself, or as stored.
use Rattle.std.specs.Prelude.{ℕ, List, [], ◌∷◌}
use Rattle.terms.specs.Term.{Term}
use Rattle.terms.specs.Image.{Image, Images}
use Rattle.translation.specs.Receive.{Event, Stored}

-- P holds of each term that the image has as itself
mutual
  pub data Names (P : Term → Type 0) : Image → Type 0 where
    itself : {t : Term} → P t → Names P (Image.itself t)
    placeholder : {x : ℕ} → Names P (Image.placeholder x)
    operation : {g : ℕ} {is : Images} → NamesAll P is → Names P (Image.operation g is)
    cipher : {k : Image} {is : Images} → Names P k → NamesAll P is → Names P (Image.cipher k is)
    public : {i : Image} → Names P i → Names P (Image.public i)
    private : {i : Image} → Names P i → Names P (Image.private i)

  pub data NamesAll (P : Term → Type 0) : Images → Type 0 where
    nil : NamesAll P Images.nil
    cons : {i : Image} {is : Images} → Names P i → NamesAll P is → NamesAll P (Images.cons i is)

-- and of each that was stored
abbrev pub StoredAll : (Term → Type 0) → List Stored → Type 0
StoredAll P [] = Unit {0}
StoredAll P (p ∷ ps) = P p.0 × StoredAll P ps

abbrev pub EventNames : (Term → Type 0) → Event → Type 0
EventNames P (Event.new r) = Unit {0}
EventNames P (Event.sends s is) = NamesAll P is
EventNames P (Event.receives s f n) = Unit {0}
EventNames P (Event.checks x i) = Names P i
EventNames P (Event.opens x f n i) = Names P i
EventNames P (Event.ends ps) = StoredAll P ps

pub data ProgramNames (P : Term → Type 0) : List Event → Type 0 where
  nil : ProgramNames P []
  cons : {e : Event} {es : List Event} → EventNames P e → ProgramNames P es → ProgramNames P (e ∷ es)
