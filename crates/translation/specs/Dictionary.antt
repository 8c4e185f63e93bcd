-- What a party holds. Document 01: "For each party a dictionary sends rows to images. It starts with each known row as itself."
-- A dictionary is a map on terms, and says how a term is held. Document 02, [6]: "Whatever tells the translator that a row is held must
-- now tell how: given at the start, made at step s, or stored at step s." The image follows: what is given or made is the term itself,
-- what is stored is its placeholder.
use Rattle.std.specs.Prelude.{ℕ, Bool, true, false, List, [], ◌∷◌, ◌≡◌}
use Rattle.words.specs.Choice.{pick, choose}
use Rattle.terms.specs.Term.{Term, Terms, same}
use Rattle.terms.specs.Image.{Image, Images}
pub mod Laws

pub data Held : Type 0 where
  -- not in the dictionary
  free : Held
  -- at the start
  given : Held
  -- at step s
  made : ℕ → Held
  -- at step s, under placeholder x
  stored : ℕ → ℕ → Held

abbrev pub Dictionary : Type 0
Dictionary = Term → Held

abbrev pub is_held : Held → Bool
is_held free = false
is_held given = true
is_held (made s) = true
is_held (stored s x) = true

-- the dictionary with one term entered
unfoldable pub enter : Dictionary → Term → Held → Dictionary
enter δ t h u = choose (same t u) h (δ u)

-- each known term as given
unfoldable pub start : List Term → Dictionary
start [] = λ t. free
start (t ∷ ts) = enter (start ts) t given

-- "Buildable means: the row is in the dictionary; or it isn't an atom and all its parts are buildable. (An operation without
-- arguments always is.)"
unfoldable mutual
  pub buildable : Dictionary → Term → Bool
  buildable δ (Term.atom r) = is_held (δ (Term.atom r))
  buildable δ (Term.operation g ts) = pick (is_held (δ (Term.operation g ts))) true (all_buildable δ ts)
  buildable δ (Term.cipher k ts) = pick (is_held (δ (Term.cipher k ts))) true (pick (buildable δ k) (all_buildable δ ts) false)
  buildable δ (Term.public t) = pick (is_held (δ (Term.public t))) true (buildable δ t)
  buildable δ (Term.private t) = pick (is_held (δ (Term.private t))) true (buildable δ t)

  pub all_buildable : Dictionary → Terms → Bool
  all_buildable δ Terms.nil = true
  all_buildable δ (Terms.cons t ts) = pick (buildable δ t) (all_buildable δ ts) false

-- "A definition by existence of such a derivation stands beside the computed one." A derivation ends at terms that are held and,
-- where `free` says so of an atom, at that atom: `Derives nobody δ` is buildable, and what a sender can build may end at untaken
-- atoms too.
mutual
  pub data Derives (free : ℕ → Type 0) (δ : Dictionary) : Term → Type 0 where
    held : {t : Term} → is_held (δ t) ≡ true → Derives free δ t
    make : {r : ℕ} → free r → Derives free δ (Term.atom r)
    operation : {g : ℕ} {ts : Terms} → DerivesAll free δ ts → Derives free δ (Term.operation g ts)
    cipher : {k : Term} {ts : Terms} → Derives free δ k → DerivesAll free δ ts → Derives free δ (Term.cipher k ts)
    public : {t : Term} → Derives free δ t → Derives free δ (Term.public t)
    private : {t : Term} → Derives free δ t → Derives free δ (Term.private t)

  pub data DerivesAll (free : ℕ → Type 0) (δ : Dictionary) : Terms → Type 0 where
    nil : DerivesAll free δ Terms.nil
    cons : {t : Term} {ts : Terms} → Derives free δ t → DerivesAll free δ ts → DerivesAll free δ (Terms.cons t ts)

abbrev pub nobody : ℕ → Type 0
nobody r = ⊥

abbrev pub Buildable : Dictionary → Term → Type 0
Buildable δ t = Derives nobody δ t

-- "The image of a row in the dictionary is the entry there; else it is the same form over its parts' images."
unfoldable pub image_or : Held → Term → Image → Image
image_or free t i = i
image_or given t i = Image.itself t
image_or (made s) t i = Image.itself t
image_or (stored s x) t i = Image.placeholder x

-- an atom that is not held has no image, and none is asked for: it would be the atom itself
unfoldable mutual
  pub image : Dictionary → Term → Image
  image δ (Term.atom r) = image_or (δ (Term.atom r)) (Term.atom r) (Image.itself (Term.atom r))
  image δ (Term.operation g ts) = image_or (δ (Term.operation g ts)) (Term.operation g ts) (Image.operation g (images δ ts))
  image δ (Term.cipher k ts) = image_or (δ (Term.cipher k ts)) (Term.cipher k ts) (Image.cipher (image δ k) (images δ ts))
  image δ (Term.public t) = image_or (δ (Term.public t)) (Term.public t) (Image.public (image δ t))
  image δ (Term.private t) = image_or (δ (Term.private t)) (Term.private t) (Image.private (image δ t))

  pub images : Dictionary → Terms → Images
  images δ Terms.nil = Images.nil
  images δ (Terms.cons t ts) = Images.cons (image δ t) (images δ ts)
