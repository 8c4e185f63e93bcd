-- Sending, figure 3's S. Document 01: "Messages left to right. A row in the dictionary gives its entry. Else parts first, a cipher's
-- key before its contents. An atom not in the dictionary is made, and is from then on known as itself." It is entered as made at the
-- step s that is sent. Which atoms can't be made is refusals 10 and 13's business (Taken).
use Rattle.std.specs.Prelude.{ℕ, List, [], ◌∷◌, ◌++◌}
use Rattle.terms.specs.Term.{Term, Terms}
use Rattle.terms.specs.Image.{Image, Images}
use Rattle.translation.specs.Dictionary.{Held, Dictionary, enter}
pub mod Laws

-- what building a term gives: the dictionary afterwards, the atoms made, in order, and the image
pub record Built : Type 0 where
  pub dictionary : Dictionary
  pub made : List ℕ
  pub image : Image

pub record AllBuilt : Type 0 where
  pub dictionary : Dictionary
  pub made : List ℕ
  pub images : Images

-- a term that is held gives its entry and makes nothing; else the rest is done
unfoldable pub built_or : Held → Term → Dictionary → Built → Built
built_or Held.free t δ b = b
built_or Held.given t δ b = record { dictionary = δ; made = []; image = Image.itself t }
built_or (Held.made s) t δ b = record { dictionary = δ; made = []; image = Image.itself t }
built_or (Held.stored s x) t δ b = record { dictionary = δ; made = []; image = Image.placeholder x }

abbrev pub makes : ℕ → ℕ → Dictionary → Built
makes s r δ = record { dictionary = enter δ (Term.atom r) (Held.made s); made = r ∷ []; image = Image.itself (Term.atom r) }

abbrev pub wrapped : (Image → Image) → Built → Built
wrapped f b = record { dictionary = b.dictionary; made = b.made; image = f b.image }

abbrev pub over : (Images → Image) → AllBuilt → Built
over f b = record { dictionary = b.dictionary; made = b.made; image = f b.images }

unfoldable mutual
  pub build : ℕ → Term → Dictionary → Built
  build s (Term.atom r) δ = built_or (δ (Term.atom r)) (Term.atom r) δ (makes s r δ)
  build s (Term.operation g ts) δ = built_or (δ (Term.operation g ts)) (Term.operation g ts) δ (over (Image.operation g) (build_all s ts δ))
  build s (Term.cipher k ts) δ =
      built_or (δ (Term.cipher k ts)) (Term.cipher k ts) δ
      (let b = build s k δ in let c = build_all s ts b.dictionary in
      record { dictionary = c.dictionary; made = b.made ++ c.made; image = Image.cipher b.image c.images })
  build s (Term.public t) δ = built_or (δ (Term.public t)) (Term.public t) δ (wrapped Image.public (build s t δ))
  build s (Term.private t) δ = built_or (δ (Term.private t)) (Term.private t) δ (wrapped Image.private (build s t δ))

  pub build_all : ℕ → Terms → Dictionary → AllBuilt
  build_all s Terms.nil δ = record { dictionary = δ; made = []; images = Images.nil }
  build_all s (Terms.cons t ts) δ =
      let b = build s t δ in let c = build_all s ts b.dictionary in
      record { dictionary = c.dictionary; made = b.made ++ c.made; images = Images.cons b.image c.images }
