-- Document 01: "An image is never longer than its row's size." Said of the words of a listing: a SEND's images are those of its step's
-- messages, a CHECK's is that of the term that its placeholder was handed out for, and an OPEN's is that of the key's partner, which need
-- not be a row and is of the key's size.
use Rattle.std.specs.Prelude.{ℕ, suc, ◌≤◌, ◌<◌, List, [], ◌∷◌, ◌≡◌, length}
use Rattle.terms.specs.Term.{Term, Terms}
use Rattle.terms.specs.Image.{Image, Images, words}
use Rattle.terms.specs.Table.{term, terms, row_size, number}
use Rattle.book.specs.Layout.{table, rows, messages, steps}
use Rattle.translation.specs.Receive.{Event, Stored}

-- placeholder x was handed out for the term t, where those from 0 on were handed out for these terms
pub data GivenAt : List Term → ℕ → Term → Type 0 where
  here : {t : Term} {ts : List Term} → GivenAt (t ∷ ts) 0 t
  later : {t u : Term} {ts : List Term} {x : ℕ} → GivenAt ts x t → GivenAt (u ∷ ts) (suc x) t

-- t is a row of the book b, and the image's words in b's listing are no more than that row's size
pub record Sized (b : List ℕ) (t : Term) (i : Image) : Type 0 where
  pub row : ℕ
  pub within : row < rows b
  pub stands : term (table b) row ≡ t
  pub short : length (words (number (table b) (rows b)) i) ≤ row_size (table b) row

-- one image for each term, in order
pub data SizedAll (b : List ℕ) : Terms → Images → Type 0 where
  nil : SizedAll b Terms.nil Images.nil
  cons : {t : Term} {ts : Terms} {i : Image} {is : Images} → Sized b t i → SizedAll b ts is → SizedAll b (Terms.cons t ts) (Images.cons i is)

-- the images of an event, where placeholders from 0 on were handed out for the terms given
pub data EventSized (b : List ℕ) (given : List Term) : Event → Type 0 where
  new : {r : ℕ} → EventSized b given (Event.new r)
  sends : {s : ℕ} {is : Images} → s < steps b → SizedAll b (terms (table b) (messages b s)) is → EventSized b given (Event.sends s is)
  receives : {s f n : ℕ} → EventSized b given (Event.receives s f n)
  checks : {x : ℕ} {i : Image} {t : Term} → GivenAt given x t → Sized b t i → EventSized b given (Event.checks x i)
  opens : {x f n : ℕ} {i : Image} {k : Term} {ts : Terms} → GivenAt given x (Term.cipher k ts) → Sized b k i → EventSized b given (Event.opens x f n i)
  ends : {ps : List Stored} → EventSized b given (Event.ends ps)

pub data ProgramSized (b : List ℕ) (given : List Term) : List Event → Type 0 where
  nil : ProgramSized b given []
  cons : {e : Event} {es : List Event} → EventSized b given e → ProgramSized b given es → ProgramSized b given (e ∷ es)
