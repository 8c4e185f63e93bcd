-- What the meaning says of a row, from what it says of its parts: the form in which code that works on rows meets it.
use Rattle.std.specs.Prelude.{ℕ, ◌-◌, Bool, true, false, List, [], ◌∷◌, ◌++◌, map}
use Rattle.words.specs.Choice.{pick}
use Rattle.terms.specs.Kind.{Form, of_kind}
use Rattle.terms.specs.Image.{words}
use Rattle.terms.specs.Table.{term}
use Rattle.book.specs.Layout.{table, kind, tag, row_count, list_at}
use Rattle.translation.specs.Dictionary.{Held, free, given, made, stored, buildable, image}
use Rattle.holding.specs.View.{row_of, view}
pub mod Laws

-- the row is buildable from what the entries hold
abbrev pub can_at : List ℕ → List ℕ → ℕ → Bool
can_at b e r = buildable (view b e) (term (table b) r)

unfoldable pub all_true : List Bool → Bool
all_true [] = true
all_true (x ∷ xs) = pick x (all_true xs) false

-- the words of the row's image
abbrev pub image_at : List ℕ → List ℕ → ℕ → List ℕ
image_at b e r = words (row_of b) (image (view b e) (term (table b) r))

unfoldable pub concat : List (List ℕ) → List ℕ
concat [] = []
concat (x ∷ xs) = x ++ concat xs

-- the images of the n rows that stand in the pool from f on
unfoldable pub images_at : List ℕ → List ℕ → ℕ → ℕ → List ℕ
images_at b e f n = concat (map (image_at b e) (list_at b f n))

-- how an image begins that is no entry: its kind's code, and what its form tells besides, of the row, its tag and its number of parts
unfoldable pub told : Form → ℕ → ℕ → ℕ → List ℕ
told Form.atom r g n = r ∷ []
told Form.operation r g n = g ∷ n ∷ []
told Form.cipher r g n = (n - 1) ∷ []
told Form.public r g n = []
told Form.private r g n = []

unfoldable pub head_of : ℕ → ℕ → ℕ → ℕ → List ℕ
unfolding told
head_of r k g n = (of_kind k).code ∷ told (of_kind k).form r g n

abbrev pub head_words : List ℕ → ℕ → List ℕ
head_words b r = head_of r (kind b r) (tag b r) (row_count b r)

-- the words of the image of row r, by how it is held; what is not held is no entry
unfoldable pub entry_words : ℕ → Held → List ℕ
entry_words r free = []
entry_words r given = 0 ∷ r ∷ []
entry_words r (made s) = 0 ∷ r ∷ []
entry_words r (stored s x) = 1 ∷ x ∷ []
