-- The kinds of rows, a line each. Document 01: "Kind 0 atom (count 0); 1 operation (0 to 8 arguments); 2 cipher (1 to 9 parts, the key
-- first ..); 3 public half and 4 private half of a key (1 part). Tag is 0 to 65,535 for kind 1 and 0 for all others"; "A row's size:
-- atom 2; operation 3 plus its parts' sizes; cipher 2 plus its parts' sizes; public or private half 1 plus its part's"; "Images in
-- prefix words: 0, row ..; 2, tag, n, arguments; 3, n contents, key, contents; 4, image (public); 5, image (private)." What any
-- definition asks of a kind follows from this table.
use Rattle.std.specs.Prelude.{ℕ, zero, suc, ◌≤◌, Bool, eqb, leb}
use Rattle.words.specs.Choice.{pick}

-- the form of term that a row stands for
pub data Form : Type 0 where
  atom : Form
  operation : Form
  cipher : Form
  public : Form
  private : Form

pub record Kind : Type 0 where
  pub form : Form
  -- what it adds to its parts' sizes
  pub size : ℕ
  -- how many parts a row of it has
  pub fewest : ℕ
  pub most : ℕ
  -- the largest tag
  pub tag : ℕ
  -- the word that an image begins with which is no entry
  pub code : ℕ

abbrev kind : Form → ℕ → ℕ → ℕ → ℕ → ℕ → Kind
kind f z l m g c = record { form = f; size = z; fewest = l; most = m; tag = g; code = c }

-- form, size, fewest and most parts, largest tag, code. A row of any other number breaks its rule; so that definitions are total it
-- has the private half's numbers here, and stands for an atom
abbrev pub of_kind : ℕ → Kind
of_kind zero = kind Form.atom 2 0 0 0 0
of_kind (suc zero) = kind Form.operation 3 0 8 65535 2
of_kind (suc (suc zero)) = kind Form.cipher 2 1 9 0 3
of_kind (suc (suc (suc zero))) = kind Form.public 1 1 1 0 4
of_kind (suc (suc (suc (suc zero)))) = kind Form.private 1 1 1 0 5
of_kind (suc (suc (suc (suc (suc k))))) = kind Form.atom 1 1 1 0 5

-- the largest number that is a kind's
abbrev pub last_kind : ℕ
last_kind = 4

-- n parts are neither too few nor too many; the tag is not too large
pub record Shape (k n : ℕ) : Type 0 where
  pub low : (of_kind k).fewest ≤ n
  pub high : n ≤ (of_kind k).most

abbrev pub Tagged : ℕ → ℕ → Type 0
Tagged k g = g ≤ (of_kind k).tag

-- ---- the halves: kind 3 public, 4 private
abbrev pub is_half : ℕ → Bool
is_half k = leb 3 k

unfoldable pub other_half : ℕ → ℕ
other_half k = pick (eqb k 3) 4 3
