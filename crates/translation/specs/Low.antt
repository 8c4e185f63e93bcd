-- Words of 32 bits, and what of a party's doing fits them: a dictionary's placeholders, a term's tags and counts, the words of events
-- and of stored terms.
use Rattle.std.specs.Prelude.{ℕ, ◌<◌, List}
use Rattle.words.specs.Run.{All}
use Rattle.terms.specs.Term.{Term, Terms, count}
use Rattle.translation.specs.Dictionary.{Held, Dictionary}
use Rattle.translation.specs.Receive.{Did}
use Rattle.translation.specs.Listing.{triple_words, program_words}

-- 2 to the 32
abbrev pub word_limit : ℕ
word_limit = 4294967296

abbrev pub Low : List ℕ → Type 0
Low ws = All (λ w. w < word_limit) ws

-- every placeholder of a dictionary
abbrev pub HeldLow : Held → Type 0
HeldLow Held.free = Unit {0}
HeldLow Held.given = Unit {0}
HeldLow (Held.made s) = Unit {0}
HeldLow (Held.stored s x) = x < word_limit

abbrev pub HoldsLow : Dictionary → Type 0
HoldsLow δ = (t : Term) → HeldLow (δ t)

-- every tag and every count of a term
mutual
  pub data TermLow : Term → Type 0 where
    atom : {r : ℕ} → TermLow (Term.atom r)
    operation : {g : ℕ} {ts : Terms} → g < word_limit → count ts < word_limit → TermsLow ts → TermLow (Term.operation g ts)
    cipher : {k : Term} {ts : Terms} → count ts < word_limit → TermLow k → TermsLow ts → TermLow (Term.cipher k ts)
    public : {t : Term} → TermLow t → TermLow (Term.public t)
    private : {t : Term} → TermLow t → TermLow (Term.private t)

  pub data TermsLow : Terms → Type 0 where
    nil : TermsLow Terms.nil
    cons : {t : Term} {ts : Terms} → TermLow t → TermsLow ts → TermsLow (Terms.cons t ts)

-- every number of a doing; `row` gives the row of a term
pub record DidLow (row : Term → ℕ) (d : Did) : Type 0 where
  pub holds : HoldsLow d.dictionary
  pub words : Low (program_words row d.events)
  pub triples : Low (triple_words row d.stored)
