-- What receiving asks for, and what it leaves behind, as its code has it.
use Rattle.std.specs.Prelude.{ℕ, ◌+◌, ◌≤◌, ◌<◌, List, ◌≡◌, length, false}
use Rattle.terms.specs.Table.{term, terms}
use Rattle.book.specs.Layout.{table, rows, list_at}
use Rattle.book.specs.Valid.{Valid}
use Rattle.book.specs.Span.{Span}
use Rattle.translation.specs.Receive.{Did, can_open, receive, receive_all}
use Rattle.holding.specs.Entry.{limit, step_limit}
use Rattle.holding.specs.View.{view}
use Rattle.holding.specs.Doing.{Doing}
use Rattle.holding.specs.Partners.{Partners}
use Rattle.receiving.specs.declared.Received.{Received}
use Rattle.receiving.specs.Turn.{in_turn}

-- a party that holds the entries e, at step s: n is its next placeholder, k and a are the places of what it stores next and its next word
abbrev pub standing : ℕ → List ℕ → ℕ → ℕ → ℕ → Received
standing s e n k a = record { dictionary = record { entries = e; step = s; next = n; kept = k }; at = a }

-- ---- what is done, from x on
-- row r is received at placeholder p
abbrev pub row_did : List ℕ → ℕ → ℕ → Received → Did
row_did b r p x = receive x.dictionary.step (term (table b) r) p (view b x.dictionary.entries) x.dictionary.next

-- n rows of the pool, from f on, get the next placeholders and are received in turn
abbrev pub list_did : List ℕ → ℕ → ℕ → Received → Did
list_did b f n x = in_turn x.dictionary.step (terms (table b) (list_at b f n)) (view b x.dictionary.entries) x.dictionary.next

-- k rows of the pool, from i on, are received at the placeholders from p on, which were handed out before
abbrev pub rest_did : List ℕ → ℕ → ℕ → ℕ → Received → Did
rest_did b i k p x = receive_all x.dictionary.step (terms (table b) (list_at b i k)) p (view b x.dictionary.entries) x.dictionary.next

-- ---- what is asked for; ps is the table of partners
-- x is at a step that a book can have
abbrev pub Timely : Received → Type 0
Timely x = x.dictionary.step < step_limit

-- the placeholders that d hands out stay within the limit
abbrev pub Fits : Received → Did → Type 0
Fits x d = x.dictionary.next + length d.given ≤ limit

-- row r can't be opened, and can be settled at placeholder p
pub record SettleReady (b : List ℕ) (r p : ℕ) (x : Received) : Type 0 where
  pub valid : Valid b
  pub row : r < rows b
  pub low : p < limit
  pub shut : can_open (view b x.dictionary.entries) (term (table b) r) ≡ false
  pub timely : Timely x
  pub size : length x.dictionary.entries ≡ 1024

-- row r can be received at placeholder p
pub record RowReady (b ps : List ℕ) (r p : ℕ) (x : Received) : Type 0 where
  pub valid : Valid b
  pub partners : Partners b ps
  pub row : r < rows b
  pub low : p < limit
  pub timely : Timely x
  pub size : length x.dictionary.entries ≡ 1024
  pub fits : Fits x (row_did b r p x)

-- k rows of the pool, from i on and all below a bound, can be received at the placeholders from p on, which were handed out before
pub record RestReady (b ps : List ℕ) (bound i k p : ℕ) (x : Received) : Type 0 where
  pub valid : Valid b
  pub partners : Partners b ps
  pub bounded : bound ≤ rows b
  pub span : Span b bound i k
  pub low : p + k ≤ x.dictionary.next
  pub timely : Timely x
  pub size : length x.dictionary.entries ≡ 1024
  pub fits : Fits x (rest_did b i k p x)

-- n rows of the pool, from f on and all below a bound, can be received in turn, from x on
pub record ListReady (b ps : List ℕ) (bound f n : ℕ) (x : Received) : Type 0 where
  pub valid : Valid b
  pub partners : Partners b ps
  pub bounded : bound ≤ rows b
  pub span : Span b bound f n
  pub timely : Timely x
  pub size : length x.dictionary.entries ≡ 1024
  pub fits : Fits x (list_did b f n x)

-- ---- what is left behind
-- the doing d led from x to y: log became log_after, and out became out_after
abbrev pub Led : List ℕ → Did → Received → List ℕ → List ℕ → List ℕ → List ℕ → Received → Type 0
Led b d x log log_after out out_after y =
    Doing b d x.dictionary.next x.dictionary.kept log log_after x.at out out_after y.dictionary.entries
    y.dictionary.next y.dictionary.kept y.at

-- there is still an entry for each row, and it is still that step
pub record Brought (b : List ℕ) (d : Did) (x : Received) (log log_after out out_after : List ℕ) (y : Received) : Type 0 where
  pub led : Led b d x log log_after out out_after y
  pub size : length y.dictionary.entries ≡ 1024
  pub same : y.dictionary.step ≡ x.dictionary.step

-- of a doing d that began at `whole`, with the lent words log₀ and out₀, the k rows from i on are left, at the placeholders from p on:
-- whatever ends the rest, from x on, ends the whole
pub record Going (b : List ℕ) (bound : ℕ) (d : Did) (whole : Received) (log₀ out₀ : List ℕ) (i k p : ℕ) (x : Received) (log out : List ℕ)
    : Type 0 where
  pub span : Span b bound i k
  pub low : p + k ≤ x.dictionary.next
  pub size : length x.dictionary.entries ≡ 1024
  pub same : x.dictionary.step ≡ whole.dictionary.step
  pub fits : Fits x (rest_did b i k p x)
  pub rest : (m s : List ℕ) (y : Received) → Led b (rest_did b i k p x) x log m out s y → Led b d whole log₀ m out₀ s y
  pub logs : length log ≡ length log₀
  pub outs : length out ≡ length out₀
