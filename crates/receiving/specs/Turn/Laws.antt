-- Laws of receiving in turn, on terms and on rows. Assumes nothing.
use Prim.Native.Nat.{ℕ, suc, ◌+◌, ◌-◌, ◌≤◌, ◌<◌}
use Rattle.std.specs.Prelude.{true, false, List, [], map, ◌≡◌, refl, length}
use Rattle.std.proofs.lemmas.Bool.{false≢true}
use Rattle.std.proofs.Common.{sym, ap, ◌∙◌}
use native.Mathlib.Omega.{arith}
use Rattle.std.proofs.lemmas.List.{length-map}
use Rattle.words.specs.Run.Laws.{run_length}
use Rattle.terms.specs.Term.{Term, Terms, count, listed, gathered}
use Rattle.terms.specs.Term.Laws.{count-gathered}
use Rattle.terms.specs.Table.{form, term, terms}
use Rattle.terms.specs.Table.Laws.{term-row, kind_of}
use Rattle.book.specs.Layout.{begins, table, rows, kind, row_first, row_count, list_at}
use Rattle.book.specs.Valid.{Valid}
use Rattle.book.specs.Valid.Laws.{formed, row-kind}
use Rattle.translation.specs.Dictionary.{Dictionary, buildable}
use Rattle.translation.specs.Receive.{nothing, followed, Rule, can_open, rule, by_rule, compared, kept, receive, receive_all}
use Rattle.translation.proofs.Receive.Laws.{rule-compare, rule-unlock, rule-store, opening, receive-rule}
use Rattle.book.specs.Span.{entry}
use Rattle.book.specs.Span.Laws.{list-none, list-more, some-part}
use Rattle.receiving.specs.Turn.{in_turn, unlocked, contents_of}

-- ---- receive, by the rule: opened, and then the contents in turn; compared; kept
by_turn : (s : ℕ) (t : Term) (p : ℕ) (δ : Dictionary) (n : ℕ) → opening s t p δ n ≡ followed (unlocked t p δ n) (in_turn s (contents_of t) δ n)
unfolding opening unlocked in_turn contents_of receive listed
by_turn s (Term.atom r) p δ n = refl
by_turn s (Term.operation g ts) p δ n = refl
by_turn s (Term.cipher k ts) p δ n = refl
by_turn s (Term.public t) p δ n = refl
by_turn s (Term.private t) p δ n = refl

module _ (s : ℕ) (t : Term) (p : ℕ) (δ : Dictionary) (n : ℕ) where
  by : (r : Rule) → rule δ t ≡ r → receive s t p δ n ≡ by_rule r (compared t p δ) (opening s t p δ n) (kept s t p δ)
  by r e = receive-rule s t p δ n ∙ ap (λ r. by_rule r (compared t p δ) (opening s t p δ n) (kept s t p δ)) e

  pub receive-opened : can_open δ t ≡ true → receive s t p δ n ≡ followed (unlocked t p δ n) (in_turn s (contents_of t) δ n)
  unfolding by_rule
  receive-opened e = by Rule.unlock (rule-unlock δ t e) ∙ by_turn s t p δ n

  pub receive-compared : can_open δ t ≡ false → buildable δ t ≡ true → receive s t p δ n ≡ compared t p δ
  unfolding by_rule
  receive-compared e f = by Rule.compare (rule-compare δ t e f)

  pub receive-kept : can_open δ t ≡ false → buildable δ t ≡ false → receive s t p δ n ≡ kept s t p δ
  unfolding by_rule
  receive-kept e f = by Rule.store (rule-store δ t e f)

-- ---- a cipher's row
not_opened : (δ : Dictionary) (t : Term) → (kind_of t ≡ 2 → ⊥) → can_open δ t ≡ false
unfolding can_open kind_of
not_opened δ (Term.atom r) n = refl
not_opened δ (Term.operation g ts) n = refl
not_opened δ (Term.cipher k ts) n = absurd (n refl)
not_opened δ (Term.public t) n = refl
not_opened δ (Term.private t) n = refl

only-cipher : (δ : Dictionary) (t : Term) → can_open δ t ≡ true → kind_of t ≡ 2
unfolding can_open kind_of
only-cipher δ (Term.atom r) e = absurd (false≢true e)
only-cipher δ (Term.operation g ts) e = absurd (false≢true e)
only-cipher δ (Term.cipher k ts) e = refl
only-cipher δ (Term.public t) e = absurd (false≢true e)
only-cipher δ (Term.private t) e = absurd (false≢true e)

module _ (b : List ℕ) (v : Valid b) (r : ℕ) (h : r < rows b) where
  pub opens_not : (δ : Dictionary) → (kind b r ≡ 2 → ⊥) → can_open δ (term (table b) r) ≡ false
  opens_not δ n = not_opened δ (term (table b) r) (λ e. n (sym (row-kind b v r h) ∙ e))

  pub opens-cipher : (δ : Dictionary) → can_open δ (term (table b) r) ≡ true → kind b r ≡ 2
  opens-cipher δ e = sym (row-kind b v r h) ∙ only-cipher δ (term (table b) r) e

  pub cipher-row : kind b r ≡ 2
      → term (table b) r ≡ Term.cipher (term (table b) (entry b (row_first b r))) (terms (table b) (list_at b (row_first b r + 1) (row_count b r - 1)))
  unfolding form terms gathered table
  cipher-row k =
      let s = list-more b (row_first b r) (row_count b r) (some-part b v r h (omega arith)) in
      let t = term-row (rows b) (table b) (formed b v) r h in
      rw (t, k, s)

-- what opening leaves as it was
pub unlocked-rest : (t : Term) (p : ℕ) (δ : Dictionary) (n : ℕ)
    → ((unlocked t p δ n).dictionary ≡ δ) × ((unlocked t p δ n).given ≡ []) × ((unlocked t p δ n).stored ≡ [])
unfolding unlocked
unlocked-rest (Term.atom r) p δ n = (refl, refl, refl)
unlocked-rest (Term.operation g ts) p δ n = (refl, refl, refl)
unlocked-rest (Term.cipher k ts) p δ n = (refl, refl, refl)
unlocked-rest (Term.public t) p δ n = (refl, refl, refl)
unlocked-rest (Term.private t) p δ n = (refl, refl, refl)

-- ---- the rows of a list, one after another
terms-none : (b : List ℕ) (f n : ℕ) → n ≤ 0 → terms (table b) (list_at b f n) ≡ Terms.nil
unfolding terms gathered
terms-none b f n h = rw (list-none b f n h)

pub terms-count : (b : List ℕ) (f n : ℕ) → count (terms (table b) (list_at b f n)) ≡ n
unfolding terms
terms-count b f n = count-gathered (map (term (table b)) (list_at b f n)) ∙ length-map (list_at b f n) (term (table b)) ∙ run_length b (begins b 3 + f) n

module _ (s : ℕ) (b : List ℕ) (f n p : ℕ) (δ : Dictionary) (m : ℕ) where
  pub all_none : n ≤ 0 → receive_all s (terms (table b) (list_at b f n)) p δ m ≡ nothing δ
  unfolding terms gathered receive
  all_none h = rw (list-none b f n h)

  pub all_more : 0 < n → receive_all s (terms (table b) (list_at b f n)) p δ m
      ≡ (let d = receive s (term (table b) (entry b f)) p δ m in
      followed d (receive_all s (terms (table b) (list_at b (f + 1) (n - 1))) (p + 1) d.dictionary (m + length d.given)))
  unfolding terms gathered receive
  all_more h = let z : p + 1 ≡ suc p = omega arith in rw (list-more b f n h, z)
