-- "Given exactly when", once over any line of an ordered table. Assumes nothing.
use Rattle.std.specs.Prelude.{ℕ, zero, suc, ◌+◌, ◌≤◌, ◌<◌, Bool, true, false, List, [], ◌∷◌, ◌++◌, ◌↔◌, length, ◌≡◌, refl}
use Rattle.std.proofs.Common.{arith, sym, ◌∙◌}
use Rattle.std.proofs.Math.Path.{ap}
use Rattle.words.specs.First.{first}
use Rattle.words.specs.First.Laws.{clash, first-at, first-fails, first_holds, any_at, any_none, none_any, any-first, any-yes, any-no}
use Rattle.book.specs.Said.{Said, said}
use Rattle.book.specs.Refusals.{Line, line, applies, gives, first_of}
use Rattle.book.specs.Ruled.{Ruled, Keeps, AllKeep, lines, Cause, Apart, above, line_at, below, Numbered}

-- two tables, one behind the other
pub append-keep : (xs ys : List Ruled) → AllKeep xs → AllKeep ys → AllKeep (xs ++ ys)
append-keep [] ys k h = h
append-keep (x ∷ xs) ys k h = (k.0, append-keep xs ys k.1 h)

pub keep_append : (xs ys : List Ruled) → AllKeep (xs ++ ys) → AllKeep xs × AllKeep ys
keep_append [] ys k = (tt, k)
keep_append (x ∷ xs) ys k = let r = keep_append xs ys k.1 in ((k.0, r.0), r.1)

pub lines-append : (xs ys : List Ruled) → lines (xs ++ ys) ≡ lines xs ++ lines ys
lines-append [] ys = refl
lines-append (x ∷ xs) ys = ap (λ (ls : List Line). x.line ∷ ls) (lines-append xs ys)

-- ---- first_of: one line
first_of-here : (l : Line) (ls : List Line) (rest : Said) → applies l ≡ true → first_of (l ∷ ls) rest ≡ gives l
unfolding first_of
first_of-here l ls rest e = rw (e, first_of)

first_of-on : (l : Line) (ls : List Line) (rest : Said) → applies l ≡ false → first_of (l ∷ ls) rest ≡ first_of ls rest
unfolding first_of
first_of-on l ls rest e = rw (e, first_of)

pub first_of-none : (rest : Said) → first_of [] rest ≡ rest
unfolding first_of
first_of-none rest = refl

pub first_of-append : (ls ms : List Line) (rest : Said) → first_of (ls ++ ms) rest ≡ first_of ls (first_of ms rest)
unfolding first_of
first_of-append [] ms rest = refl
first_of-append (l ∷ ls) ms rest = go (applies l) refl (first_of-append ls ms rest)
  where
    go : (v : Bool) → applies l ≡ v → first_of (ls ++ ms) rest ≡ first_of ls (first_of ms rest)
        → first_of (l ∷ (ls ++ ms)) rest ≡ first_of (l ∷ ls) (first_of ms rest)
    go true e h = first_of-here l (ls ++ ms) rest e ∙ sym (first_of-here l ls (first_of ms rest) e)
    go false e h = first_of-on l (ls ++ ms) rest e ∙ h ∙ sym (first_of-on l ls (first_of ms rest) e)

-- a table that refuses needs no more lines
pub first_of-stop : (ls ms : List Line) (rest last : Said) → rest.number ≡ 0 → ((first_of ls rest).number ≡ 0 → ⊥)
    → first_of (ls ++ ms) last ≡ first_of ls rest
unfolding first_of
first_of-stop [] ms rest last z n = absurd (n z)
first_of-stop (l ∷ ls) ms rest last z n = go (applies l) refl (first_of-stop ls ms rest last z)
  where
    go : (v : Bool) → applies l ≡ v → (((first_of ls rest).number ≡ 0 → ⊥) → first_of (ls ++ ms) last ≡ first_of ls rest)
        → first_of (l ∷ (ls ++ ms)) last ≡ first_of (l ∷ ls) rest
    go true e h = first_of-here l (ls ++ ms) last e ∙ sym (first_of-here l ls rest e)
    go false e h =
        first_of-on l (ls ++ ms) last e ∙ h (λ y. n (ap (λ (s : Said). s.number) (first_of-on l ls rest e) ∙ y)) ∙ sym (first_of-on l ls rest e)

-- what a scan of a line's places finds: r is the smallest place that breaks the rule, or their number
module _ (l : Line) (ls : List Line) (rest : Said) (r : ℕ) (e : r ≡ first l.breaks l.among) where
  pub line-here : r < l.among → first_of (l ∷ ls) rest ≡ said (l.number r) (l.place r)
  unfolding applies gives
  line-here h =
      first_of-here l ls rest (any-yes l.breaks l.among r e h) ∙ ap (λ k. said (l.number k) (l.place k)) (sym e)

  pub line_on : l.among ≤ r → first_of (l ∷ ls) rest ≡ first_of ls rest
  unfolding applies
  line_on h = first_of-on l ls rest (any-no l.breaks l.among r e h)

-- of a line with one number
module _ (n m : ℕ) (t : ℕ → Bool) (f : ℕ → List ℕ) (ls : List Line) (rest : Said) (r : ℕ) (e : r ≡ first t m) where
  pub scan-here : r < m → first_of (line n m t f ∷ ls) rest ≡ said n (f r)
  scan-here h = line-here (line n m t f) ls rest r e h

  pub scan-on : m ≤ r → first_of (line n m t f ∷ ls) rest ≡ first_of ls rest
  scan-on h = line_on (line n m t f) ls rest r e h

-- ---- applies
pub keeps-not : (x : Ruled) → Keeps x → applies x.line ≡ false
unfolding applies
keeps-not x k = any_none x.line.breaks x.line.among (λ i h. (x.exact i).1 (k i h))

pub not-keeps : (x : Ruled) → applies x.line ≡ false → Keeps x
unfolding applies
not-keeps x e i h = (x.exact i).0 (none_any x.line.breaks x.line.among e i h)

breaks-true : (x : Ruled) (i : ℕ) → (x.rule i → ⊥) → x.line.breaks i ≡ true
breaks-true x i n = go (x.line.breaks i) refl
  where
    go : (v : Bool) → x.line.breaks i ≡ v → x.line.breaks i ≡ true
    go true e = e
    go false e = absurd (n ((x.exact i).0 e))

-- where no line applies, the rest is given
pub all_keep : (xs : List Ruled) (ls : List Line) (rest : Said) → AllKeep xs → first_of (lines xs ++ ls) rest ≡ first_of ls rest
all_keep [] ls rest k = refl
all_keep (x ∷ xs) ls rest k = first_of-on x.line (lines xs ++ ls) rest (keeps-not x k.0) ∙ all_keep xs ls rest k.1

-- ---- the cause of a refusal
cause-gives : (x : Ruled) (vs : List ℕ) (c : Cause x vs) → (applies x.line ≡ true) × (gives x.line ≡ said (x.line.number c.place) vs)
unfolding applies gives
cause-gives x vs c =
    let t = breaks-true x c.place c.broken in
    let e = first-at x.line.breaks x.line.among c.place c.within (λ k h. (x.exact k).1 (c.smallest k h)) t in
    let g : ℕ → Said = λ i. said (x.line.number i) (x.line.place i) in
    (any_at x.line.breaks x.line.among c.place c.within t, ap g (sym e) ∙ ap (said (x.line.number c.place)) (sym c.says))

gives-cause : (x : Ruled) {n : ℕ} {vs : List ℕ} → applies x.line ≡ true → gives x.line ≡ said n vs
    → (c : Cause x vs) × (x.line.number c.place ≡ n)
unfolding applies gives
gives-cause x e g =
    let t = x.line.breaks in
    let m = x.line.among in
    let l = any-first t m e in (
      record {
        place = first t m;
        within = l;
        broken = λ r. clash (first_holds t m l) ((x.exact (first t m)).1 r);
        smallest = λ k h. (x.exact k).0 (first-fails t m k h);
        says = sym (ap (λ (s : Said). s.values) g);
      },
      ap (λ (s : Said). s.number) g,
    )

pub apart-append : (n : ℕ) (xs ys : List Ruled) → Apart n xs → Apart n ys → Apart n (xs ++ ys)
apart-append n [] ys a b = b
apart-append n (x ∷ xs) ys a b = (a.0, apart-append n xs ys a.1 b)

-- "given exactly when": with the lines xs before it and the lines ys behind it
module _ (xs : List Ruled) (x : Ruled) (ys : List Ruled) (rest : Said) where
  abbrev whole : Said
  whole = first_of (lines xs ++ (x.line ∷ lines ys)) rest

  pub given : (vs : List ℕ) → AllKeep xs → (c : Cause x vs) → whole ≡ said (x.line.number c.place) vs
  given vs k c = let g = cause-gives x vs c in all_keep xs (x.line ∷ lines ys) rest k ∙ first_of-here x.line (lines ys) rest g.0 ∙ g.1

-- and it has no other cause
apart-number : (n : ℕ) (ys : List Ruled) (rest : Said) → Apart n ys → (rest.number ≡ n → ⊥) → (first_of (lines ys) rest).number ≡ n → ⊥
unfolding first_of gives
apart-number n [] rest a z e = z e
apart-number n (y ∷ ys) rest a z e = go (applies y.line) refl (apart-number n ys rest a.1 z)
  where
    go : (v : Bool) → applies y.line ≡ v → ((first_of (lines ys) rest).number ≡ n → ⊥) → ⊥
    go true q h = a.0 _ (sym (ap (λ (s : Said). s.number) (first_of-here y.line (lines ys) rest q)) ∙ e)
    go false q h = h (sym (ap (λ (s : Said). s.number) (first_of-on y.line (lines ys) rest q)) ∙ e)

-- lines of other numbers were passed
pub passed : (n : ℕ) (xs : List Ruled) (ls : List Line) (rest : Said) (vs : List ℕ) → Apart n xs
    → first_of (lines xs ++ ls) rest ≡ said n vs → AllKeep xs × (first_of ls rest ≡ said n vs)
unfolding gives
passed n [] ls rest vs a e = (tt, e)
passed n (w ∷ xs) ls rest vs a e = go (applies w.line) refl (passed n xs ls rest vs a.1)
  where
    go : (v : Bool) → applies w.line ≡ v → (first_of (lines xs ++ ls) rest ≡ said n vs → AllKeep xs × (first_of ls rest ≡ said n vs))
        → (Keeps w × AllKeep xs) × (first_of ls rest ≡ said n vs)
    go true q h = absurd (a.0 _ (ap (λ (s : Said). s.number) (sym (first_of-here w.line (lines xs ++ ls) rest q) ∙ e)))
    go false q h =
        let r = h (sym (first_of-on w.line (lines xs ++ ls) rest q) ∙ e) in
        ((not-keeps w q, r.0), r.1)

pub caused : {n : ℕ} (xs : List Ruled) (x : Ruled) (ys : List Ruled) (rest : Said) (vs : List ℕ) → Apart n xs → Apart n ys
    → (rest.number ≡ n → ⊥) → first_of (lines xs ++ (x.line ∷ lines ys)) rest ≡ said n vs
    → AllKeep xs × ((c : Cause x vs) × (x.line.number c.place ≡ n))
caused {n} xs x ys rest vs a b z e =
    let r = passed n xs (x.line ∷ lines ys) rest vs a e in
    (r.0, go (applies x.line) refl r.1)
  where
    go : (v : Bool) → applies x.line ≡ v → first_of (x.line ∷ lines ys) rest ≡ said n vs → (c : Cause x vs) × (x.line.number c.place ≡ n)
    go true q f = gives-cause x q (sym (first_of-here x.line (lines ys) rest q) ∙ f)
    go false q f = absurd (apart-number n ys rest b z (ap (λ (s : Said). s.number) (sym (first_of-on x.line (lines ys) rest q) ∙ f)))

-- ---- acceptance
pub none-given : (xs : List Ruled) (rest : Said) → Apart 0 xs → (first_of (lines xs) rest).number ≡ 0 → AllKeep xs
unfolding gives
none-given [] rest a e = tt
none-given (x ∷ xs) rest a e = go (applies x.line) refl (none-given xs rest a.1)
  where
    go : (v : Bool) → applies x.line ≡ v → ((first_of (lines xs) rest).number ≡ 0 → AllKeep xs) → Keeps x × AllKeep xs
    go true q h = absurd (a.0 _ (sym (ap (λ (s : Said). s.number) (first_of-here x.line (lines xs) rest q)) ∙ e))
    go false q h = (not-keeps x q, h (sym (ap (λ (s : Said). s.number) (first_of-on x.line (lines xs) rest q)) ∙ e))

-- ---- a table whose lines are numbered from n on
lines_split : (xs : List Ruled) (d : Ruled) (i : ℕ) → i < length xs → lines xs ≡ lines (above i xs) ++ ((line_at i xs d).line ∷ lines (below i xs))
lines_split [] d i h = absurd (omega arith)
lines_split (x ∷ xs) d zero h = refl
lines_split (x ∷ xs) d (suc i) h = ap (λ (ls : List Line). x.line ∷ ls) (lines_split xs d i (omega arith))

numbered-at : (n : ℕ) (xs : List Ruled) (d : Ruled) → Numbered n xs → (i : ℕ) → i < length xs → (k : ℕ)
    → (line_at i xs d).line.number k ≡ n + i
numbered-at n [] d a i h k = absurd (omega arith)
numbered-at n (x ∷ xs) d a zero h k = let e = a.0 k in omega arith
numbered-at n (x ∷ xs) d a (suc i) h k = let e = numbered-at (suc n) xs d a.1 i (omega arith) k in omega arith

numbered-later : (k n : ℕ) (xs : List Ruled) → Numbered n xs → k < n → Apart k xs
numbered-later k n [] a h = tt
numbered-later k n (x ∷ xs) a h = (λ i e. let z = a.0 i in absurd (omega arith), numbered-later k (suc n) xs a.1 (omega arith))

numbered-apart : (k n : ℕ) (xs : List Ruled) → Numbered n xs → (i : ℕ) → i < length xs → k ≡ n + i → Apart k (above i xs)
    × Apart k (below i xs)
numbered-apart k n [] a i h e = absurd (omega arith)
numbered-apart k n (x ∷ xs) a zero h e = (tt, numbered-later k (suc n) xs a.1 (omega arith))
numbered-apart k n (x ∷ xs) a (suc i) h e =
    let r = numbered-apart k (suc n) xs a.1 i (omega arith) (omega arith) in
    ((λ j z. let y = a.0 j in absurd (omega arith), r.0), r.1)

-- each line is given exactly when the lines above it are kept and it has a cause
pub exact-line : (n : ℕ) (xs : List Ruled) (d : Ruled) (rest : Said) → Numbered n xs → (i : ℕ) → i < length xs → (rest.number ≡ n + i → ⊥)
    → (vs : List ℕ) → (first_of (lines xs) rest ≡ said (n + i) vs) ↔ (AllKeep (above i xs) × Cause (line_at i xs d) vs)
exact-line n xs d rest a i h z vs =
    let x = line_at i xs d in
    let p = numbered-apart (n + i) n xs a i h refl in
    let s = ap (λ (ls : List Line). first_of ls rest) (lines_split xs d i h) in (
      λ e. (let r = caused (above i xs) x (below i xs) rest vs p.0 p.1 z (sym s ∙ e) in (r.0, r.1.0)),
      λ c. s ∙ given (above i xs) x (below i xs) rest vs c.0 c.1 ∙ ap (λ k. said k vs) (numbered-at n xs d a i h c.1.place),
    )
