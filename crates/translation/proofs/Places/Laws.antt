-- Laws of where events stand: events that do not pass the test are counted. Assumes nothing.
use Rattle.std.specs.Prelude.{ℕ, ◌+◌, Bool, true, false, ◌≡◌, length}
use Rattle.std.proofs.Common.{zero-add, arith, ◌∙◌}
use mathlib.Core.List.{List, [], ◌∷◌, ◌++◌, map}
use Rattle.std.proofs.Math.Path.{sym}
use Rattle.words.specs.Choice.Laws.{pick_true, pick-false}
use Rattle.terms.specs.Term.{Terms}
use Rattle.terms.specs.Image.{Image}
use Rattle.translation.specs.Dictionary.{Dictionary}
use Rattle.translation.specs.Receive.{Event, receive_all}
use Rattle.translation.proofs.Receive.Laws.{Quiet, receive_all-quiet}
use Rattle.translation.specs.Places.{place_of}

-- none of the events passes the test
abbrev pub None : (Event → Bool) → List Event → Type 0
None t [] = Unit {0}
None t (e ∷ es) = (t e ≡ false) × None t es

module _ (t : Event → Bool) where
  pub none-append : (es fs : List Event) → None t es → None t fs → None t (es ++ fs)
  none-append [] fs n m = m
  none-append (e ∷ es) fs n m = (n.0, none-append es fs n.1 m)

  -- ---- place_of
  pub place_here : (e : Event) (es : List Event) → t e ≡ true → place_of t (e ∷ es) ≡ 0
  unfolding place_of
  place_here e es h = pick_true _ _ _ h

  pub place-past : (es fs : List Event) → None t es → place_of t (es ++ fs) ≡ length es + place_of t fs
  unfolding place_of
  place-past [] fs n = sym (zero-add _)
  place-past (e ∷ es) fs n = pick-false _ _ _ n.0 ∙ (let h = place-past es fs n.1 in omega arith)

  -- the first that passes stands behind those that do not
  pub place-first : (es fs : List Event) (e : Event) → None t es → t e ≡ true → place_of t (es ++ e ∷ fs) ≡ length es
  place-first es fs e n h = let p = place-past es (e ∷ fs) n in let z = place_here e fs h in omega arith

  -- ---- what making and receiving add
  pub none-news : ((r : ℕ) → t (Event.new r) ≡ false) → (rs : List ℕ) → None t (map Event.new rs)
  none-news h [] = tt
  none-news h (r ∷ rs) = (h r, none-news h rs)

  module _ (checks : (x : ℕ) (i : Image) → t (Event.checks x i) ≡ false) (opens : (x f n : ℕ) (i : Image) → t (Event.opens x f n i) ≡ false) where
    none-quiet : {es : List Event} → Quiet es → None t es
    none-quiet Quiet.nil = tt
    none-quiet (Quiet.checks h) = (checks _ _, none-quiet h)
    none-quiet (Quiet.opens h) = (opens _ _ _ _, none-quiet h)

    pub none-receive_all : (s : ℕ) (us : Terms) (p : ℕ) (δ : Dictionary) (n : ℕ) → None t (receive_all s us p δ n).events
    none-receive_all s us p δ n = none-quiet (receive_all-quiet s us p δ n)
