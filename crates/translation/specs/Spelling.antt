-- Reading a listing's words back: images, events, programs, and the parts of a listing. Spelling.Laws has that the words of a valid
-- book's listing spell its programs. `term` gives the term of a row. A reader has as much fuel as there are words; each image and
-- each event takes at least one.
use Rattle.std.specs.Prelude.{ℕ, zero, suc, ◌+◌, ◌*◌, List, [], ◌∷◌, length, get_or}
use Rattle.std.proofs.Math.Option.{Option, none, some}
use Rattle.words.specs.Choice.{then}
use Rattle.words.specs.Run.{run}
use Rattle.terms.specs.Term.{Term}
use Rattle.terms.specs.Image.{Image, Images}
use Rattle.translation.specs.Receive.{Event, Stored}

-- what was read, and the words behind it
abbrev pub Read : Type 0 → Type 0
Read A = Option (A × List ℕ)

module _ (term : ℕ → Term) where
  unfoldable mutual
    pub read_image : ℕ → List ℕ → Read Image
    read_image zero w = none
    read_image (suc f) [] = none
    read_image (suc f) (zero ∷ []) = none
    read_image (suc f) (zero ∷ r ∷ w) = some (Image.itself (term r), w)
    read_image (suc f) (suc zero ∷ []) = none
    read_image (suc f) (suc zero ∷ x ∷ w) = some (Image.placeholder x, w)
    read_image (suc f) (suc (suc zero) ∷ []) = none
    read_image (suc f) (suc (suc zero) ∷ g ∷ []) = none
    read_image (suc f) (suc (suc zero) ∷ g ∷ n ∷ w) = then (read_images f n w) (λ p. some (Image.operation g p.0, p.1))
    read_image (suc f) (suc (suc (suc zero)) ∷ []) = none
    read_image (suc f) (suc (suc (suc zero)) ∷ n ∷ w) =
        then (read_image f w) (λ k. then (read_images f n k.1) (λ p. some (Image.cipher k.0 p.0, p.1)))
    read_image (suc f) (suc (suc (suc (suc zero))) ∷ w) = then (read_image f w) (λ p. some (Image.public p.0, p.1))
    read_image (suc f) (suc (suc (suc (suc (suc zero)))) ∷ w) = then (read_image f w) (λ p. some (Image.private p.0, p.1))
    read_image (suc f) (suc (suc (suc (suc (suc (suc c))))) ∷ w) = none

    -- n images
    pub read_images : ℕ → ℕ → List ℕ → Read Images
    read_images zero n w = none
    read_images (suc f) zero w = some (Images.nil, w)
    read_images (suc f) (suc n) w = then (read_image f w) (λ k. then (read_images f n k.1) (λ p. some (Images.cons k.0 p.0, p.1)))

  -- m triples of row, placeholder and step
  unfoldable pub read_triples : ℕ → List ℕ → Read (List Stored)
  read_triples zero w = some ([], w)
  read_triples (suc m) [] = none
  read_triples (suc m) (r ∷ []) = none
  read_triples (suc m) (r ∷ x ∷ []) = none
  read_triples (suc m) (r ∷ x ∷ s ∷ w) = then (read_triples m w) (λ p. some ((term r, x, s) ∷ p.0, p.1))

  unfoldable pub read_event : ℕ → List ℕ → Read Event
  read_event f [] = none
  read_event f (zero ∷ w) = none
  read_event f (suc zero ∷ []) = none
  read_event f (suc zero ∷ r ∷ w) = some (Event.new r, w)
  read_event f (suc (suc zero) ∷ []) = none
  read_event f (suc (suc zero) ∷ s ∷ []) = none
  read_event f (suc (suc zero) ∷ s ∷ n ∷ w) = then (read_images f n w) (λ p. some (Event.sends s p.0, p.1))
  read_event f (suc (suc (suc zero)) ∷ []) = none
  read_event f (suc (suc (suc zero)) ∷ s ∷ []) = none
  read_event f (suc (suc (suc zero)) ∷ s ∷ x ∷ []) = none
  read_event f (suc (suc (suc zero)) ∷ s ∷ x ∷ n ∷ w) = some (Event.receives s x n, w)
  read_event f (suc (suc (suc (suc zero))) ∷ []) = none
  read_event f (suc (suc (suc (suc zero))) ∷ x ∷ w) = then (read_image f w) (λ p. some (Event.checks x p.0, p.1))
  read_event f (suc (suc (suc (suc (suc zero)))) ∷ []) = none
  read_event f (suc (suc (suc (suc (suc zero)))) ∷ x ∷ []) = none
  read_event f (suc (suc (suc (suc (suc zero)))) ∷ x ∷ y ∷ []) = none
  read_event f (suc (suc (suc (suc (suc zero)))) ∷ x ∷ y ∷ n ∷ w) = then (read_image f w) (λ p. some (Event.opens x y n p.0, p.1))
  read_event f (suc (suc (suc (suc (suc (suc zero))))) ∷ []) = none
  read_event f (suc (suc (suc (suc (suc (suc zero))))) ∷ m ∷ w) = then (read_triples m w) (λ p. some (Event.ends p.0, p.1))
  read_event f (suc (suc (suc (suc (suc (suc (suc c)))))) ∷ w) = none

  -- events to the end of the words, at most n of them
  unfoldable pub read_events : ℕ → ℕ → List ℕ → Option (List Event)
  read_events f zero w = none
  read_events f (suc n) [] = some []
  read_events f (suc n) (x ∷ w) = then (read_event f (x ∷ w)) (λ p. then (read_events f n p.1) (λ es. some (p.0 ∷ es)))

  unfoldable pub read_program : List ℕ → Option (List Event)
  read_program w = read_events (length w) (suc (length w)) w

-- party p's part of a listing, by the offset and count that stand at its head
unfoldable pub part_of : List ℕ → ℕ → List ℕ
part_of w p = run w (get_or w (1 + 2 * p) 0) (get_or w (2 + 2 * p) 0)
