-- When a dictionary of the translation tells the truth about a party of the machine: what it has as itself, the party holds, and
-- what it has as a placeholder stands at that placeholder. Here and below, a party is described by two lists: the terms that it
-- holds as themselves, and the terms that its placeholders stand for, from 0 on.
use Rattle.std.specs.Prelude.{ℕ, true, List, ◌≡◌}
use Rattle.std.proofs.Math.Option.{some}
use Rattle.std.proofs.Math.ListN.{get_elem?}
use Rattle.terms.specs.Term.{Term}
use Rattle.translation.specs.Dictionary.{Held, Dictionary}
use Rattle.agreement.specs.Sight.{Sight, holds}
pub mod Laws

unfoldable pub sight_of : List Term → List Term → Sight
sight_of hs ns = record { itself = hs; placeholders = get_elem? ns }

pub data Right (hs ns : List Term) (t : Term) : Held → Type 0 where
  free : Right hs ns t Held.free
  given : holds hs t ≡ true → Right hs ns t Held.given
  made : {s : ℕ} → holds hs t ≡ true → Right hs ns t (Held.made s)
  stored : {s x : ℕ} → get_elem? ns x ≡ some t → Right hs ns t (Held.stored s x)

abbrev pub Sound : Dictionary → List Term → List Term → Type 0
Sound δ hs ns = (t : Term) → Right hs ns t (δ t)
