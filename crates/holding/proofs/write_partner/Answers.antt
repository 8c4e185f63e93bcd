-- `holding::write_partner` meets its contract: by the partner's row, or where it is none by the key's part. Assumes
-- nothing.
use mathlib.Core.List.{[]}
use mathlib.Core.Path.{refl, ap, ◌∙◌}
use native.Mathlib.Omega.{arith}
use borrow.Author.Rules.{rules}
use Rattle.words.specs.Overlay.Laws.{wrote_as, wrote-cons}
use Rattle.terms.specs.Kind.{of_kind, other_half}
use Rattle.holding.specs.Partners.Laws.{shows-row, shows-part, key-half}
use Rattle.holding.proofs.write_partner.Goals as goal

-- the partner is a row
pub returns-in-Some : goal.returns-in-Some
returns-in-Some c = let (valid, table, inside) = c.requires in
    let (row, found) = c.in-Some.ensures in
    wrote_as c.write_image.ensures (shows-row _ _ valid inside found row)

-- it is no row
pub first_part-requires : goal.first_part-requires
first_part-requires c = let (valid, table, inside) = c.requires in
    let half = key-half _ [] valid inside refl c.in_default.ensures in
    (search rules, search rules, omega arith)

-- the other half's code, and the part's image
pub returns : goal.returns
returns c = let (valid, table, inside) = c.requires in
    wrote_as (wrote-cons c.put-next.ensures c.write_image-2.ensures)
    (shows-part _ _ valid inside refl c.in_default.ensures c.first_part.ensures.0
    (c.of-half.ensures.code
    ∙ ap (λ k. (of_kind k).code)
    (c.other_half-turned.ensures ∙ ap other_half c.row_kind-side.ensures)))
