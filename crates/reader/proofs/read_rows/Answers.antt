-- `reader::read_rows` meets its contract: the lines 4 to 6 of the table, and then the rest. Assumes nothing.
use Rattle.std.proofs.Common.{◌≡◌, Ok, Err, rules}
use Rattle.book.specs.declared.Refusal.TheVariants.{Row}
use Rattle.book.specs.Layout.{rows, rows_before}
use Rattle.book.specs.Rules.{row_breaks}
use Rattle.rows.specs.Scanned.{Scanned}
use Rattle.rows.specs.declared.Stopped.{Stopped}
use Rattle.reader.proofs.Verdict.{says_row, says-size, says-repeat, says-rest, rows-kept}
use Rattle.reader.proofs.read_rows.Goals as goal
use Rattle.reader.proofs.read_rows.Goals.{In_ok-parts}

-- where `?` goes on, the scan found nothing
parts : (c : In_ok-parts)
    → Scanned c.args.book.now (row_breaks c.args.book.now) (rows_before c.args.book.now) (rows c.args.book.now) (Ok c.in_ok-parts.parts)
parts c = let scanned : c.scan_rows.result ≡ Ok c.in_ok-parts.parts = search rules in rw scanned at c.scan_rows.ensures

-- where it returns, the refusal is that of the place found
pub returns-in_err-parts : goal.returns-in_err-parts
returns-in_err-parts c = let (stop, scanned, refused) : (s : Stopped) × (c.scan_rows.result ≡ Err s) × (c.from_residual.result ≡ Err (Row s.place)) = search rules in
    let (found, summed, inside) = rw scanned at c.scan_rows.ensures in
    rw refused (says_row _ stop.place found)

-- the rows keep their rules
pub oversize-requires : goal.oversize-requires
oversize-requires c = (c.requires, rows-kept _ (parts (goal.at.oversize-requires c).In_ok-parts).0)

pub returns-in-Some : goal.returns-in-Some
returns-in-Some c = says-size _ (parts (goal.at.returns-in-Some c).In_ok-parts).0 _ c.in-Some.ensures

pub repeated-requires : goal.repeated-requires
repeated-requires c = (c.requires, rows-kept _ (parts (goal.at.repeated-requires c).In_ok-parts).0)

pub returns-in-Some-repeated : goal.returns-in-Some-repeated
returns-in-Some-repeated c = says-repeat _ (parts (goal.at.returns-in-Some-repeated c).In_ok-parts).0 c.in_default.ensures _ c.in-Some-repeated.ensures

pub returns : goal.returns
returns c = says-rest _ (parts (goal.at.returns c).In_ok-parts).0 c.in_default.ensures c.in_default-repeated.ensures _ c.read_parties.ensures
