-- `reader::read_parties` meets its contract: the lines 7 to 9 of the table, one after the other. Assumes nothing.
use Rattle.std.proofs.Common.{◌≡◌, Ok, Err, rules}
use Rattle.book.specs.declared.Refusal.TheVariants.{Party, Step}
use Rattle.book.specs.Layout.{parties, parties_before, steps, steps_before}
use Rattle.book.specs.Rules.{party_breaks, step_breaks}
use Rattle.rows.specs.Scanned.{Scanned}
use Rattle.rows.specs.declared.Stopped.{Stopped}
use Rattle.reader.proofs.Verdict.{says-party, says-step, says-sum, says-accepted}
use Rattle.reader.proofs.read_parties.Goals as goal
use Rattle.reader.proofs.read_parties.Goals.{In_ok-known, In_ok-all}

-- where `?` goes on, the scans found nothing
known : (c : In_ok-known)
    → Scanned c.args.book.now (party_breaks c.args.book.now) (parties_before c.args.book.now) (parties c.args.book.now) (Ok c.in_ok-known.known)
known c = let scanned : c.scan_parties.result ≡ Ok c.in_ok-known.known = search rules in rw scanned at c.scan_parties.ensures

all : (c : In_ok-all)
    → Scanned c.args.book.now (step_breaks c.args.book.now) (steps_before c.args.book.now) (steps c.args.book.now) (Ok c.in_ok-all.all)
all c = let scanned : c.scan_steps.result ≡ Ok c.in_ok-all.all = search rules in rw scanned at c.scan_steps.ensures

-- where it returns, the refusal is that of the place found
pub returns-in_err-known : goal.returns-in_err-known
returns-in_err-known c = let (stop, scanned, refused) : (s : Stopped) × (c.scan_parties.result ≡ Err s) × (c.from_residual.result ≡ Err (Party s.place)) = search rules in
    let (found, summed, inside) = rw scanned at c.scan_parties.ensures in
    rw refused (says-party _ stop.place found)

pub returns-in_err-all : goal.returns-in_err-all
returns-in_err-all c = let (stop, scanned, refused) : (s : Stopped) × (c.scan_steps.result ≡ Err s) × (c.from_residual-in_err-all.result ≡ Err (Step s.place)) = search rules in
    let (found, summed, inside) = rw scanned at c.scan_steps.ensures in
    rw refused (says-step _ (known (goal.at.returns-in_err-all c).In_ok-known).0 stop.place found)

pub returns-then-all-pool : goal.returns-then-all-pool
returns-then-all-pool c = let (met, total, inside) = all (goal.at.returns-then-all-pool c).In_ok-all in
    says-sum _ (known (goal.at.returns-then-all-pool c).In_ok-known).0 met _ _ total c.pool.ensures c.if-all-pool.true

pub returns : goal.returns
returns c = let (met, total, inside) = all (goal.at.returns c).In_ok-all in
    says-accepted _ (known (goal.at.returns c).In_ok-known).0 met _ _ total c.pool.ensures c.if-all-pool.false
