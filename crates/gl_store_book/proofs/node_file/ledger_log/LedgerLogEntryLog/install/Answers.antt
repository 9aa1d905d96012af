use Rattle.std.proofs.Common.{Option, IfSome, subst, ◌≡◌}
use Rattle.gl_ledger.specs.Behind.{IsBaseBody}
use Rattle.gl_snapshot_body.specs.Body.{body_bytes}
use Rattle.gl_snapshot_body.specs.declared.body.Body.{Body}
use Rattle.gl_store_book.proofs.InstalledBodies.{begun_log, told_read}
use Rattle.gl_store_book.proofs.node_file.ledger_log.LedgerLogEntryLog.install.Goals as goal

pub from_body-requires : goal.from_body-requires
from_body-requires c =
    let read = subst (λ (o : Option Body). IfSome o (λ b. IsBaseBody b × (c.args.body.now ≡ body_bytes b))) c.in-Some.is c.in_ok-body.ensures.read in
    record { read = read.0 }

pub returns-clause-told : goal.returns-clause-told
returns-clause-told c = told_read _ c.in_ok-body.field-0 c.in-Some.body c.in_ok-body.ensures.told c.in-Some.is

pub returns-clause-installed : goal.returns-clause-installed
returns-clause-installed c = λ at is.
    let read = subst (λ (o : Option Body). IfSome o (λ b. IsBaseBody b × (c.args.body.now ≡ body_bytes b))) c.in-Some.is c.in_ok-body.ensures.read in
    begun_log c.in_ok-ledger.ledger c.args.body.now c.in-Some.body c.in_ok-ledger.ensures.begun read.1
