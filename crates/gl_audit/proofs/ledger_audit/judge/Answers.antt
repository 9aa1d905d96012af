use Rattle.std.proofs.Common.{rules, ◌≡◌, ap, sym}
use Rattle.gl_ledger.specs.Recordings.{last_entry}
use Rattle.gl_snapshot_body.specs.Body.{no_body}
use Rattle.gl_audit.specs.Ends.{end_of}
use Rattle.gl_audit.specs.Verdict.{judged, key_in_force}
use Rattle.gl_audit.proofs.ledger_audit.judge.Goals as goal

pub returns-in_default : goal.returns-in_default
returns-in_default c = λ ledger k.
    let none = c.in_default.ensures.none no_body ledger k in
    sym (ap (λ ls. judged c.args.identity.now ls (last_entry ls)) none.1)

pub returns-in_default-2 : goal.returns-in_default-2
returns-in_default-2 c = λ ledger k.
    let ends : c.end-end.result ≡ end_of ledger = c.end-end.ensures no_body ledger k in
    search (rules, ends)

pub returns-then-eq : goal.returns-then-eq
returns-then-eq c = λ ledger k.
    let ends : c.end-end.result ≡ end_of ledger = c.end-end.ensures no_body ledger k in
    let key : c.in-Some-Some.key.now ≡ key_in_force ledger = c.in-Some-Some.ensures.some no_body ledger k in
    search (rules, ends, key)

pub returns-else-eq : goal.returns-else-eq
returns-else-eq c = λ ledger k.
    let ends : c.end-end.result ≡ end_of ledger = c.end-end.ensures no_body ledger k in
    let key : c.in-Some-Some.key.now ≡ key_in_force ledger = c.in-Some-Some.ensures.some no_body ledger k in
    search (rules, ends, key)
