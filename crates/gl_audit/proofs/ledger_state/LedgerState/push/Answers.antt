use Rattle.std.proofs.Common.{◌∙◌, arith, sym}
use Rattle.gl_ledger.specs.Snapshot.{writes_over}
use Rattle.gl_audit.proofs.KeptLedgers.{next_over, requests_below, recorded_follows, keyed_after, state-push}
use Rattle.gl_audit.proofs.LastEntries.{unbroken_over}
use Rattle.gl_audit.proofs.PastOver.{end_len}
use Rattle.gl_audit.proofs.TablesLaws.{versions_below}
use Rattle.gl_audit.proofs.ledger_state.LedgerState.push.Goals as goal

pub push_made-requires-clause-len : goal.push_made-requires-clause-len
push_made-requires-clause-len c =
    let u = c.requires.unbroken in
    let at = next_over u.0 u.1 c.args.entry.now u.3 in
    let len = end_len u.0 u.1 c.args.self.now u.2 in
    omega (arith, at.1, len)

pub push_made-requires-clause-read : goal.push_made-requires-clause-read
push_made-requires-clause-read c = let u = c.requires.unbroken in unbroken_over u.0 u.1 c.args.entry.now u.3

pub push_made-requires-clause-base : goal.push_made-requires-clause-base
push_made-requires-clause-base c =
    let u = c.requires.unbroken in
    let at = next_over u.0 u.1 c.args.entry.now u.3 in
    let from = u.2.tables_from in
    omega (arith, at.0, from)

pub push_made-requires-clause-above : goal.push_made-requires-clause-above
push_made-requires-clause-above c =
    let u = c.requires.unbroken in
    versions_below u.0 u.1 c.args.self.now.tables _ u.2.valid u.2.tables_are (next_over u.0 u.1 c.args.entry.now u.3).0

pub push_made-requires-clause-gov_above : goal.push_made-requires-clause-gov_above
push_made-requires-clause-gov_above c = let u = c.requires.unbroken in requests_below u.0 u.1 _ c.args.entry.now u.2 u.3

pub push_made-requires-clause-follows : goal.push_made-requires-clause-follows
push_made-requires-clause-follows c = let u = c.requires.unbroken in recorded_follows u.0 u.1 _ c.args.entry.now u.2 u.3

pub push_made-requires-clause-keyed : goal.push_made-requires-clause-keyed
push_made-requires-clause-keyed c =
    let u = c.requires.unbroken in
    (writes_over u.0 u.1, u.2.tables_are, keyed_after u.0 u.1 _ c.args.entry.now u.2 u.3)

pub returns-clause-grown : goal.returns-clause-grown
returns-clause-grown c = λ body es k unbroken.
    let kept = c.push_made.ensures in
    let done = c.in_ok-push_made.ensures in
    state-push body es c.args.self.now c.push_made.new.self c.args.entry.now k unbroken kept.base_kept kept.view_kept kept.commit_kept done.end done.signatures done.views done.gov
    (record { stands = done.tables; base = done.base; whole = done.whole }) (record { state_reported = done.state; identity_reported = done.identity }) done.leaves

pub returns-clause-whole : goal.returns-clause-whole
returns-clause-whole c = λ w.
    let u = c.requires.unbroken in
    let kept = c.push_made.ensures in
    let done = c.in_ok-push_made.ensures in
    let leaves = done.leaves _ (done.tables (writes_over u.0 u.1) u.2.tables_are) in
    record { tables = done.whole ∙ w.tables ∙ sym kept.base_kept; leaves = leaves.base ∙ w.leaves ∙ sym kept.base_kept }
