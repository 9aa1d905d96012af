use Rattle.std.proofs.Common.{rules}
use Rattle.gl_audit.proofs.Steps.{ends_broken_at, ends_unread_at, ends_whole_at, goes_on_at, smaller_at}
use Rattle.gl_audit.proofs.ledger_audit.take_entries.Goals as goal

pub returns-in-Some-clause-ends : goal.returns-in-Some-clause-ends
returns-in-Some-clause-ends g c =
    let at = c.loop-kept.invariant.at in
    ends_broken_at _ _ _ _ _ _ c.in-Entry.entry _ c.in-Some.rule at c.in-Entry.is c.in_ok-entry.ensures.next c.in-Some.is (c.in_ok-rule-in-Entry.ensures.taken at.ledger at.stands)

pub loop-kept-smaller : goal.loop-kept-smaller
loop-kept-smaller g c =
    let at = c.loop-kept.invariant.at in
    smaller_at _ _ _ _ c.in-Entry.entry _ at c.in_default.is (c.in_ok-rule-in-Entry.ensures.taken at.ledger at.stands)

pub loop-kept-preserved : goal.loop-kept-preserved
loop-kept-preserved g c =
    let at = c.loop-kept.invariant.at in
    record {
      at = goes_on_at _ _ _ _ _ _ c.in-Entry.entry _ at c.in-Entry.is c.in_ok-entry.ensures.next c.in_default.is (c.in_ok-rule-in-Entry.ensures.taken at.ledger at.stands);
      quiet = search rules;
    }

pub returns-in-End-clause-ends : goal.returns-in-End-clause-ends
returns-in-End-clause-ends g c = ends_whole_at _ _ _ _ _ c.loop-kept.invariant.at c.in-End.is c.in_ok-entry.ensures.next

pub returns-in-Unread-clause-ends : goal.returns-in-Unread-clause-ends
returns-in-Unread-clause-ends g c = ends_unread_at _ _ _ _ _ c.loop-kept.invariant.at c.in-Unread.is c.in_ok-entry.ensures.next
