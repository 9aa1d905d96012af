use Rattle.std.proofs.Common.{◌∙◌}
use Rattle.gl_store_book.proofs.FrameLaws.{IsPushed, ledger_fit, none_fit, not_pushed, pushed, read_as_none, read_as_some}
use Rattle.gl_store_book.proofs.node_file.ledger_log.LedgerLogEntryLog.push.Goals as goal

-- after a ledger that is there

pub returns-in-Some-ledger-clause-added : goal.returns-in-Some-ledger-clause-added
returns-in-Some-ledger-clause-added c h =
    let old = c.args.self.now.ledger in
    let l = c.in-Some-ledger.ledger in
    let there : IsPushed old l c.args.frame.now c.in_ok-entry.field-0 c.in-Some.entry = record {
      old = read_as_some old l c.in-Some-ledger.is;
      fits = ledger_fit l c.len.ensures.valid;
      value = c.in_ok-entry.ensures.value;
      encoded = c.in_ok-entry.ensures.encoded;
      is = c.in-Some.is;
    } in
    let added = c.try_apply.ensures.added h in
    pushed old l c.args.frame.now c.in_ok-entry.field-0 c.in-Some.entry there c.try_apply.new.ledger added.0 added.1

pub returns-in-Some-ledger-clause-refused : goal.returns-in-Some-ledger-clause-refused
returns-in-Some-ledger-clause-refused c h =
    let old = c.args.self.now.ledger in
    let l = c.in-Some-ledger.ledger in
    let there : IsPushed old l c.args.frame.now c.in_ok-entry.field-0 c.in-Some.entry = record {
      old = read_as_some old l c.in-Some-ledger.is;
      fits = ledger_fit l c.len.ensures.valid;
      value = c.in_ok-entry.ensures.value;
      encoded = c.in_ok-entry.ensures.encoded;
      is = c.in-Some.is;
    } in
    let refused = c.try_apply.ensures.refused h in
    not_pushed old l c.args.frame.now c.in_ok-entry.field-0 c.in-Some.entry there refused.0 refused.1

-- after none

pub returns-in_ok-added-in-None-clause-added : goal.returns-in_ok-added-in-None-clause-added
returns-in_ok-added-in-None-clause-added c h =
    let old = c.args.self.now.ledger in
    let l = c.in_ok-ledger-in-None.ledger in
    let there : IsPushed old l c.args.frame.now c.in_ok-entry.field-0 c.in-Some.entry = record {
      old = read_as_none old l c.in-None.is c.in_ok-ledger-in-None.ensures;
      fits = none_fit l c.in_ok-ledger-in-None.ensures;
      value = c.in_ok-entry.ensures.value;
      encoded = c.in_ok-entry.ensures.encoded;
      is = c.in-Some.is;
    } in
    let added = c.try_apply-in-None.ensures.added (c.in_ok-added-in-None.was ∙ h) in
    pushed old l c.args.frame.now c.in_ok-entry.field-0 c.in-Some.entry there c.try_apply-in-None.new.ledger added.0 added.1

pub returns-in_ok-added-in-None-clause-refused : goal.returns-in_ok-added-in-None-clause-refused
returns-in_ok-added-in-None-clause-refused c h =
    let old = c.args.self.now.ledger in
    let l = c.in_ok-ledger-in-None.ledger in
    let there : IsPushed old l c.args.frame.now c.in_ok-entry.field-0 c.in-Some.entry = record {
      old = read_as_none old l c.in-None.is c.in_ok-ledger-in-None.ensures;
      fits = none_fit l c.in_ok-ledger-in-None.ensures;
      value = c.in_ok-entry.ensures.value;
      encoded = c.in_ok-entry.ensures.encoded;
      is = c.in-Some.is;
    } in
    let refused = c.try_apply-in-None.ensures.refused (c.in_ok-added-in-None.was ∙ h) in
    not_pushed old l c.args.frame.now c.in_ok-entry.field-0 c.in-Some.entry there refused.0 refused.1
