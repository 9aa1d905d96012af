use Rattle.std.proofs.Common.{◌≡◌, ◌<◌, List, IfOk, length, arith, sym, ◌∙◌, ap, subst}
use Rattle.std.proofs.lemmas.Result.{IfOk-weaker}
use Rattle.gl_entry.specs.declared.entry.Entry.{Entry}
use Rattle.gl_ledger.specs.Audit.{audited}
use Rattle.gl_ledger.specs.NodeKeys.{service_layers}
use Rattle.gl_load.specs.Events.{load_ledger}
use Rattle.gl_load.specs.Report.{report_of}
use Rattle.gl_load.proofs.Counting.{load_some, load_valid}
use Rattle.gl_load.proofs.Growing.{grown}
use Rattle.gl_load.proofs.NodeEvents.{given}
use Rattle.gl_load.proofs.load_ledger.load.Goals as goal

pub report-requires-clause-some : goal.report-requires-clause-some
report-requires-clause-some g c =
    let seed = c.args.seed.now in
    let is : c.ledger.result.now ≡ load_ledger seed c.args.count = given g.B.Book.stands g.B.KeptBook.held g.B.KeptBook.snapshot_of seed c.args.count (grown seed c.args.count c.args.count c.requires.few (omega arith)).whole c.in_ok-node.node c.in_ok-node.ensures c.core.result.now _ c.core.ensures.core c.ledger.ensures.above c.ledger.ensures.entries in
    subst (λ (es : List Entry). 0 < length es) (sym is) (load_some seed c.args.count c.requires.few)

pub report-requires-clause-valid : goal.report-requires-clause-valid
report-requires-clause-valid g c =
    let seed = c.args.seed.now in
    let is : c.ledger.result.now ≡ load_ledger seed c.args.count = given g.B.Book.stands g.B.KeptBook.held g.B.KeptBook.snapshot_of seed c.args.count (grown seed c.args.count c.args.count c.requires.few (omega arith)).whole c.in_ok-node.node c.in_ok-node.ensures c.core.result.now _ c.core.ensures.core c.ledger.ensures.above c.ledger.ensures.entries in
    ap (audited service_layers) is ∙ load_valid seed c.args.count c.requires.few

pub returns-clause-report : goal.returns-clause-report
returns-clause-report g c =
    let seed = c.args.seed.now in
    let is : c.ledger.result.now ≡ load_ledger seed c.args.count = given g.B.Book.stands g.B.KeptBook.held g.B.KeptBook.snapshot_of seed c.args.count (grown seed c.args.count c.args.count c.requires.few (omega arith)).whole c.in_ok-node.node c.in_ok-node.ensures c.core.result.now _ c.core.ensures.core c.ledger.ensures.above c.ledger.ensures.entries in
    subst (λ (es : List Entry). IfOk c.report.result (λ report. report ≡ report_of es)) is c.report.ensures

pub returns-clause-valid : goal.returns-clause-valid
returns-clause-valid g c = IfOk-weaker c.report.result _ _ (λ r reported. load_valid c.args.seed.now c.args.count c.requires.few) c.report.ensures
