use Rattle.std.proofs.Common.{arith, ◌≡◌, true, ◌∙◌, ap, refl}
use Rattle.gl_base.specs.Bytes.{are_bytes}
use Rattle.gl_ledger.proofs.Entries.{governance_fits, is_entry-from_fields}
use Rattle.gl_ledger.proofs.GovernanceBytes.{governance_are_bytes}
use Rattle.gl_store.proofs.entries.governance_entry.Goals as goal

pub returns-clause-fits : goal.returns-clause-fits
returns-clause-fits c =
    let recorded : are_bytes c.from.result ≡ true = ap are_bytes (c.from.ensures ∙ c.in_ok-recorded.ensures.bytes) ∙ governance_are_bytes c.args.request.now c.requires in
    is_entry-from_fields _ (governance_fits c.args.view c.args.seqno c.from.result c.args.writes _ (omega arith) (omega arith) recorded c.as_slice.ensures.limits c.as_slice.ensures.ordered refl)
