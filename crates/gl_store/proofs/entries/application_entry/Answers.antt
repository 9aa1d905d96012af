use Rattle.std.proofs.Common.{rules, arith, ◌≡◌, ◌<◌, ℕ, length, get_or, true, ap, ◌∙◌}
use Rattle.gl_base.specs.Bytes.{are_bytes}
use Rattle.gl_ledger.proofs.RequestBytes.{request_are_bytes}
use Rattle.gl_ledger.proofs.Entries.{application_fits, is_entry-from_fields}
use Rattle.gl_store.proofs.entries.application_entry.Goals as goal

pub returns-clause-fits : goal.returns-clause-fits
returns-clause-fits c =
    let long : length c.digest.result ≡ 32 = search rules in
    let digest : (i : ℕ) → get_or c.digest.result i 0 < 256 = λ i. search rules in
    let recorded : are_bytes c.from-recorded.result ≡ true =
    ap are_bytes (c.from-recorded.ensures ∙ c.in_ok-encode.ensures.bytes) ∙ request_are_bytes c.args.request.now c.as_slice.ensures.valid in
    is_entry-from_fields _ (application_fits c.args.view c.args.seqno c.from-recorded.result c.args.writes c.digest.result (omega arith) (omega arith) recorded c.as_slice-2.ensures.limits
    c.as_slice-2.ensures.ordered long digest)
