-- The entry of a request that ran fits its format.
use Rattle.std.proofs.Common.{◌≡◌, ℕ, ◌+◌, ◌<◌, ◌≤◌, ◌^◌, List, [], length, Ok, true, refl, sym, subst, arith}
use Rattle.std.specs.List.{list_all}
use Rattle.std.proofs.lemmas.Bool.{and_parts}
use Rattle.sha2.specs.Sha256.{sha256}
use Rattle.sha2.proofs.Facts256.{length-sha256}
use Rattle.gl_base.specs.TxId.{last_seqno}
use Rattle.gl_base.proofs.ByteLists.{are_bytes-each}
use Rattle.gl_vmaps.specs.Writes.{is_write, is_ordered}
use Rattle.gl_vmaps.proofs.WriteLaws.{all_writes}
use Rattle.gl_tx.specs.Request.{is_operation, is_count, is_request, request_bytes, reply_bytes}
use Rattle.gl_tx.specs.Sees.{sees_in}
use Rattle.gl_tx.specs.declared.request.Operation.{Operation}
use Rattle.gl_tx.specs.declared.request.Answer.{Answer}
use Rattle.gl_tx.proofs.Limits.{run_from-fits}
use Rattle.gl_entry.specs.Entry.{is_entry, body_bytes, body_limit}
use Rattle.gl_entry.specs.declared.entry.Entry.{Entry}
use Rattle.gl_ledger.specs.Tree.{tables_of}
use Rattle.gl_ledger.specs.Ledger.{application_entry, execute_result}
use Rattle.gl_ledger.proofs.Applications.{execute_ok}
use Rattle.gl_hss.proofs.Octets.{sha256_bytes}
use Rattle.gl_ledger.proofs.Entries.{application_fits, is_entry-from_fields}
use Rattle.gl_ledger.proofs.RequestBytes.{request_are_bytes}

-- what a request makes after a ledger fits its format, in a view of four bytes
pub execute_fits : (ledger : List Entry) (view : ℕ) (q : List Operation) (e : Entry) (a : List Answer) → view < 2 ^ 32 → is_request q ≡ true → execute_result ledger view q ≡ Ok (e, a) → is_entry e ≡ true
execute_fits ledger view q e a low fits h =
    let made = execute_ok ledger view q e a h in
    let ran = made.1 in
    let all = (and_parts (is_count (length q)) (list_all is_operation q) fits).1 in
    let writes = run_from-fits 1 q (sees_in (tables_of ledger)) [] ran all refl made.2 in
    let both = and_parts (is_ordered ran.writes) (list_all is_write ran.writes) writes in
    let left : length ledger < last_seqno = made.7 in
    subst (λ (x : Entry). is_entry x ≡ true) (sym made.3)
    (is_entry-from_fields (application_entry ledger view q ran)
    (application_fits view (length ledger + 1) (request_bytes q) ran.writes (sha256 (reply_bytes ran.reply)) low (omega (arith, left))
    (request_are_bytes q fits)
    (all_writes ran.writes both.1) both.0 (length-sha256 (reply_bytes ran.reply)) (are_bytes-each (sha256 (reply_bytes ran.reply)) (sha256_bytes (reply_bytes ran.reply))))
    (subst (λ (x : Entry). length (body_bytes x) ≤ body_limit) made.3 made.5))
