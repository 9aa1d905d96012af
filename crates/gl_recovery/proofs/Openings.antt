-- The entry of the signature that opens a service again is small.
use Rattle.std.proofs.Common.{◌≡◌, ℕ, ◌+◌, ◌≤◌, ◌^◌, List, [], ◌++◌, length, Some, ap, arith, length-append}
use Rattle.std.specs.List.{flat_map}
use Rattle.gl_base.specs.LittleEndian.{little_endian}
use Rattle.gl_base.proofs.LittleEndianLaws.{length-little_endian}
use Rattle.gl_hss.specs.Types.{signature_len}
use Rattle.gl_hss.specs.declared.types.Types.{Types}
use Rattle.gl_hss.specs.declared.types.Types.TheVariants.{H5W4, H5W8, H10W4, H10W8}
use Rattle.gl_hss.specs.Signer.{signature_size}
use Rattle.gl_vmaps.specs.declared.write.Write.{Write}
use Rattle.gl_entry.specs.Entry.{body_bytes, body_limit, no_digest, write_bytes}
use Rattle.gl_entry.specs.declared.entry.Content.TheVariants as content
use Rattle.gl_entry.specs.declared.entry.Entry.{Entry}
use Rattle.gl_ledger.proofs.Entries.{length-body_bytes}

signature_len-most : (t : Types) → signature_len t ≤ 2508
signature_len-most H5W4 = omega arith
signature_len-most H5W8 = omega arith
signature_len-most H10W4 = omega arith
signature_len-most H10W8 = omega arith

-- with an endorsement of so many bytes
pub opening_small : (view seqno commit : ℕ) (types : Types) (node root endorsement signature : List ℕ) (writes : List Write) → writes ≡ [] → length node ≡ 32 → length root ≡ 32 → length endorsement ≤ 2 ^ 16 →
    length signature ≡ signature_size types (Some endorsement) →
    length (body_bytes (record { view = view; seqno = seqno; content = content.Signature (record { node = node; commit = commit; root = root; signature = signature }); writes = writes; claims = no_digest })) ≤ body_limit
opening_small view seqno commit types node root endorsement signature writes none node_long root_long short size =
    let e : Entry = record { view = view; seqno = seqno; content = content.Signature (record { node = node; commit = commit; root = root; signature = signature }); writes = writes; claims = no_digest } in
    let recorded : length (node ++ little_endian 8 commit ++ root ++ (little_endian 4 (length signature) ++ signature)) ≡ length node + 8 + length root + 4 + length signature = simp (length-append, length-little_endian) (omega arith) in
    let unwritten : length (flat_map write_bytes writes) ≡ 0 = ap (λ (ws : List Write). length (flat_map write_bytes ws)) none in
    omega (arith, length-body_bytes e, recorded, unwritten, node_long, root_long, size, signature_len-most types, short)
