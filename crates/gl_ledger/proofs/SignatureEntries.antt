-- The entry of a node's signature fits its format.
use Rattle.std.proofs.Common.{◌≡◌, ℕ, ◌+◌, ◌≤◌, ◌<◌, ◌^◌, List, [], ◌++◌, length, true, ◌&&◌, ◌==◌, nat_lt, refl, arith, length-append}
use Rattle.std.specs.Cmp.Lexicographic.{bytes_decides}
use Rattle.std.proofs.lemmas.Bool.{and_parts, and_from}
use Rattle.std.proofs.lemmas.Bool.Decides.{nat_tests}
use Rattle.gl_base.specs.Bytes.{are_bytes, is_digest}
use Rattle.gl_base.specs.LittleEndian.{little_endian}
use Rattle.gl_base.proofs.LittleEndianLaws.{length-little_endian}
use Rattle.gl_merkle.specs.Tree.{root_of}
use Rattle.gl_rules.specs.Identity.{NodeId}
use Rattle.gl_entry.specs.Entry.{no_digest, is_entry}
use Rattle.gl_entry.specs.declared.entry.Content.TheVariants as content
use Rattle.gl_entry.specs.declared.entry.Entry.{Entry}
use Rattle.gl_entry.specs.declared.entry.Signature as signatures
use Rattle.gl_ledger.specs.Tree.{leaves_of}
use Rattle.gl_ledger.specs.Layers.{Layers}
use Rattle.gl_ledger.specs.NodeKeys.{NodeKeys}
use Rattle.gl_ledger.specs.Makers.{MakesValid, signature_after, signed_entry}
use Rattle.gl_ledger.proofs.Roots.{root_is_digest}
use Rattle.gl_ledger.proofs.Entries.{is_entry-from_fields, length-body_bytes}

pub digest_length : (xs : List ℕ) → is_digest xs ≡ true → length xs ≡ 32
digest_length xs h = let both = and_parts (length xs == 32) (are_bytes xs) h in grind (arith, nat_tests, both.0)

-- a signature of whatever bytes, so many that the body has room for them
pub signed_fits : (node root signature : List ℕ) (view seqno commit : ℕ) → is_digest node ≡ true → is_digest root ≡ true → view < 2 ^ 32 → seqno < 2 ^ 64 → commit < 2 ^ 64 → are_bytes signature ≡ true → length signature ≤ 2 ^ 16 →
    is_entry (record { view = view; seqno = seqno; content = content.Signature (record { node = node; commit = commit; root = root; signature = signature }); writes = []; claims = no_digest }) ≡ true
signed_fits node root signature view seqno commit named digest low fits number bytes short =
    let s : signatures.Signature = record { node = node; commit = commit; root = root; signature = signature } in
    let e : Entry = record { view = view; seqno = seqno; content = content.Signature s; writes = []; claims = no_digest } in
    let small : nat_lt commit (2 ^ 64) ≡ true = grind (arith, nat_tests) in
    let node_long = digest_length node named in
    let root_long = digest_length root digest in
    let recorded : length (node ++ little_endian 8 commit ++ root ++ (little_endian 4 (length signature) ++ signature)) ≡ length node + 8 + length root + 4 + length signature = simp (length-append, length-little_endian) (omega arith) in
    is_entry-from_fields e
    (record {
      view = low;
      seqno = fits;
      recorded = and_from (is_digest node && nat_lt commit (2 ^ 64) && is_digest root) (are_bytes signature)
          (and_from (is_digest node && nat_lt commit (2 ^ 64)) (is_digest root) (and_from (is_digest node) (nat_lt commit (2 ^ 64)) named small) digest) bytes;
      limits = refl;
      ordered = refl;
      writes = refl;
      digest = refl;
      claims = (bytes_decides no_digest no_digest).1 refl;
    })
    (omega (arith, length-body_bytes e, recorded, node_long, root_long, short))

pub signed_is_entry : (layers : Layers) (keys : NodeKeys) (x : NodeId) (leaf : ℕ) (ledger : List Entry) (view commit : ℕ) → is_digest x ≡ true → 1 ≤ length ledger → view < 2 ^ 32 → length ledger + 1 < 2 ^ 64 → commit < 2 ^ 64 →
    MakesValid layers keys x leaf ledger view commit → is_entry (signed_entry keys x leaf ledger view commit) ≡ true
signed_is_entry layers keys x leaf ledger view commit named some low fits number v =
    signed_fits x (root_of (leaves_of ledger)) (signature_after keys x leaf ledger view commit) view (length ledger + 1) commit named (root_is_digest ledger some) low fits number v.bytes v.short
