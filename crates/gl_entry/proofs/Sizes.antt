-- How many bytes the parts of an entry have.
use Rattle.std.proofs.Common.{◌≡◌, ℕ, ◌+◌, ◌≤◌, List, [], ◌∷◌, ◌++◌, length, length-append, append_assoc, arith}
use Rattle.std.specs.List.{flat_map}
use Rattle.std.proofs.lemmas.List.Concat.{flat_map-cons}
use Rattle.gl_base.specs.LittleEndian.{little_endian}
use Rattle.gl_base.specs.Field.{with_u32_length}
use Rattle.gl_base.proofs.LittleEndianLaws.{length-little_endian}
use Rattle.gl_entry.specs.Entry.{write_bytes}
use Rattle.gl_vmaps.specs.declared.write.Write.{Write}
use Rattle.gl_entry.specs.declared.entry.Signature as signatures
use Rattle.gl_entry.specs.declared.entry.Entry.{Entry}
use Rattle.gl_entry.specs.Entry.{signature_bytes, content_bytes, body_bytes}

pub length-signature_bytes : (s : signatures.Signature) → length (signature_bytes s) ≡ length s.node + length s.root + length s.signature + 12
length-signature_bytes s = simp (length-append, length-little_endian) (omega arith)

pub ruleset signature_size = (length-signature_bytes)

pub ruleset field_size = (length-append, length-little_endian)

-- Its fields, one after the other, after their size.
pub signature_fields : (out : List ℕ) (n : ℕ) (s : signatures.Signature) → n ≡ length (signature_bytes s) →
    ((((out ++ little_endian 4 n) ++ s.node) ++ little_endian 8 s.commit) ++ s.root) ++ with_u32_length s.signature ≡ out ++ with_u32_length (signature_bytes s)
signature_fields out n s e = rw e (simp append_assoc)

-- Each write has a byte at least.
length-write_bytes : (w : Write) → 1 ≤ length (write_bytes w)
length-write_bytes w = simp (length-append, length-little_endian) (omega arith)

writes_within : (ws : List Write) → length ws ≤ length (flat_map write_bytes ws)
writes_within [] = omega arith
writes_within (w ∷ ws) =
    let some = length-write_bytes w in
    let rest = writes_within ws in
    let both = length-append (write_bytes w) (flat_map write_bytes ws) in
    rw (flat_map-cons write_bytes w ws) (omega arith)

-- What an entry records and its writes are no more than its body.
pub content_within : (e : Entry) → length (content_bytes e.content) ≤ length (body_bytes e)
content_within e = simp (length-append, length-little_endian) (omega arith)

pub writes_counted : (e : Entry) → length e.writes ≤ length (body_bytes e)
writes_counted e =
    let within = writes_within e.writes in
    simp (length-append, length-little_endian) (omega arith)

-- The lengths of a body's parts are within that of the body.
pub ruleset body_parts = (content_within, writes_counted)
