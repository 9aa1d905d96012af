-- Entries of a ledger (CCF documentation, "Ledger"), and the bytes of their frames.
use Rattle.std.specs.Prelude.{ℕ, ◌+◌, ◌^◌, List, [], ◌∷◌, ◌++◌, Bool, true, false, ◌&&◌, length, replicate, nat_le, nat_lt, ◌||◌}
use Rattle.std.specs.List.{flat_map, list_all}
use Rattle.gl_base.specs.LittleEndian.{little_endian}
use Rattle.gl_base.specs.Bytes.{are_bytes, are_sized, is_digest, same_bytes, mebibyte}
use Rattle.gl_base.specs.Field.{with_u32_length}
use Rattle.gl_base.specs.Row.{map_name_bytes, key_bytes, optional_value_bytes}
use Rattle.gl_vmaps.specs.Writes.{is_write, is_ordered}
use Rattle.gl_vmaps.specs.declared.write.Write.{Write}
use Rattle.gl_entry.specs.declared.entry.Signature as signatures
use Rattle.gl_entry.specs.declared.entry.Content.{Content}
use Rattle.gl_entry.specs.declared.entry.Content.TheVariants as content
use Rattle.gl_entry.specs.declared.entry.Entry.{Entry}

-- The digest field of an entry that has none.
abbrev pub no_digest : List ℕ
no_digest = replicate 32 0

-- The entry is a signature.
abbrev pub is_signature : Content → Bool
is_signature (content.Governance b) = false
is_signature (content.Application b) = false
is_signature (content.Signature s) = true
is_signature (content.Evidence d) = false

-- The entry is the digest of a snapshot.
abbrev pub is_evidence : Content → Bool
is_evidence (content.Governance b) = false
is_evidence (content.Application b) = false
is_evidence (content.Signature s) = false
is_evidence (content.Evidence d) = true

-- The commit that a signature records, 0 for any other entry.
abbrev pub recorded_commit : Content → ℕ
recorded_commit (content.Governance b) = 0
recorded_commit (content.Application b) = 0
recorded_commit (content.Signature s) = s.commit
recorded_commit (content.Evidence d) = 0

-- The byte that encodes what kind of entry it is.
abbrev pub kind_tag : Content → ℕ
kind_tag (content.Governance b) = 1
kind_tag (content.Application b) = 2
kind_tag (content.Signature s) = 3
kind_tag (content.Evidence d) = 4

-- What a signature records, as bytes.
abbrev pub signature_bytes : signatures.Signature → List ℕ
signature_bytes s = s.node ++ little_endian 8 s.commit ++ s.root ++ with_u32_length s.signature

-- What an entry records, as bytes.
abbrev pub content_bytes : Content → List ℕ
content_bytes (content.Governance b) = b
content_bytes (content.Application b) = b
content_bytes (content.Signature s) = signature_bytes s
content_bytes (content.Evidence d) = d

-- A write: its map, its key, and the new value, or none where the row is removed.
abbrev pub write_bytes : Write → List ℕ
write_bytes w = map_name_bytes w.map ++ key_bytes w.key ++ optional_value_bytes w.value

-- The body of an entry's frame: view, place, what it records, its writes after their count, and its
-- claims.
abbrev pub body_bytes : Entry → List ℕ
body_bytes e =
    little_endian 4 e.view ++ little_endian 8 e.seqno
    ++ (kind_tag e.content ∷ with_u32_length (content_bytes e.content))
    ++ little_endian 4 (length e.writes) ++ flat_map write_bytes e.writes ++ e.claims

-- A frame has a version, 1, flags, 0, and the body's size in 6 bytes before the body.
abbrev pub frame_bytes : Entry → List ℕ
frame_bytes e = (1 ∷ 0 ∷ little_endian 6 (length (body_bytes e))) ++ body_bytes e

abbrev pub frame_size : Entry → ℕ
frame_size e = 8 + length (body_bytes e)

-- A body has at most 1 MiB.
abbrev pub body_limit : ℕ
body_limit = mebibyte

-- Which values are entries

abbrev pub is_recorded_signature : signatures.Signature → Bool
is_recorded_signature s =
    is_digest s.node && nat_lt s.commit (2 ^ 64) && is_digest s.root && are_bytes s.signature

abbrev pub is_content : Content → Bool
is_content (content.Governance b) = are_bytes b
is_content (content.Application b) = are_bytes b
is_content (content.Signature s) = is_recorded_signature s
is_content (content.Evidence d) = is_digest d

-- Only a governance or an application entry writes.
abbrev pub may_write : Content → Bool
may_write (content.Governance b) = true
may_write (content.Application b) = true
may_write (content.Signature s) = false
may_write (content.Evidence d) = false

-- Only an application entry has claims.
abbrev pub may_claim : Content → Bool
may_claim (content.Governance b) = false
may_claim (content.Application b) = true
may_claim (content.Signature s) = false
may_claim (content.Evidence d) = false

abbrev pub are_no_writes : List Write → Bool
are_no_writes [] = true
are_no_writes (w ∷ ws) = false

abbrev pub is_no_digest : List ℕ → Bool
is_no_digest bytes = same_bytes bytes no_digest

-- The fields of an entry are in their ranges: its writes are in order, and only the kinds that may
-- write and claim do.
abbrev pub is_entry : Entry → Bool
is_entry e =
    nat_lt e.view (2 ^ 32) && nat_lt e.seqno (2 ^ 64) && is_content e.content
    && list_all is_write e.writes && is_ordered e.writes
    && (may_write e.content || are_no_writes e.writes)
    && is_digest e.claims && (may_claim e.content || is_no_digest e.claims)
    && nat_le (length (body_bytes e)) body_limit
