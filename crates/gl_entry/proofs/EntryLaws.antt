-- The frame of an entry reads back, and what reads is the frame of an entry.
use Rattle.std.proofs.Common.{◌≡◌, ℕ, ◌+◌, ◌^◌, ◌<◌, ◌≤◌, ◌%◌, nat_lt, nat_le, ◌==◌, Bool, true, false, ◌&&◌, ◌||◌, List, [], ◌∷◌, ◌++◌, length, None, Result, Ok, refl, sym, ap, ◌∙◌, subst, append_assoc, append-nil, length-append, arith}
use Rattle.std.specs.List.{flat_map, list_all}
use Rattle.std.proofs.lemmas.Bool.{and_from, and_parts}
use Rattle.std.proofs.lemmas.Bool.Decides.{nat_tests}
use Rattle.gl_base.specs.Code.{ended, field, unread_of}
use Rattle.gl_base.specs.Cut.{Unread, bytes_at, number_at, string_at}
use Rattle.gl_base.specs.Bytes.{are_bytes, are_sized, is_digest}
use Rattle.gl_base.specs.Field.{with_u32_length}
use Rattle.gl_base.specs.LittleEndian.{little_endian}
use Rattle.gl_base.proofs.ByteLists.{AreBytes}
use Rattle.gl_base.specs.declared.fault.CutFault.{CutFault}
use Rattle.gl_base.specs.declared.fault.CodeFault.TheVariants as codes
use Rattle.gl_base.proofs.LittleEndianLaws.{length-little_endian}
use Rattle.gl_base.proofs.Steps.{bind_ok, ok_injective}
use Rattle.gl_vmaps.specs.Writes.{is_write, is_ordered}
use Rattle.gl_entry.specs.Entry.{write_bytes}
use Rattle.gl_vmaps.specs.declared.write.Write.{Write}
use Rattle.gl_base.proofs.RowLaws.{Took, field_ok, TookFlag, flag-took}
use Rattle.gl_base.proofs.ByteLists.{are_bytes-each}
use Rattle.gl_entry.specs.declared.entry.Content.{Content}
use Rattle.gl_entry.specs.declared.entry.Content.TheVariants as content
use Rattle.gl_entry.specs.declared.entry.Entry.{Entry}
use Rattle.gl_entry.specs.declared.fault.EntryFault.{EntryFault}
use Rattle.gl_entry.specs.declared.fault.EntryFault.TheVariants as faults
use Rattle.gl_entry.specs.Entry.{body_limit, kind_tag, content_bytes, body_bytes, frame_bytes, frame_size, is_content, is_no_digest, are_no_writes, may_write, may_claim, is_entry}
use Rattle.gl_entry.specs.Parsing.{part, entry_field, required, is_kind, kind_at, content_of, content_at, writes_from, writes_at, claims_at, body_at, whole_body, size_at, frame_at, entry_at}
use Rattle.gl_entry.proofs.Sizes.{content_within, writes_counted}
use Rattle.gl_entry.proofs.Ordered.{part_ok, required_ok, writes_ordered, first_after}
use Rattle.gl_entry.proofs.Parts.{took_then, number-took, bytes-took, sized-took, Lies, lie_both, number-reads, bytes-reads, sized-reads}
use Rattle.gl_entry.proofs.ContentLaws.{ended_ok, content_of-encoded, content_of-reads}
use Rattle.gl_entry.proofs.RowLaws.{writes-encoded, writes-reads}

-- ---- steps

pub entry_field_ok : {X : Type 0} → (r : Result X CutFault) (x : X) → entry_field r ≡ Ok x → r ≡ Ok x
entry_field_ok r x e = field_ok r x (part_ok (field r) x e)

-- ---- what it records

abbrev recorded_bytes : Content → List ℕ
recorded_bytes recorded = kind_tag recorded ∷ with_u32_length (content_bytes recorded)

kind-took : (old : Unread) (read : ℕ × Unread) → AreBytes old.bytes → kind_at old ≡ Ok read → TookFlag read.0 old read.1 × (is_kind read.0 ≡ true)
unfolding kind_at
kind-took old read all e =
    let there = bind_ok {E = EntryFault} (entry_field (number_at 1 old)) _ read e in
    let holds = required_ok (is_kind there.0.0) faults.Kind there.0 read there.2 in
    let took = flag-took there.0.0 old there.0.1 all (entry_field_ok (number_at 1 old) there.0 there.1) in
    subst (λ (x : ℕ × Unread). TookFlag x.0 old x.1 × (is_kind x.0 ≡ true)) holds.1 (took, holds.0)

content-encoded : (old : Unread) (read : Content × Unread) → AreBytes old.bytes → content_at old ≡ Ok read → Took (recorded_bytes read.0) (is_content read.0) old read.1
unfolding content_at
content-encoded old read all e =
    let kind = bind_ok {E = EntryFault} (kind_at old) _ read e in
    let request = bind_ok {E = EntryFault} (entry_field (string_at 4 body_limit kind.0.1)) _ read kind.2 in
    let recorded = bind_ok {E = EntryFault} (part (content_of kind.0.0 (kind.0.1.at + 4) request.0.0)) _ read request.2 in
    let gave : Content × Unread = (recorded.0, request.0.1) in
    let same : gave ≡ read = ok_injective {E = EntryFault} gave read recorded.2 in
    let tag = kind-took old kind.0 all kind.1 in
    let sized = sized-took body_limit request.0.0 kind.0.1 request.0.1 tag.0.rest (entry_field_ok (string_at 4 body_limit kind.0.1) request.0 request.1) in
    let of = content_of-encoded kind.0.0 (kind.0.1.at + 4) request.0.0 recorded.0 tag.1 sized.each (part_ok (content_of kind.0.0 (kind.0.1.at + 4) request.0.0) recorded.0 recorded.1) in
    let encoded : kind.0.0 ∷ with_u32_length request.0.0 ≡ recorded_bytes recorded.0 =
    ap (λ (n : ℕ). n ∷ with_u32_length request.0.0) of.tag ∙ ap (λ (xs : List ℕ). kind_tag recorded.0 ∷ with_u32_length xs) of.bytes_are in
    let whole : Took (kind.0.0 ∷ with_u32_length request.0.0) (is_content recorded.0) old request.0.1 = record {
      bytes = tag.0.bytes ∙ ap (λ (xs : List ℕ). kind.0.0 ∷ xs) sized.took.bytes;
      place = omega (arith, tag.0.place, sized.took.place);
      valid = of.valid;
      rest = sized.took.rest;
    } in
    subst (λ (x : Content × Unread). Took (recorded_bytes x.0) (is_content x.0) old x.1) same (subst (λ (xs : List ℕ). Took xs (is_content recorded.0) old request.0.1) encoded whole)

one_byte : (n : ℕ) → n < 256 → little_endian 1 n ≡ n ∷ []
unfolding little_endian
one_byte n small = let same : n % 256 ≡ n = omega arith in ap (λ m. m ∷ []) same

flag-reads : (n : ℕ) (old new : Unread) → n < 256 → Lies (n ∷ []) old new → number_at 1 old ≡ Ok (n, new)
flag-reads n old new small there = number-reads 1 n old new (subst (λ (xs : List ℕ). Lies xs old new) (sym (one_byte n small)) there) small

kind_tag-kind : (recorded : Content) → is_kind (kind_tag recorded) ≡ true
kind_tag-kind (content.Governance b) = refl
kind_tag-kind (content.Application b) = refl
kind_tag-kind (content.Signature s) = refl
kind_tag-kind (content.Evidence d) = refl

kind_tag-small : (recorded : Content) → kind_tag recorded < 256
kind_tag-small recorded = let is = kind_tag-kind recorded in grind (arith, nat_tests)

kind-reads : (recorded : Content) (old new : Unread) → Lies (kind_tag recorded ∷ []) old new → kind_at old ≡ Ok (kind_tag recorded, new)
unfolding kind_at
kind-reads recorded old new there = rw (flag-reads (kind_tag recorded) old new (kind_tag-small recorded) there, kind_tag-kind recorded) refl

content-reads : (recorded : Content) (old new : Unread) → is_content recorded ≡ true → length (content_bytes recorded) ≤ body_limit → Lies (recorded_bytes recorded) old new → content_at old ≡ Ok (recorded, new)
unfolding content_at
content-reads recorded old new is within there =
    let both = lie_both (kind_tag recorded ∷ []) (with_u32_length (content_bytes recorded)) old new there in
    let kind = kind-reads recorded old both.mid both.first in
    let request = sized-reads body_limit (content_bytes recorded) both.mid new both.second within (omega (arith, within)) in
    rw (kind, request, content_of-reads (both.mid.at + 4) recorded is within) refl

-- ---- its writes

-- The writes that were read are those of an entry that may write, or there are none.
record TookRows (may : Bool) (ws : List Write) (old new : Unread) : Type 0 where
  pub took : Took (little_endian 4 (length ws) ++ flat_map write_bytes ws) (list_all is_write ws) old new
  pub ordered : is_ordered ws ≡ true
  pub allowed : (may || are_no_writes ws) ≡ true

none_allowed : (may : Bool) (ws : List Write) (count : ℕ) → length ws ≡ count → (may || (count == 0)) ≡ true → (may || are_no_writes ws) ≡ true
none_allowed true ws count counted holds = refl
none_allowed false [] count counted holds = refl
none_allowed false (w ∷ ws) count counted holds = absurd (grind (arith, nat_tests))

writes_at-encoded : (may : Bool) (old : Unread) (read : List Write × Unread) → AreBytes old.bytes → writes_at may old ≡ Ok read → TookRows may read.0 old read.1
unfolding writes_at
writes_at-encoded may old read all e =
    let count = bind_ok {E = EntryFault} (entry_field (number_at 4 old)) _ read e in
    let allowed = bind_ok {E = EntryFault} (required (may || (count.0.0 == 0)) (faults.Code (codes.Value old.at)) count.0) _ read count.2 in
    let holds = required_ok (may || (count.0.0 == 0)) (faults.Code (codes.Value old.at)) count.0 allowed.0 allowed.1 in
    let number = number-took 4 count.0.0 old count.0.1 all (entry_field_ok (number_at 4 old) count.0 count.1) in
    let rows_read : writes_from 1 None count.0.0 count.0.1 ≡ Ok read = ap (λ (x : ℕ × Unread). writes_from 1 None x.0 x.1) holds.1 ∙ allowed.2 in
    let rows = writes-encoded 1 None count.0.0 count.0.1 read number.rest rows_read in
    let both = took_then (little_endian 4 count.0.0) (flat_map write_bytes read.0) (nat_lt count.0.0 (256 ^ 4)) (list_all is_write read.0) old count.0.1 read.1 number rows.took in
    record {
      took = record {
        bytes = both.bytes ∙ ap (λ (n : ℕ). little_endian 4 n ++ flat_map write_bytes read.0 ++ read.1.bytes) (sym rows.counted);
        place = both.place ∙ ap (λ (n : ℕ). old.at + length (little_endian 4 n ++ flat_map write_bytes read.0)) (sym rows.counted);
        valid = rows.took.valid;
        rest = both.rest;
      };
      ordered = writes_ordered count.0.0 count.0.1 read.1 read.0 rows_read;
      allowed = none_allowed may read.0 count.0.0 rows.counted holds.0;
    }

none_counted : (may : Bool) (ws : List Write) → (may || are_no_writes ws) ≡ true → (may || (length ws == 0)) ≡ true
none_counted true ws allowed = refl
none_counted false [] allowed = refl
none_counted false (w ∷ ws) allowed = absurd cc

first_of_all : (ws : List Write) → first_after None ws ≡ true
first_of_all [] = refl
first_of_all (w ∷ ws) = refl

writes_at-reads : (may : Bool) (ws : List Write) (old new : Unread) → list_all is_write ws ≡ true → is_ordered ws ≡ true → (may || are_no_writes ws) ≡ true → length ws < 256 ^ 4
    → Lies (little_endian 4 (length ws) ++ flat_map write_bytes ws) old new → writes_at may old ≡ Ok (ws, new)
unfolding writes_at
writes_at-reads may ws old new is ordered allowed small there =
    let both = lie_both (little_endian 4 (length ws)) (flat_map write_bytes ws) old new there in
    let count = number-reads 4 (length ws) old both.mid both.first small in
    rw (count, none_counted may ws allowed) (writes-reads 1 None ws both.mid new is ordered (first_of_all ws) both.second)

-- ---- its claims

claims-encoded : (may : Bool) (old : Unread) (read : List ℕ × Unread) → AreBytes old.bytes → claims_at may old ≡ Ok read → Took read.0 (is_digest read.0) old read.1 × ((may || is_no_digest read.0) ≡ true)
unfolding claims_at
claims-encoded may old read all e =
    let digest = bind_ok {E = EntryFault} (entry_field (bytes_at 32 old)) _ read e in
    let holds = required_ok (may || is_no_digest digest.0.0) (faults.Code (codes.Value old.at)) digest.0 read digest.2 in
    let took = bytes-took 32 digest.0.0 old digest.0.1 all (entry_field_ok (bytes_at 32 old) digest.0 digest.1) in
    subst (λ (x : List ℕ × Unread). Took x.0 (is_digest x.0) old x.1 × ((may || is_no_digest x.0) ≡ true)) holds.1 (took, holds.0)

claims-reads : (may : Bool) (claims : List ℕ) (old new : Unread) → is_digest claims ≡ true → (may || is_no_digest claims) ≡ true → Lies claims old new → claims_at may old ≡ Ok (claims, new)
unfolding claims_at
claims-reads may claims old new is allowed there =
    let parts = and_parts (length claims == 32) (are_bytes claims) is in
    let read = bytes-reads 32 claims old new there (grind (arith, nat_tests, parts.0)) in
    rw (read, allowed) refl

-- ---- its body

-- The fields are in their ranges, whatever the size of the body.
abbrev pub is_body : Entry → Bool
is_body e =
    nat_lt e.view (2 ^ 32) && nat_lt e.seqno (2 ^ 64) && is_content e.content
    && list_all is_write e.writes && is_ordered e.writes && (may_write e.content || are_no_writes e.writes)
    && is_digest e.claims && (may_claim e.content || is_no_digest e.claims)

abbrev prefix_bytes : Entry → List ℕ
prefix_bytes e = little_endian 4 e.view ++ little_endian 8 e.seqno ++ recorded_bytes e.content

-- The body, with its writes after their count as one part.
regrouped : (e : Entry) → prefix_bytes e ++ (little_endian 4 (length e.writes) ++ flat_map write_bytes e.writes) ++ e.claims ≡ body_bytes e
regrouped e = ap (λ (xs : List ℕ). xs ++ e.claims) (sym (append_assoc (prefix_bytes e) (little_endian 4 (length e.writes)) (flat_map write_bytes e.writes)))

body_took : (e : Entry) (old prefix rows new : Unread) → Took (prefix_bytes e) (nat_lt e.view (2 ^ 32) && nat_lt e.seqno (2 ^ 64) && is_content e.content) old prefix → TookRows (may_write e.content) e.writes prefix rows
    → Took e.claims (is_digest e.claims) rows new → (may_claim e.content || is_no_digest e.claims) ≡ true → Took (body_bytes e) (is_body e) old new
body_took e old prefix rows new first writes claims allowed =
    let both = took_then (prefix_bytes e) (little_endian 4 (length e.writes) ++ flat_map write_bytes e.writes) (nat_lt e.view (2 ^ 32) && nat_lt e.seqno (2 ^ 64) && is_content e.content) (list_all is_write e.writes) old prefix rows first writes.took in
    let whole = took_then (prefix_bytes e ++ (little_endian 4 (length e.writes) ++ flat_map write_bytes e.writes)) e.claims (nat_lt e.view (2 ^ 32) && nat_lt e.seqno (2 ^ 64) && is_content e.content && list_all is_write e.writes) (is_digest e.claims) old rows new both claims in
    let fields = both.valid in
    record {
      bytes = whole.bytes ∙ ap (λ (xs : List ℕ). xs ++ new.bytes) (regrouped e);
      place = whole.place ∙ ap (λ (xs : List ℕ). old.at + length xs) (regrouped e);
      valid = rw (both.valid, writes.ordered, writes.allowed, claims.valid, allowed) refl;
      rest = whole.rest;
    }

pub body-encoded : (old : Unread) (read : Entry × Unread) → AreBytes old.bytes → body_at old ≡ Ok read → Took (body_bytes read.0) (is_body read.0) old read.1
unfolding body_at
body-encoded old read all e =
    let view = bind_ok {E = EntryFault} (entry_field (number_at 4 old)) _ read e in
    let seqno = bind_ok {E = EntryFault} (entry_field (number_at 8 view.0.1)) _ read view.2 in
    let recorded = bind_ok {E = EntryFault} (content_at seqno.0.1) _ read seqno.2 in
    let writes = bind_ok {E = EntryFault} (writes_at (may_write recorded.0.0) recorded.0.1) _ read recorded.2 in
    let claims = bind_ok {E = EntryFault} (claims_at (may_claim recorded.0.0) writes.0.1) _ read writes.2 in
    let made : Entry = record { view = view.0.0; seqno = seqno.0.0; content = recorded.0.0; writes = writes.0.0; claims = claims.0.0 } in
    let gave : Entry × Unread = (made, claims.0.1) in
    let same : gave ≡ read = ok_injective {E = EntryFault} gave read claims.2 in
    let a = number-took 4 view.0.0 old view.0.1 all (entry_field_ok (number_at 4 old) view.0 view.1) in
    let b = number-took 8 seqno.0.0 view.0.1 seqno.0.1 a.rest (entry_field_ok (number_at 8 view.0.1) seqno.0 seqno.1) in
    let c = content-encoded seqno.0.1 recorded.0 b.rest recorded.1 in
    let ab = took_then (little_endian 4 view.0.0) (little_endian 8 seqno.0.0) (nat_lt view.0.0 (2 ^ 32)) (nat_lt seqno.0.0 (2 ^ 64)) old view.0.1 seqno.0.1 a b in
    let abc = took_then (little_endian 4 view.0.0 ++ little_endian 8 seqno.0.0) (recorded_bytes recorded.0.0) (nat_lt view.0.0 (2 ^ 32) && nat_lt seqno.0.0 (2 ^ 64)) (is_content recorded.0.0) old seqno.0.1 recorded.0.1 ab c in
    let d = writes_at-encoded (may_write recorded.0.0) recorded.0.1 writes.0 abc.rest writes.1 in
    let f = claims-encoded (may_claim recorded.0.0) writes.0.1 claims.0 d.took.rest claims.1 in
    subst (λ (x : Entry × Unread). Took (body_bytes x.0) (is_body x.0) old x.1) same (body_took made old recorded.0.1 writes.0.1 claims.0.1 abc d f.0 f.1)

pub body-reads : (e : Entry) (old new : Unread) → is_body e ≡ true → length (body_bytes e) ≤ body_limit → Lies (body_bytes e) old new → body_at old ≡ Ok (e, new)
unfolding body_at
body-reads e old new is within there =
    let rows = little_endian 4 (length e.writes) ++ flat_map write_bytes e.writes in
    let claims = lie_both (prefix_bytes e ++ rows) e.claims old new (subst (λ (xs : List ℕ). Lies xs old new) (sym (regrouped e)) there) in
    let writes = lie_both (prefix_bytes e) rows old claims.mid claims.first in
    let recorded = lie_both (little_endian 4 e.view ++ little_endian 8 e.seqno) (recorded_bytes e.content) old writes.mid writes.first in
    let seqno = lie_both (little_endian 4 e.view) (little_endian 8 e.seqno) old recorded.mid recorded.first in
    let p8 = and_parts (nat_lt e.view (2 ^ 32) && nat_lt e.seqno (2 ^ 64) && is_content e.content && list_all is_write e.writes && is_ordered e.writes && (may_write e.content || are_no_writes e.writes) && is_digest e.claims) (may_claim e.content || is_no_digest e.claims) is in
    let p7 = and_parts (nat_lt e.view (2 ^ 32) && nat_lt e.seqno (2 ^ 64) && is_content e.content && list_all is_write e.writes && is_ordered e.writes && (may_write e.content || are_no_writes e.writes)) (is_digest e.claims) p8.0 in
    let p6 = and_parts (nat_lt e.view (2 ^ 32) && nat_lt e.seqno (2 ^ 64) && is_content e.content && list_all is_write e.writes && is_ordered e.writes) (may_write e.content || are_no_writes e.writes) p7.0 in
    let p5 = and_parts (nat_lt e.view (2 ^ 32) && nat_lt e.seqno (2 ^ 64) && is_content e.content && list_all is_write e.writes) (is_ordered e.writes) p6.0 in
    let p4 = and_parts (nat_lt e.view (2 ^ 32) && nat_lt e.seqno (2 ^ 64) && is_content e.content) (list_all is_write e.writes) p5.0 in
    let p3 = and_parts (nat_lt e.view (2 ^ 32) && nat_lt e.seqno (2 ^ 64)) (is_content e.content) p4.0 in
    let p2 = and_parts (nat_lt e.view (2 ^ 32)) (nat_lt e.seqno (2 ^ 64)) p3.0 in
    let view_read = number-reads 4 e.view old seqno.mid seqno.first (grind (arith, nat_tests, p2.0)) in
    let seqno_read = number-reads 8 e.seqno seqno.mid recorded.mid seqno.second (grind (arith, nat_tests, p2.1)) in
    let content_read = content-reads e.content recorded.mid writes.mid p3.1 (omega (arith, content_within e, within)) recorded.second in
    let writes_read = writes_at-reads (may_write e.content) e.writes writes.mid claims.mid p4.1 p5.1 p6.1 (omega (arith, writes_counted e, within)) writes.second in
    let claims_read = claims-reads (may_claim e.content) e.claims claims.mid new p7.1 p8.1 claims.second in
    rw (view_read, seqno_read, content_read, writes_read, claims_read) refl

-- ---- its frame

size-encoded : (old : Unread) (read : ℕ × Unread) → AreBytes old.bytes → size_at old ≡ Ok read → Took (1 ∷ 0 ∷ little_endian 6 read.0) (nat_le read.0 body_limit) old read.1
unfolding size_at
size-encoded old read all e =
    let version = bind_ok {E = EntryFault} (entry_field (number_at 1 old)) _ read e in
    let first = bind_ok {E = EntryFault} (required (version.0.0 == 1) faults.Version version.0) _ read version.2 in
    let flags = bind_ok {E = EntryFault} (entry_field (number_at 1 first.0.1)) _ read first.2 in
    let second = bind_ok {E = EntryFault} (required (flags.0.0 == 0) faults.Flags flags.0) _ read flags.2 in
    let size = bind_ok {E = EntryFault} (entry_field (number_at 6 second.0.1)) _ read second.2 in
    let is_version = required_ok (version.0.0 == 1) faults.Version version.0 first.0 first.1 in
    let is_flags = required_ok (flags.0.0 == 0) faults.Flags flags.0 second.0 second.1 in
    let is_size = required_ok (nat_le size.0.0 body_limit) (faults.Size size.0.0) size.0 read size.2 in
    let a = flag-took version.0.0 old version.0.1 all (entry_field_ok (number_at 1 old) version.0 version.1) in
    let b = flag-took flags.0.0 version.0.1 flags.0.1 a.rest (ap (λ (x : ℕ × Unread). number_at 1 x.1) is_version.1 ∙ entry_field_ok (number_at 1 first.0.1) flags.0 flags.1) in
    let c = number-took 6 size.0.0 flags.0.1 size.0.1 b.rest (ap (λ (x : ℕ × Unread). number_at 6 x.1) is_flags.1 ∙ entry_field_ok (number_at 6 second.0.1) size.0 size.1) in
    let one : version.0.0 ≡ 1 = grind (arith, nat_tests, is_version.0) in
    let none : flags.0.0 ≡ 0 = grind (arith, nat_tests, is_flags.0) in
    let whole : Took (1 ∷ 0 ∷ little_endian 6 size.0.0) (nat_le size.0.0 body_limit) old size.0.1 = record {
      bytes = a.bytes ∙ ap (λ (n : ℕ). n ∷ version.0.1.bytes) one ∙ ap (λ (xs : List ℕ). 1 ∷ xs) b.bytes ∙ ap (λ (n : ℕ). 1 ∷ n ∷ flags.0.1.bytes) none ∙ ap (λ (xs : List ℕ). 1 ∷ 0 ∷ xs) c.bytes;
      place = omega (arith, a.place, b.place, c.place);
      valid = is_size.0;
      rest = c.rest;
    } in
    subst (λ (x : ℕ × Unread). Took (1 ∷ 0 ∷ little_endian 6 x.0) (nat_le x.0 body_limit) old x.1) is_size.1 whole

size-reads : (size : ℕ) (old new : Unread) → size ≤ body_limit → Lies (1 ∷ 0 ∷ little_endian 6 size) old new → size_at old ≡ Ok (size, new)
unfolding size_at
size-reads size old new within there =
    let version = lie_both (1 ∷ []) (0 ∷ little_endian 6 size) old new there in
    let flags = lie_both (0 ∷ []) (little_endian 6 size) version.mid new version.second in
    let version_read = flag-reads 1 old version.mid (omega arith) version.first in
    let flags_read = flag-reads 0 version.mid flags.mid (omega arith) flags.first in
    let size_read = number-reads 6 size flags.mid new flags.second (omega (arith, within)) in
    let is : nat_le size body_limit ≡ true = grind (arith, nat_tests) in
    rw (version_read, flags_read, size_read, is) refl

whole_body-encoded : (place : ℕ) (bytes : List ℕ) (e : Entry) → AreBytes bytes → whole_body (record { at = place; bytes = bytes }) ≡ Ok e → (bytes ≡ body_bytes e) × (is_body e ≡ true)
whole_body-encoded place bytes e all h =
    let unread : Unread = record { at = place; bytes = bytes } in
    let there = bind_ok {E = EntryFault} (body_at unread) _ e h in
    let end = ended_ok there.0 e (part_ok (ended there.0) e there.2) in
    let took = body-encoded unread there.0 all there.1 in
    let parts : bytes ≡ body_bytes there.0.0 = took.bytes ∙ ap (λ (xs : List ℕ). body_bytes there.0.0 ++ xs) end.1 ∙ append-nil (body_bytes there.0.0) in
    (parts ∙ ap body_bytes end.0, ap is_body (sym end.0) ∙ took.valid)

whole_body-reads : (place : ℕ) (e : Entry) → is_body e ≡ true → length (body_bytes e) ≤ body_limit → whole_body (record { at = place; bytes = body_bytes e }) ≡ Ok e
whole_body-reads place e is within =
    let old : Unread = record { at = place; bytes = body_bytes e } in
    let new : Unread = record { at = place + length (body_bytes e); bytes = [] } in
    let there : Lies (body_bytes e) old new = record { bytes = sym (append-nil (body_bytes e)); place = refl } in
    let read = body-reads e old new is within there in
    rw read refl

pub frame-encoded : (old : Unread) (read : Entry × Unread) → AreBytes old.bytes → frame_at old ≡ Ok read → Took (frame_bytes read.0) (is_entry read.0) old read.1
unfolding frame_at
frame-encoded old read all e =
    let size = bind_ok {E = EntryFault} (size_at old) _ read e in
    let body = bind_ok {E = EntryFault} (entry_field (bytes_at size.0.0 size.0.1)) _ read size.2 in
    let entry = bind_ok {E = EntryFault} (whole_body (record { at = size.0.1.at; bytes = body.0.0 })) _ read body.2 in
    let gave : Entry × Unread = (entry.0, body.0.1) in
    let same : gave ≡ read = ok_injective {E = EntryFault} gave read entry.2 in
    let a = size-encoded old size.0 all size.1 in
    let b = bytes-took size.0.0 body.0.0 size.0.1 body.0.1 a.rest (entry_field_ok (bytes_at size.0.0 size.0.1) body.0 body.1) in
    let sized = and_parts (length body.0.0 == size.0.0) (are_bytes body.0.0) b.valid in
    let c = whole_body-encoded size.0.1.at body.0.0 entry.0 (are_bytes-each body.0.0 sized.1) entry.1 in
    let long : length body.0.0 ≡ size.0.0 = grind (arith, nat_tests, sized.0) in
    let counted : size.0.0 ≡ length (body_bytes entry.0) = sym long ∙ ap length c.0 in
    let both = took_then (1 ∷ 0 ∷ little_endian 6 size.0.0) body.0.0 (nat_le size.0.0 body_limit) (are_sized size.0.0 body.0.0) old size.0.1 body.0.1 a b in
    let encoded : (1 ∷ 0 ∷ little_endian 6 size.0.0) ++ body.0.0 ≡ frame_bytes entry.0 =
    ap (λ (n : ℕ). (1 ∷ 0 ∷ little_endian 6 n) ++ body.0.0) counted ∙ ap (λ (xs : List ℕ). (1 ∷ 0 ∷ little_endian 6 (length (body_bytes entry.0))) ++ xs) c.0 in
    let within : nat_le (length (body_bytes entry.0)) body_limit ≡ true = ap (λ (n : ℕ). nat_le n body_limit) (sym counted) ∙ a.valid in
    let whole : Took (frame_bytes entry.0) (is_entry entry.0) old body.0.1 = record {
      bytes = both.bytes ∙ ap (λ (xs : List ℕ). xs ++ body.0.1.bytes) encoded;
      place = both.place ∙ ap (λ (xs : List ℕ). old.at + length xs) encoded;
      valid = and_from (is_body entry.0) (nat_le (length (body_bytes entry.0)) body_limit) c.1 within;
      rest = both.rest;
    } in
    subst (λ (x : Entry × Unread). Took (frame_bytes x.0) (is_entry x.0) old x.1) same whole

pub frame-reads : (e : Entry) (old new : Unread) → is_entry e ≡ true → Lies (frame_bytes e) old new → frame_at old ≡ Ok (e, new)
unfolding frame_at
frame-reads e old new is there =
    let parts = and_parts (is_body e) (nat_le (length (body_bytes e)) body_limit) is in
    let within : length (body_bytes e) ≤ body_limit = grind (arith, nat_tests, parts.1) in
    let both = lie_both (1 ∷ 0 ∷ little_endian 6 (length (body_bytes e))) (body_bytes e) old new there in
    let size = size-reads (length (body_bytes e)) old both.mid within both.first in
    let body = bytes-reads (length (body_bytes e)) (body_bytes e) both.mid new both.second refl in
    rw (size, body, whole_body-reads both.mid.at e parts.0 within) refl

-- The body of an entry is within the limit.
pub body_within : (e : Entry) → is_entry e ≡ true → length (body_bytes e) ≤ body_limit
body_within e is =
    let parts = and_parts (is_body e) (nat_le (length (body_bytes e)) body_limit) is in
    grind (arith, nat_tests, parts.1)

-- ---- the first frame

pub length-frame_bytes : (e : Entry) → length (frame_bytes e) ≡ frame_size e
length-frame_bytes e = omega (arith, length-append (little_endian 6 (length (body_bytes e))) (body_bytes e), length-little_endian 6 (length (body_bytes e)))

-- It lies at the start of bytes, of which the first stands at a place.
abbrev pub framed : ℕ → Entry → List ℕ → Unread
framed place e rest = record { at = place; bytes = frame_bytes e ++ rest }

abbrev pub after_frame : ℕ → Entry → List ℕ → Unread
after_frame place e rest = record { at = place + frame_size e; bytes = rest }

frame_lies : (place : ℕ) (e : Entry) (rest : List ℕ) → Lies (frame_bytes e) (framed place e rest) (after_frame place e rest)
frame_lies place e rest = record { bytes = refl; place = ap (λ (n : ℕ). place + n) (sym (length-frame_bytes e)) }

pub first_frame-reads : (place : ℕ) (e : Entry) (rest : List ℕ) → is_entry e ≡ true
    → frame_at (framed place e rest) ≡ Ok (e, after_frame place e rest)
first_frame-reads place e rest is = frame-reads e (framed place e rest) (after_frame place e rest) is (frame_lies place e rest)

-- How many bytes of a frame are read.
pub frame_taken : (old : Unread) (read : Entry × Unread) → AreBytes old.bytes → frame_at old ≡ Ok read
    → length old.bytes ≡ frame_size read.0 + length read.1.bytes
frame_taken old read all e =
    let took = frame-encoded old read all e in
    omega (arith, ap length took.bytes, length-append (frame_bytes read.0) read.1.bytes, length-frame_bytes read.0)

pub entry_at-encoded : (place : ℕ) (bytes : List ℕ) (read : Entry × ℕ) → AreBytes bytes → entry_at place bytes ≡ Ok read
    → (is_entry read.0 ≡ true) × (read.1 ≡ frame_size read.0) × (rest : List ℕ) × (bytes ≡ frame_bytes read.0 ++ rest)
entry_at-encoded place bytes read all e =
    let there = bind_ok {E = EntryFault} (frame_at (record { at = place; bytes = bytes })) _ read e in
    let gave : Entry × ℕ = (there.0.0, frame_size there.0.0) in
    let same : gave ≡ read = ok_injective {E = EntryFault} gave read there.2 in
    let took = frame-encoded (record { at = place; bytes = bytes }) there.0 all there.1 in
    subst (λ (x : Entry × ℕ). (is_entry x.0 ≡ true) × (x.1 ≡ frame_size x.0) × (rest : List ℕ) × (bytes ≡ frame_bytes x.0 ++ rest)) same (took.valid, refl, there.0.1.bytes, took.bytes)

pub entry_at-reads : (place : ℕ) (e : Entry) (rest : List ℕ) → is_entry e ≡ true → entry_at place (frame_bytes e ++ rest) ≡ Ok (e, frame_size e)
entry_at-reads place e rest is = rw (first_frame-reads place e rest is) refl

-- No frame is a proper prefix of another.
pub frames_differ : (e f : Entry) (x y : List ℕ) → is_entry e ≡ true → is_entry f ≡ true → frame_bytes e ++ x ≡ frame_bytes f ++ y → (e ≡ f) × (x ≡ y)
frames_differ e f x y is_e is_f h =
    let both : ◌≡◌ {A = Result (Entry × Unread) EntryFault} (Ok (e, after_frame 0 e x)) (Ok (f, after_frame 0 f y)) =
    sym (first_frame-reads 0 e x is_e) ∙ ap (λ (xs : List ℕ). frame_at (unread_of xs)) h ∙ first_frame-reads 0 f y is_f in
    let pair = ok_injective {A = Entry × Unread} {E = EntryFault} _ _ both in
    (ap (λ (p : Entry × Unread). p.0) pair, ap (λ (p : Entry × Unread). p.1.bytes) pair)
