-- What a message is encoded as reads back, and what reads is encoded so.
use Rattle.std.proofs.Common.{◌≡◌, ℕ, ◌+◌, ◌^◌, ◌≤◌, ◌==◌, nat_le, nat_lt, Bool, true, false, cond, ◌&&◌, List, [], ◌∷◌, ◌++◌, length, Result, Ok, Err, refl, sym, ap, ap₂, ◌∙◌, subst, append-nil, length-append, arith}
use Rattle.std.specs.List.{list_all}
use Rattle.std.proofs.lemmas.Bool.{and_parts, and_from}
use Rattle.std.proofs.lemmas.Bool.Decides.{nat_tests}
use Rattle.gl_base.specs.Cut.{Unread, bytes_at, number_at}
use Rattle.gl_base.specs.Code.{field, flag_byte, flag_in, flag_at, ended, unread_of}
use Rattle.gl_base.specs.LittleEndian.{little_endian}
use Rattle.gl_base.specs.declared.tx_id.TxId.{TxId}
use Rattle.gl_base.specs.declared.fault.CodeFault.{CodeFault}
use Rattle.gl_base.specs.declared.fault.CodeFault.TheVariants as codes
use Rattle.gl_base.proofs.Steps.{bind_ok, ok_injective}
use Rattle.gl_base.proofs.ByteLists.{AreBytes}
use Rattle.gl_base.proofs.LittleEndianLaws.{length-little_endian}
use Rattle.gl_base.proofs.RowLaws.{Took, field_ok, flag-took, flag-reads}
use Rattle.gl_entry.specs.Entry as entries
use Rattle.gl_entry.specs.Entry.{body_limit, is_entry}
use Rattle.gl_base.specs.Bytes.{is_digest}
use Rattle.gl_entry.specs.declared.entry.Entry.{Entry}
use Rattle.gl_entry.proofs.Parts.{took_then, bytes-took, bytes-reads, Lies, lie_both}
use Rattle.gl_entry.proofs.ContentLaws.{ended_ok}
use Rattle.gl_entry.proofs.EntryLaws.{body_within}
use Rattle.gl_messages.specs.Frames.{frame_limit}
use Rattle.gl_messages.specs.Fields.{is_u64, id_bytes, is_id, id_at, tag_at}
use Rattle.gl_messages.specs.Message.{body_tag, body_bytes, message_bytes, frames_bytes, most_entries, has_fitting_body, are_within, are_after, body_fits, is_body, is_message}
use Rattle.gl_messages.specs.MessageReading.{part, request_vote_at, vote_reply_at, append_reply_at, count_at, before_first, entries_at, append_at, body_at, message_at, message_of}
use Rattle.gl_messages.specs.declared.message.Body.{Body}
use Rattle.gl_messages.specs.declared.message.Body.TheVariants.{RequestVote, VoteReply, Append, AppendReply, ProposeVote}
use Rattle.gl_messages.specs.declared.message.Message.{Message}
use Rattle.gl_messages.specs.declared.fault.MessageFault.{MessageFault}
use Rattle.gl_messages.proofs.Tagged.{Takes, TakesAt, one_takes, two_take, none_takes, or_tag}
use Rattle.gl_messages.proofs.FieldLaws.{number_takes, number_finds, id_takes, id_finds, tag_takes, tag_finds, length-id_bytes}
use Rattle.gl_messages.proofs.AppendLaws.{rooms_within, within_rooms, entries_take, entries_find, frames_bytes-le}

-- ---- steps

pub part_ok : {X : Type 0} (r : Result X CodeFault) (x : X) → part r ≡ Ok x → r ≡ Ok x
part_ok (Ok y) x e = let same : y ≡ x = ok_injective {E = MessageFault} y x e in ap (λ z. Ok z) same
part_ok (Err fault) x e = absurd cc

lifted : {X : Type 0} → (tag_of : X → ℕ) (bytes : X → List ℕ) (is : X → Bool) (tag : ℕ) (reading : Unread → Result (X × Unread) CodeFault) → TakesAt tag_of bytes is tag reading → TakesAt tag_of bytes is tag (λ unread. part (reading unread))
lifted tag_of bytes is tag reading takes old read all e = takes old read all (part_ok (reading old) read e)

-- ---- a byte that says no or yes

flag_by : (a b : Bool) (place byte : ℕ) (suffix : Unread) (read : Bool × Unread) → (byte == 0) ≡ a → (byte == 1) ≡ b →
    ◌≡◌ {A = Result (Bool × Unread) CodeFault} (cond a (Ok (false, suffix)) (cond b (Ok (true, suffix)) (Err (codes.Value place)))) (Ok read) →
    (content : Bool) × (◌≡◌ {A = Bool × Unread} (content, suffix) read) × (byte ≡ flag_byte content)
flag_by true b place byte suffix read p q e = (false, ok_injective {E = CodeFault} (false, suffix) read e, grind (arith, nat_tests))
flag_by false true place byte suffix read p q e = (true, ok_injective {E = CodeFault} (true, suffix) read e, grind (arith, nat_tests))
flag_by false false place byte suffix read p q e = absurd cc

abbrev flag_bytes : Bool → List ℕ
flag_bytes b = flag_byte b ∷ []

flag_takes : Takes flag_bytes (λ b. true) flag_at
unfolding flag_at
flag_takes old read all e =
    let byte = bind_ok {A = ℕ × Unread} {B = Bool × Unread} {E = CodeFault} (field (number_at 1 old)) (flag_in old.at) read e in
    let reported = flag_by (byte.0.0 == 0) (byte.0.0 == 1) old.at byte.0.0 byte.0.1 read refl refl byte.2 in
    let flag = flag-took byte.0.0 old byte.0.1 all (field_ok (number_at 1 old) byte.0 byte.1) in
    let took : Took (flag_bytes reported.0) true old byte.0.1 = record { bytes = flag.bytes ∙ ap (λ (n : ℕ). n ∷ byte.0.1.bytes) reported.2; place = flag.place; valid = refl; rest = flag.rest } in
    subst (λ (r : Bool × Unread). Took (flag_bytes r.0) true old r.1) reported.1 took

flag_finds : (b : Bool) (old new : Unread) → Lies (flag_bytes b) old new → flag_at old ≡ Ok (b, new)
flag_finds b old new there =
    ap (λ (bytes : List ℕ). flag_at (record { at = old.at; bytes = bytes })) there.bytes ∙ flag-reads old.at b new.bytes
    ∙ ap (λ (n : ℕ). Ok (b, record { at = n; bytes = new.bytes })) (sym there.place)

-- ---- what it says

abbrev BodyAt : ℕ → ℕ → (Unread → Result (Body × Unread) MessageFault) → Type 0
BodyAt view tag reading = TakesAt body_tag body_bytes (is_body view) tag reading

request_takes : (view : ℕ) → BodyAt view 1 (λ unread. part (request_vote_at unread))
unfolding request_vote_at
request_takes view = lifted body_tag body_bytes (is_body view) 1 request_vote_at
    (one_takes body_tag body_bytes (is_body view) 1 id_bytes is_id id_at RequestVote id_takes (λ y. refl) (λ y. refl) (λ y. refl))

reply_takes : (view : ℕ) → BodyAt view 2 (λ unread. part (vote_reply_at unread))
unfolding vote_reply_at
reply_takes view = lifted body_tag body_bytes (is_body view) 2 vote_reply_at
    (one_takes body_tag body_bytes (is_body view) 2 flag_bytes (λ b. true) flag_at VoteReply flag_takes (λ y. refl) (λ y. refl) (λ y. refl))

append_reply_takes : (view : ℕ) → BodyAt view 4 (λ unread. part (append_reply_at unread))
unfolding append_reply_at
append_reply_takes view = lifted body_tag body_bytes (is_body view) 4 append_reply_at
    (two_take body_tag body_bytes (is_body view) 4 flag_bytes (λ b. true) flag_at (little_endian 8) is_u64 (λ unread. field (number_at 8 unread)) AppendReply flag_takes (number_takes 8) (λ a b. refl) (λ a b. refl) (λ a b. refl))

propose_takes : (view : ℕ) → BodyAt view 5 (λ unread. Ok (ProposeVote, unread))
propose_takes view = none_takes body_tag body_bytes (is_body view) ProposeVote refl refl

-- A count of entries.
count_by : (b : Bool) (place : ℕ) (there read : ℕ × Unread) → nat_le there.0 most_entries ≡ b → ◌≡◌ {A = Result (ℕ × Unread) CodeFault} (cond b (Ok there) (Err (codes.Value place))) (Ok read) → (there ≡ read) × (nat_le read.0 most_entries ≡ true)
count_by true place there read is e =
    let same : there ≡ read = ok_injective {E = CodeFault} there read e in
    (same, subst (λ (r : ℕ × Unread). nat_le r.0 most_entries ≡ true) same is)
count_by false place there read is e = absurd cc

count_ok : (old : Unread) (read : ℕ × Unread) → count_at old ≡ Ok read → (field (number_at 2 old) ≡ Ok read) × (nat_le read.0 most_entries ≡ true)
unfolding count_at
count_ok old read e =
    let there = bind_ok {A = ℕ × Unread} {B = ℕ × Unread} {E = CodeFault} (field (number_at 2 old)) _ read e in
    let kept = count_by (nat_le there.0.0 most_entries) old.at there.0 read refl there.2 in
    (there.1 ∙ ap (λ (r : ℕ × Unread). Ok r) kept.0, kept.1)

append_takes : (view : ℕ) → BodyAt view 3 (append_at view)
unfolding append_at
append_takes view old read all e =
    let prev = bind_ok {E = MessageFault} (part (id_at old)) _ read e in
    let commit = bind_ok {E = MessageFault} (part (field (number_at 8 prev.0.1))) _ read prev.2 in
    let count = bind_ok {E = MessageFault} (part (count_at commit.0.1)) _ read commit.2 in
    let es = bind_ok {E = MessageFault} (entries_at view (before_first prev.0.0) count.0.0 count.0.1) _ read count.2 in
    let made : Body = Append prev.0.0 commit.0.0 es.0.0 in
    let gave : Body × Unread = (made, es.0.1) in
    let same : gave ≡ read = ok_injective {E = MessageFault} gave read es.2 in
    let a = id_takes old prev.0 all (part_ok (id_at old) prev.0 prev.1) in
    let b = number_takes 8 prev.0.1 commit.0 a.rest (part_ok (field (number_at 8 prev.0.1)) commit.0 commit.1) in
    let counted = count_ok commit.0.1 count.0 (part_ok (count_at commit.0.1) count.0 count.1) in
    let c = number_takes 2 commit.0.1 count.0 b.rest counted.0 in
    let d = entries_take view (before_first prev.0.0) count.0.0 count.0.1 es.0 c.rest es.1 in
    let ab = took_then (id_bytes prev.0.0) (little_endian 8 commit.0.0) (is_id prev.0.0) (is_u64 commit.0.0) old prev.0.1 commit.0.1 a b in
    let abc = took_then (id_bytes prev.0.0 ++ little_endian 8 commit.0.0) (little_endian 2 count.0.0) (is_id prev.0.0 && is_u64 commit.0.0) (nat_lt count.0.0 (256 ^ 2)) old commit.0.1 count.0.1 ab c in
    let whole = took_then (id_bytes prev.0.0 ++ little_endian 8 commit.0.0 ++ little_endian 2 count.0.0) (frames_bytes es.0.0) (is_id prev.0.0 && is_u64 commit.0.0 && nat_lt count.0.0 (256 ^ 2)) (list_all is_entry es.0.0) old count.0.1 es.0.1 abc d.took in
    let few : nat_le (length es.0.0) most_entries ≡ true = ap (λ (n : ℕ). nat_le n most_entries) d.counted ∙ counted.1 in
    let valid : is_body view made ≡ true = rw (a.valid, b.valid, few, d.took.valid, rooms_within es.0.0 (before_first prev.0.0) refl d.room, d.suffix) refl in
    let took : Took (body_bytes made) (is_body view made) old es.0.1 = record {
      bytes = whole.bytes ∙ ap (λ (n : ℕ). (id_bytes prev.0.0 ++ little_endian 8 commit.0.0 ++ little_endian 2 n ++ frames_bytes es.0.0) ++ es.0.1.bytes) (sym d.counted);
      place = whole.place ∙ ap (λ (n : ℕ). old.at + length (id_bytes prev.0.0 ++ little_endian 8 commit.0.0 ++ little_endian 2 n ++ frames_bytes es.0.0)) (sym d.counted);
      valid = valid;
      rest = whole.rest;
    } in
    subst (λ (r : Body × Unread). (body_tag r.0 ≡ 3) × Took (body_bytes r.0) (is_body view r.0) old r.1) same (refl, took)

body_takes : (view tag : ℕ) → 1 ≤ tag → tag ≤ 5 → BodyAt view tag (body_at tag view)
body_takes view tag least most =
    or_tag body_tag body_bytes (is_body view) tag 1 (λ unread. part (request_vote_at unread)) _ (request_takes view) (λ a.
    or_tag body_tag body_bytes (is_body view) tag 2 (λ unread. part (vote_reply_at unread)) _ (reply_takes view) (λ b.
    or_tag body_tag body_bytes (is_body view) tag 3 (append_at view) _ (append_takes view) (λ c.
    or_tag body_tag body_bytes (is_body view) tag 4 (λ unread. part (append_reply_at unread)) (λ unread. Ok (ProposeVote, unread)) (append_reply_takes view) (λ d.
    let last : 5 ≡ tag = grind (arith, nat_tests) in
    subst (λ (t : ℕ). BodyAt view t (λ unread. Ok (ProposeVote, unread))) last (propose_takes view)))))

-- ---- what is encoded so is read

count_finds : (n : ℕ) (old new : Unread) → nat_le n most_entries ≡ true → Lies (little_endian 2 n) old new → count_at old ≡ Ok (n, new)
unfolding count_at
count_finds n old new few there =
    let small : nat_lt n (256 ^ 2) ≡ true = grind (arith, nat_tests, few) in
    rw (number_finds 2 n old new small there, few) refl

append_finds : (view : ℕ) (prev : TxId) (commit : ℕ) (es : List Entry) (old new : Unread) → is_body view (Append prev commit es) ≡ true → Lies (body_bytes (Append prev commit es)) old new → append_at view old ≡ Ok (Append prev commit es, new)
unfolding append_at
append_finds view prev commit es old new is there =
    let d = lie_both (id_bytes prev ++ little_endian 8 commit ++ little_endian 2 (length es)) (frames_bytes es) old new there in
    let c = lie_both (id_bytes prev ++ little_endian 8 commit) (little_endian 2 (length es)) old d.mid d.first in
    let b = lie_both (id_bytes prev) (little_endian 8 commit) old c.mid c.first in
    let p5 = and_parts (is_id prev && is_u64 commit && nat_le (length es) most_entries && list_all is_entry es && are_within es) (are_after view prev.view prev.seqno es) is in
    let p4 = and_parts (is_id prev && is_u64 commit && nat_le (length es) most_entries && list_all is_entry es) (are_within es) p5.0 in
    let p3 = and_parts (is_id prev && is_u64 commit && nat_le (length es) most_entries) (list_all is_entry es) p4.0 in
    let p2 = and_parts (is_id prev && is_u64 commit) (nat_le (length es) most_entries) p3.0 in
    let p1 = and_parts (is_id prev) (is_u64 commit) p2.0 in
    let room = within_rooms es (before_first prev) refl p4.1 in
    rw (
      id_finds prev old b.mid p1.0 b.first,
      number_finds 8 commit b.mid c.mid p1.1 b.second,
      count_finds (length es) c.mid d.mid p2.1 c.second,
      entries_find view es (before_first prev) d.mid new p3.1 p5.1 room d.second,
    ) refl

body_finds : (view : ℕ) (body : Body) (old new : Unread) → is_body view body ≡ true → Lies (body_bytes body) old new → body_at (body_tag body) view old ≡ Ok (body, new)
unfolding request_vote_at vote_reply_at append_reply_at
body_finds view (RequestVote last) old new is there = rw (id_finds last old new is there) refl
body_finds view (VoteReply granted) old new is there = rw (flag_finds granted old new there) refl
body_finds view (Append prev commit es) old new is there = append_finds view prev commit es old new is there
body_finds view (AppendReply ok seqno) old new is there =
    let both = lie_both (flag_bytes ok) (little_endian 8 seqno) old new there in
    rw (flag_finds ok old both.mid both.first, number_finds 8 seqno both.mid new is both.second) refl
body_finds view ProposeVote old new is there =
    let place : old.at ≡ new.at = omega (arith, there.place) in
    let same : old ≡ new = ap₂ (λ (n : ℕ) (xs : List ℕ). record { at = n; bytes = xs }) place there.bytes in
    ap (λ (u : Unread). Ok (ProposeVote, u)) same

tag_within : (body : Body) → (1 ≤ body_tag body) × (body_tag body ≤ 5)
tag_within (RequestVote last) = (omega arith, omega arith)
tag_within (VoteReply granted) = (omega arith, omega arith)
tag_within (Append prev commit es) = (omega arith, omega arith)
tag_within (AppendReply ok seqno) = (omega arith, omega arith)
tag_within ProposeVote = (omega arith, omega arith)

-- ---- the message

abbrev head_bytes : Message → List ℕ
head_bytes m = m.from ++ m.to ++ little_endian 4 m.view

node_took : (old : Unread) (read : List ℕ × Unread) → AreBytes old.bytes → part (field (bytes_at 32 old)) ≡ Ok read → Took read.0 (is_digest read.0) old read.1
node_took old read all e = bytes-took 32 read.0 old read.1 all (field_ok (bytes_at 32 old) read (part_ok (field (bytes_at 32 old)) read e))

pub message_takes : (old : Unread) (read : Message × Unread) → AreBytes old.bytes → message_at old ≡ Ok read → Took (message_bytes read.0) (is_message read.0) old read.1
unfolding message_at
message_takes old read all e =
    let tag = bind_ok {E = MessageFault} (part (tag_at 1 5 old)) _ read e in
    let sender = bind_ok {E = MessageFault} (part (field (bytes_at 32 tag.0.1))) _ read tag.2 in
    let receiver = bind_ok {E = MessageFault} (part (field (bytes_at 32 sender.0.1))) _ read sender.2 in
    let view = bind_ok {E = MessageFault} (part (field (number_at 4 receiver.0.1))) _ read receiver.2 in
    let body = bind_ok {E = MessageFault} (body_at tag.0.0 view.0.0 view.0.1) _ read view.2 in
    let made : Message = record { from = sender.0.0; to = receiver.0.0; view = view.0.0; body = body.0.0 } in
    let gave : Message × Unread = (made, body.0.1) in
    let same : gave ≡ read = ok_injective {E = MessageFault} gave read body.2 in
    let a = tag_takes 1 5 old tag.0 all (part_ok (tag_at 1 5 old) tag.0 tag.1) in
    let b = node_took tag.0.1 sender.0 a.flag.rest sender.1 in
    let c = node_took sender.0.1 receiver.0 b.rest receiver.1 in
    let d = number_takes 4 receiver.0.1 view.0 c.rest (part_ok (field (number_at 4 receiver.0.1)) view.0 view.1) in
    let f = body_takes view.0.0 tag.0.0 a.least_is a.most_is view.0.1 body.0 d.rest body.1 in
    let bc = took_then sender.0.0 receiver.0.0 (is_digest sender.0.0) (is_digest receiver.0.0) tag.0.1 sender.0.1 receiver.0.1 b c in
    let bcd = took_then (sender.0.0 ++ receiver.0.0) (little_endian 4 view.0.0) (is_digest sender.0.0 && is_digest receiver.0.0) (nat_lt view.0.0 (256 ^ 4)) tag.0.1 receiver.0.1 view.0.1 bc d in
    let whole = took_then (head_bytes made) (body_bytes body.0.0) (is_digest sender.0.0 && is_digest receiver.0.0 && nat_lt view.0.0 (256 ^ 4)) (is_body view.0.0 body.0.0) tag.0.1 view.0.1 body.0.1 bcd f.1 in
    let took : Took (message_bytes made) (is_message made) old body.0.1 = record {
      bytes = a.flag.bytes ∙ ap (λ (xs : List ℕ). tag.0.0 ∷ xs) whole.bytes ∙ ap (λ (t : ℕ). t ∷ ((head_bytes made ++ body_bytes body.0.0) ++ body.0.1.bytes)) (sym f.0);
      place = omega (arith, a.flag.place, whole.place);
      valid = whole.valid;
      rest = whole.rest;
    } in
    subst (λ (r : Message × Unread). Took (message_bytes r.0) (is_message r.0) old r.1) same took

node_finds : (node : List ℕ) (old new : Unread) → is_digest node ≡ true → Lies node old new → bytes_at 32 old ≡ Ok (node, new)
node_finds node old new is there =
    let sized : length node ≡ 32 = grind (arith, nat_tests, is) in
    bytes-reads 32 node old new there sized

pub message_finds : (m : Message) (old new : Unread) → is_message m ≡ true → Lies (message_bytes m) old new → message_at old ≡ Ok (m, new)
unfolding message_at
message_finds m old new is there =
    let p3 = and_parts (is_digest m.from && is_digest m.to && nat_lt m.view (2 ^ 32)) (is_body m.view m.body) is in
    let p2 = and_parts (is_digest m.from && is_digest m.to) (nat_lt m.view (2 ^ 32)) p3.0 in
    let p1 = and_parts (is_digest m.from) (is_digest m.to) p2.0 in
    let tag = lie_both (body_tag m.body ∷ []) (head_bytes m ++ body_bytes m.body) old new there in
    let body = lie_both (head_bytes m) (body_bytes m.body) tag.mid new tag.second in
    let view = lie_both (m.from ++ m.to) (little_endian 4 m.view) tag.mid body.mid body.first in
    let nodes = lie_both m.from m.to tag.mid view.mid view.first in
    let within = tag_within m.body in
    rw (
      tag_finds 1 5 (body_tag m.body) old tag.mid within.0 within.1 (omega arith) tag.first,
      node_finds m.from tag.mid nodes.mid p1.0 nodes.first,
      node_finds m.to nodes.mid view.mid p1.1 nodes.second,
      number_finds 4 m.view view.mid body.mid p2.1 view.second,
      body_finds m.view m.body body.mid new p3.1 body.second,
    ) refl

-- ---- all of the bytes

pub whole_encoded : (bytes : List ℕ) (m : Message) → AreBytes bytes → message_of bytes ≡ Ok m → (is_message m ≡ true) × (bytes ≡ message_bytes m)
whole_encoded bytes m all e =
    let there = bind_ok {A = Message × Unread} {E = MessageFault} (message_at (unread_of bytes)) _ m e in
    let end = ended_ok there.0 m (part_ok (ended there.0) m there.2) in
    let took = message_takes (unread_of bytes) there.0 all there.1 in
    let parts : bytes ≡ message_bytes there.0.0 = took.bytes ∙ ap (λ (xs : List ℕ). message_bytes there.0.0 ++ xs) end.1 ∙ append-nil (message_bytes there.0.0) in
    (ap is_message (sym end.0) ∙ took.valid, parts ∙ ap message_bytes end.0)

pub whole_read : (m : Message) → is_message m ≡ true → message_of (message_bytes m) ≡ Ok m
whole_read m is =
    let old : Unread = unread_of (message_bytes m) in
    let new : Unread = record { at = length (message_bytes m); bytes = [] } in
    let there : Lies (message_bytes m) old new = record { bytes = sym (append-nil (message_bytes m)); place = omega arith } in
    let read = message_finds m old new is there in
    rw read refl

-- ---- its length

body_bytes-le : (body : Body) → body_fits body ≡ true → length (body_bytes body) ≤ 1500030
body_bytes-le (RequestVote last) is = omega (arith, length-id_bytes last)
body_bytes-le (VoteReply granted) is = omega arith
body_bytes-le (Append prev commit es) is =
    omega (
      arith,
      frames_bytes-le es is,
      length-id_bytes prev,
      length-little_endian 8 commit,
      length-little_endian 2 (length es),
      length-append (id_bytes prev ++ little_endian 8 commit ++ little_endian 2 (length es)) (frames_bytes es),
      length-append (id_bytes prev ++ little_endian 8 commit) (little_endian 2 (length es)),
      length-append (id_bytes prev) (little_endian 8 commit),
    )
body_bytes-le (AppendReply ok seqno) is = omega (arith, length-little_endian 8 seqno)
body_bytes-le ProposeVote is = omega arith

pub message_bytes-fit : (m : Message) → length m.from ≡ 32 → length m.to ≡ 32 → body_fits m.body ≡ true → length (message_bytes m) ≤ frame_limit
message_bytes-fit m sender receiver is =
    omega (
      arith,
      sender,
      receiver,
      body_bytes-le m.body is,
      length-little_endian 4 m.view,
      length-append (head_bytes m) (body_bytes m.body),
      length-append (m.from ++ m.to) (little_endian 4 m.view),
      length-append m.from m.to,
    )

-- ---- what reads can be encoded

entries_fit_of : (es : List Entry) → list_all is_entry es ≡ true → list_all has_fitting_body es ≡ true
entries_fit_of [] are = refl
entries_fit_of (e ∷ es) are =
    let parts = and_parts (is_entry e) (list_all is_entry es) are in
    let within : nat_le (length (entries.body_bytes e)) body_limit ≡ true = grind (arith, nat_tests, body_within e parts.0) in
    and_from (has_fitting_body e) (list_all has_fitting_body es) within (entries_fit_of es parts.1)

body_fits_of : (view : ℕ) (body : Body) → is_body view body ≡ true → body_fits body ≡ true
body_fits_of view (RequestVote last) is = refl
body_fits_of view (VoteReply granted) is = refl
body_fits_of view (Append prev commit es) is =
    let p5 = and_parts (is_id prev && is_u64 commit && nat_le (length es) most_entries && list_all is_entry es && are_within es) (are_after view prev.view prev.seqno es) is in
    let p4 = and_parts (is_id prev && is_u64 commit && nat_le (length es) most_entries && list_all is_entry es) (are_within es) p5.0 in
    let p3 = and_parts (is_id prev && is_u64 commit && nat_le (length es) most_entries) (list_all is_entry es) p4.0 in
    let p2 = and_parts (is_id prev && is_u64 commit) (nat_le (length es) most_entries) p3.0 in
    and_from (nat_le (length es) most_entries && list_all has_fitting_body es) (are_within es)
    (and_from (nat_le (length es) most_entries) (list_all has_fitting_body es) p2.1 (entries_fit_of es p3.1)) p4.1
body_fits_of view (AppendReply ok seqno) is = refl
body_fits_of view ProposeVote is = refl

pub message_fits : (m : Message) → is_message m ≡ true → body_fits m.body ≡ true
message_fits m is =
    let parts = and_parts (is_digest m.from && is_digest m.to && nat_lt m.view (2 ^ 32)) (is_body m.view m.body) is in
    body_fits_of m.view m.body parts.1
