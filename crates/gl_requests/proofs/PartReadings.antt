-- The parts of a request: what is read is encoded so, and what is encoded so is read.
use Rattle.std.proofs.Common.{◌≡◌, ℕ, ◌+◌, ◌^◌, ◌<◌, Bool, true, ◌&&◌, nat_lt, List, [], ◌∷◌, ◌++◌, length, take, Result, Ok, refl, sym, ap, subst, ◌∙◌, append_assoc, arith}
use Rattle.std.proofs.lemmas.Bool.{and_parts, and_from}
use Rattle.std.proofs.lemmas.Bool.Decides.{nat_tests}
use Rattle.gl_base.specs.LittleEndian.{little_endian, from_little_endian}
use Rattle.gl_base.specs.Bytes.{is_byte, are_sized, is_digest}
use Rattle.gl_base.specs.Field.{with_u32_length}
use Rattle.gl_base.specs.Cut.{Unread, number_at}
use Rattle.gl_base.specs.Code.{field}
use Rattle.gl_base.specs.declared.fault.CodeFault.{CodeFault}
use Rattle.gl_base.specs.declared.fault.CodeFault.TheVariants as faults
use Rattle.gl_base.proofs.ByteLists.{AreBytes, AreBytes-take}
use Rattle.gl_base.proofs.LittleEndianLaws.{from_little_endian-lt}
use Rattle.gl_base.proofs.Fields.{number_at-encoded, number_encoded, tag_read}
use Rattle.std.proofs.lemmas.List.{length-take-le}
use Rattle.gl_base.proofs.Numbers.{number_at_ok}
use Rattle.gl_base.proofs.RowLaws.{field_ok}
use Rattle.gl_base.proofs.ParsedBytes.{IsEncoded, IsRead, bytes_left}
use Rattle.gl_requests.specs.declared.genesis.ServiceState.{ServiceState}
use Rattle.gl_requests.specs.declared.genesis.ServiceState.TheVariants.{Opening, Open, WaitingForRecoveryShares}
use Rattle.gl_requests.specs.Encoding.{state_byte, counted_bytes, node_bytes, member_bytes, share_bytes, dealing_bytes, rule_bytes}
use Rattle.gl_requests.specs.Ranges.{is_signature_field, are_counted, is_node, is_member_number, is_member, is_share, is_dealing, is_rule, is_first_state}
use Rattle.gl_requests.specs.Parsing.{counted_at, state_in, state_at, signature_at, digest_at, node_at, member_number_at, member_at, share_at, dealing_at, rule_at}
use Rattle.gl_requests.proofs.Remainders.{field_after, made_after, from_after, fault_after, tag_after}
use Rattle.gl_requests.proofs.FieldReadings.{byte_at, one_byte, byte-encoded, byte-read, tagged-encoded, sized_at, themselves, sized-encoded, sized-read, digest-encoded, digest-read, signature-encoded, signature-read, member_number-encoded, member_number-read, counted-encoded, counted-read}

-- ---- the state

abbrev pub state_bytes : ServiceState → List ℕ
state_bytes state = state_byte state ∷ []

pub state-encoded : IsEncoded state_at state_bytes is_first_state
unfolding state_at
state-encoded = tagged-encoded state_in state_bytes is_first_state
    (λ place n byte. tag_after n 1 one_byte (λ unread. Ok (Opening, unread)) _ state_bytes (λ k. is_first_state)
    (made_after (one_byte 1) Opening state_bytes is_first_state refl refl)
    (λ other. tag_after n 2 one_byte (λ unread. Ok (Open, unread)) _ state_bytes (λ k. is_first_state)
    (made_after (one_byte 2) Open state_bytes is_first_state refl refl)
    (λ none. fault_after (one_byte n) (faults.Value place) state_bytes is_first_state)))

pub state-read : IsRead state_at state_bytes is_first_state
unfolding state_at
state-read at Opening rest is = record { place = at + 1; read = rw (tag_read at 1 rest) refl }
state-read at Open rest is = record { place = at + 1; read = rw (tag_read at 2 rest) refl }
state-read at WaitingForRecoveryShares rest is = absurd (cc)

-- ---- a node, a member, a share

pub node-encoded : IsEncoded node_at node_bytes is_node
unfolding node_at
node-encoded = from_after node_at node_bytes is_node
    (field_after [] (sized_at 56) themselves (are_sized 56) (sized-encoded 56) _ node_bytes is_node
    (λ key sized. field_after key signature_at with_u32_length is_signature_field signature-encoded _ node_bytes is_node
    (λ endorsement fits. made_after (key ++ with_u32_length endorsement) (record { key = key; endorsement = endorsement }) node_bytes is_node refl
    (and_from (are_sized 56 key) (is_signature_field endorsement) sized fits))))

pub node-read : IsRead node_at node_bytes is_node
unfolding node_at
node-read at n rest is =
    let both = and_parts (are_sized 56 n.key) (is_signature_field n.endorsement) is in
    let key = sized-read 56 at n.key (with_u32_length n.endorsement ++ rest) both.0 in
    let endorsement = signature-read key.place n.endorsement rest both.1 in
    let regrouped = append_assoc n.key (with_u32_length n.endorsement) rest in
    record {
      place = endorsement.place;
      read = ap (λ (ys : List ℕ). node_at (record { at = at; bytes = ys })) regrouped ∙ rw (key.read, endorsement.read) refl;
    }

pub member-encoded : IsEncoded member_at member_bytes is_member
unfolding member_at
member-encoded = from_after member_at member_bytes is_member
    (field_after [] member_number_at one_byte is_member_number member_number-encoded _ member_bytes is_member
    (λ number valid. field_after (one_byte number) (sized_at 60) themselves (are_sized 60) (sized-encoded 60) _ member_bytes is_member
    (λ key sized. made_after (number ∷ key) (record { number = number; key = key }) member_bytes is_member refl
    (and_from (is_member_number number) (are_sized 60 key) valid sized))))

pub member-read : IsRead member_at member_bytes is_member
unfolding member_at
member-read at m rest is =
    let both = and_parts (is_member_number m.number) (are_sized 60 m.key) is in
    let number = member_number-read at m.number (m.key ++ rest) both.0 in
    let key = sized-read 60 number.place m.key rest both.1 in
    record { place = key.place; read = rw (number.read, key.read) refl }

pub share-encoded : IsEncoded share_at share_bytes is_share
unfolding share_at
share-encoded = from_after share_at share_bytes is_share
    (field_after [] member_number_at one_byte is_member_number member_number-encoded _ share_bytes is_share
    (λ member valid. field_after (one_byte member) digest_at themselves is_digest digest-encoded _ share_bytes is_share
    (λ digest sized. made_after (member ∷ digest) (record { member = member; digest = digest }) share_bytes is_share refl
    (and_from (is_member_number member) (is_digest digest) valid sized))))

pub share-read : IsRead share_at share_bytes is_share
unfolding share_at
share-read at s rest is =
    let both = and_parts (is_member_number s.member) (is_digest s.digest) is in
    let member = member_number-read at s.member (s.digest ++ rest) both.0 in
    let digest = digest-read member.place s.digest rest both.1 in
    record { place = digest.place; read = rw (member.read, digest.read) refl }

-- ---- a dealing

pub dealing-encoded : IsEncoded dealing_at dealing_bytes is_dealing
unfolding dealing_at
dealing-encoded = from_after dealing_at dealing_bytes is_dealing
    (field_after [] byte_at one_byte is_byte byte-encoded _ dealing_bytes is_dealing
    (λ threshold byte. field_after (one_byte threshold) digest_at themselves is_digest digest-encoded _ dealing_bytes is_dealing
    (λ secret sized. field_after (threshold ∷ secret) (counted_at share_at) (counted_bytes share_bytes) (are_counted is_share) (counted-encoded share_at share_bytes is_share share-encoded) _ dealing_bytes is_dealing
    (λ shares valid. made_after ((threshold ∷ secret) ++ counted_bytes share_bytes shares) (record { threshold = threshold; secret_digest = secret; shares = shares }) dealing_bytes is_dealing refl
    (and_from (is_byte threshold && is_digest secret) (are_counted is_share shares) (and_from (is_byte threshold) (is_digest secret) byte sized) valid)))))

pub dealing-read : IsRead dealing_at dealing_bytes is_dealing
unfolding dealing_at
dealing-read at d rest is =
    let a = and_parts (is_byte d.threshold && is_digest d.secret_digest) (are_counted is_share d.shares) is in
    let b = and_parts (is_byte d.threshold) (is_digest d.secret_digest) a.0 in
    let shares : List ℕ = counted_bytes share_bytes d.shares in
    let threshold = byte-read at d.threshold (d.secret_digest ++ (shares ++ rest)) b.0 in
    let secret = digest-read threshold.place d.secret_digest (shares ++ rest) b.1 in
    let dealt = counted-read share_at share_bytes is_share share-read secret.place d.shares rest a.1 in
    let regrouped : dealing_bytes d ++ rest ≡ d.threshold ∷ (d.secret_digest ++ (shares ++ rest)) = append_assoc (d.threshold ∷ d.secret_digest) shares rest in
    record {
      place = dealt.place;
      read = ap (λ (ys : List ℕ). dealing_at (record { at = at; bytes = ys })) regrouped ∙ rw (threshold.read, secret.read, dealt.read) refl;
    }

-- ---- a rule

abbrev pub half_at : Unread → Result (ℕ × Unread) CodeFault
half_at unread = field (number_at 2 unread)

abbrev pub is_half : ℕ → Bool
is_half n = nat_lt n (2 ^ 16)

number_below : (size n : ℕ) (old new : Unread) → AreBytes old.bytes → number_at size old ≡ Ok (n, new) → n < 256 ^ size
number_below size n old new all e =
    let number = number_at_ok size n old new e in
    let prefix : AreBytes (take size old.bytes) = AreBytes-take size old.bytes all in
    let long : length number.bytes ≡ size = ap length number.taken.prefix ∙ length-take-le size old.bytes number.taken.enough in
    let small : from_little_endian number.bytes < 256 ^ length number.bytes = from_little_endian-lt number.bytes (subst AreBytes (sym number.taken.prefix) prefix) in
    let below : from_little_endian number.bytes < 256 ^ size = subst (λ (k : ℕ). from_little_endian number.bytes < 256 ^ k) long small in
    let value = number.value in
    rw value below

half-encoded : IsEncoded half_at (little_endian 2) is_half
half-encoded old new n all e =
    let read = field_ok (number_at 2 old) (n, new) e in
    let parts = number_encoded 2 n old new (AreBytes-take 2 old.bytes all) read in
    let small : n < 256 ^ 2 = number_below 2 n old new all read in
    let few : is_half n ≡ true = grind (arith, nat_tests) in
    record { parts = parts; left = bytes_left old.bytes (little_endian 2 n) new.bytes all parts; limits = few }

half-read : IsRead half_at (little_endian 2) is_half
half-read at n rest is =
    let small : n < 256 ^ 2 = grind (arith, nat_tests, is) in
    record { place = at + 2; read = ap field (number_at-encoded 2 at n rest small) }

pub rule-encoded : IsEncoded rule_at rule_bytes is_rule
unfolding rule_at
rule-encoded = from_after rule_at rule_bytes is_rule
    (field_after [] half_at (little_endian 2) is_half half-encoded _ rule_bytes is_rule
    (λ num few. field_after (little_endian 2 num) half_at (little_endian 2) is_half half-encoded _ rule_bytes is_rule
    (λ den small. made_after (little_endian 2 num ++ little_endian 2 den) (record { num = num; den = den }) rule_bytes is_rule refl
    (and_from (is_half num) (is_half den) few small))))

pub rule-read : IsRead rule_at rule_bytes is_rule
unfolding rule_at
rule-read at r rest is =
    let both = and_parts (is_half r.num) (is_half r.den) is in
    let num = half-read at r.num (little_endian 2 r.den ++ rest) both.0 in
    let den = half-read num.place r.den rest both.1 in
    let regrouped = append_assoc (little_endian 2 r.num) (little_endian 2 r.den) rest in
    record {
      place = den.place;
      read = ap (λ (ys : List ℕ). rule_at (record { at = at; bytes = ys })) regrouped ∙ rw (num.read, den.read) refl;
    }
