-- What the tests of signatures and of endorsements mean by RFC 8554, and how long an endorsement
-- is.
use Rattle.std.proofs.Common.{◌≡◌, ◌↔◌, ℕ, zero, suc, ◌+◌, ◌<◌, ◌≤◌, List, [], ◌∷◌, length, get_or, Result, Ok, Err, Bool, true, false, refl, ap, ap₂, arith}
use Rattle.std.specs.Prelude.{is_ok, ◌==◌, ◌&&◌}
use Rattle.std.proofs.lemmas.Bool.{and_parts}
use Rattle.std.proofs.lemmas.Bool.Decides.{nat_tests}
use Rattle.gl_base.specs.Bytes.{is_byte, are_bytes}
use Rattle.gl_hss.specs.declared.types.Types.{Types}
use Rattle.gl_hss.specs.declared.types.Types.TheVariants.{H5W4, H5W8, H10W4, H10W8}
use Rattle.gl_hss.specs.Bytes.{number_at}
use Rattle.gl_hss.specs.Types.{signature_len}
use Rattle.gl_hss.specs.Tree.{Signature, PublicKey}
use Rattle.gl_hss.specs.declared.fault.HssFault.{HssFault}
use Rattle.gl_hss.specs.declared.fault.HssFault.TheVariants as fault
use Rattle.gl_hss.specs.Hss.{IsValid, IsEndorsed}
use Rattle.gl_hss.specs.Order.{◌>>◌, check, ends, has_root, top_key, signature_at, one_level, verdict, endorsement_verdict}
use Rattle.gl_hss.proofs.ParsedFields.{then_ok, bind_ok, ends_ok}
use Rattle.gl_hss.proofs.Verdicts.{verdict_ok, valid_verdict}
use Rattle.gl_hss.proofs.Endorsements.{endorsement_ok, endorsement_there}
use Rattle.gl_requests.specs.Encoding.{signed_bytes}
use Rattle.gl_requests.specs.declared.request.MemberRequest.{MemberRequest}
use Rattle.gl_gov_rules.specs.Signatures.{is_signed, is_endorsed}

-- an endorsement that is taken is no longer than the longest LMS signature

signature_len-most : (t : Types) → signature_len t ≤ 2508
signature_len-most H5W4 = omega arith
signature_len-most H5W8 = omega arith
signature_len-most H10W4 = omega arith
signature_len-most H10W8 = omega arith

one_level-length : (k : PublicKey) (key e : List ℕ) (u : Unit {0}) → one_level k key e 0 ≡ Ok u → length e ≤ 2508
unfolding one_level
one_level-length k key e u ok =
    let len = 0 + signature_len k.types in
    let read = bind_ok (signature_at k.types e 0 len) (λ (x : Signature). ends e len >> has_root k x key) u ok in
    let rest = then_ok (ends e len) (has_root k read.0 key) u read.2 in
    omega (arith, ends_ok e len rest.0.0 rest.0.1, signature_len-most k.types)

verdict-length : (identity key e : List ℕ) (r : Result (Unit {0}) HssFault) → endorsement_verdict identity key e ≡ r → is_ok r ≡ true → length e ≤ 2508
unfolding endorsement_verdict
verdict-length identity key e (Err f) is ok = absurd cc
verdict-length identity key e (Ok u) is ok =
    let test = check (number_at identity 0 == 2) (fault.Levels 2 (number_at identity 0)) in
    let prefix = bind_ok (test >> top_key identity) (λ (k : PublicKey). one_level k key e 0) u is in
    one_level-length prefix.0 key e u prefix.2

pub endorsed-length : (identity key e : List ℕ) → is_endorsed identity key e ≡ true → length e ≤ 2508
unfolding is_endorsed
endorsed-length identity key e ok = verdict-length identity key e (endorsement_verdict identity key e) refl ok

-- what the tests mean

octets : (xs : List ℕ) → are_bytes xs ≡ true → (i : ℕ) → get_or xs i 0 < 256
octets [] h zero = omega arith
octets [] h (suc i) = omega arith
octets (x ∷ xs) h zero = let parts = and_parts (is_byte x) (are_bytes xs) h in grind (arith, nat_tests, parts.0)
octets (x ∷ xs) h (suc i) = octets xs (and_parts (is_byte x) (are_bytes xs) h).1 i

endorsed_so : (identity key e : List ℕ) (r : Result (Unit {0}) HssFault) → length identity ≡ 60 → are_bytes identity ≡ true → are_bytes e ≡ true →
    endorsement_verdict identity key e ≡ r → is_ok r ≡ true → IsEndorsed identity key e
endorsed_so identity key e (Err f) long bytes given is ok = absurd cc
endorsed_so identity key e (Ok u) long bytes given is ok = endorsement_ok identity key e (octets identity bytes) long (octets e given) is

pub endorsement_means : (identity key e : List ℕ) → length identity ≡ 60 → are_bytes identity ≡ true → are_bytes e ≡ true →
    is_endorsed identity key e ≡ true ↔ IsEndorsed identity key e
unfolding is_endorsed
endorsement_means identity key e long bytes given =
    (endorsed_so identity key e (endorsement_verdict identity key e) long bytes given refl, λ h. ap is_ok (endorsement_there identity key e h))

valid_so : (key message s : List ℕ) (r : Result (Unit {0}) HssFault) → length key ≡ 60 → are_bytes key ≡ true → are_bytes s ≡ true →
    verdict key message s ≡ r → is_ok r ≡ true → IsValid key message s
valid_so key message s (Err f) long bytes given is ok = absurd cc
valid_so key message s (Ok u) long bytes given is ok = verdict_ok key message s (octets key bytes) long (octets s given) is

signed_so : (key identity : List ℕ) (m : MemberRequest) → length key ≡ 60 → are_bytes key ≡ true → are_bytes m.signature ≡ true →
    is_signed key identity m ≡ true → (number_at key 0 ≡ 1) × IsValid key (signed_bytes identity m) m.signature
unfolding is_signed
signed_so key identity m long bytes given ok =
    let message = signed_bytes identity m in
    let parts = and_parts (number_at key 0 == 1) (is_ok (verdict key message m.signature)) ok in
    let one : number_at key 0 ≡ 1 = grind (arith, nat_tests, parts.0) in
    (one, valid_so key message m.signature (verdict key message m.signature) long bytes given refl parts.1)

so_signed : (key identity : List ℕ) (m : MemberRequest) → number_at key 0 ≡ 1 → IsValid key (signed_bytes identity m) m.signature → is_signed key identity m ≡ true
unfolding is_signed
so_signed key identity m one valid =
    let message = signed_bytes identity m in
    let named : (number_at key 0 == 1) ≡ true = grind (arith, nat_tests, one) in
    ap₂ (λ (a b : Bool). a && b) named (ap is_ok (valid_verdict key message m.signature valid))

pub signature_means : (key identity : List ℕ) (m : MemberRequest) → length key ≡ 60 → are_bytes key ≡ true → are_bytes m.signature ≡ true →
    is_signed key identity m ≡ true ↔ (number_at key 0 ≡ 1) × IsValid key (signed_bytes identity m) m.signature
signature_means key identity m long bytes given =
    (signed_so key identity m long bytes given, λ h. so_signed key identity m h.0 h.1)

-- no bytes are a key that endorses anything
pub unendorsed : (key e : List ℕ) → is_endorsed [] key e ≡ false
unfolding is_endorsed endorsement_verdict number_at
unendorsed key e = refl
