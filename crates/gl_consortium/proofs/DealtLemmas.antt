-- The dealing that is reported is one: its fields are in their ranges.
use Rattle.std.proofs.Common.{◌≡◌, ℕ, ◌&&◌, ◌==◌, true, List, [], ◌∷◌, length, map, nat_le, nat_lt, All, Ok, refl, ap, subst, ◌∙◌, arith}
use Rattle.std.specs.List.{list_all}
use Rattle.std.proofs.lemmas.Bool.{and_from}
use Rattle.std.proofs.lemmas.Bool.Decides.{nat_tests}
use Rattle.std.proofs.lemmas.List.{length-map}
use Rattle.std.proofs.lemmas.List.Elements.{All-head, All-tail}
use Rattle.sha2.specs.Sha256.{sha256}
use Rattle.sha2.proofs.Facts256.{length-sha256}
use Rattle.gl_base.specs.Bytes.{are_bytes, is_byte, is_digest}
use Rattle.gl_hss.proofs.Octets.{sha256_bytes}
use Rattle.gl_forms.specs.Actions.{action_in}
use Rattle.gl_forms.specs.Text.{from_text}
use Rattle.gl_requests.specs.Ranges.{are_counted, is_dealing, is_member_number, is_share}
use Rattle.gl_requests.specs.declared.action.Action.TheVariants.{SetRecoveryThreshold}
use Rattle.gl_requests.specs.declared.genesis.Dealing.{Dealing}
use Rattle.gl_shares.specs.Dealing.{polynomials_of, share_of}
use Rattle.gl_consortium.specs.Dealt.{action_text, dealing_of, dealt, digest_of}
use Rattle.gl_consortium.specs.Members.{can_deal}
use Rattle.gl_consortium.proofs.MemberLemmas.{IsMember, deals, members_are}

sha256_digest : (m : List ℕ) → is_digest (sha256 m) ≡ true
sha256_digest m =
    let long = length-sha256 m in
    let size : (length (sha256 m) == 32) ≡ true = grind (arith, nat_tests) in
    and_from (length (sha256 m) == 32) (are_bytes (sha256 m)) size (sha256_bytes m)

shares_fit : (polynomials : List (List ℕ)) (members : List ℕ) → All IsMember members → list_all is_share (map digest_of (map (share_of polynomials) members)) ≡ true
shares_fit polynomials [] all = refl
shares_fit polynomials (member ∷ members) all =
    let is = All-head IsMember member members all in
    let least : nat_le 1 member ≡ true = grind (arith, nat_tests, is.least) in
    let byte : is_byte member ≡ true = grind (arith, nat_tests, is.byte) in
    let digest = digest_of (share_of polynomials member) in
    and_from (is_share digest) (list_all is_share (map digest_of (map (share_of polynomials) members)))
    (and_from (is_member_number member) (is_digest digest.digest) (and_from (nat_le 1 member) (is_byte member) least byte) (sha256_digest (share_of polynomials member).value))
    (shares_fit polynomials members (All-tail IsMember member members all))

pub dealing_fits : (threshold : ℕ) (members secret seed : List ℕ) → can_deal threshold members ≡ true → is_dealing (dealing_of threshold secret (dealt threshold members secret seed)) ≡ true
dealing_fits threshold members secret seed h =
    let can = deals threshold members h in
    let polynomials = polynomials_of secret threshold seed in
    let digests = map digest_of (map (share_of polynomials) members) in
    let long : length digests ≡ length members = length-map (map (share_of polynomials) members) digest_of ∙ length-map members (share_of polynomials) in
    let byte : is_byte threshold ≡ true = grind (arith, nat_tests, can.byte) in
    let count : nat_lt (length digests) 256 ≡ true = grind (arith, nat_tests, can.count, long) in
    and_from (is_byte threshold && is_digest (sha256 secret)) (are_counted is_share digests)
    (and_from (is_byte threshold) (is_digest (sha256 secret)) byte (sha256_digest secret))
    (and_from (nat_lt (length digests) 256) (list_all is_share digests) count (shares_fit polynomials members (members_are threshold members h)))

-- what is written of a dealing is read as its action
pub read_as : (dealing whole : Dealing) (text : List ℕ) → dealing ≡ whole → is_dealing whole ≡ true → text ≡ action_text dealing
    → (is_dealing dealing ≡ true → from_text (action_in []) text ≡ Ok (SetRecoveryThreshold dealing))
    → from_text (action_in []) (action_text whole) ≡ Ok (SetRecoveryThreshold whole)
read_as dealing whole text is fits same reads =
    subst (λ (d : Dealing). from_text (action_in []) (action_text d) ≡ Ok (SetRecoveryThreshold d)) is
    (subst (λ (t : List ℕ). from_text (action_in []) t ≡ Ok (SetRecoveryThreshold dealing)) same (reads (ap is_dealing is ∙ fits)))
