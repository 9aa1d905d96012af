-- The bytes of a member's request, made of those that it signs.
use Rattle.std.proofs.Common.{◌≡◌, ℕ, ◌+◌, ◌≤◌, ◌<◌, ◌^◌, List, [], ◌∷◌, ◌++◌, length, drop, codes, None, refl, sym, ◌∙◌, ap, ap₂, append_assoc, arith}
use Rattle.std.proofs.lemmas.List.{drop_at}
use Rattle.gl_base.specs.LittleEndian.{little_endian}
use Rattle.gl_hss.specs.Types.{signature_len}
use Rattle.gl_hss.specs.declared.types.Types.{Types}
use Rattle.gl_hss.specs.declared.types.Types.TheVariants.{H5W4, H5W8, H10W4, H10W8}
use Rattle.gl_hss.specs.Secrets.{PrivateKey}
use Rattle.gl_hss.specs.Signer.{hss_signature, signature_size}
use Rattle.gl_requests.specs.Encoding.{act_bytes, signed_bytes}
use Rattle.gl_requests.specs.declared.request.MemberAct.{MemberAct}
use Rattle.gl_consortium.specs.ExpectedOutput.{request_line, signed_request, unsigned}

-- the request's own bytes stand after the word and the key
pub after_prefix : (identity own : List ℕ) → length identity ≡ 60 → drop 67 (codes "gl-gov1" ++ identity ++ own) ≡ own
after_prefix identity own long = drop_at (codes "gl-gov1" ++ identity) own 67 (omega (arith, long))

-- a signature of one level is short
pub short_signature : (types : Types) → signature_size types None < 2 ^ 32
short_signature H5W4 = omega arith
short_signature H5W8 = omega arith
short_signature H10W4 = omega arith
short_signature H10W8 = omega arith

-- what is told of it: its own bytes, and the signature after its length
pub request_reported : (by : PrivateKey) (leaf : ℕ) (identity : List ℕ) (number : ℕ) (act : MemberAct) (message signature reported : List ℕ) → length identity ≡ 60 → message ≡ signed_bytes identity (unsigned number act) →
    signature ≡ hss_signature by None leaf message → reported ≡ (drop 67 message ++ little_endian 4 (length signature)) ++ signature → reported ≡ request_line by leaf identity number act
unfolding request_line
request_reported by leaf identity number act message signature reported long message_is signature_is reported_is =
    let signed : signature ≡ (signed_request by leaf identity number act).signature = signature_is ∙ ap (hss_signature by None leaf) message_is in
    reported_is
    ∙ ap₂ (λ (own : List ℕ) (s : List ℕ). (own ++ little_endian 4 (length s)) ++ s) (ap (drop 67) message_is ∙ after_prefix identity (act_bytes number act) long) signed
    ∙ append_assoc (act_bytes number act) (little_endian 4 (length (signed_request by leaf identity number act).signature)) (signed_request by leaf identity number act).signature
