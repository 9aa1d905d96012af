use Rattle.std.proofs.Common.{◌≡◌, ◌++◌, length, drop, None, List, ℕ, rules, ◌∙◌, ap, ap₂, arith}
use Rattle.gl_base.specs.LittleEndian.{little_endian}
use Rattle.gl_hss.specs.Signer.{hss_signature, signature_size}
use Rattle.gl_requests.specs.Encoding.{signed_bytes}
use Rattle.gl_consortium.specs.ExpectedOutput.{unsigned}
use Rattle.gl_consortium.proofs.RequestBytes.{request_reported, short_signature}
use Rattle.gl_consortium.proofs.request.request_bytes.Goals as goal

pub overflow_cast-len : goal.overflow_cast-len
overflow_cast-len c =
    let size : length c.in_ok-signature.signature.items ≡ signature_size c.args.by.types None = c.in_ok-signature.ensures.size in
    omega (arith, size, short_signature c.args.by.types)

pub returns : goal.returns
returns c =
    let long : length c.args.identity.now ≡ 60 = search rules in
    let message : c.in_ok-message.message.items ≡ signed_bytes c.args.identity.now (unsigned c.args.member c.args.act) = search rules in
    let signature : c.in_ok-signature.signature.items ≡ hss_signature c.args.by None c.args.leaf c.in_ok-message.message.items = search rules in
    let prefix : c.in_ok-reported.reported.items ≡ drop 67 c.in_ok-message.message.items = search rules in
    let len : c.len.result ≡ length c.in_ok-signature.signature.items = search rules in
    let counted : c.put_u32.new.out.items ≡ c.in_ok-reported.reported.items ++ little_endian 4 c.len.result = search rules in
    let reported : c.put_bytes.new.out.items ≡ c.put_u32.new.out.items ++ c.in_ok-signature.signature.items = search rules in
    request_reported c.args.by c.args.leaf c.args.identity.now c.args.member c.args.act c.in_ok-message.message.items c.in_ok-signature.signature.items c.put_bytes.new.out.items long message signature
    (reported ∙ ap (λ (xs : List ℕ). xs ++ c.in_ok-signature.signature.items) (counted ∙ ap₂ (λ (xs : List ℕ) (n : ℕ). xs ++ little_endian 4 n) prefix len))
