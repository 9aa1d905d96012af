use Rattle.std.proofs.Common.{◌≡◌, List, ℕ, ◌++◌, subst, ◌∙◌}
use Rattle.sha2.specs.Hashers.{Holds256}
use Rattle.gl_base.specs.LittleEndian.{little_endian}
use Rattle.gl_base.specs.Field.{with_u32_length}
use Rattle.gl_entry.specs.Entry.{signature_bytes}
use Rattle.gl_entry.proofs.Sizes.{signature_fields}
use Rattle.gl_entry.proofs.NumberBytes.{to_le_bytes-u64}
use Rattle.gl_entry.proofs.body_digest.feed_signature.Goals as goal

pub returns : goal.returns
returns c = λ message held.
    let s = c.args.signature.now in
    let fed : List ℕ =
    (((message ++ little_endian 4 c.signature_size.result) ++ s.node) ++ c.to_le_bytes.result) ++ s.root ++ with_u32_length c.as_slice.result.now in
    let all : Holds256 c.feed_sized.new.hasher fed =
    c.feed_sized.ensures _ (c.update-3.ensures _ (c.update-2.ensures _ (c.update.ensures _ (c.feed_len.ensures message held)))) in
    let commit : c.to_le_bytes.result ≡ little_endian 8 s.commit = c.to_le_bytes.ensures ∙ to_le_bytes-u64 _ in
    let same : fed ≡ message ++ with_u32_length (signature_bytes s) =
    rw (commit, c.as_slice.ensures) (signature_fields message c.signature_size.result s c.signature_size.ensures) in
    subst (λ (xs : List ℕ). Holds256 c.feed_sized.new.hasher xs) same all
