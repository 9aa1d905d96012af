use Rattle.std.proofs.Common.{◌≡◌, ℕ, List, ◌∷◌, [], ◌++◌, length, refl, ap, ◌∙◌}
use Rattle.std.specs.List.{flat_map}
use Rattle.sha2.specs.Sha256.{sha256}
use Rattle.sha2.specs.Hashers.{Holds256}
use Rattle.gl_base.specs.LittleEndian.{little_endian}
use Rattle.gl_base.specs.Field.{with_u32_length}
use Rattle.gl_base.proofs.Lists.{push-append}
use Rattle.gl_vmaps.specs.declared.write.Write.{Write}
use Rattle.gl_entry.specs.Entry.{write_bytes, content_bytes, body_bytes}
use Rattle.gl_entry.proofs.NumberBytes.{to_le_bytes-u32, to_le_bytes-u64}
use Rattle.gl_entry.proofs.entry.Entry.body_digest.Goals as goal

pub returns : goal.returns
returns c =
    let e = c.args.self.now in
    let writes : List Write = c.as_slice-writes.result.now in
    let content : List ℕ = with_u32_length (content_bytes e.content) in
    let fed : List ℕ =
    (((((c.to_le_bytes.result ++ c.to_le_bytes-2.result) ++ c.kind_tag.result ∷ []) ++ content) ++ little_endian 4 (length writes)) ++ flat_map write_bytes writes) ++ e.claims in
    let all : Holds256 c.update-4.new.self fed =
    c.update-4.ensures _ (c.feed_writes.ensures _ (c.feed_len.ensures _ (c.feed_content.ensures _ (c.update-3.ensures _ (c.update-2.ensures _ (c.update.ensures [] c.new-hasher.ensures)))))) in
    let digest : c.finalize.result ≡ sha256 fed = c.finalize.ensures fed all in
    let view : c.to_le_bytes.result ≡ little_endian 4 e.view = c.to_le_bytes.ensures ∙ to_le_bytes-u32 _ in
    let seqno : c.to_le_bytes-2.result ≡ little_endian 8 e.seqno = c.to_le_bytes-2.ensures ∙ to_le_bytes-u64 _ in
    let head : List ℕ = little_endian 4 e.view ++ little_endian 8 e.seqno in
    let tagged : (head ++ c.kind_tag.result ∷ []) ++ content ≡ head ++ c.kind_tag.result ∷ content = push-append head c.kind_tag.result content in
    let whole : List ℕ → List ℕ = λ prefix. ((prefix ++ little_endian 4 (length writes)) ++ flat_map write_bytes writes) ++ e.claims in
    let parts : fed ≡ whole ((head ++ c.kind_tag.result ∷ []) ++ content) = rw (view, seqno) refl in
    let body : whole (head ++ c.kind_tag.result ∷ content) ≡ body_bytes e = rw (c.kind_tag.ensures, c.as_slice-writes.ensures.value) refl in
    digest ∙ ap sha256 (parts ∙ ap whole tagged ∙ body)
