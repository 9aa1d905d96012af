use Rattle.std.proofs.Common.{◌≡◌, List, ℕ, ◌++◌, ◌∙◌, append_assoc}
use Rattle.gl_base.specs.LittleEndian.{little_endian}
use Rattle.gl_entry.proofs.NumberBytes.{to_le_bytes-u32, to_le_bytes-u64}
use Rattle.gl_entry.proofs.message.signed_message.Goals as goal

four_parts : (xs ys zs ws : List ℕ) → xs ++ (ys ++ (zs ++ ws)) ≡ ((xs ++ ys) ++ zs) ++ ws
four_parts xs ys zs ws = simp append_assoc

pub returns : goal.returns
returns c =
    let root : c.copy_from_slice.new.self ≡ c.args.root.now = c.copy_from_slice.ensures.after in
    let view : c.copy_from_slice-2.new.self ≡ little_endian 4 c.args.view = c.copy_from_slice-2.ensures.after ∙ c.to_le_bytes.ensures ∙ to_le_bytes-u32 _ in
    let seqno : c.copy_from_slice-3.new.self ≡ little_endian 8 c.args.seqno = c.copy_from_slice-3.ensures.after ∙ c.to_le_bytes-2.ensures ∙ to_le_bytes-u64 _ in
    let commit : c.copy_from_slice-4.new.self ≡ little_endian 8 c.args.commit = c.copy_from_slice-4.ensures.after ∙ c.to_le_bytes-3.ensures ∙ to_le_bytes-u64 _ in
    rw (root, view, seqno, commit) (four_parts c.args.root.now (little_endian 4 c.args.view) (little_endian 8 c.args.seqno) (little_endian 8 c.args.commit))
