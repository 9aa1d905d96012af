use Rattle.gl_entry.proofs.Sizes.{signature_fields}
use Rattle.gl_entry.proofs.contents.put_signature.Goals as goal

pub returns : goal.returns
returns c =
    let fields = signature_fields c.args.out.now.items c.signature_len.result c.args.signature.now c.signature_len.ensures in
    let a = c.in_ok-put_u32.ensures.put in
    let b = c.in_ok-put_bytes.ensures.put in
    let d = c.in_ok-put_u64.ensures.put in
    let e = c.in_ok-put_bytes-2.ensures.put in
    let f = c.in_ok-put_field.ensures.put in
    let g = c.as_slice.ensures in
    cc
