use Rattle.std.proofs.Common.{◌≡◌, ◌≤◌, List, ℕ, drop, length, take, sym, ap, subst, ◌∙◌}
use Rattle.gl_base.specs.Bytes.{mebibyte}
use Rattle.gl_store_book.proofs.MadeFiles.{part_sized, part_within}
use Rattle.gl_store_book.proofs.snapshot_file.part_from.Goals as goal

pub returns-clause-part : goal.returns-clause-part
returns-clause-part c =
    ap (λ (bytes : List ℕ). record { total = length c.args.bytes.now; bytes = bytes })
    (c.from.ensures ∙ c.in_ok-from_slice.ensures.items ∙ part_within c.args.bytes.now c.args.offset c.min.result c.min-2.result mebibyte c.min.ensures c.min-2.ensures)

pub returns-clause-sized : goal.returns-clause-sized
returns-clause-sized c =
    let is : c.from.result ≡ take mebibyte (drop c.args.offset c.args.bytes.now) =
    c.from.ensures ∙ c.in_ok-from_slice.ensures.items ∙ part_within c.args.bytes.now c.args.offset c.min.result c.min-2.result mebibyte c.min.ensures c.min-2.ensures in
    subst (λ (bytes : List ℕ). length bytes ≤ mebibyte) (sym is) (part_sized c.args.bytes.now c.args.offset mebibyte)
