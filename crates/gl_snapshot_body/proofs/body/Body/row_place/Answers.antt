use Rattle.std.proofs.Common.{◌≡◌, ◌∙◌, List, length, take, ap, arith}
use Rattle.std.specs.List.{flat_map}
use Rattle.gl_vmaps.specs.declared.row.Row.{Row}
use Rattle.gl_snapshot_body.specs.Body.{row_bytes, head_bytes}
use Rattle.gl_snapshot_body.specs.declared.body.Body.{Body}
use Rattle.gl_snapshot_body.proofs.Sizes.{row_place-within}
use Rattle.gl_snapshot_body.proofs.body.Body.row_place.Goals as goal

pub overflow_add-result-2 : goal.overflow_add-result-2
overflow_add-result-2 c =
    let within = row_place-within c.args.at c.args.self.now c.args.index in
    let rows : c.rows_len.result ≡ length (flat_map row_bytes (take c.args.index c.args.self.now.rows)) =
    c.rows_len.ensures.exact ∙ ap (λ (rs : List Row). length (flat_map row_bytes (take c.args.index rs))) c.as_slice.ensures.value in
    let head : c.head_len.result ≡ length (head_bytes c.args.self.now) =
    c.head_len.ensures.exact c.args.self.now.rows ∙ ap (λ (b : Body). length (head_bytes b)) c.head.ensures in
    omega (arith, within, rows, head, c.requires.fits)
