-- Where the rows of a body stand among its bytes.
use Rattle.std.proofs.Common.{◌≡◌, ℕ, ◌+◌, ◌++◌, length, take, drop, sym, ap, ◌∙◌, arith}
use Rattle.std.specs.List.{flat_map}
use Rattle.std.proofs.Math.Seq.{drop-append-add, drop-append_seam}
use Rattle.std.proofs.lemmas.List.{take-append-drop}
use Rattle.std.proofs.lemmas.List.Concat.{flat_map-append}
use Rattle.gl_snapshot_body.specs.declared.body.Body.{Body}
use Rattle.gl_snapshot_body.specs.Body.{row_bytes, head_bytes, body_bytes, row_place}

pub rows_from-place : (b : Body) (index : ℕ) → drop (row_place 0 b index) (body_bytes b) ≡ flat_map row_bytes (drop index b.rows)
rows_from-place b index =
    let before = flat_map row_bytes (take index b.rows) in
    let others = flat_map row_bytes (drop index b.rows) in
    let parted : flat_map row_bytes b.rows ≡ before ++ others =
    ap (flat_map row_bytes) (sym (take-append-drop index b.rows)) ∙ flat_map-append row_bytes (take index b.rows) (drop index b.rows) in
    let place : row_place 0 b index ≡ length (head_bytes b) + length before = omega arith in
    ap (λ (n : ℕ). drop n (body_bytes b)) place
    ∙ drop-append-add (head_bytes b) (flat_map row_bytes b.rows) (length before)
    ∙ ap (drop (length before)) parted ∙ drop-append_seam before others
