-- How many bytes the parts of a body have.
use Rattle.std.proofs.Common.{◌≡◌, ℕ, ◌+◌, ◌*◌, ◌≤◌, List, [], ◌∷◌, ◌++◌, length, take, drop, sym, ap, ◌∙◌, length-append, suc-mul, arith}
use Rattle.std.specs.List.{flat_map}
use Rattle.std.proofs.lemmas.List.{take-append-drop}
use Rattle.std.proofs.lemmas.List.Concat.{flat_map-append}
use Rattle.gl_base.specs.LittleEndian.{little_endian}
use Rattle.gl_base.proofs.LittleEndianLaws.{length-little_endian}
use Rattle.gl_snapshot_body.specs.declared.body.ViewStart.{ViewStart}
use Rattle.gl_snapshot_body.specs.declared.body.Body.{Body}
use Rattle.gl_snapshot_body.specs.Body.{start_bytes, row_bytes, head_bytes, body_bytes, row_place}

pub ruleset field_size = (length-append, length-little_endian)

length-starts : (vs : List ViewStart) → length (flat_map start_bytes vs) ≡ length vs * 12
length-starts [] = omega arith
length-starts (v ∷ vs) =
    let rest = length-starts vs in
    let both = length-append (start_bytes v) (flat_map start_bytes vs) in
    let one = length-append (little_endian 4 v.view) (little_endian 8 v.seqno) in
    omega (arith, both, one, rest, length-little_endian 4 v.view, length-little_endian 8 v.seqno, suc-mul (length vs) 12)

pub length-head_bytes : (b : Body) → length (head_bytes b) ≡ 32 + length b.views * 12 + length (flat_map (λ peak. peak) b.peaks)
length-head_bytes b = let starts = length-starts b.views in simp (length-append, length-little_endian) (omega arith)

-- A row stands within its body, or at its end.
pub row_place-within : (at : ℕ) (b : Body) (index : ℕ) → row_place at b index ≤ at + length (body_bytes b)
row_place-within at b index =
    let rows = flat_map row_bytes b.rows in
    let before = flat_map row_bytes (take index b.rows) in
    let others = flat_map row_bytes (drop index b.rows) in
    let parted : rows ≡ before ++ others =
    ap (flat_map row_bytes) (sym (take-append-drop index b.rows)) ∙ flat_map-append row_bytes (take index b.rows) (drop index b.rows) in
    omega (arith, ap length parted, length-append before others, length-append (head_bytes b) rows)

pub ruleset head_size = (length-head_bytes)
