use Rattle.std.proofs.Common.{◌≡◌, ℕ, List, [], ◌++◌, length, refl, sym, ap, ◌∙◌, append_assoc}
use Rattle.std.specs.List.{flat_map}
use Rattle.sha2.specs.Sha256.{sha256}
use Rattle.sha2.specs.Hashers.{Holds256}
use Rattle.gl_base.specs.LittleEndian.{little_endian}
use Rattle.gl_snapshot_body.specs.Body.{start_bytes, counted_bytes, row_bytes, body_bytes}
use Rattle.gl_snapshot.proofs.digest.body_digest.Goals as goal

pub returns : goal.returns
returns c =
    let b = c.args.body.now in
    let numbers : List ℕ = little_endian 8 b.base ++ little_endian 4 b.view ++ little_endian 8 b.commit in
    let before : List ℕ =
    (numbers ++ counted_bytes start_bytes c.as_slice.result.now) ++ counted_bytes (λ peak. peak) c.as_slice-2.result.now in
    let fed : List ℕ = before ++ counted_bytes row_bytes c.as_slice-3.result.now in
    let all : Holds256 c.feed_rows.new.hasher fed =
    c.feed_rows.ensures _ (c.feed_peaks.ensures _ (c.feed_views.ensures _ (c.feed_numbers.ensures [] c.new-hasher.ensures))) in
    let rows = c.as_slice-3.result.now in
    let parted : fed ≡ before ++ little_endian 4 (length rows) ++ flat_map row_bytes rows =
    sym (append_assoc before (little_endian 4 (length rows)) (flat_map row_bytes rows)) in
    let whole : before ++ little_endian 4 (length rows) ++ flat_map row_bytes rows ≡ body_bytes b =
    rw (c.as_slice.ensures, c.as_slice-2.ensures, c.as_slice-3.ensures.value) refl in
    c.finalize.ensures fed all ∙ ap sha256 (parted ∙ whole)
