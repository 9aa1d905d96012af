-- Rows that are counted, or fed to a hasher: none, and more after more.
use Rattle.std.proofs.Common.{◌≡◌, ℕ, List, [], ◌++◌, length, length-append, sym, ap, subst, ◌∙◌, append-nil, append_assoc, arith}
use Rattle.std.proofs.lemmas.List.Concat.{flat_map-append}
use Rattle.std.specs.List.{flat_map}
use Rattle.sha2.specs.Hashers.{Holds256}
use Rattle.sha2.specs.declared.Sha256.{Sha256}
use Rattle.gl_vmaps.specs.declared.row.Row.{Row}
use Rattle.gl_snapshot_body.specs.Body.{row_bytes}
use Rattle.gl_snapshot_body.specs.Digest.{Counted, Feeds}

pub counted_nothing : (counts : ℕ × ℕ) → Counted counts [] counts
counted_nothing counts = (omega arith, omega arith)

pub counted_further : (old mid new : ℕ × ℕ) (rows more : List Row) → Counted old rows mid →
    Counted mid more new → Counted old (rows ++ more) new
counted_further old mid new rows more first then =
    let front = flat_map row_bytes rows in
    let back = flat_map row_bytes more in
    let both : length (flat_map row_bytes (rows ++ more)) ≡ length (front ++ back) =
    ap length (flat_map-append row_bytes rows more) in (
      omega (arith, first.0, then.0, length-append rows more),
      omega (arith, first.1, then.1, both, length-append front back),
    )

pub fed_nothing : (hasher : Sha256) → Feeds hasher hasher (flat_map row_bytes [])
fed_nothing hasher = λ message holds. subst (Holds256 hasher) (sym (append-nil message)) holds

pub fed_further : (old mid new : Sha256) (rows more : List Row) →
    Feeds old mid (flat_map row_bytes rows) → Feeds mid new (flat_map row_bytes more) →
    Feeds old new (flat_map row_bytes (rows ++ more))
fed_further old mid new rows more first then = λ message holds.
    subst (Holds256 new)
    (append_assoc message (flat_map row_bytes rows) (flat_map row_bytes more)
    ∙ ap (λ us. message ++ us) (sym (flat_map-append row_bytes rows more)))
    (then (message ++ flat_map row_bytes rows) (first message holds))
