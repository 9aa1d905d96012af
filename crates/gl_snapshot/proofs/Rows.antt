-- The index that is told of rows of governance that don't spell is that of a row, or their number.
use Rattle.std.proofs.Common.{◌≡◌, ℕ, suc, ◌+◌, ◌≤◌, Bool, true, false, List, [], ◌∷◌, length, Option, None, Some, Result, Ok, Err, is_some, ◌&&◌, ◌==◌, cond, if◌then◌else◌, subst, arith}
use Rattle.gl_vmaps.specs.Name.{is_governance}
use Rattle.gl_vmaps.specs.declared.row.Row.{Row}
use Rattle.gl_gov_rules.specs.declared.row.GovernedRows.{GovernedRows}
use Rattle.gl_gov_rules.specs.declared.row.NodeRow.{NodeRow}
use Rattle.gl_gov_rules.specs.GovernedRows.{ended_rows, or_index, rows_from, governed_rows, no_rows, numbered_from, with_row}

-- It is this index at least, and that of the rows' end at most.
abbrev Within : ℕ → List Row → Result GovernedRows ℕ → Type 0
Within index rs (Ok g) = Unit {0}
Within index rs (Err at) = at ≤ index + length rs

picked : (b : Bool) (index : ℕ) (g : GovernedRows) → Within index [] (if b then Ok g else Err index)
picked true index g = tt
picked false index g = omega arith

at_end : (index : ℕ) (g : GovernedRows) (ns : Option (List NodeRow)) → Within index [] (ended_rows index g ns)
at_end index g None = omega arith
at_end index g (Some ns) = picked (is_some g.service && is_some g.dealing && (length g.rules == 7)) index (record g { nodes = ns })

-- One row further.
later : (index : ℕ) (r : Row) (rs : List Row) (read : Result GovernedRows ℕ) → Within (suc index) rs read → Within index (r ∷ rs) read
later index r rs (Ok g) h = tt
later index r rs (Err at) h = omega (arith, h)

spelled : (index : ℕ) (r : Row) (rs : List Row) (g : Option GovernedRows) (next : GovernedRows → Result GovernedRows ℕ)
    → ((h : GovernedRows) → Within (suc index) rs (next h)) → Within index (r ∷ rs) (or_index index g next)
spelled index r rs None next all = omega arith
spelled index r rs (Some g) next all = later index r rs (next g) (all g)

either : (b : Bool) (index : ℕ) (rs : List Row) (x y : Result GovernedRows ℕ) → Within index rs x → Within index rs y → Within index rs (if b then x else y)
either true index rs x y h k = h
either false index rs x y h k = k

pub rows_within : (index : ℕ) (g : GovernedRows) (rs : List Row) → Within index rs (rows_from index g rs)
unfolding rows_from
rows_within index g [] = at_end index g (numbered_from (length g.nodes) 1 g.nodes)
rows_within index g (r ∷ rs) =
    either (is_governance r.map) index (r ∷ rs) (or_index index (with_row g r) (λ next. rows_from (suc index) next rs)) (rows_from (suc index) g rs)
    (spelled index r rs (with_row g r) (λ next. rows_from (suc index) next rs) (λ next. rows_within (suc index) next rs))
    (later index r rs (rows_from (suc index) g rs) (rows_within (suc index) g rs))

pub index_within : (seqno : ℕ) (rows : List Row) (index : ℕ) → governed_rows seqno rows ≡ Err index → index ≤ length rows
unfolding governed_rows
index_within seqno rows index e =
    let there : Within 0 rows (Err index) = subst (Within 0 rows) e (rows_within 0 (no_rows seqno) rows) in
    omega (arith, there)
