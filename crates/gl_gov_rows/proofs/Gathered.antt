-- Rows of governance gathered one by one, as a loop does it.
use Rattle.std.proofs.Common.{◌≡◌, ℕ, suc, ◌+◌, ◌≤◌, Bool, true, false, cond, List, [], ◌∷◌, drop, length, Option, Some, None, Result, Ok, refl, sym, ap, subst, ◌∙◌, arith}
use Rattle.std.specs.Option.{ok_or}
use Rattle.std.proofs.lemmas.List.{drop_all}
use Rattle.gl_base.specs.Answers.{Fails}
use Rattle.gl_base.specs.declared.or_no_memory.OrNoMemory.{OrNoMemory}
use Rattle.gl_base.specs.declared.or_no_memory.OrNoMemory.TheVariants.{NoMemory, Fault}
use Rattle.gl_vmaps.specs.Name.{is_governance}
use Rattle.gl_vmaps.specs.declared.row.Row.{Row}
use Rattle.gl_gov_rules.specs.declared.row.GovernedRows.{GovernedRows}
use Rattle.gl_gov_rules.specs.GovernedRows.{with_row, numbered_from, ended_rows, or_index, rows_from}
use Rattle.gl_gov_rows.specs.Reading.{with_governed}

if_governed : (is : Bool) (index : ℕ) (added : Option GovernedRows) (g : GovernedRows) (next : GovernedRows → Result GovernedRows ℕ) → cond is (or_index index added next) (next g) ≡ or_index index (cond is added (Some g)) next
if_governed true index added g next = refl
if_governed false index added g next = refl

one_row : (index : ℕ) (g : GovernedRows) (r : Row) (rest : List Row) → rows_from index g (r ∷ rest) ≡ or_index index (with_governed g r) (λ next. rows_from (suc index) next rest)
unfolding rows_from
one_row index g r rest = if_governed (is_governance r.map) index (with_row g r) g (λ next. rows_from (suc index) next rest)

fails : (e : OrNoMemory ℕ) (index : ℕ) (added : Option GovernedRows) (next : GovernedRows → Result GovernedRows ℕ) → Fails e (ok_or added index) → Fails e (or_index index added next)
fails NoMemory index added next failed = tt
fails (Fault fault) index None next failed = failed
fails (Fault fault) index (Some g) next failed = cc

pub ends : (e : OrNoMemory ℕ) (index : ℕ) (g : GovernedRows) (r : Row) (all : List Row) (total : Result GovernedRows ℕ) → drop index all ≡ r ∷ drop (index + 1) all → Fails e (ok_or (with_governed g r) index)
    → rows_from index g (drop index all) ≡ total → Fails e total
ends e index g r all total next failed so_far =
    subst (Fails e) (sym (ap (rows_from index g) next ∙ one_row index g r (drop (index + 1) all)) ∙ so_far)
    (fails e index (with_governed g r) (λ next. rows_from (suc index) next (drop (index + 1) all)) failed)

passes : (index : ℕ) (added : Option GovernedRows) (new : GovernedRows) (next : GovernedRows → Result GovernedRows ℕ) → ok_or added index ≡ Ok new → or_index index added next ≡ next new
passes index None new next e = cc
passes index (Some g) new next e = let same : g ≡ new = cc in ap next same

pub goes_on : (index : ℕ) (g new : GovernedRows) (r : Row) (all : List Row) (total : Result GovernedRows ℕ) → drop index all ≡ r ∷ drop (index + 1) all → ok_or (with_governed g r) index ≡ Ok new
    → rows_from index g (drop index all) ≡ total → rows_from (index + 1) new (drop (index + 1) all) ≡ total
goes_on index g new r all total next added so_far =
    let more : suc index ≡ index + 1 = omega arith in
    let turn : rows_from index g (drop index all) ≡ rows_from (suc index) new (drop (index + 1) all) =
    ap (rows_from index g) next ∙ one_row index g r (drop (index + 1) all)
    ∙ passes index (with_governed g r) new (λ next. rows_from (suc index) next (drop (index + 1) all)) added in
    ap (λ i. rows_from i new (drop (index + 1) all)) (sym more) ∙ sym turn ∙ so_far

all_read : (index : ℕ) (g : GovernedRows) → rows_from index g [] ≡ ended_rows index g (numbered_from (length g.nodes) 1 g.nodes)
unfolding rows_from
all_read index g = refl

pub is_done : (index : ℕ) (g : GovernedRows) (all : List Row) (total : Result GovernedRows ℕ) → length all ≤ index → rows_from index g (drop index all) ≡ total → ended_rows index g (numbered_from (length g.nodes) 1 g.nodes) ≡ total
is_done index g all total over so_far =
    let none : drop index all ≡ [] = drop_all index all over in
    sym (all_read index g) ∙ sym (ap (rows_from index g) none) ∙ so_far
