use Rattle.std.proofs.Common.{◌≡◌, List, ◌++◌, ap, sym, ◌∙◌, subst, reverse}
use Rattle.std.specs.FinMap.{empty}
use Rattle.gl_vmaps.specs.Chains.{Maps, maps_by, found_in}
use Rattle.gl_vmaps.specs.Journal.{IsTidy, IsJournal, IsSettled, pushed_maps}
use Rattle.gl_vmaps.specs.Rows.{row_writes}
use Rattle.gl_vmaps.specs.Standing.{latest_from, versions_in}
use Rattle.gl_vmaps.specs.Versions.{placed_at}
use Rattle.gl_vmaps.specs.declared.journal.Written.{Written}
use Rattle.gl_vmaps.proofs.BaseLaws.{settled-once}
use Rattle.gl_vmaps.proofs.JournalLaws.{tidy-empty, found_in-empty, found_in-pushed, pushed_maps-tidy}
use Rattle.gl_vmaps.proofs.StandingLaws.{rising_placed_at}
use Rattle.gl_vmaps.proofs.tables.Tables.at_base.Goals as goal

pub returns-clause-rows : goal.returns-clause-rows
returns-clause-rows c = λ name key.
    ap (λ (m : Maps). found_in m name key) (c.in_ok-maps_of_rows.ensures.maps ∙ ap (λ rs. pushed_maps empty 0 (row_writes rs)) c.into_vec.ensures.value)
    ∙ found_in-pushed empty 0 (row_writes c.args.rows) name key
    ∙ ap (λ vs. vs ++ versions_in (placed_at 0 (row_writes c.args.rows)) name key) (found_in-empty name key)

pub invariant_of-result : goal.invariant_of-result
invariant_of-result c =
    let ws = row_writes c.args.rows in
    let maps : maps_by c.in_ok-maps_of_rows.field-0.entries ≡ pushed_maps empty 0 ws =
    c.in_ok-maps_of_rows.ensures.maps ∙ ap (λ rs. pushed_maps empty 0 (row_writes rs)) c.into_vec.ensures.value in
    record {
      tidy = subst IsTidy (sym maps) (pushed_maps-tidy empty 0 ws tidy-empty);
      named = c.in_ok-maps_of_rows.ensures.named;
      undone = subst (λ (js : List Written). IsJournal c.args.base (maps_by c.in_ok-maps_of_rows.field-0.entries) (reverse js)) (sym c.new.ensures.items)
          (λ name key. subst (IsSettled c.args.base) (sym (returns-clause-rows c name key)) (settled-once c.args.base ws c.into_vec.ensures.ascending name key));
    }

pub returns-clause-stands : goal.returns-clause-stands
returns-clause-stands c = record {
  rising = rising_placed_at 0 (row_writes c.args.rows);
  rows = λ name key. ap (latest_from c.args.base) (returns-clause-rows c name key);
}
