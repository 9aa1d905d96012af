use Rattle.std.proofs.Common.{◌≡◌, ◌≤◌, [], refl, ap, sym, ◌∙◌, subst}
use Rattle.gl_vmaps.specs.Chains.{maps_by, rows_in, newest_place}
use Rattle.gl_vmaps.specs.Journal.{AreNamed, pushed, pushed_maps}
use Rattle.gl_vmaps.specs.Rows.{row_write, row_writes}
use Rattle.gl_vmaps.proofs.BaseLaws.{row-pushed, rows-step, newest-step, rows-end, newest-nothing}
use Rattle.gl_vmaps.proofs.InOrder.{named-empty, named-pushed}
use Rattle.gl_vmaps.proofs.journal.maps_of_rows.Goals as goal

pub loop-row-init : goal.loop-row-init
loop-row-init c = record {
  made = ap (λ es. pushed_maps (maps_by es) 0 (row_writes c.into_iter-row-iterator.result.rest.items)) c.new-maps.ensures.empty
      ∙ ap (λ rs. pushed_maps (maps_by []) 0 (row_writes rs)) c.into_iter-row-iterator.ensures.into_iter_gives.0;
  named = subst (λ es. AreNamed (maps_by es)) (sym c.new-maps.ensures.empty) named-empty;
  fresh = λ name. subst (λ es. newest_place (rows_in (maps_by es) name) ≤ 0) (sym c.new-maps.ensures.empty) (newest-nothing name);
}

pub push_version-requires : goal.push_version-requires
push_version-requires c = c.loop-row.invariant.fresh c.as_slice.result.now

pub loop-row-preserved : goal.loop-row-preserved
loop-row-preserved c =
    let is : maps_by c.push_version.new.maps.entries ≡ pushed (maps_by c.loop-row.maps.entries) 0 (row_write c.in-Some.row) =
    row-pushed (maps_by c.loop-row.maps.entries) (maps_by c.push_version.new.maps.entries) c.in-Some.row c.as_slice.result.now c.as_slice-in-loop-row.result.now _
    c.as_slice.ensures.value c.as_slice-in-loop-row.ensures.value refl c.in_ok-push_version.ensures.ok in
    record {
      made = rows-step _ (maps_by c.loop-row.maps.entries) (maps_by c.push_version.new.maps.entries) c.in-Some.row c.loop-row.row-iterator.rest.items c.next.new.self.rest.items
          c.loop-row.invariant.made c.in-Some.ensures.steps.0 is;
      named = subst AreNamed (sym is)
          (named-pushed (maps_by c.loop-row.maps.entries) 0 (row_write c.in-Some.row) c.as_slice.ensures.valid c.as_slice-in-loop-row.ensures.valid c.loop-row.invariant.named);
      fresh = newest-step (maps_by c.loop-row.maps.entries) (maps_by c.push_version.new.maps.entries) c.in-Some.row c.loop-row.invariant.fresh is;
    }

pub returns-clause-maps : goal.returns-clause-maps
returns-clause-maps c =
    rows-end _ (maps_by c.loop-row.maps.entries) c.loop-row.row-iterator.rest.items c.loop-row.invariant.made
    (sym c.loop-row.row-iterator.rest.ok.0 ∙ c.in-None.ensures.steps.0)

pub returns-clause-named : goal.returns-clause-named
returns-clause-named c = c.loop-row.invariant.named
