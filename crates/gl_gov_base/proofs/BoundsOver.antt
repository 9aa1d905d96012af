-- Whatever requests follow one another behind a read base, what they come to is bounded, and its
-- rows and their changes are within the limits of tables.
use Rattle.std.proofs.Common.{◌≡◌, List, [], ◌∷◌, ◌++◌, Option, None, Some, true, refl, sym, ◌∙◌, ap, subst}
use Rattle.std.specs.List.{list_all}
use Rattle.gl_vmaps.specs.Changes.{Turns, changes_listed}
use Rattle.gl_vmaps.specs.Writes.{is_ordered, is_write}
use Rattle.gl_vmaps.proofs.Changes.{changes_turn}
use Rattle.gl_vmaps.proofs.WriteSets.{is_ordered-set_from}
use Rattle.gl_gov_rules.specs.declared.change.Recorded.{Recorded}
use Rattle.gl_gov_rules.specs.declared.row.GovernedRows.{GovernedRows}
use Rattle.gl_gov_rules.specs.History.{History}
use Rattle.gl_gov_rules.specs.Governed.{is_founding, IsBounded}
use Rattle.gl_gov_rules.specs.GovernedRows.{begin_with, history_over}
use Rattle.gl_gov_rules.specs.Rows.{rows}
use Rattle.gl_gov_rules.proofs.MembersLeft.{left_in}
use Rattle.gl_gov_rules.proofs.RowsFit.{changes_fit}
use Rattle.gl_gov_rules.proofs.RowsSet.{are_rows_rows}
use Rattle.gl_gov_base.specs.GovernedOver.{is_unfounded, FollowsOver, IsGovernedOver, IsReadBase, effect_over}
use Rattle.gl_gov_base.specs.Law.{writes_over}
use Rattle.gl_gov_base.proofs.BoundsAtBase.{begins_in_bounds, none_in_bounds}
use Rattle.gl_gov_base.proofs.BoundsKept.{IsInBounds, bounds_kept, bounded_by, rows_fit_by}
use Rattle.gl_gov_base.proofs.ReadRanges.{are_read}
use Rattle.gl_gov_base.proofs.RequestsOver.{over_more, over_none, over_pushed, over_induction}

begins : (base : Option GovernedRows) → IsReadBase base → IsInBounds (begin_with base)
begins None read = none_in_bounds
begins (Some g) read = begins_in_bounds g (are_read g.seqno read.0 g read.1.fits read.1.read)

-- a founding comes before all members
none_before : (base : Option GovernedRows) (rs : List Recorded) → is_unfounded base rs ≡ true → left_in (history_over base rs).changes ≡ 0
none_before None [] is = ap (λ (h : History). left_in h.changes) (over_none None)
none_before None (r ∷ rs) is = absurd cc
none_before (Some g) rs is = absurd cc

pub in_bounds : (base : Option GovernedRows) → IsReadBase base → (rs : List Recorded) → IsGovernedOver base rs → IsInBounds (history_over base rs)
in_bounds base read = over_induction base (λ (rs : List Recorded). IsInBounds (history_over base rs)) step (subst IsInBounds (sym (over_none base)) (begins base read))
  where
    step : (rs : List Recorded) (r : Recorded) → IsGovernedOver base rs → FollowsOver base rs r → IsInBounds (history_over base rs) → IsInBounds (history_over base (rs ++ r ∷ []))
    step rs r all follows old =
        subst IsInBounds (sym (over_more base rs r))
        (bounds_kept (history_over base rs) r old follows.fits follows.accepted (λ (founds : is_founding r.request ≡ true). none_before base rs (sym follows.founding ∙ founds)))

pub bounded_over : (base : Option GovernedRows) (rs : List Recorded) → IsReadBase base → IsGovernedOver base rs → IsBounded (history_over base rs)
bounded_over base rs read all = bounded_by (history_over base rs) (in_bounds base read rs all)

pub rows_fit_over : (base : Option GovernedRows) (rs : List Recorded) → IsReadBase base → IsGovernedOver base rs → list_all is_write (rows (history_over base rs)) ≡ true
rows_fit_over base rs read all = rows_fit_by (history_over base rs) (in_bounds base read rs all)

-- every write of a request that follows
pub effect_fits_over : (base : Option GovernedRows) (rs : List Recorded) (r : Recorded) → IsReadBase base → IsGovernedOver base rs → FollowsOver base rs r → list_all is_write (writes_over base rs r) ≡ true
effect_fits_over base rs r read all follows =
    changes_fit (rows (history_over base rs)) (rows (history_over base (rs ++ r ∷ []))) (rows_fit_over base rs read all)
    (rows_fit_over base (rs ++ r ∷ []) read (over_pushed base rs r all follows))

-- whose write set is in order, and turns the tables before it into those with it
pub effect_ordered_over : (base : Option GovernedRows) (rs : List Recorded) (r : Recorded) → is_ordered (writes_over base rs r) ≡ true
effect_ordered_over base rs r = is_ordered-set_from [] (changes_listed (rows (history_over base rs)) (rows (history_over base (rs ++ r ∷ [])))) refl

pub effect_turns_over : (base : Option GovernedRows) (rs : List Recorded) (r : Recorded) → Turns (writes_over base rs r) (effect_over base rs) (effect_over base (rs ++ r ∷ []))
effect_turns_over base rs r =
    changes_turn (rows (history_over base rs)) (rows (history_over base (rs ++ r ∷ []))) (are_rows_rows (history_over base rs)) (are_rows_rows (history_over base (rs ++ r ∷ [])))
