-- What the row of the service tells behind a base: it is there from the base or the founding on, it
-- stands in the tables, and has the key and the state that are in force.
use Rattle.std.proofs.Common.{◌≡◌, ℕ, List, [], ◌∷◌, ◌++◌, map, filter_map, Option, None, Some, IfSome, is_some, Bool, true, false, ◌||◌, refl, sym, ◌∙◌, ap, subst}
use Rattle.std.specs.FinMap.{get}
use Rattle.std.specs.List.{list_any}
use Rattle.std.specs.Option.{option_or}
use Rattle.std.proofs.lemmas.Bool.{or_left, or_right}
use Rattle.std.proofs.lemmas.List.Folds.{list_any-append}
use Rattle.gl_base.specs.Bytes.{are_sized}
use Rattle.gl_vmaps.specs.Tables.{Tables, Rows, no_tables, value_in, wrote_all}
use Rattle.gl_vmaps.specs.declared.write.Write.{Write}
use Rattle.gl_vmaps.proofs.TablesLaws.{value_in-wrote}
use Rattle.gl_vmaps.proofs.WriteSets.{rows-write_set, wrote_all-append}
use Rattle.gl_gov_rules.specs.declared.change.Recorded.{Recorded}
use Rattle.gl_gov_rules.specs.declared.change.Change.{Change}
use Rattle.gl_gov_rules.specs.declared.change.Changed.{Changed}
use Rattle.gl_gov_rules.specs.declared.row.ServiceRow.{ServiceRow}
use Rattle.gl_gov_rules.specs.declared.row.GovernedRows.{GovernedRows}
use Rattle.gl_gov_rules.specs.History.{History, last_set}
use Rattle.gl_gov_rules.specs.Service.{sets_identity, identity, sets_state, service_state, shares_given}
use Rattle.gl_gov_rules.specs.Changes.{changes_of, changed_at, with_request}
use Rattle.gl_gov_rules.specs.Governed.{is_founding, is_recovery}
use Rattle.gl_gov_rules.specs.GovernedRows.{recovered_if, founded_by, changes_at_base, changes_of_rows, node_removed_by, history_over}
use Rattle.gl_gov_rules.specs.Rows.{service_map, service_key, service_row, service_write, share_write, write_of, all_rows, rows}
use Rattle.gl_gov_rules.proofs.KeptIdentity.{none_set, brought_leave}
use Rattle.gl_gov_rules.proofs.LastSet.{last_set-append, set_after, set_by_first}
use Rattle.gl_gov_rules.proofs.Prefixes.{changes_with}
use Rattle.gl_gov_rules.proofs.Ranges.{key_in_range}
use Rattle.gl_gov_rules.proofs.RowOfService.{passed_over, made_elsewhere, rows_before_service, of_service, of_shares, parts_of_rows, table_before_service, AreSet, set_kept, row_of_both, founded_row, row_parts}
use Rattle.gl_gov_base.specs.GovernedOver.{is_unfounded, FollowsOver, IsGovernedOver, IsReadBase, effect_over}
use Rattle.gl_gov_base.proofs.BoundsOver.{in_bounds}
use Rattle.gl_gov_base.proofs.KnownFacts.{alone}
use Rattle.gl_gov_base.proofs.ReadRanges.{are_read}
use Rattle.gl_gov_base.proofs.RequestsOver.{over_more, over_none, no_base, over_induction, whole_over}
use Rattle.gl_gov_base.proofs.SameLists.{any-map}

-- ---- what is set at a base

-- what one of the changes sets is set
set_by_any : {A : Type 0} (sets : Change → Option A) (cs : List Changed) → list_any (λ (c : Changed). is_some (sets c.change)) cs ≡ true → is_some (last_set sets cs) ≡ true
set_by_any sets [] any = absurd cc
set_by_any sets (c ∷ cs) any = by (list_any (λ (d : Changed). is_some (sets d.change)) cs) refl (set_by_any sets cs)
  where
    by : (b : Bool) → list_any (λ (d : Changed). is_some (sets d.change)) cs ≡ b → (list_any (λ (d : Changed). is_some (sets d.change)) cs ≡ true → is_some (last_set sets cs) ≡ true) → is_some (last_set sets (c ∷ cs)) ≡ true
    by true is rest = set_after sets (c ∷ []) cs (rest is)
    by false is rest = set_by_first sets c cs (alone (is_some (sets c.change)) (ap (λ b. is_some (sets c.change) || b) (sym is) ∙ any))

module _ (p : Change → Bool) where
  in_front : (xs ys : List Change) → list_any p xs ≡ true → list_any p (xs ++ ys) ≡ true
  in_front xs ys is = list_any-append p xs ys ∙ or_left (list_any p xs) (list_any p ys) is

  behind : (xs ys : List Change) → list_any p ys ≡ true → list_any p (xs ++ ys) ≡ true
  behind xs ys is = list_any-append p xs ys ∙ or_right (list_any p xs) (list_any p ys) is

  -- what tells of the founding tells of the rows
  founded_any : (g : GovernedRows) → list_any p (founded_by g.service) ≡ true → list_any (λ (c : Changed). p c.change) (changes_of_rows g) ≡ true
  founded_any g is =
      list_any-append (λ (c : Changed). p c.change) (map (changed_at 0) (changes_at_base g)) (filter_map (node_removed_by g.seqno) g.nodes)
      ∙ or_left (list_any (λ (c : Changed). p c.change) (map (changed_at 0) (changes_at_base g))) _
      (sym (any-map (λ (c : Changed). p c.change) (changed_at 0) (changes_at_base g))
      ∙ in_front _ _ (in_front _ _ (in_front _ _ (in_front _ _ (in_front _ _ (behind (recovered_if g.service) (founded_by g.service) is))))))

founding_set : {A : Type 0} (sets : Change → Option A) (o : Option ServiceRow) → ((s : ServiceRow) → list_any (λ (c : Change). is_some (sets c)) (founded_by (Some s)) ≡ true) → is_some o ≡ true →
    list_any (λ (c : Change). is_some (sets c)) (founded_by o) ≡ true
founding_set sets None each there = absurd cc
founding_set sets (Some s) each there = each s

set_at_base : (g : GovernedRows) → is_some g.service ≡ true → AreSet (changes_of_rows g)
set_at_base g there = record {
  key = set_by_any sets_identity (changes_of_rows g) (founded_any (λ (c : Change). is_some (sets_identity c)) g (founding_set sets_identity g.service (λ s. refl) there));
  state = λ recovered.
      set_by_any (sets_state recovered) (changes_of_rows g)
      (founded_any (λ (c : Change). is_some (sets_state recovered c)) g (founding_set (sets_state recovered) g.service (λ s. refl) there));
}

-- ---- the row is there

set_over : (g : GovernedRows) → IsReadBase (Some g) → (rs : List Recorded) → IsGovernedOver (Some g) rs → AreSet (history_over (Some g) rs).changes
set_over g read =
    over_induction (Some g) (λ (rs : List Recorded). AreSet (history_over (Some g) rs).changes) step
    (subst (λ (h : History). AreSet h.changes) (sym (over_none (Some g))) (set_at_base g (are_read g.seqno read.0 g read.1.fits read.1.read).service))
  where
    step : (rs : List Recorded) (r : Recorded) → IsGovernedOver (Some g) rs → FollowsOver (Some g) rs r → AreSet (history_over (Some g) rs).changes → AreSet (history_over (Some g) (rs ++ r ∷ [])).changes
    step rs r all follows old =
        let h : History = history_over (Some g) rs in
        subst (λ (k : History). AreSet k.changes) (sym (over_more (Some g) rs r)) (subst AreSet (sym (changes_with h r)) (set_kept h.changes (map (changed_at r.seqno) (changes_of h r)) old))

pub founded_over : (base : Option GovernedRows) (rs : List Recorded) → IsReadBase base → IsGovernedOver base rs → is_unfounded base rs ≡ false → (s : ServiceRow) × (service_row (history_over base rs) ≡ Some s)
founded_over None [] read all some = absurd cc
founded_over None (r ∷ rs) read all some =
    let there = founded_row r rs ((whole_over (r ∷ rs)).1 all) in
    (there.0, ap service_row (no_base (r ∷ rs)) ∙ there.1)
founded_over (Some g) rs read all some = row_of_both (history_over (Some g) rs) (set_over g read rs all)

-- ---- what it tells

pub identity_over : (base : Option GovernedRows) (rs : List Recorded) (s : ServiceRow) → service_row (history_over base rs) ≡ Some s → identity (history_over base rs) ≡ Some s.identity
identity_over base rs s there = (row_parts (history_over base rs) s there).0

pub state_over : (base : Option GovernedRows) (rs : List Recorded) (s : ServiceRow) → service_row (history_over base rs) ≡ Some s → service_state (history_over base rs) ≡ Some s.state
state_over base rs s there = (row_parts (history_over base rs) s there).1

-- its key has 60 bytes
pub sized_over : (base : Option GovernedRows) (rs : List Recorded) (s : ServiceRow) → IsReadBase base → IsGovernedOver base rs → service_row (history_over base rs) ≡ Some s → are_sized 60 s.identity ≡ true
sized_over base rs s read all there =
    let h : History = history_over base rs in
    subst (λ (o : Option (List ℕ)). IfSome o (λ (key : List ℕ). are_sized 60 key ≡ true)) (identity_over base rs s there) (key_in_range h (in_bounds base read rs all).changed)

-- ---- the row in the tables

reported : (h : History) → value_in (wrote_all no_tables (rows h)) service_map service_key ≡ value_in (wrote_all (table_before_service h) (of_service h)) service_map service_key
unfolding rows
reported h =
    ap (λ (r : Rows). get r service_key)
    (rows-write_set no_tables (all_rows h) service_map ∙ ap (λ (ws : List Write). wrote_all no_tables ws service_map) (parts_of_rows h)
    ∙ ap (λ (t : Tables). t service_map) (wrote_all-append no_tables (rows_before_service h ++ of_service h) (of_shares h) ∙ ap (λ (t : Tables). wrote_all t (of_shares h)) (wrote_all-append no_tables (rows_before_service h) (of_service h)))
    ∙ passed_over service_map (wrote_all (table_before_service h) (of_service h)) (of_shares h) (made_elsewhere service_map share_write (λ s. refl) (shares_given h)))

pub row_over : (base : Option GovernedRows) (rs : List Recorded) (s : ServiceRow) → service_row (history_over base rs) ≡ Some s → value_in (effect_over base rs) service_map service_key ≡ (service_write s).value
row_over base rs s there =
    let h : History = history_over base rs in
    reported h ∙ ap (λ (o : Option ServiceRow). value_in (wrote_all (table_before_service h) (write_of service_write o)) service_map service_key) there
    ∙ value_in-wrote (table_before_service h) (service_write s) service_map service_key

-- ---- the key stays

key_kept : (h : History) (r : Recorded) → is_founding r.request ≡ false → is_recovery r.request ≡ false → identity (with_request h r) ≡ identity h
unfolding identity
key_kept h r founds recovers =
    let more : List Change = changes_of h r in
    ap (last_set sets_identity) (changes_with h r) ∙ last_set-append sets_identity h.changes (map (changed_at r.seqno) more)
    ∙ ap (λ (o : Option (List ℕ)). option_or o (last_set sets_identity h.changes)) (none_set r.seqno more (brought_leave h r founds recovers))

pub identity_kept_over : (base : Option GovernedRows) (rs : List Recorded) (r : Recorded) → is_founding r.request ≡ false → is_recovery r.request ≡ false →
    identity (history_over base (rs ++ r ∷ [])) ≡ identity (history_over base rs)
identity_kept_over base rs r founds recovers = ap identity (over_more base rs r) ∙ key_kept (history_over base rs) r founds recovers
