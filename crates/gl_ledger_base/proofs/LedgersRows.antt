-- The rows of governance in a snapshot of a ledger are those of the requests that it records, where
-- its tables of governance are the effect of these.
use Rattle.std.proofs.Common.{◌≡◌, ℕ, suc, ◌+◌, ◌<◌, ◌^◌, List, [], ◌∷◌, ◌++◌, length, filter, filter_map, map, Option, Some, None, Bool, true, false, cond, not, is_some, option_map, if◌then◌else◌, refl, sym, ◌∙◌, ap, subst, arith}
use Rattle.std.specs.List.{AllByRecursion, cons_option, flat_map, list_all}
use Rattle.std.specs.FinMap.{get}
use Rattle.std.specs.declared.cmp.Ordering.TheVariants.{Less}
use Rattle.std.proofs.lemmas.Bool.{and_parts, and_from}
use Rattle.std.proofs.lemmas.List.Folds.{list_all-append}
use Rattle.gl_vmaps.specs.Name.{is_governance}
use Rattle.gl_vmaps.specs.Rows.{row_left, row_write, row_writes, tables_with}
use Rattle.gl_vmaps.specs.Tables.{Tables, Rows, no_tables, value_in, wrote_all}
use Rattle.gl_vmaps.specs.Versions.{is_to_row}
use Rattle.gl_vmaps.specs.Writes.{is_less, is_ordered, stands_before, write_order}
use Rattle.gl_vmaps.specs.declared.row.Row.{Row}
use Rattle.gl_vmaps.specs.declared.write.Write.{Write}
use Rattle.gl_vmaps.proofs.RowsLaws.{determined}
use Rattle.gl_vmaps.proofs.RowsOverLaws.{ordered-over}
use Rattle.gl_vmaps.proofs.RowsUpToLaws.{row_value, value_in-rows}
use Rattle.gl_vmaps.proofs.TablesLaws.{row_of}
use Rattle.gl_vmaps.proofs.WriteLaws.{is_ordered-rest, ordered_before}
use Rattle.gl_vmaps.proofs.WriteSets.{list_all-set_from}
use Rattle.gl_entry.specs.declared.entry.Entry.{Entry}
use Rattle.gl_requests.specs.declared.action.Rule.{Rule}
use Rattle.gl_gov_rules.specs.declared.change.Proposal.{Proposal}
use Rattle.gl_gov_rules.specs.History.{History}
use Rattle.gl_gov_rules.specs.Changes.{history}
use Rattle.gl_gov_rules.specs.Governed.{IsAbove}
use Rattle.gl_gov_rules.specs.Proposals.{proposals}
use Rattle.gl_gov_rules.specs.Service.{constitution, dealing, shares_given}
use Rattle.gl_gov_rules.specs.Rows.{rule_writes_from, rule_writes_of, write_of, dealing_write, effect, member_rows, member_write, node_rows, node_write, proposal_row, proposal_write, proposal_writes, service_row, service_write, share_write, all_rows, rows}
use Rattle.gl_gov_rules.proofs.Effects.{rows_are_rows}
use Rattle.gl_gov_base.specs.Law.{IsLeft, governance_rows}
use Rattle.gl_ledger.specs.Recordings.{requests_of}
use Rattle.gl_ledger.specs.Snapshot.{snapshot_of}
use Rattle.gl_ledger.specs.Sound.{HasGovernedTables}
use Rattle.gl_ledger.proofs.Governed.{above}
use Rattle.gl_ledger_base.proofs.LedgersTold.{rows_told}

-- ---- all rows of a history are of governance

abbrev of_governance : Write → Bool
of_governance w = is_governance w.map

abbrev all_governed : List Write → Type 0
all_governed ws = list_all of_governance ws ≡ true

governed-append : (xs ys : List Write) → all_governed xs → all_governed ys → all_governed (xs ++ ys)
governed-append xs ys one two = list_all-append of_governance xs ys ∙ and_from (list_all of_governance xs) (list_all of_governance ys) one two

governed-map : {A : Type 0} (f : A → Write) (xs : List A) → ((x : A) → of_governance (f x) ≡ true) → all_governed (map f xs)
governed-map f [] each = refl
governed-map f (x ∷ xs) each = and_from (of_governance (f x)) (list_all of_governance (map f xs)) (each x) (governed-map f xs each)

governed-option : {A : Type 0} (f : A → Write) (o : Option A) → ((x : A) → of_governance (f x) ≡ true) → all_governed (write_of f o)
governed-option f None each = refl
governed-option f (Some x) each = and_from (of_governance (f x)) true (each x) refl

governed-rules_from : (number : ℕ) (rules : List Rule) → all_governed (rule_writes_from number rules)
governed-rules_from number [] = refl
governed-rules_from number (r ∷ rules) = governed-rules_from (suc number) rules

governed-rules : (o : Option (List Rule)) → all_governed (rule_writes_of o)
governed-rules None = refl
governed-rules (Some rules) = governed-rules_from 1 rules

governed-proposals : (h : History) → all_governed (proposal_writes h)
unfolding proposal_writes
governed-proposals h = governed-map (λ (p : Proposal). proposal_write p.id (proposal_row h p)) (proposals h) (λ p. refl)

governed-all : (h : History) → all_governed (all_rows h)
unfolding all_rows
governed-all h =
    let rules = rule_writes_of (constitution h) in
    let dealt = write_of dealing_write (dealing h) in
    let members = map member_write (member_rows h) in
    let nodes = map node_write (node_rows h) in
    let service = write_of service_write (service_row h) in
    let shares = map share_write (shares_given h) in
    let a = governed-append rules dealt (governed-rules (constitution h)) (governed-option dealing_write (dealing h) (λ d. refl)) in
    let b = governed-append (rules ++ dealt) members a (governed-map member_write (member_rows h) (λ m. refl)) in
    let c = governed-append (rules ++ dealt ++ members) nodes b (governed-map node_write (node_rows h) (λ n. refl)) in
    let d = governed-append (rules ++ dealt ++ members ++ nodes) (proposal_writes h) c (governed-proposals h) in
    let e = governed-append (rules ++ dealt ++ members ++ nodes ++ proposal_writes h) service d (governed-option service_write (service_row h) (λ s. refl)) in
    governed-append (rules ++ dealt ++ members ++ nodes ++ proposal_writes h ++ service) shares e (governed-map share_write (shares_given h) (λ s. refl))

governed-rows : (h : History) → all_governed (rows h)
unfolding rows
governed-rows h = list_all-set_from of_governance [] (all_rows h) refl (governed-all h)

-- ---- writes that set values, as rows

abbrev sets : Write → Bool
sets w = is_some w.value

write_is : (w : Write) (v : List ℕ) → w.value ≡ Some v → record { map = w.map; key = w.key; value = Some v } ≡ w
write_is w v is = λ i. record { map = w.map; key = w.key; value = sym is i }

as_rows : (ws : List Write) → list_all sets ws ≡ true → row_writes (filter_map row_left ws) ≡ ws
as_rows [] all = refl
as_rows (w ∷ ws) all = go w.value refl (as_rows ws both.1)
  where
    both : (is_some w.value ≡ true) × (list_all sets ws ≡ true)
    both = and_parts (is_some w.value) (list_all sets ws) all

    go : (v : Option (List ℕ)) → w.value ≡ v → row_writes (filter_map row_left ws) ≡ ws → row_writes (filter_map row_left (w ∷ ws)) ≡ w ∷ ws
    go None is rest = absurd (let some = both.0 in let none = ap is_some is in cc)
    go (Some v) is rest =
        ap (λ (o : Option (List ℕ)). row_writes (cons_option (option_map (λ value. record { map = w.map; key = w.key; value = value }) o) (filter_map row_left ws))) is
        ∙ (λ i. write_is w v is i ∷ rest i)

-- ---- rows by their maps

abbrev in_governance : Row → Bool
in_governance r = is_governance r.map

-- a write that stands before all others stands first
stands_first : (w : Write) (ws : List Write) → AllByRecursion (λ (y : Write). write_order w y ≡ Less) ws → stands_before w.map w.key ws ≡ true
stands_first w [] all = refl
stands_first w (y ∷ ys) all = ap is_less all.0

each_kept : (P : Write → Type 0) (rs : List Row) → AllByRecursion P (row_writes rs) → AllByRecursion P (row_writes (filter in_governance rs))
each_kept P [] all = tt
each_kept P (r ∷ rs) all = go (in_governance r) (each_kept P rs all.1)
  where
    go : (b : Bool) → AllByRecursion P (row_writes (filter in_governance rs)) → AllByRecursion P (row_writes (cond b (r ∷ filter in_governance rs) (filter in_governance rs)))
    go true rest = (all.0, rest)
    go false rest = rest

-- those of governance stand in order where all do
ordered_kept : (rs : List Row) → is_ordered (row_writes rs) ≡ true → is_ordered (row_writes (filter in_governance rs)) ≡ true
ordered_kept [] ordered = refl
ordered_kept (r ∷ rs) ordered = go (in_governance r) (ordered_kept rs (is_ordered-rest (row_write r) (row_writes rs) ordered))
  where
    go : (b : Bool) → is_ordered (row_writes (filter in_governance rs)) ≡ true → is_ordered (row_writes (cond b (r ∷ filter in_governance rs) (filter in_governance rs))) ≡ true
    go true rest =
        and_from (stands_before r.map r.key (row_writes (filter in_governance rs))) (is_ordered (row_writes (filter in_governance rs)))
        (stands_first (row_write r) (row_writes (filter in_governance rs))
        (each_kept (λ (y : Write). write_order (row_write r) y ≡ Less) rs (ordered_before (row_write r) (row_writes rs) ordered))) rest
    go false rest = rest

-- a row is none of a map of another kind
other_kind : (r : Row) (name key : List ℕ) (b : Bool) → is_governance r.map ≡ b → is_governance name ≡ not b → is_to_row name key (row_write r) ≡ false
other_kind r name key b is other = go (is_to_row name key (row_write r)) refl
  where
    go : (t : Bool) → is_to_row name key (row_write r) ≡ t → t ≡ false
    go false at = refl
    go true at = absurd (never b (sym other ∙ ap is_governance (row_of name key (row_write r) at).0 ∙ is))
      where
        never : (c : Bool) → not c ≡ c → ⊥
        never true w = cc
        never false w = cc

-- a map of governance has the values of all rows
kept_value : (rs : List Row) (name key : List ℕ) → is_governance name ≡ true → row_value (filter in_governance rs) name key ≡ row_value rs name key
kept_value [] name key inside = refl
kept_value (r ∷ rs) name key inside = go (in_governance r) refl (kept_value rs name key inside)
  where
    go : (b : Bool) → in_governance r ≡ b → row_value (filter in_governance rs) name key ≡ row_value rs name key →
        row_value (cond b (r ∷ filter in_governance rs) (filter in_governance rs)) name key ≡ row_value (r ∷ rs) name key
    go true is rest = ap (λ (o : Option (List ℕ)). if is_to_row name key (row_write r) then Some r.value else o) rest
    go false is rest = rest ∙ ap (λ (b : Bool). if b then Some r.value else row_value rs name key) (sym (other_kind r name key false is inside))

-- and another map has none of rows of governance
no_value : (rs : List Row) (name key : List ℕ) → list_all of_governance (row_writes rs) ≡ true → is_governance name ≡ false → row_value rs name key ≡ None
no_value [] name key all outside = refl
no_value (r ∷ rs) name key all outside =
    let both = and_parts (is_governance r.map) (list_all of_governance (row_writes rs)) all in
    ap (λ (b : Bool). if b then Some r.value else row_value rs name key) (other_kind r name key true both.0 outside) ∙ no_value rs name key both.1 outside

all_kept : (rs : List Row) → list_all of_governance (row_writes (filter in_governance rs)) ≡ true
all_kept [] = refl
all_kept (r ∷ rs) = go (in_governance r) refl (all_kept rs)
  where
    go : (b : Bool) → in_governance r ≡ b → list_all of_governance (row_writes (filter in_governance rs)) ≡ true → list_all of_governance (row_writes (cond b (r ∷ filter in_governance rs) (filter in_governance rs))) ≡ true
    go true is rest = and_from (is_governance r.map) (list_all of_governance (row_writes (filter in_governance rs))) is rest
    go false is rest = rest

-- ---- the rows of a snapshot

module _ (ledger : List Entry) (governed : HasGovernedTables ledger) where
  abbrev all : List Row
  all = (snapshot_of ledger).rows

  abbrev now : History
  now = history (requests_of ledger)

  abbrev made : List Row
  made = filter_map row_left (rows now)

  as_made : row_writes made ≡ rows now
  as_made = as_rows (rows now) (and_parts (is_ordered (rows now)) (list_all sets (rows now)) (rows_are_rows (requests_of ledger))).1

  ordered_made : is_ordered (row_writes made) ≡ true
  ordered_made = ap is_ordered as_made ∙ (and_parts (is_ordered (rows now)) (list_all sets (rows now)) (rows_are_rows (requests_of ledger))).0

  ordered_all : is_ordered (row_writes all) ≡ true
  ordered_all = ordered-over [] (flat_map (λ (e : Entry). e.writes) ledger) refl

  value_made : (name key : List ℕ) → value_in (tables_with made) name key ≡ value_in (effect (requests_of ledger)) name key
  value_made name key = ap (λ (ws : List Write). value_in (wrote_all no_tables ws) name key) as_made

  value_kept : (name key : List ℕ) → value_in (tables_with (governance_rows all)) name key ≡ value_in (effect (requests_of ledger)) name key
  value_kept name key = value_in-rows (governance_rows all) name key (ordered_kept all ordered_all) ∙ go (is_governance name) refl
    where
      go : (b : Bool) → is_governance name ≡ b → row_value (governance_rows all) name key ≡ value_in (effect (requests_of ledger)) name key
      go true inside =
          kept_value all name key inside ∙ sym (value_in-rows all name key ordered_all)
          ∙ ap (λ (t : Tables). value_in t name key) (rows_told ledger)
          ∙ ap (λ (r : Rows). get r key) (governed name inside)
      go false outside =
          no_value (governance_rows all) name key (all_kept all) outside
          ∙ sym (no_value made name key (ap (list_all of_governance) as_made ∙ governed-rows now) outside)
          ∙ sym (value_in-rows made name key ordered_made) ∙ value_made name key

  -- the rows of governance are those of the requests
  rows_left : row_writes (governance_rows all) ≡ rows now
  rows_left =
      ap row_writes (determined (governance_rows all) made (effect (requests_of ledger)) (ordered_kept all ordered_all) ordered_made value_kept value_made) ∙ as_made

  pub is_left : (base : ℕ) → base ≡ length ledger → base < 2 ^ 64 → IsLeft base all (requests_of ledger)
  is_left base is fits = record {
    fits = fits;
    low = subst (λ (n : ℕ). IsAbove n (requests_of ledger)) (let next : length ledger + 1 ≡ suc base = omega (arith, is) in next) (above ledger);
    left = rows_left;
  }
