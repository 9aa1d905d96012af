-- What the row of the service tells: it is the last write to its place among all rows, it is there
-- after a founding, and it has the key and the state that are in force.
use Rattle.std.proofs.Common.{◌≡◌, ℕ, suc, List, [], ◌∷◌, ◌++◌, map, Option, Some, None, is_some, Bool, true, false, not, refl, sym, ◌∙◌, ap, subst, if◌then◌else◌}
use Rattle.std.specs.List.{list_all}
use Rattle.std.specs.FinMap.{get}
use Rattle.std.proofs.lemmas.Bool.{and_parts, and_from, not-true}
use Rattle.std.proofs.lemmas.Option.{same_Some}
use Rattle.std.proofs.lemmas.List.Folds.{list_all-append}
use Rattle.gl_vmaps.specs.Tables.{Tables, Rows, no_tables, same_bytes, with_row, value_in, wrote, wrote_all}
use Rattle.gl_vmaps.specs.declared.write.Write.{Write}
use Rattle.gl_vmaps.proofs.TablesLaws.{value_in-wrote, value_in-nothing}
use Rattle.gl_vmaps.proofs.WriteSets.{rows-write_set, wrote_all-append}
use Rattle.gl_requests.specs.declared.genesis.ServiceState.{ServiceState}
use Rattle.gl_requests.specs.declared.genesis.Genesis as founding
use Rattle.gl_requests.specs.declared.action.Rule.{Rule}
use Rattle.gl_requests.specs.declared.action.Action.TheVariants as actions
use Rattle.gl_requests.specs.declared.request.GovernanceRequest.{GovernanceRequest}
use Rattle.gl_requests.specs.declared.request.GovernanceRequest.TheVariants as requests
use Rattle.gl_gov_rules.specs.declared.change.Recorded.{Recorded}
use Rattle.gl_gov_rules.specs.declared.change.Change.{Change}
use Rattle.gl_gov_rules.specs.declared.change.Change.TheVariants as changes
use Rattle.gl_gov_rules.specs.declared.change.Changed.{Changed}
use Rattle.gl_gov_rules.specs.declared.change.Proposal.{Proposal}
use Rattle.gl_gov_rules.specs.declared.row.ServiceRow.{ServiceRow}
use Rattle.gl_gov_rules.specs.History.{History, last_set, Answered}
use Rattle.gl_gov_rules.specs.Service.{constitution, dealing, sets_identity, identity, is_recovered, sets_state, service_state, shares_given}
use Rattle.gl_gov_rules.specs.Proposals.{proposals, answers_with}
use Rattle.gl_gov_rules.specs.Changes.{first_rules, set_member, request_changes, changes_of, changed_at, history}
use Rattle.gl_gov_rules.specs.Rows.{service_map, service_key, service_row_of, service_row, service_write, member_write, member_rows, node_write, node_rows, proposal_write, proposal_row, proposal_writes, rule_writes_from, rule_writes_of, dealing_write, share_write, write_of, all_rows, rows, effect}
use Rattle.gl_gov_rules.specs.Governed.{is_founding, is_nothing, Follows, IsGoverned}
use Rattle.gl_gov_rules.proofs.Prefixes.{changes_more, governed_induction}
use Rattle.gl_gov_rules.proofs.LastSet.{set_after, set_before, set_by_first}

-- ---- writes to other maps

abbrev is_elsewhere : List ℕ → Write → Bool
is_elsewhere name w = not (same_bytes name w.map)

abbrev are_elsewhere : List ℕ → List Write → Bool
are_elsewhere name ws = list_all (is_elsewhere name) ws

-- writes to other maps leave the rows of a map as they are
pub passed_over : (name : List ℕ) (t : Tables) (ws : List Write) → are_elsewhere name ws ≡ true → wrote_all t ws name ≡ t name
passed_over name t [] all = refl
passed_over name t (w ∷ ws) all =
    let both = and_parts (is_elsewhere name w) (are_elsewhere name ws) all in
    passed_over name (wrote t w) ws both.1 ∙ ap (λ (b : Bool). if b then with_row (t name) w.key w.value else t name) (not-true (same_bytes name w.map) both.0)

-- writes that are made of items are elsewhere where each is
pub made_elsewhere : {A : Type 0} (name : List ℕ) (write : A → Write) → ((a : A) → is_elsewhere name (write a) ≡ true) → (items : List A) → are_elsewhere name (map write items) ≡ true
made_elsewhere name write each [] = refl
made_elsewhere name write each (a ∷ items) = and_from (is_elsewhere name (write a)) (are_elsewhere name (map write items)) (each a) (made_elsewhere name write each items)

one_elsewhere : {A : Type 0} (name : List ℕ) (write : A → Write) → ((a : A) → is_elsewhere name (write a) ≡ true) → (o : Option A) → are_elsewhere name (write_of write o) ≡ true
one_elsewhere name write each None = refl
one_elsewhere name write each (Some a) = and_from (is_elsewhere name (write a)) true (each a) refl

both_elsewhere : (name : List ℕ) (xs ys : List Write) → are_elsewhere name xs ≡ true → are_elsewhere name ys ≡ true → are_elsewhere name (xs ++ ys) ≡ true
both_elsewhere name xs ys first rest = list_all-append (is_elsewhere name) xs ys ∙ and_from (are_elsewhere name xs) (are_elsewhere name ys) first rest

-- ---- the rows before the service's, and those after it

rules_from : (number : ℕ) (rules : List Rule) → are_elsewhere service_map (rule_writes_from number rules) ≡ true
rules_from number [] = refl
rules_from number (r ∷ rules) = rules_from (suc number) rules

rules_elsewhere : (o : Option (List Rule)) → are_elsewhere service_map (rule_writes_of o) ≡ true
rules_elsewhere None = refl
rules_elsewhere (Some rules) = rules_from 1 rules

proposals_elsewhere : (h : History) → are_elsewhere service_map (proposal_writes h) ≡ true
unfolding proposal_writes
proposals_elsewhere h = made_elsewhere service_map (λ (p : Proposal). proposal_write p.id (proposal_row h p)) (λ p. refl) (proposals h)

-- all rows before the service's
abbrev pub rows_before_service : History → List Write
rows_before_service h = rule_writes_of (constitution h) ++ write_of dealing_write (dealing h) ++ map member_write (member_rows h) ++ map node_write (node_rows h) ++ proposal_writes h

prefix_elsewhere : (h : History) → are_elsewhere service_map (rows_before_service h) ≡ true
prefix_elsewhere h =
    let rules : List Write = rule_writes_of (constitution h) in
    let dealt : List Write = write_of dealing_write (dealing h) in
    let ms : List Write = map member_write (member_rows h) in
    let ns : List Write = map node_write (node_rows h) in
    both_elsewhere service_map (rules ++ dealt ++ ms ++ ns) (proposal_writes h)
    (both_elsewhere service_map (rules ++ dealt ++ ms) ns
    (both_elsewhere service_map (rules ++ dealt) ms
    (both_elsewhere service_map rules dealt (rules_elsewhere (constitution h)) (one_elsewhere service_map dealing_write (λ d. refl) (dealing h)))
    (made_elsewhere service_map member_write (λ m. refl) (member_rows h)))
    (made_elsewhere service_map node_write (λ n. refl) (node_rows h)))
    (proposals_elsewhere h)

abbrev pub of_service : History → List Write
of_service h = write_of service_write (service_row h)

abbrev pub of_shares : History → List Write
of_shares h = map share_write (shares_given h)

pub parts_of_rows : (h : History) → all_rows h ≡ rows_before_service h ++ of_service h ++ of_shares h
unfolding all_rows
parts_of_rows h = refl

-- ---- what is reported

-- the tables of all rows before the service's
abbrev pub table_before_service : History → Tables
table_before_service h = wrote_all no_tables (rows_before_service h)

-- the row of the service is as the service's own write leaves it
reported_by_own : (rs : List Recorded) → value_in (effect rs) service_map service_key ≡ value_in (wrote_all (table_before_service (history rs)) (of_service (history rs))) service_map service_key
unfolding rows
reported_by_own rs =
    let h : History = history rs in
    ap (λ (r : Rows). get r service_key)
    (rows-write_set no_tables (all_rows h) service_map ∙ ap (λ (ws : List Write). wrote_all no_tables ws service_map) (parts_of_rows h)
    ∙ ap (λ (t : Tables). t service_map) (wrote_all-append no_tables (rows_before_service h ++ of_service h) (of_shares h) ∙ ap (λ (t : Tables). wrote_all t (of_shares h)) (wrote_all-append no_tables (rows_before_service h) (of_service h)))
    ∙ passed_over service_map (wrote_all (table_before_service h) (of_service h)) (of_shares h) (made_elsewhere service_map share_write (λ s. refl) (shares_given h)))

-- the tables have the service's row
pub service_value : (rs : List Recorded) (s : ServiceRow) → service_row (history rs) ≡ Some s → value_in (effect rs) service_map service_key ≡ (service_write s).value
service_value rs s there =
    reported_by_own rs ∙ ap (λ (o : Option ServiceRow). value_in (wrote_all (table_before_service (history rs)) (write_of service_write o)) service_map service_key) there
    ∙ value_in-wrote (table_before_service (history rs)) (service_write s) service_map service_key

-- without one they have none
pub service_none : (rs : List Recorded) → service_row (history rs) ≡ None → value_in (effect rs) service_map service_key ≡ None
service_none rs none =
    reported_by_own rs ∙ ap (λ (o : Option ServiceRow). value_in (wrote_all (table_before_service (history rs)) (write_of service_write o)) service_map service_key) none
    ∙ ap (λ (r : Rows). get r service_key) (passed_over service_map no_tables (rows_before_service (history rs)) (prefix_elsewhere (history rs))) ∙ value_in-nothing service_map service_key

-- ---- after a founding

-- the service's key and its state are set by these changes
pub record AreSet (cs : List Changed) : Type 0 where
  pub key : is_some (last_set sets_identity cs) ≡ true
  pub state : (recovered : Bool) → is_some (last_set (sets_state recovered) cs) ≡ true

-- what a founding brings about after its first change
abbrev founding_rest : founding.Genesis → List Change
founding_rest g = changes.Applied (actions.SetConstitution first_rules) ∷ changes.Applied (actions.SetRecoveryThreshold g.dealing) ∷ map set_member g.members

founding_sets : (h : History) (given : List Answered) (s : ℕ) (q : GovernanceRequest) → is_founding q ≡ true → AreSet (map (changed_at s) (request_changes h given s q))
founding_sets h given s (requests.Genesis g) founds =
    let first : Changed = changed_at s (changes.Founded g.state g.identity) in
    let rest : List Changed = map (changed_at s) (founding_rest g) in
    record { key = set_by_first sets_identity first rest refl; state = λ recovered. set_by_first (sets_state recovered) first rest refl }
founding_sets h given s (requests.Recover r) founds = absurd cc
founding_sets h given s (requests.Join n) founds = absurd cc
founding_sets h given s (requests.Mark id) founds = absurd cc
founding_sets h given s (requests.Member m) founds = absurd cc

founding_sets_both : (h : History) (r : Recorded) → is_founding r.request ≡ true → AreSet (map (changed_at r.seqno) (changes_of h r))
unfolding changes_of
founding_sets_both h r founds = founding_sets h (answers_with h r.request) r.seqno r.request founds

-- what stood in front stays, and what comes after is set
pub set_kept : (cs ds : List Changed) → AreSet cs → AreSet (cs ++ ds)
set_kept cs ds set = record { key = set_before sets_identity cs ds set.key; state = λ recovered. set_before (sets_state recovered) cs ds (set.state recovered) }

set_new : (cs ds : List Changed) → AreSet ds → AreSet (cs ++ ds)
set_new cs ds set = record { key = set_after sets_identity cs ds set.key; state = λ recovered. set_after (sets_state recovered) cs ds (set.state recovered) }

-- after the first request both are set
both_set : (rs : List Recorded) → IsGoverned rs → is_nothing rs ≡ false → AreSet (history rs).changes
both_set = governed_induction (λ (rs : List Recorded). is_nothing rs ≡ false → AreSet (history rs).changes) (λ e. absurd cc) step
  where
    more : (rs : List Recorded) (r : Recorded) → AreSet ((history rs).changes ++ map (changed_at r.seqno) (changes_of (history rs) r)) → AreSet (history (rs ++ r ∷ [])).changes
    more rs r set = subst AreSet (sym (changes_more rs r)) set

    step : (rs : List Recorded) (r : Recorded) → IsGoverned rs → Follows rs r → (is_nothing rs ≡ false → AreSet (history rs).changes) → is_nothing (rs ++ r ∷ []) ≡ false → AreSet (history (rs ++ r ∷ [])).changes
    step [] r all follows old e = more [] r (set_new (history []).changes (map (changed_at r.seqno) (changes_of (history []) r)) (founding_sets_both (history []) r follows.founding))
    step (x ∷ rs) r all follows old e = more (x ∷ rs) r (set_kept (history (x ∷ rs)).changes (map (changed_at r.seqno) (changes_of (history (x ∷ rs)) r)) (old refl))

pub row_of_both : (h : History) → AreSet h.changes → (s : ServiceRow) × (service_row h ≡ Some s)
unfolding service_row service_state identity
row_of_both h set = go (last_set (sets_state (is_recovered h)) h.changes) (last_set sets_identity h.changes) (set.state (is_recovered h)) set.key
  where
    go : (o : Option ServiceState) (k : Option (List ℕ)) → is_some o ≡ true → is_some k ≡ true → (s : ServiceRow) × (service_row_of o (is_recovered h) k ≡ Some s)
    go None k there key = absurd cc
    go (Some state) None there key = absurd cc
    go (Some state) (Some own) there key = (record { state = state; is_recovered = is_recovered h; identity = own }, refl)

-- after a founding the service has a row
pub founded_row : (r : Recorded) (rs : List Recorded) → IsGoverned (r ∷ rs) → (s : ServiceRow) × (service_row (history (r ∷ rs)) ≡ Some s)
founded_row r rs all = row_of_both (history (r ∷ rs)) (both_set (r ∷ rs) all refl)

-- ---- the fields of the row

pub row_parts : (h : History) (s : ServiceRow) → service_row h ≡ Some s → (identity h ≡ Some s.identity) × (service_state h ≡ Some s.state)
unfolding service_row
row_parts h s there = go (service_state h) (identity h) there
  where
    go : (o : Option ServiceState) (k : Option (List ℕ)) → service_row_of o (is_recovered h) k ≡ Some s → (k ≡ Some s.identity) × (o ≡ Some s.state)
    go None k e = absurd cc
    go (Some state) None e = absurd cc
    go (Some state) (Some own) e =
        let same = same_Some (record { state = state; is_recovered = is_recovered h; identity = own }) s e in
        (ap (λ (r : ServiceRow). Some r.identity) same, ap (λ (r : ServiceRow). Some r.state) same)

-- its key is the one in force
pub identity_reported : (rs : List Recorded) (s : ServiceRow) → service_row (history rs) ≡ Some s → identity (history rs) ≡ Some s.identity
identity_reported rs s there = (row_parts (history rs) s there).0

-- and so is its state
pub state_reported : (rs : List Recorded) (s : ServiceRow) → service_row (history rs) ≡ Some s → service_state (history rs) ≡ Some s.state
state_reported rs s there = (row_parts (history rs) s there).1
