-- Every row of the governance tables, and every write of a request, fits its format.
use Rattle.std.proofs.Common.{◌≡◌, ℕ, suc, ◌≤◌, List, [], ◌∷◌, ◌++◌, length, map, filter, Bool, true, false, ◌&&◌, cond, refl, ◌∙◌}
use Rattle.std.specs.List.{list_all, AllByRecursion}
use Rattle.std.proofs.lemmas.Bool.{and_parts, and_from}
use Rattle.std.proofs.lemmas.List.Folds.{list_all-append}
use Rattle.gl_vmaps.specs.Name.{is_map_name, is_key}
use Rattle.gl_vmaps.specs.Writes.{is_written_value, is_write}
use Rattle.gl_vmaps.specs.Changes.{is_changed, is_gone, removal_of, changes_listed, changes}
use Rattle.gl_vmaps.specs.declared.write.Write.{Write}
use Rattle.gl_vmaps.proofs.WriteSets.{list_all-set_from}
use Rattle.gl_shares.specs.declared.share.Share.{Share}
use Rattle.gl_requests.specs.Ranges.{is_member}
use Rattle.gl_requests.specs.declared.genesis.NewMember.{NewMember}
use Rattle.gl_gov_rules.specs.declared.change.Recorded.{Recorded}
use Rattle.gl_gov_rules.specs.declared.change.RecordedNode.{RecordedNode}
use Rattle.gl_gov_rules.specs.declared.change.Proposal.{Proposal}
use Rattle.gl_gov_rules.specs.History.{History, nothing}
use Rattle.gl_gov_rules.specs.Members.{members}
use Rattle.gl_gov_rules.specs.Nodes.{nodes}
use Rattle.gl_gov_rules.specs.Service.{constitution, dealing, identity, is_recovered, service_state, shares_given}
use Rattle.gl_gov_rules.specs.Proposals.{proposals}
use Rattle.gl_gov_rules.specs.Changes.{history}
use Rattle.gl_gov_rules.specs.Rows.{rule_writes_of, write_of, dealing_write, member_row, member_rows, member_write, node_row, node_rows_from, node_rows, node_write, proposal_row, proposal_write, proposal_writes, service_row, service_write, share_write, all_rows, rows, effect_writes}
use Rattle.gl_gov_rules.specs.Governed.{Follows, IsGoverned, IsBoundedProposal, IsBounded}
use Rattle.gl_gov_rules.proofs.Prefixes.{governed_more}
use Rattle.gl_gov_rules.proofs.Ranges.{are_changes, key_in_range, are_in_range}
use Rattle.gl_gov_rules.proofs.Bounded.{is_bounded}
use Rattle.gl_gov_rules.proofs.RowParts.{are_requests, requests_fit, members_fit, is_recorded_node, nodes_fit, is_made_proposal, proposals_fit, is_given_share, shares_fit}
use Rattle.gl_gov_rules.proofs.RowFormats.{rules_rows_fit, dealing_row_fits, member_row_fits, node_row_fits, service_row_fits, share_row_fits}
use Rattle.gl_gov_rules.proofs.ProposalFormats.{proposal_row_fits}
use Rattle.gl_gov_rules.proofs.NothingCarried.{nothing_carried}

-- all of these writes are within the limits
abbrev all_fit : List Write → Type 0
all_fit ws = list_all is_write ws ≡ true

pub fit-append : (xs ys : List Write) → all_fit xs → all_fit ys → all_fit (xs ++ ys)
fit-append xs ys one two = list_all-append is_write xs ys ∙ and_from (list_all is_write xs) (list_all is_write ys) one two

-- ---- rows of one table

member_rows_fit : (h : History) (ms : List NewMember) → list_all is_member ms ≡ true → all_fit (map member_write (map (member_row h) ms))
member_rows_fit h [] all = refl
member_rows_fit h (m ∷ ms) all =
    let both = and_parts (is_member m) (list_all is_member ms) all in
    and_from (is_write (member_write (member_row h m))) (list_all is_write (map member_write (map (member_row h) ms))) (member_row_fits h m both.0) (member_rows_fit h ms both.1)

pub members_rows_fit : (h : History) → list_all is_member (members h) ≡ true → all_fit (map member_write (member_rows h))
unfolding member_rows
members_rows_fit h all = member_rows_fit h (members h) all

node_rows_from_fit : (h : History) (order : ℕ) (ns : List RecordedNode) → list_all is_recorded_node ns ≡ true → AllByRecursion (λ (n : RecordedNode). length n.node.endorsement ≤ 2508) ns →
    all_fit (map node_write (node_rows_from h order ns))
node_rows_from_fit h order [] all short = refl
node_rows_from_fit h order (n ∷ ns) all short =
    let both = and_parts (is_recorded_node n) (list_all is_recorded_node ns) all in
    and_from (is_write (node_write (node_row h order n))) (list_all is_write (map node_write (node_rows_from h (suc order) ns)))
    (node_row_fits h order n both.0 short.0) (node_rows_from_fit h (suc order) ns both.1 short.1)

pub nodes_rows_fit : (h : History) → list_all is_recorded_node (nodes h) ≡ true → AllByRecursion (λ (n : RecordedNode). length n.node.endorsement ≤ 2508) (nodes h) → all_fit (map node_write (node_rows h))
unfolding node_rows
nodes_rows_fit h all short = node_rows_from_fit h 1 (nodes h) all short

proposal_rows_fit : (h : History) (ps : List Proposal) → list_all is_made_proposal ps ≡ true → AllByRecursion IsBoundedProposal ps →
    all_fit (map (λ (p : Proposal). proposal_write p.id (proposal_row h p)) ps)
proposal_rows_fit h [] all bounded = refl
proposal_rows_fit h (p ∷ ps) all bounded =
    let both = and_parts (is_made_proposal p) (list_all is_made_proposal ps) all in
    and_from (is_write (proposal_write p.id (proposal_row h p))) (list_all is_write (map (λ (q : Proposal). proposal_write q.id (proposal_row h q)) ps))
    (proposal_row_fits h p both.0 bounded.0) (proposal_rows_fit h ps both.1 bounded.1)

pub proposals_rows_fit : (h : History) → list_all is_made_proposal (proposals h) ≡ true → AllByRecursion IsBoundedProposal (proposals h) → all_fit (proposal_writes h)
unfolding proposal_writes
proposals_rows_fit h all bounded = proposal_rows_fit h (proposals h) all bounded

pub service_fits : (h : History) → are_changes h.changes ≡ true → all_fit (write_of service_write (service_row h))
unfolding service_row
service_fits h all = service_row_fits (service_state h) (is_recovered h) (identity h) (key_in_range h all)

pub share_rows_fit : (ss : List Share) → list_all is_given_share ss ≡ true → all_fit (map share_write ss)
share_rows_fit [] all = refl
share_rows_fit (s ∷ ss) all =
    let both = and_parts (is_given_share s) (list_all is_given_share ss) all in
    and_from (is_write (share_write s)) (list_all is_write (map share_write ss)) (share_row_fits s both.0) (share_rows_fit ss both.1)

-- ---- all rows

all_rows_fit : (h : History) → h.carried ≡ nothing → IsBounded h → are_changes h.changes ≡ true → are_requests h.requests ≡ true → all_fit (all_rows h)
unfolding all_rows
all_rows_fit h bare bounded changed asked =
    let rules = rule_writes_of (constitution h) in
    let dealt = write_of dealing_write (dealing h) in
    let membership = map member_write (member_rows h) in
    let recorded = map node_write (node_rows h) in
    let service = write_of service_write (service_row h) in
    let given = map share_write (shares_given h) in
    let a = fit-append rules dealt (rules_rows_fit (constitution h) bounded.rules) (dealing_row_fits (dealing h) bounded.dealt) in
    let b = fit-append (rules ++ dealt) membership a (members_rows_fit h (members_fit h changed)) in
    let c = fit-append (rules ++ dealt ++ membership) recorded b (nodes_rows_fit h (nodes_fit h bare asked) bounded.endorsements) in
    let d = fit-append (rules ++ dealt ++ membership ++ recorded) (proposal_writes h) c (proposals_rows_fit h (proposals_fit h bare asked) bounded.proposed) in
    let e = fit-append (rules ++ dealt ++ membership ++ recorded ++ proposal_writes h) service d (service_fits h changed) in
    fit-append (rules ++ dealt ++ membership ++ recorded ++ proposal_writes h ++ service) given e (share_rows_fit (shares_given h) (shares_fit h bare asked))

-- every row of requests that follow one another fits its format
pub rows_fit : (rs : List Recorded) → IsGoverned rs → list_all is_write (rows (history rs)) ≡ true
unfolding rows
rows_fit rs all =
    list_all-set_from is_write [] (all_rows (history rs)) refl (all_rows_fit (history rs) (nothing_carried rs) (is_bounded rs all) (are_in_range rs all).1 (requests_fit rs all))

-- ---- the writes of a request

kept_fit : (test : Write → Bool) (ws : List Write) → all_fit ws → all_fit (filter test ws)
kept_fit test [] all = refl
kept_fit test (w ∷ ws) all =
    let both = and_parts (is_write w) (list_all is_write ws) all in
    go (test w) both.0 (kept_fit test ws both.1)
  where
    go : (b : Bool) → is_write w ≡ true → all_fit (filter test ws) → all_fit (cond b (w ∷ filter test ws) (filter test ws))
    go true first rest = and_from (is_write w) (list_all is_write (filter test ws)) first rest
    go false first rest = rest

-- the removal of a row that fits does too
removal_fits : (w : Write) → is_write w ≡ true → is_write (removal_of w) ≡ true
removal_fits w fits = and_from (is_map_name w.map && is_key w.key) true (and_parts (is_map_name w.map && is_key w.key) (is_written_value w.value) fits).0 refl

removals_fit : (ws : List Write) → all_fit ws → all_fit (map removal_of ws)
removals_fit [] all = refl
removals_fit (w ∷ ws) all =
    let both = and_parts (is_write w) (list_all is_write ws) all in
    and_from (is_write (removal_of w)) (list_all is_write (map removal_of ws)) (removal_fits w both.0) (removals_fit ws both.1)

-- the changes from rows that fit to others that do
pub changes_fit : (before after : List Write) → all_fit before → all_fit after → all_fit (changes before after)
changes_fit before after old new =
    list_all-set_from is_write [] (changes_listed before after) refl
    (fit-append (filter (is_changed before) after) (map removal_of (filter (is_gone after) before))
    (kept_fit (is_changed before) after new) (removals_fit (filter (is_gone after) before) (kept_fit (is_gone after) before old)))

-- every write of a request that follows others fits its format
pub effect_fits : (rs : List Recorded) (r : Recorded) → IsGoverned rs → Follows rs r → list_all is_write (effect_writes rs r) ≡ true
effect_fits rs r all follows =
    changes_fit (rows (history rs)) (rows (history (rs ++ r ∷ []))) (rows_fit rs all) (rows_fit (rs ++ r ∷ []) (governed_more rs r all follows))
