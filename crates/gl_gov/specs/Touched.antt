-- Which rows of the governance tables a request can change, by their map and key. All others are
-- the same after it.
use Rattle.std.specs.Prelude.{ℕ, List, [], ◌∷◌, ◌++◌, Option, None, Some, Bool, true, false, ◌||◌, is_some, map, filter, if◌then◌else◌}
use Rattle.std.specs.List.{list_any}
use Rattle.std.specs.Option.{option_to_list}
use Rattle.gl_base.specs.Bytes.{same_bytes}
use Rattle.gl_vmaps.specs.declared.write.Write.{Write}
use Rattle.gl_requests.specs.Encoding.{node_id}
use Rattle.gl_requests.specs.declared.request.GovernanceRequest.{GovernanceRequest}
use Rattle.gl_requests.specs.declared.request.GovernanceRequest.TheVariants as requests
use Rattle.gl_gov_rules.specs.declared.change.Recorded.{Recorded}
use Rattle.gl_gov_rules.specs.declared.change.Proposal.{Proposal}
use Rattle.gl_gov_rules.specs.declared.change.Change.{Change}
use Rattle.gl_gov_rules.specs.History.{History}
use Rattle.gl_gov_rules.specs.Service.{share_in}
use Rattle.gl_gov_rules.specs.Proposals.{proposals, proposal_state, is_open_state}
use Rattle.gl_gov_rules.specs.ProposalStatus.{proposal_named}
use Rattle.gl_gov_rules.specs.Changes.{changes_of}
use Rattle.gl_gov_rules.specs.Rows.{members_map, nodes_map, proposals_map}
use Rattle.gl_gov.specs.declared.touched.Touched.{Touched}
use Rattle.gl_gov.specs.declared.touched.Selection.{Selection}
use Rattle.gl_gov.specs.declared.touched.Selection.TheVariants as selections

-- What a request names

-- The member who signed a request.
abbrev pub signer : GovernanceRequest → Option ℕ
signer (requests.Member m) = Some m.member
signer other = None

-- The identifier of the node that joins, or that is marked.
abbrev pub node_named : GovernanceRequest → Option (List ℕ)
node_named (requests.Join n) = Some (node_id n)
node_named (requests.Mark id) = Some id
node_named other = None

-- The identifiers of the proposals that are open.
abbrev pub is_open : History → Proposal → Bool
is_open h p = is_open_state (proposal_state h p)

abbrev pub open_ids : History → List (List ℕ)
open_ids h = map (λ (p : Proposal). p.id) (filter (is_open h) (proposals h))

-- A request that changes more brings changes about, or gives a share.
abbrev pub are_any : List Change → Bool
are_any [] = false
are_any (c ∷ cs) = true

unfoldable pub changes_more : History → Recorded → Bool
changes_more h r = are_any (changes_of h r) || is_some (share_in r.request)

-- The proposal that a request names, and where it changes more all that are open.
abbrev pub ids_touched : Bool → History → GovernanceRequest → List (List ℕ)
ids_touched is_more h request =
    option_to_list (proposal_named request) ++ (if is_more then open_ids h else [])

-- What a request after a history touches.
abbrev pub touched_by : History → Recorded → Touched
touched_by h r = record {
  changes_more = changes_more h r;
  member = signer r.request;
  node = node_named r.request;
  proposals = ids_touched (changes_more h r) h r.request;
}

-- Which rows these are

-- A member's row has its number as its key.
abbrev pub is_key_of : Option ℕ → List ℕ → Bool
is_key_of None key = false
is_key_of (Some number) key = same_bytes (number ∷ []) key

abbrev pub is_id_of : Option (List ℕ) → List ℕ → Bool
is_id_of None id = false
is_id_of (Some named) id = same_bytes id named

-- A request that changes more can change each row but those of proposals that are neither named nor
-- open. Any other changes those that it names alone.
abbrev pub touches_member : Touched → List ℕ → Bool
touches_member t key = t.changes_more || is_key_of t.member key

abbrev pub touches_node : Touched → List ℕ → Bool
touches_node t id = t.changes_more || is_id_of t.node id

abbrev pub touches_proposal : Touched → List ℕ → Bool
touches_proposal t id = list_any (same_bytes id) t.proposals

unfoldable pub is_touched : Touched → Write → Bool
is_touched t w =
    if same_bytes w.map members_map then touches_member t w.key
    else (if same_bytes w.map nodes_map then touches_node t w.key
    else (if same_bytes w.map proposals_map then touches_proposal t w.key else t.changes_more))

-- Which rows are made: all, or those that are touched

abbrev pub selects_settings : Selection → Bool
selects_settings selections.All = true
selects_settings (selections.Touched t) = t.changes_more

abbrev pub selects_member : Selection → ℕ → Bool
selects_member selections.All number = true
selects_member (selections.Touched t) number = touches_member t (number ∷ [])

abbrev pub selects_node : Selection → List ℕ → Bool
selects_node selections.All id = true
selects_node (selections.Touched t) id = touches_node t id

abbrev pub selects_proposal : Selection → List ℕ → Bool
selects_proposal selections.All id = true
selects_proposal (selections.Touched t) id = touches_proposal t id

unfoldable pub is_selected : Selection → Write → Bool
is_selected selections.All w = true
is_selected (selections.Touched t) w = is_touched t w
