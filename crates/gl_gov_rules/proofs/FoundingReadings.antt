-- What is read off the history of a founding alone.
use Rattle.std.proofs.Common.{◌≡◌, ℕ, List, [], ◌∷◌, map, filter, filter_map, Option, Some, None, is_some, Bool, true, false, ◌&&◌, cond, find, nat_lt, if◌then◌else◌, refl, ◌∙◌, ap, append-nil}
use Rattle.std.specs.Option.{option_or}
use Rattle.std.specs.List.{list_any, cons_option}
use Rattle.std.proofs.lemmas.Bool.{cond-false}
use Rattle.gl_vmaps.specs.LastWrite.{last_such}
use Rattle.gl_vmaps.proofs.LastWrites.{last_such-cons}
use Rattle.gl_shares.specs.declared.share.Share.{Share}
use Rattle.gl_requests.specs.Encoding.{node_id}
use Rattle.gl_requests.specs.declared.genesis.NewMember.{NewMember}
use Rattle.gl_requests.specs.declared.genesis.NewNode.{NewNode}
use Rattle.gl_requests.specs.declared.genesis.Genesis as founding
use Rattle.gl_requests.specs.declared.action.Action.TheVariants as actions
use Rattle.gl_requests.specs.declared.request.GovernanceRequest.TheVariants as requests
use Rattle.gl_gov_rules.specs.declared.change.Recorded.{Recorded}
use Rattle.gl_gov_rules.specs.declared.change.RecordedNode.{RecordedNode}
use Rattle.gl_gov_rules.specs.declared.change.Change.{Change}
use Rattle.gl_gov_rules.specs.declared.change.Change.TheVariants as changes
use Rattle.gl_gov_rules.specs.declared.change.Changed.{Changed}
use Rattle.gl_gov_rules.specs.declared.refusal.MemberStatus.TheVariants as member_statuses
use Rattle.gl_gov_rules.specs.declared.refusal.NodeStatus.TheVariants as node_statuses
use Rattle.gl_gov_rules.specs.History.{History, set_by, last_set}
use Rattle.gl_gov_rules.specs.Members.{member_named, members, removes_member, is_removed, has_acked, member_status, next_leaf}
use Rattle.gl_gov_rules.specs.Nodes.{recorded_node, nodes, retires, retirement, is_marked, was_trusted, node_status, is_trusted_status, trusted}
use Rattle.gl_gov_rules.specs.Service.{sets_rules, constitution, sets_dealing, dealing, sets_identity, identity, is_recovery, is_recovered, sets_state, service_state, last_clearing, share_after, shares_given}
use Rattle.gl_gov_rules.specs.Proposals.{proposals}
use Rattle.gl_gov_rules.specs.Changes.{first_rules, set_member, founding_changes, changes_of, changed_at, with_request, history}
use Rattle.gl_gov_rules.proofs.NothingCarried.{nothing_carried, nodes_asked, proposals_asked, marked_asked, acked_asked, leaf_asked, shares_asked}

-- ---- the history of a founding

-- the request that founds a service, in the first entry
abbrev pub founding_recorded : founding.Genesis → Recorded
founding_recorded g = record { seqno = 1; request = requests.Genesis g }

-- the history of a founding alone
abbrev pub founded : founding.Genesis → History
founded g = history (founding_recorded g ∷ [])

-- the changes that the members of a founding come by
abbrev pub member_changes : List NewMember → List Changed
member_changes ms = map (changed_at 1) (map set_member ms)

pub founded_requests : (g : founding.Genesis) → (founded g).requests ≡ founding_recorded g ∷ []
unfolding history with_request
founded_requests g = refl

pub founded_changes : (g : founding.Genesis) → (founded g).changes ≡ map (changed_at 1) (founding_changes g)
unfolding history with_request changes_of
founded_changes g = refl

-- ---- the last thing set

-- where no member's change is such, none is
no_such_member : (is_such : Changed → Bool) → ((m : NewMember) → is_such (changed_at 1 (set_member m)) ≡ false) → (ms : List NewMember) → last_such is_such (member_changes ms) ≡ None
no_such_member is_such none [] = refl
no_such_member is_such none (m ∷ ms) =
    let c : Changed = changed_at 1 (set_member m) in
    last_such-cons is_such c (member_changes ms)
    ∙ ap (λ (o : Option Changed). option_or o (cond (is_such c) (Some c) None)) (no_such_member is_such none ms)
    ∙ cond-false (is_such c) (Some c) None (none m)

-- the last that is such is the dealing, else the constitution, else the founding
last_of_three : (is_such : Changed → Bool) → ((m : NewMember) → is_such (changed_at 1 (set_member m)) ≡ false) → (a b c : Changed) (ms : List NewMember) →
    last_such is_such (a ∷ b ∷ c ∷ member_changes ms) ≡ option_or (option_or (cond (is_such c) (Some c) None) (cond (is_such b) (Some b) None)) (cond (is_such a) (Some a) None)
last_of_three is_such none a b c ms =
    last_such-cons is_such a (b ∷ c ∷ member_changes ms)
    ∙ ap (λ (o : Option Changed). option_or o (cond (is_such a) (Some a) None))
    (last_such-cons is_such b (c ∷ member_changes ms)
    ∙ ap (λ (o : Option Changed). option_or o (cond (is_such b) (Some b) None))
    (last_such-cons is_such c (member_changes ms)
    ∙ ap (λ (o : Option Changed). option_or o (cond (is_such c) (Some c) None)) (no_such_member is_such none ms)))

last_founded : {A : Type 0} (g : founding.Genesis) (sets : Change → Option A) → ((m : NewMember) → sets (set_member m) ≡ None) →
    last_set sets (founded g).changes
    ≡ set_by sets (option_or (option_or (cond (is_some (sets (changes.Applied (actions.SetRecoveryThreshold g.dealing)))) (Some (changed_at 1 (changes.Applied (actions.SetRecoveryThreshold g.dealing)))) None)
    (cond (is_some (sets (changes.Applied (actions.SetConstitution first_rules)))) (Some (changed_at 1 (changes.Applied (actions.SetConstitution first_rules)))) None))
    (cond (is_some (sets (changes.Founded g.state g.identity))) (Some (changed_at 1 (changes.Founded g.state g.identity))) None))
last_founded g sets none =
    ap (last_set sets) (founded_changes g)
    ∙ ap (set_by sets)
    (last_of_three (λ (c : Changed). is_some (sets c.change)) (λ m. ap is_some (none m)) (changed_at 1 (changes.Founded g.state g.identity)) (changed_at 1 (changes.Applied (actions.SetConstitution first_rules)))
    (changed_at 1 (changes.Applied (actions.SetRecoveryThreshold g.dealing))) g.members)

-- ---- the service

pub founding_identity : (g : founding.Genesis) → identity (founded g) ≡ Some g.identity
unfolding identity
founding_identity g = last_founded g sets_identity (λ m. refl)

pub founding_constitution : (g : founding.Genesis) → constitution (founded g) ≡ Some first_rules
unfolding constitution
founding_constitution g = last_founded g sets_rules (λ m. refl)

pub founding_dealing : (g : founding.Genesis) → dealing (founded g) ≡ Some g.dealing
unfolding dealing
founding_dealing g = last_founded g sets_dealing (λ m. refl)

pub founding_state : (g : founding.Genesis) → service_state (founded g) ≡ Some g.state
unfolding service_state
founding_state g = last_founded g (sets_state (is_recovered (founded g))) (λ m. refl)

-- no change of a founding is such, where no first one and no member's is
no_member_such : (is_such : Changed → Bool) → ((m : NewMember) → is_such (changed_at 1 (set_member m)) ≡ false) → (ms : List NewMember) → list_any is_such (member_changes ms) ≡ false
no_member_such is_such none [] = refl
no_member_such is_such none (m ∷ ms) = rw (none m) (no_member_such is_such none ms)

pub founding_unrecovered : (g : founding.Genesis) → is_recovered (founded g) ≡ false
unfolding is_recovered
founding_unrecovered g = rw (founded_changes g) (no_member_such (λ (c : Changed). is_recovery c.change) (λ m. refl) g.members)

pub founding_shares : (g : founding.Genesis) → shares_given (founded g) ≡ []
founding_shares g =
    shares_asked (founded g) (nothing_carried (founding_recorded g ∷ [])) ∙ ap (filter_map (share_after (last_clearing (founded g)))) (founded_requests g) ∙ by (nat_lt (last_clearing (founded g)) 1)
  where
    by : (b : Bool) → cons_option {X = Share} (if b then None else None) [] ≡ []
    by true = refl
    by false = refl

pub founding_proposals : (g : founding.Genesis) → proposals (founded g) ≡ []
founding_proposals g = rw (proposals_asked (founded g) (nothing_carried (founding_recorded g ∷ [])), founded_requests g) refl

-- ---- members

members_named : (ms : List NewMember) → filter_map (λ (c : Changed). member_named c.change) (member_changes ms) ≡ ms
members_named [] = refl
members_named (m ∷ ms) = ap (λ (xs : List NewMember). m ∷ xs) (members_named ms)

pub founding_members : (g : founding.Genesis) → members (founded g) ≡ g.members
unfolding members
founding_members g = rw (founded_changes g) (members_named g.members)

unremoved : (g : founding.Genesis) (number : ℕ) → is_removed (founded g) number ≡ false
unfolding is_removed
unremoved g number = rw (founded_changes g) (no_member_such (λ (c : Changed). removes_member number c.change) (λ m. refl) g.members)

unacked : (g : founding.Genesis) (number : ℕ) → has_acked (founded g) number ≡ false
unacked g number = rw (acked_asked (founded g) number (nothing_carried (founding_recorded g ∷ [])), founded_requests g) refl

-- no member has acknowledged the service or signed anything
pub founding_member_status : (g : founding.Genesis) (number : ℕ) → member_status (founded g) number ≡ member_statuses.Accepted
unfolding member_status
founding_member_status g number = rw (unremoved g number, unacked g number) refl

pub founding_next_leaf : (g : founding.Genesis) (number : ℕ) → next_leaf (founded g) number ≡ 0
founding_next_leaf g number = rw (leaf_asked (founded g) number (nothing_carried (founding_recorded g ∷ [])), founded_requests g) refl

-- ---- nodes

pub founding_nodes : (g : founding.Genesis) → nodes (founded g) ≡ map (recorded_node 1 true) g.nodes
founding_nodes g = rw (nodes_asked (founded g) (nothing_carried (founding_recorded g ∷ [])), founded_requests g) (append-nil (map (recorded_node 1 true) g.nodes))

ids_recorded : (ns : List NewNode) → map (λ (n : RecordedNode). n.id) (map (recorded_node 1 true) ns) ≡ map node_id ns
ids_recorded [] = refl
ids_recorded (n ∷ ns) = ap (λ (ids : List (List ℕ)). node_id n ∷ ids) (ids_recorded ns)

pub founding_ids : (g : founding.Genesis) → map (λ (n : RecordedNode). n.id) (nodes (founded g)) ≡ map node_id g.nodes
founding_ids g = ap (map (λ (n : RecordedNode). n.id)) (founding_nodes g) ∙ ids_recorded g.nodes

-- no node is taken out of service, or marked

and_no : (b : Bool) → (b && false) ≡ false
and_no true = refl
and_no false = refl

find_no_member : (is_such : Changed → Bool) → ((m : NewMember) → is_such (changed_at 1 (set_member m)) ≡ false) → (ms : List NewMember) → find is_such (member_changes ms) ≡ None
find_no_member is_such none [] = refl
find_no_member is_such none (m ∷ ms) = rw (none m) (find_no_member is_such none ms)

pub founding_unretired : (g : founding.Genesis) (n : RecordedNode) → retirement (founded g) n ≡ None
unfolding retirement
founding_unretired g n =
    let out : Changed → Bool = λ (c : Changed). nat_lt n.seqno c.seqno && retires n.id c.change in
    rw (founded_changes g, and_no (nat_lt n.seqno 1)) (find_no_member out (λ m. and_no (nat_lt n.seqno 1)) g.members)

pub founding_unmarked : (g : founding.Genesis) (id : List ℕ) → is_marked (founded g) id ≡ false
founding_unmarked g id = rw (marked_asked (founded g) id (nothing_carried (founding_recorded g ∷ [])), founded_requests g) refl

pub founding_node_status : (g : founding.Genesis) (n : NewNode) → node_status (founded g) (recorded_node 1 true n) ≡ node_statuses.Trusted
unfolding node_status was_trusted
founding_node_status g n = rw (founding_unmarked g (node_id n), founding_unretired g (recorded_node 1 true n)) refl

all_trusted : (g : founding.Genesis) (ns : List NewNode) →
    filter (λ (n : RecordedNode). is_trusted_status (node_status (founded g) n)) (map (recorded_node 1 true) ns) ≡ map (recorded_node 1 true) ns
all_trusted g [] = refl
all_trusted g (n ∷ ns) = rw (founding_node_status g n) (ap (λ (xs : List RecordedNode). recorded_node 1 true n ∷ xs) (all_trusted g ns))

pub founding_trusted : (g : founding.Genesis) → trusted (founded g) ≡ map node_id g.nodes
unfolding trusted
founding_trusted g =
    let id : RecordedNode → List ℕ = λ (n : RecordedNode). n.id in
    let is_in : RecordedNode → Bool = λ (n : RecordedNode). is_trusted_status (node_status (founded g) n) in
    ap (λ (ns : List RecordedNode). map id (filter is_in ns)) (founding_nodes g) ∙ ap (map id) (all_trusted g g.nodes) ∙ ids_recorded g.nodes
