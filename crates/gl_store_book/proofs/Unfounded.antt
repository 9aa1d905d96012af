-- Before a service is founded each request that founds none is refused.
use Rattle.std.proofs.Common.{◌≡◌, ℕ, List, [], None, Bool, true, false, not, refl, sym, ap, ◌∙◌}
use Rattle.gl_requests.specs.declared.genesis.NewNode.{NewNode}
use Rattle.gl_requests.specs.declared.request.MemberRequest.{MemberRequest}
use Rattle.gl_requests.specs.declared.request.GovernanceRequest.{GovernanceRequest}
use Rattle.gl_requests.specs.declared.request.GovernanceRequest.TheVariants as requests
use Rattle.gl_gov_rules.specs.declared.refusal.GovernanceRefusal.TheVariants as refusals
use Rattle.gl_gov_rules.specs.Actions.{◌orelse◌, where_is}
use Rattle.gl_gov_rules.specs.History.{no_history}
use Rattle.gl_gov_rules.specs.Changes.{history}
use Rattle.gl_gov_rules.specs.Governed.{is_founding, is_recovery}
use Rattle.gl_gov_rules.specs.Members.{members, member, is_present}
use Rattle.gl_gov_rules.specs.Nodes.{nodes, node}
use Rattle.gl_gov_rules.specs.Service.{identity}
use Rattle.gl_gov_rules.specs.Signatures.{is_endorsed}
use Rattle.gl_gov_rules.specs.Refusals.{key_in_force, room_refusal, join_refusal, mark_refusal, signed_refusal, act_refusal, refusal}
use Rattle.gl_requests.specs.Encoding.{node_id}
use Rattle.gl_gov_rules.proofs.Endorsements.{unendorsed}
use Rattle.gl_gov_rules.proofs.Prefixes.{history_of_none}

-- no key endorses a node
no_key : key_in_force (identity no_history) ≡ []
unfolding identity
no_key = refl

join_refused : (n : NewNode) → join_refusal no_history n ≡ None → ⊥
unfolding join_refusal
join_refused n h =
    let none : is_endorsed (key_in_force (identity no_history)) n.key n.endorsement ≡ false = ap (λ (key : List ℕ). is_endorsed key n.key n.endorsement) no_key ∙ unendorsed n.key n.endorsement in
    go (is_endorsed (key_in_force (identity no_history)) n.key n.endorsement) none h
  where
    go : (b : Bool) → b ≡ false → where_is (not b) refusals.Signature orelse room_refusal no_history (node_id n) ≡ None → ⊥
    go true is w = absurd (cc)
    go false is w = absurd (cc)

-- there is no node to mark
mark_refused : (id : List ℕ) → mark_refusal no_history id ≡ None → ⊥
unfolding mark_refusal node nodes
mark_refused id h = absurd (cc)

-- there are no members
member_refused : (seqno : ℕ) (m : MemberRequest) → signed_refusal no_history m orelse act_refusal no_history seqno m m.act ≡ None → ⊥
unfolding signed_refusal is_present member members
member_refused seqno m h = absurd (cc)

refused : (seqno : ℕ) (g : GovernanceRequest) → is_founding g ≡ false → is_recovery g ≡ false → refusal no_history seqno g ≡ None → ⊥
unfolding refusal
refused seqno (requests.Genesis g) other again h = absurd (cc)
refused seqno (requests.Recover r) other again h = absurd (cc)
refused seqno (requests.Join n) other again h = join_refused n h
refused seqno (requests.Mark id) other again h = mark_refused id h
refused seqno (requests.Member m) other again h = member_refused seqno m h

pub unfounded : (seqno : ℕ) (g : GovernanceRequest) → is_founding g ≡ false → is_recovery g ≡ false → refusal (history []) seqno g ≡ None → ⊥
unfounded seqno g other again h = refused seqno g other again (sym (ap (λ past. refusal past seqno g) history_of_none) ∙ h)
