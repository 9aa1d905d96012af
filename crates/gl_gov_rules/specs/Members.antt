-- Who the members are and were, and the status of each (CCF documentation, "Members").
use Rattle.std.specs.Prelude.{ℕ, suc, List, Option, None, Some, Bool, true, false, ◌&&◌, ◌||◌, not, find, filter_map, count_by, is_some, nat_eq, if◌then◌else◌}
use Rattle.std.specs.List.{list_any}
use Rattle.gl_vmaps.specs.LastWrite.{last_such}
use Rattle.gl_requests.specs.declared.genesis.NewMember.{NewMember}
use Rattle.gl_requests.specs.declared.action.Action.TheVariants as actions
use Rattle.gl_requests.specs.declared.request.MemberAct.{MemberAct}
use Rattle.gl_requests.specs.declared.request.MemberAct.TheVariants as acts
use Rattle.gl_requests.specs.declared.request.GovernanceRequest.{GovernanceRequest}
use Rattle.gl_requests.specs.declared.request.GovernanceRequest.TheVariants as requests
use Rattle.gl_gov_rules.specs.declared.change.Recorded.{Recorded}
use Rattle.gl_gov_rules.specs.declared.change.Change.{Change}
use Rattle.gl_gov_rules.specs.declared.change.Change.TheVariants as changes
use Rattle.gl_gov_rules.specs.declared.change.Changed.{Changed}
use Rattle.gl_gov_rules.specs.declared.refusal.MemberStatus.{MemberStatus}
use Rattle.gl_gov_rules.specs.declared.refusal.MemberStatus.TheVariants as statuses
use Rattle.gl_gov_rules.specs.History.{History, SignedBy}
use Rattle.gl_gov_rules.specs.Signatures.{leaf_of}

-- The member whom a change names. Those of a founding come as applied actions.
abbrev pub member_named : Change → Option NewMember
member_named (changes.Applied (actions.SetMember m)) = Some m
member_named other = None

-- All members that there ever were, in the order in which they came.
unfoldable pub members : History → List NewMember
members h = filter_map (λ (c : Changed). member_named c.change) h.changes

-- The member with this number, if there ever was one.
abbrev pub has_number : ℕ → NewMember → Bool
has_number number m = nat_eq m.number number

unfoldable pub member : History → ℕ → Option NewMember
member h number = find (has_number number) (members h)

-- The change is the applied removal of this member.
abbrev pub removes_member : ℕ → Change → Bool
removes_member number (changes.Applied (actions.RemoveMember n)) = nat_eq n number
removes_member number other = false

-- A removal of the member was applied.
unfoldable pub is_removed : History → ℕ → Bool
is_removed h number = list_any (λ (c : Changed). removes_member number c.change) h.changes

-- A member signed the request.
abbrev pub is_by : ℕ → GovernanceRequest → Bool
is_by number (requests.Member m) = nat_eq m.member number
is_by number other = false

-- It is the member's Ack.
abbrev pub is_ack : MemberAct → Bool
is_ack acts.Ack = true
is_ack other = false

abbrev pub is_ack_by : ℕ → GovernanceRequest → Bool
is_ack_by number (requests.Member m) = nat_eq m.member number && is_ack m.act
is_ack_by number other = false

-- What is carried is of the member, and tells its Ack.
abbrev pub is_signer : ℕ → SignedBy → Bool
is_signer number s = nat_eq s.member number

abbrev pub is_acked_by : ℕ → SignedBy → Bool
is_acked_by number s = nat_eq s.member number && s.is_ack

-- The member's Ack stands.
unfoldable pub has_acked : History → ℕ → Bool
has_acked h number =
    list_any (is_acked_by number) h.carried.signed
    || list_any (λ (r : Recorded). is_ack_by number r.request) h.requests

-- A member is Removed where a removal of it was applied, else Active where its Ack stands, else
-- Accepted.
unfoldable pub member_status : History → ℕ → MemberStatus
member_status h number =
    if is_removed h number then statuses.Removed
    else (if has_acked h number then statuses.Active else statuses.Accepted)

-- There is such a member, and it was not removed.
unfoldable pub is_present : History → ℕ → Bool
is_present h number = is_some (member h number) && not (is_removed h number)

-- It is present, and its Ack stands.
unfoldable pub is_active : History → ℕ → Bool
is_active h number = is_present h number && has_acked h number

-- How many members are present, and how many active.
unfoldable pub present_count : History → ℕ
present_count h = count_by (λ (m : NewMember). is_present h m.number) (members h)

unfoldable pub active_count : History → ℕ
active_count h = count_by (λ (m : NewMember). is_active h m.number) (members h)

-- 1 plus the leaf that signed a request, if a member did.
abbrev pub leaf_after : GovernanceRequest → ℕ
leaf_after (requests.Member m) = suc (leaf_of m.signature)
leaf_after other = 0

-- That of the last request; where there is none, what is carried.
abbrev pub leaf_after_last : ℕ → Option Recorded → ℕ
leaf_after_last carried None = carried
leaf_after_last carried (Some r) = leaf_after r.request

abbrev pub leaf_carried : Option SignedBy → ℕ
leaf_carried None = 0
leaf_carried (Some s) = s.next_leaf

-- 1 plus the leaf of the last request that the member signed, 0 without one.
unfoldable pub next_leaf : History → ℕ → ℕ
next_leaf h number =
    leaf_after_last (leaf_carried (find (is_signer number) h.carried.signed))
    (last_such (λ (r : Recorded). is_by number r.request) h.requests)
