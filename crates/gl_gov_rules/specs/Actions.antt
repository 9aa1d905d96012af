-- When an action is bad, and what a proposal's actions come to when they are applied in order.
use Rattle.std.specs.Prelude.{ℕ, ◌+◌, List, [], ◌∷◌, ◌++◌, Option, None, Some, Bool, true, false, ◌&&◌, ◌||◌, not, length, count_by, is_none, nat_le, nat_lt, nat_eq, ◌==◌, if◌then◌else◌}
use Rattle.std.specs.List.{list_any, list_all}
use Rattle.gl_base.specs.Bytes.{same_bytes}
use Rattle.gl_requests.specs.declared.genesis.ServiceState.{ServiceState}
use Rattle.gl_requests.specs.declared.genesis.ServiceState.TheVariants as services
use Rattle.gl_requests.specs.declared.genesis.NewMember.{NewMember}
use Rattle.gl_requests.specs.declared.genesis.ShareDigest.{ShareDigest}
use Rattle.gl_requests.specs.declared.genesis.Dealing.{Dealing}
use Rattle.gl_requests.specs.declared.action.Rule.{Rule}
use Rattle.gl_requests.specs.declared.action.Action.{Action}
use Rattle.gl_requests.specs.declared.action.Action.TheVariants as actions
use Rattle.gl_gov_rules.specs.declared.change.RecordedNode.{RecordedNode}
use Rattle.gl_gov_rules.specs.declared.change.Change.TheVariants as changes
use Rattle.gl_gov_rules.specs.declared.refusal.Cause.{Cause}
use Rattle.gl_gov_rules.specs.declared.refusal.Cause.TheVariants as causes
use Rattle.gl_gov_rules.specs.History.{History}
use Rattle.gl_gov_rules.specs.Members.{has_number, members, is_present, present_count}
use Rattle.gl_gov_rules.specs.Nodes.{node, node_status, is_pending_status, is_trusted_status, trusted_count}
use Rattle.gl_gov_rules.specs.Service.{dealing, threshold_of, service_state}

-- The first of two that stands: what is after is tried only where the first doesn't stand.
infixl 10 ◌orelse◌
abbrev pub ◌orelse◌ : {R : Type 0} → Option R → Option R → Option R
(Some r) orelse after = Some r
None orelse after = after

abbrev pub where_is : {R : Type 0} → Bool → R → Option R
where_is bad r = if bad then Some r else None

-- Members

-- The number, or the key, is one that a member has or had.
unfoldable pub is_number_used : History → ℕ → Bool
is_number_used h number = list_any (has_number number) (members h)

abbrev pub has_key : List ℕ → NewMember → Bool
has_key key m = same_bytes m.key key

unfoldable pub is_key_used : History → List ℕ → Bool
is_key_used h key = list_any (has_key key) (members h)

-- Dealings

-- The shares are for members in ascending order.
abbrev pub is_below_all : ℕ → List ShareDigest → Bool
is_below_all number shares = list_all (λ (s : ShareDigest). nat_lt number s.member) shares

abbrev pub is_ascending : List ShareDigest → Bool
is_ascending [] = true
is_ascending (s ∷ shares) = is_below_all s.member shares && is_ascending shares

-- The threshold is at least 1, and there are as many shares, for members in ascending order.
abbrev pub is_dealing_in_order : Dealing → Bool
is_dealing_in_order d =
    nat_le 1 d.threshold && nat_le d.threshold (length d.shares) && is_ascending d.shares

-- All who are to hold these shares are present.
unfoldable pub are_present : History → List ShareDigest → Bool
are_present h shares = list_all (λ (s : ShareDigest). is_present h s.member) shares

-- The dealing is one among members that are present.
unfoldable pub is_dealing_among : History → Dealing → Bool
is_dealing_among h d = is_dealing_in_order d && are_present h d.shares

-- How many holders of a share would be left without this member.
abbrev pub holders_without : History → ℕ → Option Dealing → ℕ
holders_without h number None = 0
holders_without h number (Some d) =
    count_by (λ (s : ShareDigest). is_present h s.member && not (nat_eq s.member number)) d.shares

unfoldable pub are_too_few_without : History → ℕ → Bool
are_too_few_without h number =
    nat_lt (holders_without h number (dealing h)) (threshold_of (dealing h))

-- Nodes

abbrev pub is_pending_node : History → Option RecordedNode → Bool
is_pending_node h None = false
is_pending_node h (Some n) = is_pending_status (node_status h n)

abbrev pub is_trusted_node : History → Option RecordedNode → Bool
is_trusted_node h None = false
is_trusted_node h (Some n) = is_trusted_status (node_status h n)

-- The constitution: each numerator is below its denominator, which is at most 1,000.
abbrev pub is_fraction : Rule → Bool
is_fraction r = nat_lt r.num r.den && nat_le r.den 1000

abbrev pub are_fractions : List Rule → Bool
are_fractions rules = list_all is_fraction rules

abbrev pub is_opening : Option ServiceState → Bool
is_opening (Some services.Opening) = true
is_opening other = false

-- Why an action can't be applied after a history, if it can't: the first cause that stands.
unfoldable pub cause_against : History → Action → Option Cause
cause_against h (actions.SetMember m) =
    where_is (is_number_used h m.number) causes.NumberUsed
    orelse where_is (is_key_used h m.key) causes.KeyUsed
    orelse where_is (nat_le 64 (present_count h)) causes.Full
cause_against h (actions.RemoveMember number) =
    where_is (not (is_present h number)) causes.NotPresent
    orelse where_is (are_too_few_without h number) causes.TooFewHolders
cause_against h (actions.SetRecoveryThreshold d) =
    where_is (not (is_dealing_among h d)) causes.Dealing
cause_against h (actions.TransitionNodeToTrusted id) =
    where_is (is_none (node h id)) causes.NotRecorded
    orelse where_is (not (is_pending_node h (node h id))) causes.NodeStatus
    orelse where_is (nat_le 32 (trusted_count h)) causes.Full
cause_against h (actions.RemoveNode id) =
    where_is (is_none (node h id)) causes.NotRecorded
    orelse where_is (not (is_pending_node h (node h id) || is_trusted_node h (node h id)))
    causes.NodeStatus
    orelse where_is (is_trusted_node h (node h id) && (trusted_count h == 1)) causes.LastTrusted
cause_against h actions.TransitionServiceToOpen =
    where_is (not (is_opening (service_state h))) causes.NotOpening
cause_against h (actions.SetConstitution rules) =
    where_is (not (are_fractions rules)) causes.Fraction

-- The history with one more action applied, by the entry with a seqno.
abbrev pub with_applied : History → ℕ → Action → History
with_applied h seqno a = record h {
  changes = h.changes ++ record { seqno = seqno; change = changes.Applied a } ∷ [];
}

-- The index, counted on from one, and the cause of the first action that is bad when they are
-- applied in order.
abbrev pub at_index : ℕ → Option Cause → Option (ℕ × Cause)
at_index index None = None
at_index index (Some cause) = Some (index, cause)

abbrev pub first_bad_action : History → ℕ → ℕ → List Action → Option (ℕ × Cause)
first_bad_action h seqno index [] = None
first_bad_action h seqno index (a ∷ rest) =
    at_index index (cause_against h a)
    orelse first_bad_action (with_applied h seqno a) seqno (index + 1) rest
