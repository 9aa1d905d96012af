-- The actions of a proposal that are tried in order: each after the history with those before it
-- applied.
use Rattle.std.specs.Prelude.{ℕ, List, ◌++◌, Bool, true, false, map, if◌then◌else◌}
use Rattle.gl_requests.specs.declared.genesis.NewMember.{NewMember}
use Rattle.gl_requests.specs.declared.action.Action.{Action}
use Rattle.gl_requests.specs.declared.action.Action.TheVariants as actions
use Rattle.gl_gov_rules.specs.declared.change.Changed.{Changed}
use Rattle.gl_gov_rules.specs.declared.change.Change.TheVariants as changes
use Rattle.gl_gov_rules.specs.declared.refusal.NodeStatus.{NodeStatus}
use Rattle.gl_gov_rules.specs.declared.refusal.NodeStatus.TheVariants as statuses
use Rattle.gl_gov_rules.specs.History.{History}

-- An action that the entry with a seqno applies.
abbrev pub applied_at : ℕ → Action → Changed
applied_at seqno a = record { seqno = seqno; change = changes.Applied a }

-- The history with these actions applied, in order.
abbrev pub with_all_applied : History → ℕ → List Action → History
with_all_applied h seqno list = record h { changes = h.changes ++ map (applied_at seqno) list }

-- The action takes in a member that passes.
abbrev pub takes_in : (NewMember → Bool) → Action → Bool
takes_in passes (actions.SetMember m) = passes m
takes_in passes other = false

-- The action opens the service.
abbrev pub opens : Action → Bool
opens actions.TransitionServiceToOpen = true
opens other = false

-- The status of a node after actions, of which one retires it or trusts it.
abbrev pub status_after : Bool → Bool → NodeStatus → NodeStatus
status_after retired is_trusted statuses.Pending =
    if retired then statuses.Retired
    else (if is_trusted then statuses.Trusted else statuses.Pending)
status_after retired is_trusted statuses.Trusted =
    if retired then statuses.Retired else statuses.Trusted
status_after retired is_trusted other = other
