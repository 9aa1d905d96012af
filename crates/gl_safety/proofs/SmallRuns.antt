-- Sets of nodes and services of the small book, for runs of it that are computed.
use Rattle.std.proofs.Common.{ℕ, List, [], ◌∷◌, length}
use Rattle.gl_rules.specs.Identity.{NodeId, same}
use Rattle.gl_rules.specs.Log.{last_signature, greatest_recorded}
use Rattle.gl_rules.specs.Configuration.{configuration_at, configurations_above}
use Rattle.gl_rules.specs.Steps.{enter_view, lead_if_elected}
use Rattle.gl_rules.specs.Elections.{timeout, on_request_vote, on_vote_reply}
use Rattle.gl_rules.specs.Replication.{fitting_prefix, replicate, matching_prefix_len, checked_append, highest_possible_match, on_append, on_append_reply, greatest_to_commit, advance, restart, greatest_evidence, install}
use Rattle.gl_rules.specs.Requests.{submit, govern, reserve, sign, evidence}
use Rattle.gl_rules.specs.Retirement.{stage}
use Rattle.gl_rules.specs.World.{Start, on_message, happens, run}
use Rattle.gl_safety.specs.declared.small_book.Entry.{Entry}
use Rattle.gl_safety.specs.declared.small_book.Nodes.{Nodes}
use Rattle.gl_safety.specs.SmallBook.{start}

abbrev pub set : List NodeId → Nodes
set xs = record { ids = xs; count = length xs }

abbrev pub one : NodeId
one = 1 ∷ []

abbrev pub two : NodeId
two = 2 ∷ []

abbrev pub three : NodeId
three = 3 ∷ []

abbrev pub four : NodeId
four = 4 ∷ []

abbrev pub five : NodeId
five = 5 ∷ []

-- A service of these nodes, the first of which signed the opening.
abbrev pub service : NodeId → List NodeId → Start Entry
service first others = start (set (first ∷ others)) first

-- A proof that names this opens all rules, so that runs compute.
unfoldable pub rules_open : ℕ
unfolding same timeout on_request_vote on_vote_reply enter_view lead_if_elected last_signature greatest_recorded configuration_at configurations_above fitting_prefix replicate matching_prefix_len checked_append highest_possible_match on_append on_append_reply greatest_to_commit advance restart greatest_evidence install submit govern reserve sign evidence on_message happens run stage
rules_open = 0
