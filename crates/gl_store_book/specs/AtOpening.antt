-- What a node's file becomes with an opening ledger, and which node it is then.
use Rattle.std.specs.Prelude.{ℕ, List, [], ◌∷◌, ◌++◌, Bool, false, ◌&&◌, not, Option, None, Some, ◌==◌, length, map, max, nat_le, nat_lt, unwrap_or, if◌then◌else◌}
use Rattle.gl_rules.specs.Identity.{NodeId, same, member}
use Rattle.gl_rules.specs.Node.{Node}
use Rattle.gl_rules.specs.Replication.{restart}
use Rattle.gl_rules.specs.Steps.{lead_if}
use Rattle.gl_rules.specs.World.{Start, joiner}
use Rattle.gl_entry.specs.Entry.{frame_bytes}
use Rattle.gl_entry.specs.declared.entry.Entry.{Entry}
use Rattle.gl_journal.specs.Durable.{Durable}
use Rattle.gl_journal.specs.Records.{RecordValue, Append, Vote, records_bytes}
use Rattle.gl_ledger.specs.LedgerBook.{ServiceBook}
use Rattle.gl_ledger.specs.Recordings.{last_entry}
use Rattle.gl_node.specs.Kept.{is_same_vote, keeping}
use Rattle.gl_store_book.specs.Frames.{ledger_of_frames}
use Rattle.gl_store_book.specs.NodeFile.{node_of}

-- ---- the node of a file

-- The entries whose frames a file keeps: those above its base.
abbrev pub kept_ledger : Durable → List Entry
kept_ledger d = unwrap_or (ledger_of_frames d.log) []

-- What a file keeps of a node, where these are the entries up to its base.
abbrev pub kept_node : List Entry → Durable → Node Entry
kept_node below d = record joiner {
  view = d.view;
  vote = d.vote;
  log = below ++ kept_ledger d;
  base = length below;
  reserved = d.reserved;
}

-- The node of a file, as a restart leaves it, where these are the entries up to its base.
abbrev pub restarted_node : ServiceBook → List Entry → Durable → Node Entry
restarted_node b below d = (restart b (kept_node below d)).node

-- ---- an opening

abbrev pub view_of_last : Option Entry → ℕ
view_of_last None = 0
view_of_last (Some e) = e.view

-- The view in which an opening ledger opens its service.
abbrev pub opening_view : Start Entry → ℕ
opening_view s = view_of_last (last_entry s.opening)

-- The file keeps a vote of the opening's view, or of a later one.
abbrev pub keeps_vote : Start Entry → Durable → Bool
keeps_vote s d = d.has_vote_record && nat_le (opening_view s) d.view

-- Such a vote stays. Else a node that starts with the service has voted for the one that signed the
-- opening ledger, and any other for none where its view rises.
abbrev pub vote_at_opening : Start Entry → Durable → Option NodeId
vote_at_opening s d =
    if keeps_vote s d then d.vote
    else (if member (node_of d) s.starting then Some s.first
    else (if nat_lt d.view (opening_view s) then None else d.vote))

-- What the file holds with the opening ledger: its view is no earlier one than the opening's.
abbrev pub opened_state : Start Entry → Durable → Durable
opened_state s d =
    keeping d (max d.view (opening_view s)) (vote_at_opening s d) s.opening d.reserved

abbrev pub is_count : ℕ → Option ℕ → Bool
is_count n None = false
is_count n (Some m) = n == m

-- The node leads that signed the opening ledger, where its file tells the start of a service, no
-- leaf was spent since, and it keeps no vote.
abbrev pub leads_at_opening : Start Entry → Durable → Bool
leads_at_opening s d =
    is_count d.reserved d.start && not d.has_vote_record && same (node_of d) s.first

-- The node of the file then: the leader of the opening's view, or a follower.
abbrev pub node_at_opening : ServiceBook → Start Entry → Durable → Node Entry
node_at_opening b s d =
    lead_if b (leads_at_opening s d) (restarted_node b [] (opened_state s d))

-- ---- the batch that keeps it

-- A view and a vote, where one of them is another than before.
abbrev pub vote_records : Durable → ℕ → Option NodeId → List RecordValue
vote_records d view vote =
    if d.view == view && is_same_vote d.vote vote then [] else Vote view vote ∷ []

abbrev pub append_records : List Entry → List RecordValue
append_records ledger = map (λ e. Append (frame_bytes e)) ledger

abbrev pub opening_records : Start Entry → Durable → List RecordValue
opening_records s d =
    vote_records d (max d.view (opening_view s)) (vote_at_opening s d) ++ append_records s.opening

-- How many bytes it has.
abbrev pub opening_size : Start Entry → Durable → ℕ
opening_size s d = length (records_bytes (opening_records s d))
