-- What a file keeps of a node.
use Rattle.std.specs.Prelude.{ℕ, Bool, true, false, ◌&&◌, ◌||◌, ◌==◌, not, List, Option, None, Some, drop, map}
use Rattle.gl_entry.specs.Entry.{frame_bytes}
use Rattle.gl_entry.specs.declared.entry.Entry.{Entry}
use Rattle.gl_rules.specs.Identity.{NodeId, same}
use Rattle.gl_rules.specs.Node.{Node}
use Rattle.gl_journal.specs.Durable.{Durable}

-- What is held of a ledger: the bytes of the snapshot up to the base, if there is one, and the
-- entries above.
pub record Kept : Type 0 where
  pub snapshot : Option (List ℕ)
  pub base : ℕ
  pub entries : List Entry

-- Whether two votes are one.
abbrev pub is_same_vote : Option NodeId → Option NodeId → Bool
is_same_vote None None = true
is_same_vote None (Some y) = false
is_same_vote (Some x) None = false
is_same_vote (Some x) (Some y) = same x y

-- What a file holds once it keeps this view with this vote. There is a Vote record then where there
-- was one, or where the view or the vote is another than before.
abbrev pub with_vote : ℕ → Option NodeId → Durable → Durable
with_vote view vote d = record d {
  view = view;
  vote = vote;
  has_vote_record = d.has_vote_record || not (d.view == view && is_same_vote d.vote vote);
}

-- What a file holds once it keeps this view and vote, these entries above its base, and so many
-- reserved leaves. Its base and its snapshot stay.
abbrev pub keeping : Durable → ℕ → Option NodeId → List Entry → ℕ → Durable
keeping d view vote entries reserved =
    record (with_vote view vote d) { log = map frame_bytes entries; reserved = reserved }

-- What a file holds once it keeps a node: of its ledger the entries above its base.
abbrev pub kept_after : Durable → Node Entry → Durable
kept_after d n = keeping d n.view n.vote (drop n.base n.log) n.reserved
