-- Replication: Replicate, Append, AppendReply, Advance, Restart, Install.
use Rattle.std.specs.Prelude.{ℕ, zero, suc, ◌+◌, ◌-◌, List, [], ◌∷◌, ◌++◌, Bool, true, false, ◌&&◌, ◌||◌, not, Option, None, Some, Result, Ok, Err, max, min, length, take, drop, nat_lt, nat_le, ◌==◌, is_some, unwrap_or, if◌then◌else◌}
use Rattle.gl_rules.specs.Identity.{NodeId, same, put}
use Rattle.gl_rules.specs.Majority.{quorum}
use Rattle.gl_rules.specs.Book.{Book}
use Rattle.gl_rules.specs.Node.{Node, Role, Follower, Candidate, Leader}
use Rattle.gl_rules.specs.Message.{Position, Message, Append, AppendReply}
use Rattle.gl_rules.specs.Outcome.{Step, quiet, refuse, idle, Done, Committed, BelowCommit, NotPeer, BelowBase, NoLaterSignature, ByLedger}
use Rattle.gl_rules.specs.Log.{entry_at, is_signature_in, view_at, last_signature}
use Rattle.gl_rules.specs.Configuration.{active, active_upto, in_some}
use Rattle.gl_rules.specs.Steps.{cut_to, update_view, if_leader, known_commit}

-- What one Append carries at most: so many entries, and so many bytes of their frames. The first
-- entry always goes.
abbrev pub entries_limit : ℕ
entries_limit = 64

abbrev pub frames_limit : ℕ
frames_limit = 1500000

-- After so many entries without evidence the next one is due.
abbrev pub evidence_distance : ℕ
evidence_distance = 1000

-- Whether a seqno is reached, if there is one.
abbrev pub is_reached : Option ℕ → ℕ → Bool
is_reached None commit = false
is_reached (Some seqno) commit = nat_le seqno commit

module _ {E Q G R A F : Type 0} (book : Book E Q G R A F) where
  -- Replicate

  -- The longest prefix of at most so many entries whose frames have together at most so many bytes.
  unfoldable pub fitting_prefix : ℕ → ℕ → List E → List E
  fitting_prefix zero room es = []
  fitting_prefix (suc count) room [] = []
  fitting_prefix (suc count) room (e ∷ es) =
      if nat_le (book.frame_size e) room
      then e ∷ fitting_prefix count (room - book.frame_size e) es
      else []

  abbrev pub batch : List E → List E
  batch [] = []
  batch (e ∷ es) = e ∷ fitting_prefix (entries_limit - 1) (frames_limit - book.frame_size e) es

  -- Which seqno a node is sent next.
  abbrev pub next_of : Node E → NodeId → ℕ
  next_of n y = unwrap_or (n.next y) n.start

  -- A node that is in an active configuration, or was removed and has no mark that is committed
  -- here.
  abbrev pub is_peer : NodeId → NodeId → Node E → Bool
  is_peer x y n =
      not (same y x)
      && (
      in_some y (active book n.log n.commit)
      || (is_some (book.removal n.log y) && not (is_reached (book.mark n.log y) n.commit))
      )

  abbrev pub position_at : List E → ℕ → Position
  position_at log seqno = record { view = view_at book log seqno; seqno = seqno }

  abbrev pub append_message : NodeId → NodeId → ℕ → Node E → Message E
  append_message x y after n = record {
    sender = x;
    receiver = y;
    view = n.view;
    body = Append (position_at n.log after) (batch (drop after n.log)) n.commit;
  }

  abbrev pub send_append : NodeId → NodeId → ℕ → Node E → Step E A F
  send_append x y after n =
      if nat_lt after n.base
      then refuse n (BelowBase n.base)
      else record { node = n; sent = append_message x y after n ∷ []; outcome = Done }

  -- Replicate x y: the entries from y's next seqno on, as many as one message carries.
  unfoldable pub replicate : NodeId → NodeId → Node E → Step E A F
  replicate x y n =
      if_leader n (if is_peer x y n then send_append x y (next_of n y - 1) n else refuse n NotPeer)

  -- Append

  abbrev pub append_reply : NodeId → NodeId → Bool → ℕ → Node E → List (Message E)
  append_reply x y ok seqno n =
      record { sender = x; receiver = y; view = n.view; body = AppendReply ok seqno } ∷ []

  -- How many of the entries the log holds with their views, before the first that it lacks or holds
  -- with another view.
  unfoldable pub matching_prefix_len : List E → List E → ℕ
  matching_prefix_len log [] = 0
  matching_prefix_len [] (e ∷ es) = 0
  matching_prefix_len (f ∷ log) (e ∷ es) =
      if book.view_of f == book.view_of e
      then suc (matching_prefix_len log es)
      else 0

  abbrev pub unless_broken : Option F → Result (List E) F → Result (List E) F
  unless_broken None rest = rest
  unless_broken (Some why) rest = Err why

  -- The log with these entries appended, or the rule that the first of them breaks that breaks one.
  -- The entries of the log up to the base came by a snapshot, and aren't held.
  unfoldable pub checked_append : ℕ → List E → List E → Result (List E) F
  checked_append base log [] = Ok log
  checked_append base log (e ∷ es) =
      unless_broken (book.breaks base log e) (checked_append base (log ++ e ∷ []) es)

  -- The greatest seqno up to this one whose entry's view is at most this one, else 0.
  unfoldable pub highest_possible_match : List E → ℕ → ℕ → ℕ
  highest_possible_match log view zero = 0
  highest_possible_match log view (suc seqno) =
      if nat_le (view_at book log (suc seqno)) view
      then suc seqno
      else highest_possible_match log view seqno

  -- Commit after a message with this commit, whose last entry has this seqno: never below what the
  -- log records.
  abbrev pub commit_after : ℕ → ℕ → Node E → ℕ
  commit_after theirs seqno n =
      max (max n.commit (known_commit book n)) (last_signature book (take (min theirs seqno) n.log))

  abbrev pub accept_entries : NodeId → NodeId → ℕ → ℕ → Node E → Step E A F
  accept_entries x y seqno theirs n = record {
    node = record n { commit = commit_after theirs seqno n };
    sent = append_reply x y true seqno n;
    outcome = Done;
  }

  abbrev pub accept_or_refuse : Node E → NodeId → NodeId → ℕ → ℕ → Node E → Result (List E) F →
      Step E A F
  accept_or_refuse before x y seqno theirs n (Err why) = refuse before (ByLedger why)
  accept_or_refuse before x y seqno theirs n (Ok log) =
      accept_entries x y seqno theirs (record n { log = log })

  -- The entries after seqno prev, of which the log holds the first ones.
  abbrev pub merge_entries : NodeId → NodeId → ℕ → List E → ℕ → ℕ → Node E → Step E A F
  merge_entries x y prev es held theirs n =
      if held == length es
      then accept_entries x y (prev + length es) theirs n
      else (
      if nat_lt (prev + held) (length n.log) && nat_lt (prev + held) n.commit
      then refuse n (BelowCommit n.commit (prev + held))
      else (
      accept_or_refuse n x y (prev + length es) theirs (cut_to (prev + held) n)
      (checked_append n.base (take (prev + held) n.log) (drop held es))
      )
      )

  abbrev pub merge_if_matching : NodeId → NodeId → Position → List E → ℕ → Node E → Step E A F
  merge_if_matching x y prev es theirs n =
      if (prev.seqno == 0)
      || (nat_le prev.seqno (length n.log) && (view_at book n.log prev.seqno == prev.view))
      then merge_entries x y prev.seqno es (matching_prefix_len (drop prev.seqno n.log) es) theirs n
      else record {
        node = n;
        sent =
            append_reply x y false
            (highest_possible_match n.log prev.view (min (prev.seqno - 1) (length n.log))) n;
        outcome = Done;
      }

  abbrev pub become_follower : NodeId → Node E → Node E
  become_follower y n = record n { role = Follower; leader = Some y }

  abbrev pub append_as : Role → NodeId → NodeId → Position → List E → ℕ → Node E → Step E A F
  append_as Leader x y prev es theirs n = idle n
  append_as Candidate x y prev es theirs n =
      merge_if_matching x y prev es theirs (become_follower y n)
  append_as Follower x y prev es theirs n =
      merge_if_matching x y prev es theirs (become_follower y n)

  -- Append(view, y, prev, entries, commit)
  unfoldable pub on_append : NodeId → NodeId → ℕ → Position → List E → ℕ → Node E → Step E A F
  on_append x y view prev es theirs n =
      if nat_lt view n.view
      then record { node = n; sent = append_reply x y false 0 n; outcome = Done }
      else append_as n.role x y prev es theirs n

  -- AppendReply

  abbrev pub update_match : NodeId → ℕ → Node E → Node E
  update_match y seqno n =
      let held = max (n.matched y) seqno in
      record n {
        matched =
            put n.matched y held;
        next = put n.next y (Some (max (next_of n y) (held + 1)));
      }

  abbrev pub lower_next : NodeId → ℕ → Node E → Node E
  lower_next y seqno n = record n {
    next = put n.next y (Some (max (n.matched y + 1) (min (next_of n y) (seqno + 1))));
  }

  abbrev pub update_progress : Bool → NodeId → ℕ → Node E → Step E A F
  update_progress true y seqno n =
      if nat_le seqno (length n.log)
      then quiet (update_match y seqno n) Done
      else idle n
  update_progress false y seqno n = quiet (lower_next y seqno n) Done

  abbrev pub append_reply_as : Role → NodeId → ℕ → Bool → ℕ → Node E → Step E A F
  append_reply_as Leader y view ok seqno n =
      if view == n.view
      then update_progress ok y seqno n
      else idle n
  append_reply_as Candidate y view ok seqno n = idle n
  append_reply_as Follower y view ok seqno n = idle n

  -- AppendReply(view, y, ok, seqno), at the leader of that view
  unfoldable pub on_append_reply : NodeId → ℕ → Bool → ℕ → Node E → Step E A F
  on_append_reply y view ok seqno n = append_reply_as n.role y view ok seqno n

  -- Advance

  -- Whether x may commit a seqno: a signature of its view above commit, held by a majority in each
  -- active configuration at or below that seqno.
  abbrev pub may_commit : NodeId → Node E → ℕ → Bool
  may_commit x n seqno =
      nat_lt n.commit seqno && is_signature_in book n.view (entry_at n.log seqno)
      && quorum (λ y. same y x || nat_le seqno (n.matched y))
      (active_upto book n.log n.commit seqno)

  -- The greatest seqno up to this one that x may commit.
  unfoldable pub greatest_to_commit : NodeId → Node E → ℕ → Option ℕ
  greatest_to_commit x n zero = None
  greatest_to_commit x n (suc seqno) =
      if may_commit x n (suc seqno)
      then Some (suc seqno)
      else greatest_to_commit x n seqno

  abbrev pub commit_to : Node E → Option ℕ → Step E A F
  commit_to n None = idle n
  commit_to n (Some seqno) =
      quiet (record n { commit = seqno }) (Committed (view_at book n.log seqno) seqno)

  -- Advance x
  unfoldable pub advance : NodeId → Node E → Step E A F
  advance x n = if_leader n (commit_to n (greatest_to_commit x n (length n.log)))

  -- Restart

  -- Restart x: what the file keeps, and commit as far as it is known from it.
  unfoldable pub restart : Node E → Step E A F
  restart n =
      quiet (record n {
        role = Follower;
        leader = None;
        commit = known_commit book n;
        votes = [];
        matched = λ _. 0;
        next = λ _. None;
        start = 1;
        used = n.reserved;
        cuts = 0;
      }) Done

  -- Install

  abbrev pub is_evidence_at : Option E → Bool
  is_evidence_at None = false
  is_evidence_at (Some e) = book.is_evidence e

  -- The greatest evidence entry above a base and up to a seqno.
  unfoldable pub greatest_evidence : List E → ℕ → ℕ → Option ℕ
  greatest_evidence log base zero = None
  greatest_evidence log base (suc seqno) =
      if nat_lt base (suc seqno) && is_evidence_at (entry_at log (suc seqno))
      then Some (suc seqno)
      else greatest_evidence log base seqno

  -- The seqno of the last evidence entry above the base; where there is none, the base.
  abbrev pub last_evidence : Node E → ℕ
  last_evidence n = unwrap_or (greatest_evidence n.log n.base (length n.log)) n.base

  -- Whether evidence is due: its log ends with a signature, so many entries or more after the last
  -- evidence.
  abbrev pub is_evidence_due : Node E → Bool
  is_evidence_due n =
      (last_signature book n.log == length n.log)
      && nat_le (last_evidence n + evidence_distance) (length n.log)

  -- The evidence entry that y's snapshot is taken at: the greatest one with a committed signature
  -- above.
  abbrev pub snapshot_of : Node E → Option ℕ
  snapshot_of y = greatest_evidence y.log y.base (last_signature book (take y.commit y.log) - 1)

  abbrev pub with_snapshot : Node E → ℕ → Node E → Node E
  with_snapshot y seqno n = record (update_view book (view_at book y.log seqno) n) {
    log = take seqno y.log;
    base = seqno;
    commit = seqno;
  }

  abbrev pub install_snapshot : Node E → Option ℕ → Node E → Step E A F
  install_snapshot y None n = refuse n (NoLaterSignature y.commit)
  install_snapshot y (Some evidence) n = quiet (with_snapshot y (evidence - 1) n) Done

  -- Install x y: an empty log takes y's log up to the entry before the evidence.
  unfoldable pub install : Node E → Node E → Step E A F
  install y n = if length n.log == 0 then install_snapshot y (snapshot_of y) n else idle n
