-- A node of the service: what its file keeps, and what a restart forgets.
use Rattle.std.specs.Prelude.{ℕ, List, Option}
use Rattle.gl_rules.specs.Identity.{NodeId}

pub data Role : Type 0 where
  Follower Candidate Leader : Role

pub record Node (E : Type 0) : Type 0 where
  -- kept by its file
  pub view : ℕ
  -- for whom it voted in this view
  pub vote : Option NodeId
  -- its ledger, whole from seqno 1
  pub log : List E
  -- the seqno up to which it came by a snapshot, 0 for none
  pub base : ℕ
  -- how many one-time leaves of its key are reserved
  pub reserved : ℕ
  -- forgotten at a restart
  pub role : Role
  -- whom it takes for the leader of its view
  pub leader : Option NodeId
  pub commit : ℕ
  -- who voted for it in this view
  pub votes : List NodeId
  -- as a leader: up to which seqno each node is known to hold its log, 0 for none
  pub matched : NodeId → ℕ
  -- which seqno each node is sent next; None: start
  pub next : NodeId → Option ℕ
  -- the seqno after its log when it became leader
  pub start : ℕ
  -- how many of the reserved leaves it has used
  pub used : ℕ
  -- how often entries were cut off its log, up to 2^64 - 1
  pub cuts : ℕ
