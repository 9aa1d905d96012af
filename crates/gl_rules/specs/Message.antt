-- What nodes send to one another.
use Rattle.std.specs.Prelude.{ℕ, List, Bool}
use Rattle.gl_rules.specs.Identity.{NodeId}

-- A seqno of a ledger and the view of its entry there; (0, 0) for none.
pub record Position : Type 0 where
  pub view : ℕ
  pub seqno : ℕ

-- What a message says.
pub data Body (E : Type 0) : Type 0 where
  -- asks for a vote, with the sender's last signature
  RequestVote : (last : Position) → Body E
  VoteReply : (granted : Bool) → Body E
  -- the entries after a seqno, and the sender's commit
  Append : (prev : Position) → (entries : List E) → (commit : ℕ) → Body E
  -- accepted up to this seqno; or not, and which seqno to try next
  AppendReply : (ok : Bool) → (seqno : ℕ) → Body E
  -- asks the receiver to campaign for the next view
  ProposeVote : Body E

-- A message: who sent it to whom, in which view, and what it says.
pub record Message (E : Type 0) : Type 0 where
  pub sender : NodeId
  pub receiver : NodeId
  -- the sender's view
  pub view : ℕ
  pub body : Body E
