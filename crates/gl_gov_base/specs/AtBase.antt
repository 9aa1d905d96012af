-- Rows as values that are those of a history, and what is known of an accepted history.
use Rattle.std.specs.Prelude.{◌≡◌, ◌≢◌, ℕ, ◌<◌, ◌≤◌, List, Some, None, Bool, true, false, ◌&&◌, map, nat_eq}
use Rattle.std.specs.List.{list_any, AllByRecursion}
use Rattle.gl_base.specs.Bytes.{same_bytes}
use Rattle.gl_gov_rules.specs.declared.change.RecordedNode.{RecordedNode}
use Rattle.gl_gov_rules.specs.declared.change.Proposal.{Proposal}
use Rattle.gl_gov_rules.specs.declared.change.ProposalState.TheVariants as states
use Rattle.gl_gov_rules.specs.declared.change.Changed.{Changed}
use Rattle.gl_gov_rules.specs.declared.row.MemberRow.{MemberRow}
use Rattle.gl_gov_rules.specs.declared.row.ServiceRow.{ServiceRow}
use Rattle.gl_gov_rules.specs.declared.row.Vote.{Vote}
use Rattle.gl_gov_rules.specs.declared.request_facts.GivenShare.{GivenShare}
use Rattle.gl_gov_base.specs.SameBy.{SameBy}
use Rattle.gl_gov_rules.specs.History.{History}
use Rattle.gl_gov_rules.specs.Members.{members, has_number, is_removed, has_acked, next_leaf}
use Rattle.gl_gov_rules.specs.Nodes.{nodes, has_id, is_marked, mark, is_trust_applied}
use Rattle.gl_gov_rules.specs.Service.{constitution, dealing, given, shares_given}
use Rattle.gl_gov_rules.specs.Proposals.{proposals, has_proposal_id, answers_of, has_answered, same_answer}
use Rattle.gl_gov_rules.specs.Rows.{member_rows, node_rows, proposal_row, service_row, votes}
use Rattle.gl_gov_base.specs.Alike.{SameShares, settled_by}
use Rattle.gl_gov_rules.specs.declared.row.ProposalAt.{ProposalAt}
use Rattle.gl_gov_rules.specs.declared.row.RuleAt.{RuleAt}
use Rattle.gl_gov_rules.specs.declared.row.GovernedRows.{GovernedRows}

abbrev pub of_number : ℕ → MemberRow → Bool
of_number n m = nat_eq m.number n

abbrev pub is_proposal_at : List ℕ → ProposalAt → Bool
is_proposal_at id p = same_bytes p.id id

abbrev pub proposal_at : History → Proposal → ProposalAt
proposal_at h p = record { id = p.id; row = proposal_row h p }

-- The values are those of the history's rows, where the order may be another.
pub record IsReadOf (base : ℕ) (h : History) (g : GovernedRows) : Type 0 where
  pub seqno : g.seqno ≡ base
  pub founder : ServiceRow
  pub service : g.service ≡ Some founder
  pub founded : service_row h ≡ Some founder
  pub members : SameBy of_number g.members (member_rows h)
  pub nodes : g.nodes ≡ node_rows h
  pub proposals : SameBy is_proposal_at g.proposals (map (proposal_at h) (proposals h))
  pub rules : constitution h ≡ Some (map (λ (r : RuleAt). r.rule) g.rules)
  pub dealing : g.dealing ≡ dealing h
  pub shares : SameShares g.shares (shares_given h)

pub record IsOneNode (base : ℕ) (ns : List RecordedNode) (n : RecordedNode) : Type 0 where
  pub low : n.seqno ≤ base
  pub stands : list_any (λ (m : RecordedNode). same_bytes n.id m.id) ns ≡ true
  pub apart : AllByRecursion (λ (m : RecordedNode). same_bytes n.id m.id ≡ true → m ≡ n) ns

pub record IsOneProposal (base : ℕ) (h : History) (p : Proposal) : Type 0 where
  pub low : p.seqno ≤ base
  pub stands : list_any (λ (q : Proposal). same_bytes q.id p.id) (proposals h) ≡ true
  pub apart : AllByRecursion (λ (q : Proposal). same_bytes q.id p.id ≡ true → q ≡ p) (proposals h)
  pub settled : settled_by h p ≢ Some states.Open

-- What is known of a history of accepted requests up to a base.
pub record IsSettled (base : ℕ) (h : History) : Type 0 where
  pub above : 0 < base
  pub low_changes : AllByRecursion (λ (c : Changed). c.seqno ≤ base) h.changes
  pub low_shares : AllByRecursion (λ (s : GivenShare). s.seqno ≤ base) (given h)
  pub removed_members : (n : ℕ) → is_removed h n ≡ true → list_any (has_number n) (members h) ≡ true
  pub acked : (n : ℕ) → has_acked h n ≡ true → list_any (has_number n) (members h) ≡ true
  pub leaves : (n : ℕ) → list_any (has_number n) (members h) ≡ false → next_leaf h n ≡ 0
  pub each_node : AllByRecursion (IsOneNode base (nodes h)) (nodes h)
  pub low_marks : (id : List ℕ) (m : ℕ) → mark h id ≡ Some m → m ≤ base
  pub marked_nodes : (id : List ℕ) → is_marked h id ≡ true →
      list_any (λ (m : RecordedNode). same_bytes id m.id) (nodes h) ≡ true
  pub trusted_nodes : (id : List ℕ) → is_trust_applied h id ≡ true →
      list_any (has_id id) (nodes h) ≡ true
  pub each_proposal : AllByRecursion (IsOneProposal base h) (proposals h)
  pub unsettled : (p : Proposal) → base < p.seqno →
      list_any (has_proposal_id p.id) (proposals h) ≡ false → settled_by h p ≡ None
  pub voted : (id : List ℕ) (agrees : Bool) (n : ℕ) →
      list_any (λ (v : Vote). nat_eq v.member n && same_answer v.agrees agrees)
      (votes (answers_of h) id)
      ≡ has_answered (answers_of h) id agrees n
  pub answered : (id : List ℕ) (agrees : Bool) (n : ℕ) →
      has_answered (answers_of h) id agrees n ≡ true →
      list_any (has_proposal_id id) (proposals h) ≡ true
