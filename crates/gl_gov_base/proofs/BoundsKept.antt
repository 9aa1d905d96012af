-- The bounds of a history stay with each request that isn't refused, and its rows are within the
-- limits of tables.
use Rattle.std.proofs.Common.{◌≡◌, ℕ, ◌≤◌, List, [], ◌∷◌, ◌++◌, length, map, filter_map, Option, None, Some, IfSome, Bool, true, false, if◌then◌else◌, nat_lt, refl, sym, ◌∙◌, ap, append_assoc, length-append, arith}
use Rattle.std.specs.List.{list_all, cons_option, AllByRecursion}
use Rattle.std.specs.Option.{option_map}
use Rattle.std.proofs.lemmas.Bool.{and_from}
use Rattle.std.proofs.lemmas.List.Elements.{filter_map-append}
use Rattle.gl_vmaps.specs.Writes.{is_write}
use Rattle.gl_vmaps.proofs.WriteSets.{list_all-set_from}
use Rattle.gl_shares.specs.declared.share.Share.{Share}
use Rattle.gl_requests.specs.Ranges.{are_actions, is_request}
use Rattle.gl_requests.specs.declared.request.GovernanceRequest.{GovernanceRequest}
use Rattle.gl_gov_rules.specs.declared.change.Recorded.{Recorded}
use Rattle.gl_gov_rules.specs.declared.change.Proposal.{Proposal}
use Rattle.gl_gov_rules.specs.declared.change.Changed.{Changed}
use Rattle.gl_gov_rules.specs.declared.request_facts.GivenShare.{GivenShare}
use Rattle.gl_gov_rules.specs.History.{History}
use Rattle.gl_gov_rules.specs.Nodes.{nodes_recorded, nodes}
use Rattle.gl_gov_rules.specs.Service.{constitution, dealing, share_in, given_share, given_in, given, given_after, last_clearing, shares_given}
use Rattle.gl_gov_rules.specs.Proposals.{proposal_in, proposals, answers_with}
use Rattle.gl_gov_rules.specs.Changes.{changes_of, with_request}
use Rattle.gl_gov_rules.specs.Governed.{is_founding, IsBounded}
use Rattle.gl_gov_rules.specs.Refusals.{refusal}
use Rattle.gl_gov_rules.specs.Rows.{rule_writes_of, write_of, dealing_write, member_rows, member_write, node_rows, node_write, proposal_writes, service_row, service_write, share_write, all_rows, rows}
use Rattle.gl_gov_rules.proofs.Bounded.{bounded_proposals}
use Rattle.gl_gov_rules.proofs.Counting.{all_append, each_append}
use Rattle.gl_gov_rules.proofs.FewMembers.{left_brought}
use Rattle.gl_gov_rules.proofs.FewNodes.{IsShort, Fit, fit_recorded}
use Rattle.gl_gov_rules.proofs.HistoryLists.{nodes_after}
use Rattle.gl_gov_rules.proofs.MembersLeft.{left_in}
use Rattle.gl_gov_rules.proofs.Prefixes.{changes_with}
use Rattle.gl_gov_rules.proofs.Ranges.{is_change, are_changes, rules_in_range, dealing_in_range, are_proposals, proposals_after, proposed_in_range, brought_in_range}
use Rattle.gl_gov_rules.proofs.RowFormats.{rules_rows_fit, dealing_row_fits}
use Rattle.gl_gov_rules.proofs.RowParts.{all_found, members_fit, is_recorded_node, nodes_of_request, is_made_proposal, proposed_fits, is_given_share, share_of_request}
use Rattle.gl_gov_rules.proofs.RowsFit.{fit-append, members_rows_fit, nodes_rows_fit, proposals_rows_fit, service_fits, share_rows_fit}
use Rattle.gl_gov_rules.proofs.SmallProposals.{IsSmall, small_in}

-- What is known of each history: its changes, nodes, proposals and shares are in their ranges, and
-- members, nodes and the bytes of proposals are few.
pub record IsInBounds (h : History) : Type 0 where
  pub changed : are_changes h.changes ≡ true
  pub left : left_in h.changes ≤ 64
  pub few : length (nodes h) ≤ 65535
  pub short : AllByRecursion IsShort (nodes h)
  pub recorded : list_all is_recorded_node (nodes h) ≡ true
  pub made : list_all is_made_proposal (proposals h) ≡ true
  pub ranged : are_proposals (proposals h) ≡ true
  pub small : AllByRecursion IsSmall (proposals h)
  pub shared : list_all (λ (s : GivenShare). is_given_share s.share) (given h) ≡ true

-- ---- one request more

all_of_one : {A : Type 0} (p : A → Bool) (o : Option A) → IfSome o (λ (x : A). p x ≡ true) → list_all p (cons_option o []) ≡ true
all_of_one p None e = refl
all_of_one p (Some x) e = and_from (p x) true e refl

each_of_one : {A : Type 0} (P : A → Type 0) (o : Option A) → IfSome o P → AllByRecursion P (cons_option o [])
each_of_one P None e = tt
each_of_one P (Some x) e = (e, tt)

shares_after : (h : History) (r : Recorded) → given (with_request h r) ≡ given h ++ filter_map (λ (q : Recorded). given_in q.seqno q.request) (r ∷ [])
unfolding given with_request
shares_after h r =
    let gives : Recorded → Option GivenShare = λ (q : Recorded). given_in q.seqno q.request in
    ap (λ (ss : List GivenShare). h.carried.shares ++ ss) (filter_map-append gives h.requests (r ∷ []))
    ∙ sym (append_assoc h.carried.shares (filter_map gives h.requests) (filter_map gives (r ∷ [])))

share_fits : (seqno : ℕ) (q : GovernanceRequest) → is_request q ≡ true → IfSome (given_in seqno q) (λ (s : GivenShare). is_given_share s.share ≡ true)
share_fits seqno q fits = go (share_in q) (share_of_request q fits)
  where
    go : (o : Option Share) → IfSome o (λ (s : Share). is_given_share s ≡ true) → IfSome (option_map (given_share seqno) o) (λ (s : GivenShare). is_given_share s.share ≡ true)
    go None e = tt
    go (Some s) e = e

-- a request that isn't refused keeps the bounds; a founding comes before all members
pub bounds_kept : (h : History) (r : Recorded) → IsInBounds h → is_request r.request ≡ true → refusal h r.seqno r.request ≡ None → (is_founding r.request ≡ true → left_in h.changes ≡ 0) → IsInBounds (with_request h r)
unfolding changes_of Fit
bounds_kept h r old fits accepted first =
    let q : GovernanceRequest = r.request in
    let new = fit_recorded h r.seqno q accepted old.few in record {
      changed =
          rw (changes_with h r)
          (all_append (λ (c : Changed). is_change c.change) h.changes _ old.changed
          (brought_in_range h (answers_with h q) r.seqno q fits old.ranged));
      left = rw (changes_with h r) (left_brought h (answers_with h q) r.seqno q accepted first old.left);
      few = rw (nodes_after h r) (omega (arith, length-append (nodes h) (nodes_recorded r.seqno q), new.0));
      short = rw (nodes_after h r) (each_append IsShort (nodes h) (nodes_recorded r.seqno q) old.short new.1);
      recorded = rw (nodes_after h r) (all_append is_recorded_node (nodes h) (nodes_recorded r.seqno q) old.recorded (nodes_of_request r.seqno q fits));
      made =
          rw (proposals_after h r)
          (all_append is_made_proposal (proposals h) _ old.made (all_of_one is_made_proposal (proposal_in r.seqno q) (proposed_fits r.seqno q fits)));
      ranged =
          rw (proposals_after h r)
          (all_append (λ (p : Proposal). are_actions p.actions) (proposals h) _ old.ranged
          (all_of_one (λ (p : Proposal). are_actions p.actions) (proposal_in r.seqno q) (proposed_in_range r.seqno q fits)));
      small =
          rw (proposals_after h r)
          (each_append IsSmall (proposals h) _ old.small (each_of_one IsSmall (proposal_in r.seqno q) (small_in h r.seqno q accepted fits old.left)));
      shared =
          rw (shares_after h r)
          (all_append (λ (s : GivenShare). is_given_share s.share) (given h) _ old.shared
          (all_of_one (λ (s : GivenShare). is_given_share s.share) (given_in r.seqno q) (share_fits r.seqno q fits)));
    }

-- ---- bounds, and rows

pub bounded_by : (h : History) → IsInBounds h → IsBounded h
bounded_by h known = record {
  rules = rules_in_range h known.changed;
  dealt = dealing_in_range h known.changed;
  few_nodes = (let few = known.few in omega (arith, few));
  endorsements = known.short;
  proposed = bounded_proposals (proposals h) known.ranged known.small;
}

shares_fit : (h : History) → IsInBounds h → list_all is_given_share (shares_given h) ≡ true
unfolding shares_given
shares_fit h known = all_found (λ (s : GivenShare). is_given_share s.share) is_given_share (given_after (last_clearing h)) given_fits (given h) known.shared
  where
    given_fits : (s : GivenShare) → is_given_share s.share ≡ true → IfSome (given_after (last_clearing h) s) (λ (x : Share). is_given_share x ≡ true)
    given_fits s fits = late (nat_lt (last_clearing h) s.seqno)
      where
        late : (b : Bool) → IfSome (if b then Some s.share else None) (λ (x : Share). is_given_share x ≡ true)
        late true = fits
        late false = tt

all_rows_fit : (h : History) → IsInBounds h → list_all is_write (all_rows h) ≡ true
unfolding all_rows
all_rows_fit h known =
    let bounded = bounded_by h known in
    let rules = rule_writes_of (constitution h) in
    let dealt = write_of dealing_write (dealing h) in
    let membership = map member_write (member_rows h) in
    let recorded = map node_write (node_rows h) in
    let service = write_of service_write (service_row h) in
    let given = map share_write (shares_given h) in
    let a = fit-append rules dealt (rules_rows_fit (constitution h) bounded.rules) (dealing_row_fits (dealing h) bounded.dealt) in
    let b = fit-append (rules ++ dealt) membership a (members_rows_fit h (members_fit h known.changed)) in
    let c = fit-append (rules ++ dealt ++ membership) recorded b (nodes_rows_fit h known.recorded known.short) in
    let d = fit-append (rules ++ dealt ++ membership ++ recorded) (proposal_writes h) c (proposals_rows_fit h known.made bounded.proposed) in
    let e = fit-append (rules ++ dealt ++ membership ++ recorded ++ proposal_writes h) service d (service_fits h known.changed) in
    fit-append (rules ++ dealt ++ membership ++ recorded ++ proposal_writes h ++ service) given e (share_rows_fit (shares_given h) (shares_fit h known))

pub rows_fit_by : (h : History) → IsInBounds h → list_all is_write (rows h) ≡ true
unfolding rows
rows_fit_by h known = list_all-set_from is_write [] (all_rows h) refl (all_rows_fit h known)
