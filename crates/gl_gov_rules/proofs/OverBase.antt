-- The history over a base: all that it begins with stands up to the base's seqno, so that a cut that
-- is not below it leaves that. Over no base it is the history of the requests.
use Rattle.std.proofs.Common.{◌≡◌, ℕ, ◌≤◌, min, nat_le, nat_lt, Bool, true, false, cond, Option, None, Some, List, [], ◌∷◌, ◌++◌, map, fold, refl, sym, ◌∙◌, ap, subst, arith, le-leb}
use Rattle.std.specs.List.{filter_map, cons_option, AllByRecursion}
use Rattle.std.proofs.lemmas.List.Elements.{filter-append}
use Rattle.gl_shares.specs.declared.share.Share.{Share}
use Rattle.gl_requests.specs.declared.action.Action.TheVariants as actions
use Rattle.gl_gov_rules.specs.declared.change.Recorded.{Recorded}
use Rattle.gl_gov_rules.specs.declared.change.RecordedNode.{RecordedNode}
use Rattle.gl_gov_rules.specs.declared.change.Proposal.{Proposal}
use Rattle.gl_gov_rules.specs.declared.change.Change.TheVariants as changes
use Rattle.gl_gov_rules.specs.declared.change.Changed.{Changed}
use Rattle.gl_gov_rules.specs.declared.request_facts.Mark.{Mark}
use Rattle.gl_gov_rules.specs.declared.request_facts.GivenShare.{GivenShare}
use Rattle.gl_gov_rules.specs.declared.row.NodeRow.{NodeRow}
use Rattle.gl_gov_rules.specs.declared.row.ProposalAt.{ProposalAt}
use Rattle.gl_gov_rules.specs.declared.row.GovernedRows.{GovernedRows}
use Rattle.gl_gov_rules.specs.History.{Carried, History}
use Rattle.gl_gov_rules.specs.Changes.{changed_at, history, with_request}
use Rattle.gl_gov_rules.specs.Governed.{up_to}
use Rattle.gl_gov_rules.specs.Rising.{IsRising}
use Rattle.gl_gov_rules.specs.Index.{IsCarriedTo}
use Rattle.gl_gov_rules.specs.GovernedRows.{IsBelow, is_marked_status, carried_node, carried_proposal, mark_carried, carried_by, node_removed_by, changes_at_base, changes_of_rows, begin_with, history_behind, history_over}
use Rattle.gl_gov_rules.proofs.Cutting.{changes_up_to, cut_to, kept_changes, cut_fold}
use Rattle.gl_gov_rules.proofs.NothingCarried.{carried_onto}

-- over no base it is the history of the requests
pub over_none : (rs : List Recorded) → history_over None rs ≡ history rs
over_none rs = refl

-- over any it adds them one by one to what it begins with
pub over_fold : (base : Option GovernedRows) (rs : List Recorded) → history_over base rs ≡ fold with_request (begin_with base) rs
unfolding history history_behind
over_fold None rs = refl
over_fold (Some g) rs = refl

-- ---- changes

least : (a base to : ℕ) → base ≤ to → min a base ≤ to
least a base to low = omega arith

removals_stay : (to base : ℕ) (ns : List NodeRow) → base ≤ to → changes_up_to to (filter_map (node_removed_by base) ns) ≡ filter_map (node_removed_by base) ns
removals_stay to base [] low = refl
removals_stay to base (n ∷ ns) low = by (nat_lt 0 n.removal) (removals_stay to base ns low)
  where
    c : Changed
    c = changed_at (min n.removal base) (changes.Applied (actions.RemoveNode n.id))

    by : (b : Bool) → changes_up_to to (filter_map (node_removed_by base) ns) ≡ filter_map (node_removed_by base) ns →
        changes_up_to to (cons_option (cond b (Some c) None) (filter_map (node_removed_by base) ns)) ≡ cons_option (cond b (Some c) None) (filter_map (node_removed_by base) ns)
    by true rest = let here : nat_le (min n.removal base) to ≡ true = le-leb (min n.removal base) to (least n.removal base to low) in rw here (ap (λ (cs : List Changed). c ∷ cs) rest)
    by false rest = rest

changes_stay : (to : ℕ) (g : GovernedRows) → g.seqno ≤ to → changes_up_to to (changes_of_rows g) ≡ changes_of_rows g
changes_stay to g low =
    let first : List Changed = map (changed_at 0) (changes_at_base g) in
    let last : List Changed = filter_map (node_removed_by g.seqno) g.nodes in
    filter-append (λ (c : Changed). nat_le c.seqno to) first last
    ∙ ap (λ (cs : List Changed). cs ++ changes_up_to to last) (kept_changes to 0 (changes_at_base g) (le-leb 0 to (omega arith)))
    ∙ ap (λ (cs : List Changed). first ++ cs) (removals_stay to g.seqno g.nodes low)

begun_stays : (to : ℕ) (base : Option GovernedRows) → IsBelow base to → cut_to to (begin_with base) ≡ begin_with base
begun_stays to None low = refl
begun_stays to (Some g) low =
    let with_changes : List Changed → History = λ cs. record { carried = carried_by g; requests = []; changes = cs } in
    ap with_changes (changes_stay to g low)

-- ---- what is carried

nodes_low : (to : ℕ) (ns : List NodeRow) → AllByRecursion (λ (n : RecordedNode). n.seqno ≤ to) (map carried_node ns)
nodes_low to [] = tt
nodes_low to (n ∷ ns) = (omega arith, nodes_low to ns)

proposals_low : (to : ℕ) (ps : List ProposalAt) → AllByRecursion (λ (p : Proposal). p.seqno ≤ to) (map carried_proposal ps)
proposals_low to [] = tt
proposals_low to (p ∷ ps) = (omega arith, proposals_low to ps)

marks_low : (to base : ℕ) (ns : List NodeRow) → base ≤ to → AllByRecursion (λ (m : Mark). m.seqno ≤ to) (filter_map (mark_carried base) ns)
marks_low to base [] low = tt
marks_low to base (n ∷ ns) low = by (is_marked_status n.status) (marks_low to base ns low)
  where
    by : (b : Bool) → AllByRecursion (λ (m : Mark). m.seqno ≤ to) (filter_map (mark_carried base) ns) →
        AllByRecursion (λ (m : Mark). m.seqno ≤ to) (cons_option (cond b (Some (record { id = n.id; seqno = base })) None) (filter_map (mark_carried base) ns))
    by true rest = (low, rest)
    by false rest = rest

shares_low : (to base : ℕ) (ss : List Share) → base ≤ to → AllByRecursion (λ (s : GivenShare). s.seqno ≤ to) (map (λ (s : Share). record { seqno = base; share = s }) ss)
shares_low to base [] low = tt
shares_low to base (s ∷ ss) low = (low, shares_low to base ss low)

carried_low : (to : ℕ) (base : Option GovernedRows) → IsBelow base to → IsCarriedTo to (begin_with base).carried
carried_low to None low = record { nodes = tt; marks = tt; shares = tt; proposals = tt }
carried_low to (Some g) low = record {
  nodes = nodes_low to g.nodes;
  marks = marks_low to g.seqno g.nodes low;
  shares = shares_low to g.seqno g.shares low;
  proposals = proposals_low to g.proposals;
}

over_carried : (base : Option GovernedRows) (rs : List Recorded) → (history_over base rs).carried ≡ (begin_with base).carried
over_carried base rs = ap (λ (h : History). h.carried) (over_fold base rs) ∙ carried_onto (begin_with base) rs

-- ---- a cut

-- all that a history over a base carries stands up to a seqno that the base is not above
pub carried_to : (to : ℕ) (base : Option GovernedRows) (h : History) → h ≡ history_over base h.requests → IsBelow base to → IsCarriedTo to h.carried
carried_to to base h whole low =
    subst (λ (k : Carried). IsCarriedTo to k) (sym (ap (λ (x : History). x.carried) whole ∙ over_carried base h.requests)) (carried_low to base low)

-- over a base, the history of the requests up to a seqno is that of all of them, up to that seqno
pub over_up_to : (to : ℕ) (base : Option GovernedRows) (rs : List Recorded) → IsRising rs → IsBelow base to → history_over base (up_to to rs) ≡ cut_to to (history_over base rs)
over_up_to to base rs rising low =
    over_fold base (up_to to rs) ∙ cut_fold to (begin_with base) rs rising (begun_stays to base low)
    ∙ ap (cut_to to) (sym (over_fold base rs))
