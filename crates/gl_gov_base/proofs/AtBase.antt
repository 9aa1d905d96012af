-- The law of a base: the history that begins with the rows of another is alike to it, and stays so.
use Rattle.std.proofs.Common.{◌≡◌, ℕ, ◌<◌, List, [], ◌∷◌, ◌++◌, length, Some, None, true, sym, ◌∙◌, ap, subst}
use Rattle.std.specs.List.{AllByRecursion}
use Rattle.std.proofs.lemmas.Grind.{fold-append}
use Rattle.gl_base.proofs.Lists.{push-append}
use Rattle.gl_vmaps.specs.Changes.{changes}
use Rattle.gl_vmaps.specs.declared.row.Row.{Row}
use Rattle.gl_requests.specs.Ranges.{is_request}
use Rattle.gl_gov_rules.specs.declared.change.Recorded.{Recorded}
use Rattle.gl_gov_rules.specs.History.{History, no_history}
use Rattle.gl_gov_rules.specs.Changes.{with_request, history}
use Rattle.gl_gov_rules.specs.Governed.{IsGoverned}
use Rattle.gl_gov_rules.specs.Refusals.{refusal}
use Rattle.gl_gov_rules.specs.Rows.{rows, effect_writes}
use Rattle.gl_gov_rules.specs.Service.{shares_given}
use Rattle.gl_gov_rules.specs.declared.row.GovernedRows.{GovernedRows}
use Rattle.gl_gov_rules.specs.GovernedRows.{begin_with, history_behind, history_over}
use Rattle.gl_gov_rules.proofs.Prefixes.{history-more, governed_prefix, governed_next}
use Rattle.gl_gov_base.specs.Alike.{of_member, Alike}
use Rattle.gl_gov_base.specs.AtBase.{IsReadOf, IsSettled}
use Rattle.gl_gov_base.specs.Law.{AreAccepted, history_after, IsOver, writes_over}
use Rattle.gl_gov_base.proofs.LawOfBase.{alike_after}
use Rattle.gl_gov_base.proofs.NewRequests.{is_new}
use Rattle.gl_gov_base.proofs.ReadRows.{read_back}
use Rattle.gl_gov_base.proofs.SameLists.{same_length}
use Rattle.gl_gov_base.proofs.SettledHistory.{is_settled}
use Rattle.gl_gov_base.proofs.SameRows.{same_effect}
use Rattle.gl_gov_base.proofs.NodesAtBase.{same_marked, marks_at_base, nodes_at_base, new_node_at_base}
use Rattle.gl_gov_base.proofs.MembersAtBase.{members_at_base, removed_at_base, acked_at_base, leaves_at_base, state_at_base, recovered_at_base, identity_at_base, constitution_at_base, dealing_at_base, clearing_at_base, shares_at_base, later_shares_at_base}
use Rattle.gl_gov_base.proofs.ProposalsAtBase.{proposals_at_base, new_proposal_at_base, answers_at_base}

pub alike_at_base : (base : ℕ) (h : History) (g : GovernedRows) → IsReadOf base h g → IsSettled base h → Alike base h (begin_with (Some g))
alike_at_base base h g read known = record {
  members = members_at_base base h g read known;
  removed = removed_at_base base h g read known;
  acked = acked_at_base base h g read known;
  leaves = leaves_at_base base h g read known;
  nodes = nodes_at_base base h g read known;
  marked = same_marked base h g read known;
  marks = marks_at_base base h g read known;
  new_nodes = new_node_at_base base h g read known;
  proposals = proposals_at_base base h g read known;
  new_proposals = new_proposal_at_base base h g read known;
  answers = answers_at_base base h g read known;
  constitution = constitution_at_base base h g read known;
  dealing = dealing_at_base base h g read known;
  identity = identity_at_base base h g read known;
  recovered = recovered_at_base base h g read known;
  state = state_at_base base h g read known;
  clearing = clearing_at_base base h g read known;
  shares = shares_at_base base h g read known;
  later_shares = later_shares_at_base base h g read known;
}

-- ---- requests above the base

history_parts : (rs es : List Recorded) → history (rs ++ es) ≡ history_after (history rs) es
unfolding history
history_parts rs es = fold-append with_request no_history rs es

accepted_after : (base : ℕ) (rs es : List Recorded) → AllByRecursion (λ (r : Recorded). base < r.seqno) es → IsGoverned (rs ++ es) → AreAccepted base (history rs) es
accepted_after base rs [] high all = tt
accepted_after base rs (r ∷ es) high all =
    let rest = accepted_after base (rs ++ r ∷ []) es high.1 (subst IsGoverned (sym (push-append rs r es)) all) in
    (high.0, (governed_next rs r es all).fits, (governed_next rs r es all).accepted, subst (λ h. AreAccepted base h es) (history-more rs r) rest)

-- one more above the base
over_more : (g : GovernedRows) (es : List Recorded) (r : Recorded) → history_over (Some g) (es ++ r ∷ []) ≡ with_request (history_over (Some g) es) r
unfolding history_behind
over_more g es r = fold-append with_request (begin_with (Some g)) es (r ∷ [])

-- the whole history and that over the base are alike
pub alike_over : (base : ℕ) (all : List Row) (g : GovernedRows) (rs es : List Recorded) → IsOver base all g rs es → Alike base (history (rs ++ es)) (history_over (Some g) es)
unfolding history_behind
alike_over base all g rs es over =
    let first : IsGoverned rs = governed_prefix rs es over.governed in
    subst (λ h. Alike base h (history_over (Some g) es)) (sym (history_parts rs es))
    (alike_after base (history rs) (begin_with (Some g)) es (alike_at_base base (history rs) g (read_back rs first base over.rows.low over.rows.fits all g over.rows.left over.read) (is_settled rs first base over.rows.low over.above)) (accepted_after base rs es over.high over.governed))

pub effects_over : (base : ℕ) (all : List Row) (g : GovernedRows) (rs es : List Recorded) → IsOver base all g rs es → (r : Recorded) → base < r.seqno → is_request r.request ≡ true → refusal (history (rs ++ es)) r.seqno r.request ≡ None →
    effect_writes (rs ++ es) r ≡ writes_over (Some g) es r
effects_over base all g rs es over r high fits accepted =
    ap (λ h. changes (rows (history (rs ++ es))) (rows h)) (history-more (rs ++ es) r)
    ∙ same_effect base (history (rs ++ es)) (history_over (Some g) es) r (alike_over base all g rs es over) (is_new base (history (rs ++ es)) r high fits accepted)
    ∙ ap (λ h. changes (rows (history_over (Some g) es)) (rows h)) (sym (over_more g es r))

pub share_counts : (base : ℕ) (all : List Row) (g : GovernedRows) (rs es : List Recorded) → IsOver base all g rs es → length (shares_given (history (rs ++ es))) ≡ length (shares_given (history_over (Some g) es))
share_counts base all g rs es over =
    let x = alike_over base all g rs es over in
    same_length of_member (shares_given (history (rs ++ es))) (shares_given (history_over (Some g) es)) x.shares.same
