-- What the rules read of a snapshot and the entries behind it is what they read of the whole ledger.
use Rattle.std.proofs.Common.{◌≡◌, ℕ, suc, ◌+◌, ◌-◌, ◌<◌, ◌≤◌, ◌^◌, List, [], ◌∷◌, ◌++◌, length, map, max, Option, Some, None, Ok, Bool, true, false, ◌||◌, ◌==◌, nat_le, slice_get, option_map, if◌then◌else◌, refl, sym, ◌∙◌, ap, subst, subst₂, arith, length-append}
use Rattle.std.specs.List.{AllByRecursion}
use Rattle.std.specs.Result.{result_ok}
use Rattle.std.proofs.lemmas.Bool.Decides.{nat_tests}
use Rattle.std.proofs.lemmas.Grind.{fold-append}
use Rattle.gl_base.specs.TxId.{last_seqno}
use Rattle.gl_rules.specs.Identity.{NodeId}
use Rattle.gl_rules.specs.Log.{entry_at}
use Rattle.gl_vmaps.specs.Changes.{changes}
use Rattle.gl_entry.specs.Entry.{is_signature}
use Rattle.gl_entry.specs.declared.entry.Content.{Content}
use Rattle.gl_entry.specs.declared.entry.Content.TheVariants as content
use Rattle.gl_entry.specs.declared.entry.Entry.{Entry}
use Rattle.gl_requests.specs.Parsing.{request_in}
use Rattle.gl_requests.specs.Ranges.{is_request}
use Rattle.gl_requests.specs.declared.request.GovernanceRequest.{GovernanceRequest}
use Rattle.gl_gov_rules.specs.declared.change.Recorded.{Recorded}
use Rattle.gl_gov_rules.specs.declared.change.RecordedNode.{RecordedNode}
use Rattle.gl_gov_rules.specs.declared.row.GovernedRows.{GovernedRows}
use Rattle.gl_gov_rules.specs.Changes.{history, with_request}
use Rattle.gl_gov_rules.specs.Governed.{IsGoverned}
use Rattle.gl_gov_rules.specs.GovernedRows.{begin_with, governed_rows, history_behind, history_over}
use Rattle.gl_gov_rules.specs.History.{History}
use Rattle.gl_gov_rules.specs.Nodes as nodes
use Rattle.gl_gov_rules.specs.Refusals.{refusal}
use Rattle.gl_gov_rules.proofs.Counting.{each_append}
use Rattle.gl_gov_rules.proofs.Prefixes.{history-more}
use Rattle.gl_gov_base.specs.Alike.{Alike, NodeView, is_up_to, node_view}
use Rattle.gl_gov_base.specs.Law.{IsLeft, IsOver}
use Rattle.gl_gov_base.proofs.AlwaysRead.{always_read}
use Rattle.gl_gov_base.proofs.AtBase.{alike_over}
use Rattle.gl_gov_base.proofs.NewRequests.{is_new}
use Rattle.gl_gov_base.proofs.SameChanges.{alike_request}
use Rattle.gl_gov_base.proofs.SameLists.{map_twice}
use Rattle.gl_gov_base.proofs.SameReadings.{same_node, same_trusted}
use Rattle.gl_gov_base.proofs.SameRefusals.{same_refusal}
use Rattle.gl_gov_base.proofs.SameRows.{same_all, same_proposal_status}
use Rattle.gl_snapshot_body.specs.declared.body.Body.{Body}
use Rattle.gl_ledger.specs.Broken.{is_above_removal}
use Rattle.gl_ledger.specs.Past.{Past, commit_from, last_signed, past_behind, past_from}
use Rattle.gl_ledger.specs.Recordings.{endorsement_found, key_found, last_entry, mark, recorded_at, recorded_in, recorded_nodes, removal, requests_from, requests_of}
use Rattle.gl_ledger.specs.Signed.{IsSignedUpTo}
use Rattle.gl_ledger.specs.Snapshot.{governed_base, requests_over, snapshot_of, view_or}
use Rattle.gl_ledger_base.specs.Ledgers.{AreAlike}
use Rattle.gl_ledger_base.proofs.LedgersRead.{IsRead}
use Rattle.gl_ledger_base.proofs.LedgersRows.{is_left}
use Rattle.gl_ledger_base.proofs.LedgersTold.{commit_both, last_signed_told, last_told, requests_told, root_told, signed_end, signs_told, snapshot_told, tables_told}

-- ---- requests behind a base

high_one : (base place : ℕ) (c : Content) → base < place → AllByRecursion (λ (r : Recorded). base < r.seqno) (recorded_in place c)
high_one base place (content.Governance bytes) high = go (request_in bytes)
  where
    go : (o : Option GovernanceRequest) → AllByRecursion (λ (r : Recorded). base < r.seqno) (recorded_at place o)
    go None = tt
    go (Some g) = (high, tt)
high_one base place (content.Application bytes) high = tt
high_one base place (content.Signature s) high = tt
high_one base place (content.Evidence d) high = tt

-- stand above it
all_high : (base first : ℕ) (es : List Entry) → base < first → AllByRecursion (λ (r : Recorded). base < r.seqno) (requests_from first es)
all_high base first [] high = tt
all_high base first (e ∷ es) high =
    each_append (λ (r : Recorded). base < r.seqno) (recorded_in first e.content) (requests_from (suc first) es)
    (high_one base first e.content high) (all_high base (suc first) es (omega (arith, high)))

base_read : (body : Body) (g : GovernedRows) → 0 < body.base → governed_rows body.base body.rows ≡ Ok g → governed_base body ≡ Some g
base_read body g some read = go (body.base == 0) refl
  where
    go : (b : Bool) → (body.base == 0) ≡ b → (if b then None else result_ok (governed_rows body.base body.rows)) ≡ Some g
    go true is = absurd (let none : body.base ≡ 0 = grind (arith, nat_tests, is) in omega (arith, none, some))
    go false is = ap result_ok read

over_more : (g : GovernedRows) (rs : List Recorded) (r : Recorded) → history_over (Some g) (rs ++ r ∷ []) ≡ with_request (history_over (Some g) rs) r
unfolding history_behind
over_more g rs r = fold-append with_request (begin_with (Some g)) rs (r ∷ [])

-- ---- nodes by their views

removal_in : Option NodeView → Option ℕ
removal_in None = None
removal_in (Some v) = v.removal

key_in_view : Option NodeView → List ℕ
key_in_view None = []
key_in_view (Some v) = v.node.key

endorsement_in_view : Option NodeView → List ℕ
endorsement_in_view None = []
endorsement_in_view (Some v) = v.node.endorsement

module _ (base : ℕ) (h : History) where
  removal_viewed : (o : Option RecordedNode) → nodes.removal_of h o ≡ removal_in (option_map (node_view base h) o)
  unfolding removal_in
  removal_viewed None = refl
  removal_viewed (Some n) = refl

  key_viewed : (o : Option RecordedNode) → key_found o ≡ key_in_view (option_map (node_view base h) o)
  unfolding key_in_view
  key_viewed None = refl
  key_viewed (Some n) = refl

  endorsement_viewed : (o : Option RecordedNode) → endorsement_found o ≡ endorsement_in_view (option_map (node_view base h) o)
  unfolding endorsement_in_view
  endorsement_viewed None = refl
  endorsement_viewed (Some n) = refl

module _ (base : ℕ) (a b : History) (x : Alike base a b) where
  same_ids : map (λ (n : RecordedNode). n.id) (nodes.nodes a) ≡ map (λ (n : RecordedNode). n.id) (nodes.nodes b)
  same_ids =
      map_twice (λ (v : NodeView). v.id) (node_view base a) (nodes.nodes a)
      ∙ ap (map (λ (v : NodeView). v.id)) x.nodes
      ∙ sym (map_twice (λ (v : NodeView). v.id) (node_view base b) (nodes.nodes b))

  same_removal : (y : NodeId) → nodes.removal a y ≡ nodes.removal b y
  unfolding nodes.removal
  same_removal y = removal_viewed base a (nodes.node a y) ∙ ap removal_in (same_node base a b x y) ∙ sym (removal_viewed base b (nodes.node b y))

  same_key : (y : NodeId) → key_found (nodes.node a y) ≡ key_found (nodes.node b y)
  same_key y = key_viewed base a (nodes.node a y) ∙ ap key_in_view (same_node base a b x y) ∙ sym (key_viewed base b (nodes.node b y))

  same_endorsement : (y : NodeId) → endorsement_found (nodes.node a y) ≡ endorsement_found (nodes.node b y)
  same_endorsement y = endorsement_viewed base a (nodes.node a y) ∙ ap endorsement_in_view (same_node base a b x y) ∙ sym (endorsement_viewed base b (nodes.node b y))

-- marks that stand alike from a base on ask the same of a commit
same_above : (base : ℕ) (one other removal : Option ℕ) (seqno commit : ℕ) → base ≤ seqno → ((s : ℕ) → base ≤ s → is_up_to s one ≡ is_up_to s other) →
    is_above_removal one removal seqno commit ≡ is_above_removal other removal seqno commit
same_above base None None removal seqno commit low same = refl
same_above base (Some m) None None seqno commit low same = refl
same_above base None (Some n) None seqno commit low same = refl
same_above base (Some m) (Some n) None seqno commit low same = refl
same_above base (Some m) (Some n) (Some r) seqno commit low same = ap (λ (b : Bool). b || nat_le r commit) (same seqno low)
same_above base (Some m) None (Some r) seqno commit low same =
    absurd (let here : nat_le m (max m base) ≡ false = same (max m base) (omega arith) in let up : max m base < m = grind (arith, nat_tests, here) in omega (arith, up))
same_above base None (Some n) (Some r) seqno commit low same =
    absurd (let here : false ≡ nat_le n (max n base) = same (max n base) (omega arith) in let up : max n base < n = grind (arith, nat_tests, here) in omega (arith, up))

-- ---- the last entry of a ledger

ends_with : (es : List Entry) (e : Entry) → 0 < length es → entry_at es (length es) ≡ Some e → last_entry es ≡ Some e
ends_with [] e some at = absurd (omega (arith, some))
ends_with (x ∷ xs) e some at = ap (slice_get (x ∷ xs)) (let last : length (x ∷ xs) - 1 ≡ length xs = omega arith in last) ∙ at

-- ---- the rows of governance in a snapshot

-- they are left by the requests of the ledger
rows_kept : (ledger : List Entry) → IsRead ledger → IsLeft (snapshot_of ledger).base (snapshot_of ledger).rows (requests_of ledger)
rows_kept ledger all =
    let counted : (snapshot_of ledger).base ≡ length ledger = omega arith in
    is_left ledger all.tables (snapshot_of ledger).base counted (small (snapshot_of ledger).base (length ledger) counted all.named)
  where
    small : (n m : ℕ) → n ≡ m → m ≤ last_seqno → n < 2 ^ 64
    small n m is low = omega (arith, is, low)

-- so they spell
pub rows_spelled : (ledger : List Entry) → 0 < length ledger → IsRead ledger → (g : GovernedRows) × (governed_rows (snapshot_of ledger).base (snapshot_of ledger).rows ≡ Ok g)
rows_spelled ledger some all =
    let left = rows_kept ledger all in
    always_read (requests_of ledger) all.governed (snapshot_of ledger).base left.low left.fits (all.founded some) (snapshot_of ledger).rows left.left

-- ---- a ledger and its snapshot

module _ (below es : List Entry) (some : 0 < length below) (ends : IsSignedUpTo below (length below)) (first : IsRead below) (all : IsRead (below ++ es)) where
  abbrev body : Body
  body = snapshot_of below

  counted : body.base ≡ length below
  counted = omega arith

  high : 0 < body.base
  high = omega (arith, some)

  left : IsLeft body.base body.rows (requests_of below)
  left = rows_kept below first

  read : (g : GovernedRows) × (governed_rows body.base body.rows ≡ Ok g)
  read = rows_spelled below some first

  begun : governed_base body ≡ Some read.0
  begun = base_read body read.0 high read.1

  abbrev behind : List Recorded
  behind = requests_over body es

  parts : requests_of (below ++ es) ≡ requests_of below ++ behind
  parts = requests_told below es body.base counted

  over : IsOver body.base body.rows read.0 (requests_of below) behind
  over = record {
    above = high;
    rows = left;
    read = read.1;
    high = all_high body.base (suc body.base) es (omega arith);
    governed = subst IsGoverned parts all.governed;
  }

  -- the requests behind are those above the base of the body's rows
  pub governed : (g : GovernedRows) × (governed_base body ≡ Some g) × IsOver body.base body.rows g (requests_of below) behind
  governed = (read.0, begun, over)

  abbrev p : Past
  p = past_behind body es

  abbrev q : Past
  q = past_from body.base (below ++ es)

  -- the histories
  whole : Alike body.base q.history p.history
  whole =
      subst₂ (Alike body.base) (ap history (sym parts)) (ap (λ (o : Option GovernedRows). history_over o behind) (sym begun))
      (alike_over body.base body.rows read.0 (requests_of below) behind over)

  above_base : (seqno : ℕ) → p.len < seqno → body.base < seqno
  above_base seqno above = omega (arith, above)

  refused : (seqno : ℕ) (g : GovernanceRequest) → p.len < seqno → is_request g ≡ true → refusal p.history seqno g ≡ refusal q.history seqno g
  refused seqno g above fits = sym (same_refusal body.base q.history p.history whole seqno (above_base seqno above) g fits)

  -- with one more request
  after : (r : Recorded) → p.len < r.seqno → is_request r.request ≡ true → refusal p.history r.seqno r.request ≡ None → Alike body.base (q.after r) (p.after r)
  after r above fits accepted =
      subst₂ (Alike body.base) (sym (history-more (requests_of (below ++ es)) r))
      (ap (λ (o : Option GovernedRows). with_request (history_over o behind) r) begun ∙ sym (over_more read.0 behind r) ∙ ap (λ (o : Option GovernedRows). history_over o (behind ++ r ∷ [])) (sym begun))
      (alike_request body.base q.history p.history whole r
      (is_new body.base q.history r (above_base r.seqno above) fits (sym (refused r.seqno r.request above fits) ∙ accepted)))

  -- the last entry
  end : (e : Entry) × (entry_at below (length below) ≡ Some e) × (is_signature e.content ≡ true)
  end = ends some

  last_at : last_entry below ≡ Some end.0
  last_at = ends_with below end.0 some end.1

  last_signs : last_signed below ≡ length below
  last_signs = signed_end below end.0 last_at end.2

  same_last_signed : p.last_signed ≡ q.last_signed
  same_last_signed = last_signed_told body below es counted last_signs

  signed_above : body.base ≤ p.last_signed
  signed_above = go (last_signed es == 0)
    where
      go : (b : Bool) → body.base ≤ (if b then body.base else body.base + last_signed es)
      go true = omega arith
      go false = omega arith

  same_removals : (y : NodeId) → p.removal y ≡ q.removal y
  unfolding removal
  same_removals y = sym (same_removal body.base q.history p.history whole y)

  same_marks : (y : NodeId) (commit : ℕ) → is_above_removal (p.mark y) (p.removal y) p.last_signed commit ≡ is_above_removal (q.mark y) (q.removal y) q.last_signed commit
  unfolding mark
  same_marks y commit =
      same_above body.base (p.mark y) (nodes.mark q.history y) (p.removal y) p.last_signed commit signed_above (λ s low. sym (whole.marks y s low))
      ∙ (λ i. is_above_removal (nodes.mark q.history y) (same_removals y i) (same_last_signed i) commit)

  same_nodes : p.nodes ≡ q.nodes
  unfolding recorded_nodes
  same_nodes = sym (same_ids body.base q.history p.history whole)

  pub alike : AreAlike p q
  alike = record {
    len = omega (arith, length-append below es);
    last = last_told body below es end.0 last_at end.2 (ap (view_or 0) last_at);
    tables = tables_told below es;
    root = root_told below es;
    signs = λ seqno. signs_told body below es seqno counted;
    last_signed = same_last_signed;
    last_commit = ap (λ (c : ℕ). commit_from c es) first.greatest ∙ sym (commit_both 0 below es);
    snapshot = snapshot_told below es;
    nodes = same_nodes;
    removals = same_removals;
    marks = same_marks;
    trusted = sym (same_trusted body.base q.history p.history whole);
    keys = λ y. sym (same_key body.base q.history p.history whole y);
    endorsements = λ y. sym (same_endorsement body.base q.history p.history whole y);
    rows = sym (same_all body.base q.history p.history whole);
    refusals = refused;
    effects = λ r above fits accepted. λ i.
        changes (sym (same_all body.base q.history p.history whole) i)
        (sym (same_all body.base (q.after r) (p.after r) (after r above fits accepted)) i);
    statuses = λ r g above fits accepted. sym (same_proposal_status body.base (q.after r) (p.after r) (after r above fits accepted) g);
  }
