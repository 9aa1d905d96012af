-- The nodes that entries record, and the removals of those that are marked, by the history of their
-- requests.
use Rattle.std.proofs.Common.{◌≡◌, ℕ, suc, List, [], ◌∷◌, map, Option, Some, None, is_some, option_map, Bool, true, false, cond, find, nat_lt, nat_le, ◌||◌, ◌&&◌, slice_get, Bor, refl, sym, ◌∙◌, ap, ap₂, subst, arith}
use Rattle.std.specs.List.{list_all, list_any}
use Rattle.std.proofs.lemmas.Bool.{or_left, or_parts}
use Rattle.std.proofs.lemmas.Bool.Decides.{nat_tests}
use Rattle.gl_base.specs.Bytes.{same_bytes}
use Rattle.std.specs.Option.{option_copied}
use Rattle.gl_rules.specs.Identity.{NodeId, same, member}
use Rattle.gl_vmaps.proofs.TablesLaws.{same_bytes-symm}
use Rattle.gl_entry.specs.declared.entry.Entry.{Entry}
use Rattle.gl_gov_rules.specs.declared.change.Changed.{Changed}
use Rattle.gl_gov_rules.specs.declared.change.RecordedNode.{RecordedNode}
use Rattle.gl_gov_rules.specs.History.{History}
use Rattle.gl_gov_rules.specs.declared.request_facts.Mark.{Mark}
use Rattle.gl_gov_rules.specs.Index.{marks_of, has_mark_after}
use Rattle.gl_gov_rules.specs.Nodes.{first_mark}
use Rattle.gl_gov_rules.specs.Nodes as nodes
use Rattle.gl_gov_rules.proofs.HistoryIndex as index
use Rattle.gl_gov_rules.proofs.Counting.{find_passes}
use Rattle.gl_gov_rules.proofs.NewNodes.{AreDistinct, node_in}
use Rattle.gl_gov_base.proofs.NodesOver.{nodes_distinct_over}
use Rattle.gl_snapshot_body.specs.declared.body.Body.{Body}
use Rattle.gl_ledger.specs.Past.{past_over}
use Rattle.gl_ledger.specs.Broken.{is_above_removal}
use Rattle.gl_audit.specs.GovState.{history_of}
use Rattle.gl_audit.specs.Kept.{IsStateOver}
use Rattle.gl_audit.specs.declared.ledger_state.LedgerState.{LedgerState}
use Rattle.gl_audit.proofs.PastOver.{history_kept, read_kept, accepted_kept, nodes_read, removal_read, mark_read}

-- ---- which are recorded

some_copied : {A : Type 0} (o : Option (Bor A)) → is_some (option_copied o) ≡ is_some o
some_copied None = refl
some_copied (Some a) = refl

-- the identifiers of the nodes of a history
abbrev names : History → List NodeId
names past = map (λ (n : RecordedNode). n.id) (nodes.nodes past)

named : (x : NodeId) (ns : List RecordedNode) → list_any (nodes.has_id x) ns ≡ member x (map (λ (n : RecordedNode). n.id) ns)
unfolding same
named x [] = refl
named x (n ∷ ns) = ap₂ (λ (a b : Bool). a || b) (same_bytes-symm n.id x) (named x ns)

node_recorded : (past : History) (x : NodeId) → is_some (nodes.node past x) ≡ member x (names past)
unfolding nodes.node
node_recorded past x = find_passes (nodes.has_id x) (nodes.nodes past) ∙ named x (nodes.nodes past)

-- a node that is found in the history kept is recorded
pub recorded_kept : (body : Body) (es : List Entry) (s : LedgerState) (past : History) (x : NodeId) (found : Option (Bor RecordedNode)) → IsStateOver body es s → past ≡ history_of s.gov →
    option_copied found ≡ nodes.node past x → is_some found ≡ member x (past_over body es).nodes
recorded_kept body es s past x found k is there =
    sym (some_copied found) ∙ ap is_some there ∙ node_recorded past x
    ∙ ap (λ (p : History). member x (names p)) (is ∙ sym (history_kept body es s k)) ∙ ap (member x) (sym (nodes_read body es))

-- ---- removals of marked nodes

-- the seqno of the change that took a node out of service
abbrev retired_at : History → RecordedNode → Option ℕ
retired_at past n = option_map (λ (c : Changed). c.seqno) (nodes.retirement past n)

-- where no two nodes have one identifier
removal_is : (past : History) → AreDistinct (nodes.nodes past) → (i : ℕ) (n : RecordedNode) → slice_get (nodes.nodes past) i ≡ Some n → nodes.removal past n.id ≡ retired_at past n
unfolding nodes.removal
removal_is past apart i n at = ap (nodes.removal_of past) (node_in past i n apart at)

each_of : (f : NodeId → Bool) (g : RecordedNode → Bool) (ns : List RecordedNode) → ((i : ℕ) (n : RecordedNode) → slice_get ns i ≡ Some n → g n ≡ f n.id) →
    list_all g ns ≡ list_all f (map (λ (n : RecordedNode). n.id) ns)
each_of f g [] each = refl
each_of f g (n ∷ ns) each = ap₂ (λ (a b : Bool). a && b) (each 0 n refl) (each_of f g ns (λ i m at. each (suc i) m at))

abbrev above : ℕ → ℕ → History → RecordedNode → Bool
above signed commit past n = is_above_removal (nodes.mark past n.id) (retired_at past n) signed commit

-- the commit is above the removals of all nodes that were marked after the last signature
abbrev pub are_above : History → ℕ → ℕ → Bool
are_above past signed commit = list_all (λ (y : NodeId). is_above_removal (nodes.mark past y) (nodes.removal past y) signed commit) (names past)

all_above : (past : History) (signed commit : ℕ) → AreDistinct (nodes.nodes past) → list_all (above signed commit past) (nodes.nodes past) ≡ are_above past signed commit
all_above past signed commit apart =
    each_of (λ (y : NodeId). is_above_removal (nodes.mark past y) (nodes.removal past y) signed commit) (above signed commit past) (nodes.nodes past)
    (λ i n at. ap (λ (r : Option ℕ). is_above_removal (nodes.mark past n.id) r signed commit) (sym (removal_is past apart i n at)))

-- where no node is marked after the last signature nothing else is asked

low_mark : (mark seqno commit : ℕ) (removal : Option ℕ) → nat_lt seqno mark ≡ false → is_above_removal (Some mark) removal seqno commit ≡ true
low_mark mark seqno commit None low = refl
low_mark mark seqno commit (Some at) low = let le : nat_le mark seqno ≡ true = grind (arith, nat_tests) in or_left (nat_le mark seqno) (nat_le at commit) le

low_first : (id : List ℕ) (seqno commit : ℕ) (removal : Option ℕ) (ms : List Mark) → list_any (λ (m : Mark). nat_lt seqno m.seqno) ms ≡ false →
    is_above_removal (first_mark id ms) removal seqno commit ≡ true
low_first id seqno commit removal [] none = refl
low_first id seqno commit removal (m ∷ ms) none =
    let both = or_parts (nat_lt seqno m.seqno) (list_any (λ (x : Mark). nat_lt seqno x.seqno) ms) none in
    by (same_bytes id m.id) (low_mark m.seqno seqno commit removal both.0) (low_first id seqno commit removal ms both.1)
  where
    by : (b : Bool) → is_above_removal (Some m.seqno) removal seqno commit ≡ true → is_above_removal (first_mark id ms) removal seqno commit ≡ true →
        is_above_removal (option_map (λ (x : Mark). x.seqno) (cond b (Some m) (find (λ (x : Mark). same_bytes id x.id) ms))) removal seqno commit ≡ true
    by true here rest = here
    by false here rest = rest

low_each : (past : History) (seqno commit : ℕ) → has_mark_after past seqno ≡ false → (n : RecordedNode) → above seqno commit past n ≡ true
unfolding has_mark_after
low_each past seqno commit none n =
    ap (λ (o : Option ℕ). is_above_removal o (retired_at past n) seqno commit) (index.mark_is past n.id)
    ∙ low_first n.id seqno commit (retired_at past n) (marks_of past) none

all_of : {A : Type 0} (p : A → Bool) → ((x : A) → p x ≡ true) → (xs : List A) → list_all p xs ≡ true
all_of p each [] = refl
all_of p each (x ∷ xs) = rw (each x) (all_of p each xs)

pub above_unmarked : (past : History) (seqno commit : ℕ) → has_mark_after past seqno ≡ false → list_all (above seqno commit past) (nodes.nodes past) ≡ true
above_unmarked past seqno commit none = all_of (above seqno commit past) (low_each past seqno commit none) (nodes.nodes past)

-- and so it is by the history kept

each_same : {A : Type 0} (p q : A → Bool) (xs : List A) → ((x : A) → p x ≡ q x) → list_all p xs ≡ list_all q xs
each_same p q [] each = refl
each_same p q (x ∷ xs) each = ap₂ (λ (a b : Bool). a && b) (each x) (each_same p q xs each)

read_above : (body : Body) (es : List Entry) (signed commit : ℕ) →
    are_above (past_over body es).history signed commit
    ≡ list_all (λ (y : NodeId). is_above_removal ((past_over body es).mark y) ((past_over body es).removal y) signed commit) (past_over body es).nodes
read_above body es signed commit =
    each_same (λ (y : NodeId). is_above_removal (nodes.mark (past_over body es).history y) (nodes.removal (past_over body es).history y) signed commit)
    (λ (y : NodeId). is_above_removal ((past_over body es).mark y) ((past_over body es).removal y) signed commit) (names (past_over body es).history)
    (λ y. ap₂ (λ (m r : Option ℕ). is_above_removal m r signed commit) (sym (mark_read body es y)) (sym (removal_read body es y)))
    ∙ ap (list_all (λ (y : NodeId). is_above_removal ((past_over body es).mark y) ((past_over body es).removal y) signed commit)) (sym (nodes_read body es))

pub above_kept : (body : Body) (es : List Entry) (s : LedgerState) (past : History) (signed commit : ℕ) → IsStateOver body es s → past ≡ history_of s.gov → signed ≡ (past_over body es).last_signed →
    list_all (above signed commit past) (nodes.nodes past)
    ≡ list_all (λ (y : NodeId). is_above_removal ((past_over body es).mark y) ((past_over body es).removal y) (past_over body es).last_signed commit) (past_over body es).nodes
above_kept body es s past signed commit k is last =
    all_above past signed commit
    (subst (λ (p : History). AreDistinct (nodes.nodes p)) (sym is) (nodes_distinct_over s.gov.base s.gov.requests (read_kept body es s k) (accepted_kept body es s k)))
    ∙ ap₂ (λ (p : History) (n : ℕ). are_above p n commit) (is ∙ sym (history_kept body es s k)) last ∙ read_above body es (past_over body es).last_signed commit
