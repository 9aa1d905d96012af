-- A small book in memory: entries with a view and a kind. It shows that what is asked of the
-- ledger's layer can be met, and that a commit which may be recorded is all that a signature needs.
use Rattle.std.specs.Prelude.{ℕ, suc, List, [], ◌∷◌, ◌++◌, length, take, min, Bool, true, false, ◌&&◌, not, nat_lt, nat_le, ◌==◌, is_some, is_none, if◌then◌else◌, Option, Some, None, Result, Ok, Err}
use Rattle.gl_rules.specs.Identity.{NodeId, same, member}
use Rattle.gl_rules.specs.Book.{Book}
use Rattle.gl_rules.specs.Log.{entry_at, last_signature, greatest_recorded}
use Rattle.gl_rules.specs.World.{Start}
use Rattle.gl_safety.specs.declared.small_book.Entry.{Entry}
use Rattle.gl_safety.specs.declared.small_book.Nodes.{Nodes}
use Rattle.gl_safety.specs.declared.small_book.Kind.{Kind}
use Rattle.gl_safety.specs.declared.small_book.Kind.TheVariants.{Plain, Change, Removal, Mark, Signature, Evidence}
use Rattle.gl_safety.specs.declared.small_book.Order.{Order}
use Rattle.gl_safety.specs.declared.small_book.Order.TheVariants.{SetNodes, RemoveNode, MarkNode}
use Rattle.gl_safety.specs.declared.small_book.Fault.{Fault}
use Rattle.gl_safety.specs.declared.small_book.Fault.TheVariants.{Unfit}

-- the nodes of a set, of which there are eight at most
abbrev pub members : Nodes → List NodeId
members s = take (min s.count 8) s.ids

abbrev pub signs : Kind → Bool
signs (Signature commit) = true
signs Plain = false
signs (Change nodes) = false
signs (Removal node nodes) = false
signs (Mark node) = false
signs Evidence = false

abbrev pub is_snapshot : Kind → Bool
is_snapshot Evidence = true
is_snapshot (Signature commit) = false
is_snapshot Plain = false
is_snapshot (Change nodes) = false
is_snapshot (Removal node nodes) = false
is_snapshot (Mark node) = false

abbrev pub commit_in : Kind → ℕ
commit_in (Signature commit) = commit
commit_in Plain = 0
commit_in (Change nodes) = 0
commit_in (Removal node nodes) = 0
commit_in (Mark node) = 0
commit_in Evidence = 0

abbrev pub set_in : Kind → Option (List NodeId)
set_in (Change nodes) = Some (members nodes)
set_in (Removal node nodes) = Some (members nodes)
set_in Plain = None
set_in (Mark node) = None
set_in (Signature commit) = None
set_in Evidence = None

abbrev pub removes : NodeId → Kind → Bool
removes y (Removal node nodes) = same y node
removes y Plain = false
removes y (Change nodes) = false
removes y (Mark node) = false
removes y (Signature commit) = false
removes y Evidence = false

abbrev pub is_mark_of : NodeId → Kind → Bool
is_mark_of y (Mark node) = same y node
is_mark_of y Plain = false
is_mark_of y (Change nodes) = false
is_mark_of y (Removal node nodes) = false
is_mark_of y (Signature commit) = false
is_mark_of y Evidence = false

abbrev pub one_later : Option ℕ → Option ℕ
one_later None = None
one_later (Some seqno) = Some (suc seqno)

-- The seqno of the first entry that passes the test.
abbrev pub first_place : (Entry → Bool) → List Entry → Option ℕ
first_place test [] = None
first_place test (e ∷ es) = if test e then Some 1 else one_later (first_place test es)

abbrev pub removal_of : List Entry → NodeId → Option ℕ
removal_of log y = first_place (λ e. removes y e.kind) log

abbrev pub mark_of : List Entry → NodeId → Option ℕ
mark_of log y = first_place (λ e. is_mark_of y e.kind) log

abbrev pub none_removed : List Entry → List NodeId → Bool
none_removed log [] = true
none_removed log (y ∷ ys) = is_none (removal_of log y) && none_removed log ys

abbrev pub signs_at : Option Entry → Bool
signs_at None = false
signs_at (Some e) = signs e.kind

abbrev pub set_at : Option Entry → Option (List NodeId)
set_at None = None
set_at (Some e) = set_in e.kind

abbrev pub marked_by : Order → Option NodeId
marked_by (MarkNode node) = Some node
marked_by (SetNodes nodes) = None
marked_by (RemoveNode node nodes) = None

abbrev pub all_added : List NodeId → List NodeId → List NodeId
all_added [] ys = ys
all_added (x ∷ xs) ys = all_added xs (if member x ys then ys else ys ++ x ∷ [])

abbrev pub nodes_of : Option (List NodeId) → List NodeId → List NodeId
nodes_of None ys = ys
nodes_of (Some xs) ys = all_added xs ys

-- the nodes of all sets so far, each where it came first
abbrev pub recorded_from : List NodeId → List Entry → List NodeId
recorded_from ys [] = ys
recorded_from ys (e ∷ es) = recorded_from (nodes_of (set_in e.kind) ys) es

-- The book but for what it makes and tries.
abbrev pub bare : Book Entry ℕ Order ℕ ℕ Fault
bare = record {
  view_of = λ e. e.view;
  is_signature = λ e. signs e.kind;
  is_evidence = λ e. is_snapshot e.kind;
  recorded_commit = λ e. commit_in e.kind;
  frame_size = λ e. 1;
  configuration = λ log. set_at (entry_at log (length log));
  recorded_nodes = λ log. recorded_from [] log;
  removal = removal_of;
  mark = mark_of;
  leaves = λ x. 32;
  execute = λ log view q. Err Unfit;
  govern = λ log view g. Err Unfit;
  sign = λ x leaf log view commit. Err Unfit;
  evidence = λ log view. Err Unfit;
  marked_node = marked_by;
  mark_refusal = λ log y. None;
  conflict = λ base log len reads. None;
  breaks = λ base log e. None;
}

-- Whether a node was marked above the last signature, and its removal stands above a commit.
abbrev pub is_above : Option ℕ → ℕ → Bool
is_above None seqno = false
is_above (Some other) seqno = nat_lt seqno other

abbrev pub removed_above : List Entry → ℕ → Kind → Bool
removed_above log commit (Mark node) =
    is_above (mark_of log node) (last_signature bare log) && is_above (removal_of log node) commit
removed_above log commit Plain = false
removed_above log commit (Change nodes) = false
removed_above log commit (Removal node nodes) = false
removed_above log commit (Signature recorded) = false
removed_above log commit Evidence = false

abbrev pub none_above : List Entry → ℕ → List Entry → Bool
none_above log commit [] = true
none_above log commit (e ∷ es) = not (removed_above log commit e.kind) && none_above log commit es

-- Whether a signature may record this commit: the first one its own seqno; any other one the seqno
-- of a signature, not below what an earlier one records, and not below the removal of a node that
-- was marked since the last one.
abbrev pub is_recordable : List Entry → ℕ → Bool
is_recordable log commit =
    if last_signature bare log == 0
    then commit == suc (length log)
    else (
    signs_at (entry_at log commit) && nat_le (greatest_recorded bare log) commit
    && none_above log commit log
    )

-- Whether an entry of this kind may follow: no removed node comes again, a mark stands after its
-- removal, a signature records a commit that may be recorded, and evidence stands right after a
-- signature. The same is asked where entries of the log came by a snapshot.
abbrev pub fits : List Entry → Kind → Bool
fits log Plain = true
fits log (Change nodes) = none_removed log (members nodes)
fits log (Removal node nodes) =
    not (member node (members nodes)) && none_removed log (members nodes)
fits log (Mark node) = is_some (removal_of log node)
fits log (Signature commit) = is_recordable log commit
fits log Evidence = signs_at (entry_at log (length log))

abbrev pub fault_of : Bool → Option Fault
fault_of true = None
fault_of false = Some Unfit

abbrev pub kind_of : Order → Kind
kind_of (SetNodes nodes) = Change nodes
kind_of (RemoveNode node nodes) = Removal node nodes
kind_of (MarkNode node) = Mark node

abbrev pub made_if : {X : Type 0} → Bool → X → Result X Fault
made_if true x = Ok x
made_if false x = Err Unfit

abbrev pub small : Book Entry ℕ Order ℕ ℕ Fault
small = record bare {
  execute = λ log view q. Ok (record { view = view; kind = Plain }, q);
  govern =
      λ log view g. made_if (fits log (kind_of g)) (record { view = view; kind = kind_of g }, 0);
  sign = λ x leaf log view commit. Ok (record { view = view; kind = Signature commit });
  evidence = λ log view. made_if (fits log Evidence) (record { view = view; kind = Evidence });
  breaks = λ base log e. fault_of (fits log e.kind);
}

-- How a service of it begins: the set of trusted nodes, and a signature that records its own seqno.
abbrev pub opening : Nodes → List Entry
opening nodes =
    record { view = 2; kind = Change nodes } ∷ record { view = 2; kind = Signature 2 } ∷ []

-- a service of these nodes, of which the first signed the opening
abbrev pub start : Nodes → NodeId → Start Entry
start nodes first = record { opening = opening nodes; starting = members nodes; first = first }
