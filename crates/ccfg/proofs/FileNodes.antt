-- A node of a world over a file in memory: what stays of its file, and that the file never fails.
use Rattle.std.proofs.Common.{◌≡◌, ◌≢◌, ◌⊎◌, inl, inr, ⊎_elim, ℕ, List, [], map, Ok, Err, Result, IfOk, IfErr, take, refl, sym, ap, subst, ◌∙◌, arith}
use Rattle.gl_base.specs.declared.or_no_memory.OrNoMemory.{OrNoMemory}
use Rattle.gl_base.specs.declared.or_no_memory.OrNoMemory.TheVariants.{Fault}
use Rattle.gl_rules.specs.Identity.{NodeId}
use Rattle.gl_rules.specs.Node.{Node}
use Rattle.gl_rules.specs.Replication.{restart}
use Rattle.gl_entry.specs.declared.entry.Entry.{Entry}
use Rattle.gl_outside.specs.Fault.{Rose}
use Rattle.gl_journal.specs.Durable.{Durable}
use Rattle.gl_journal.specs.declared.key.KeyKind.{KeyKind}
use Rattle.gl_journal.specs.declared.key.KeyKind.TheVariants as kinds
use Rattle.gl_journal.specs.declared.fault.JournalFault.{JournalFault}
use Rattle.gl_journal.specs.declared.fault.JournalFault.TheVariants as faults
use Rattle.gl_ledger.specs.LedgerBook.{ServiceBook, ledger_book}
use Rattle.gl_ledger.specs.NodeKeys.{service_layers}
use Rattle.gl_ledger.specs.declared.response.Response.{Response}
use Rattle.gl_ledger.specs.declared.response.Rejection.{Rejection}
use Rattle.gl_replication.specs.Events.{rule_of}
use Rattle.gl_replication.specs.declared.event.Event.{Event}
use Rattle.gl_replication.specs.Stands as node_status
use Rattle.gl_replication.specs.Stands.{Reports, StandsFor, seen_outcome}
use Rattle.gl_replication.specs.declared.done.Outcome.TheVariants as answers
use Rattle.gl_rules.specs.Outcome as outcomes
use Rattle.gl_election.specs.Bridge.{seen_message}
use Rattle.gl_tx.specs.declared.request.Operation.{Operation}
use Rattle.gl_requests.specs.declared.request.GovernanceRequest.{GovernanceRequest}
use Rattle.gl_ledger.specs.declared.response.Reads.{Reads}
use Rattle.gl_node.specs.Answers.{OnRefusal}
use Rattle.gl_node.specs.Kept.{kept_after}
use Rattle.gl_node.specs.Persistence.{OpensToCore, StandsForSome}
use Rattle.gl_node.specs.declared.fault.NodeFault.{NodeFault}
use Rattle.gl_node.specs.declared.fault.NodeFault.TheVariants as node_faults
use Rattle.gl_rules.specs.Outcome.{Step}
use Rattle.gl_world.specs.WorldNodes.{KeepsAll, Refuses, Rule, ServiceDone, ServiceRefusal, Stepped, Steps}
use Rattle.gl_store_book.specs.AtOpening.{restarted_node}
use Rattle.ccfg.specs.FileNodes.{IsFileIn, IsFileNode, OpensToNode, SeenFileNode, StandsOverFile}
use Rattle.gl_store_book.specs.Frames.{goes_on_ledger}
use Rattle.gl_store_book.specs.NodeFile.{node_of, opened}
use Rattle.gl_store_book.specs.Restarts.{GivesRestart, HoldsBase}
use Rattle.gl_store_book.specs.Replicas.{IsBelow, StandsForFile}
use Rattle.gl_store_book.specs.Stands.{HasLedger, NodeStore, Stands}
use Rattle.gl_store_book.specs.declared.node_file.fault.OpeningFault.{OpeningFault}
use Rattle.gl_store_book.specs.declared.node_file.fault.OpeningFault.TheVariants as openings
use Rattle.gl_store_book.proofs.HeldLedgers.{held_in}
use Rattle.gl_store_book.proofs.RestartLaws.{same_ok}

abbrev pub NodeEvent : Type 0
NodeEvent = Event NodeStore (List Operation) GovernanceRequest Reads Response Rejection

-- ---- a disk that never fails

-- an error that is a fault
pub as_fault : {T D E : Type 0} (result : Result T (OrNoMemory E × D)) (error : OrNoMemory E) (back : D) (fault : E) → result ≡ Err (error, back) → error ≡ Fault fault → result ≡ Err (Fault fault, back)
as_fault {E = E} result error back fault is same = is ∙ ap (λ (m : OrNoMemory E). Err (m, back)) same

pub as_other : {T D E : Type 0} (result : Result T (OrNoMemory E × D)) (back : D) (fault other : E) → result ≡ Err (Fault fault, back) → fault ≡ other → result ≡ Err (Fault other, back)
as_other {E = E} result back fault other is same = is ∙ ap (λ (f : E). Err (Fault f, back)) same

pub as_plain_fault : {T E : Type 0} (result : Result T (OrNoMemory E)) (error : OrNoMemory E) (fault : E) → result ≡ Err error → error ≡ Fault fault → result ≡ Err (Fault fault)
as_plain_fault {E = E} result error fault is same = is ∙ ap (λ (m : OrNoMemory E). Err m) same

-- its count of faults never rises
pub never_rose : Rose 0 0 → ⊥
never_rose (inl low) = absurd (omega (arith, low))
never_rose (inr high) = absurd (omega (arith, high))

pub as_plain_other : {T E : Type 0} (result : Result T (OrNoMemory E)) (fault other : E) → result ≡ Err (Fault fault) → fault ≡ other → result ≡ Err (Fault other)
as_plain_other {E = E} result fault other is same = is ∙ ap (λ (f : E). Err (Fault f)) same

-- two states that one file opens to are one
pub one_state : (bytes : List ℕ) (d e : Durable) → opened bytes ≡ Ok d → opened bytes ≡ Ok e → d ≡ e
one_state bytes d e first second = same_ok {E = JournalFault} d e (sym first ∙ second)

disk_or_other : (why : JournalFault) → (why ≡ faults.DiskFault) ⊎ (why ≢ faults.DiskFault)
disk_or_other (faults.NotJournal at) = inr (λ e. absurd cc)
disk_or_other (faults.BadRecord at) = inr (λ e. absurd cc)
disk_or_other faults.DiskFault = inl refl
disk_or_other (faults.NotEmpty len) = inr (λ e. absurd cc)

ok_or_err : (bytes : List ℕ) (d : Durable) (why : JournalFault) → opened bytes ≡ Ok d → opened bytes ≡ Err why → ⊥
ok_or_err bytes d why good bad = let wrong : ◌≡◌ {A = Result Durable JournalFault} (Ok d) (Err why) = sym good ∙ bad in absurd cc

-- a node's file in memory is opened without a fault
pub opens_well : (bytes : List ℕ) (d : Durable) (fault : OpeningFault) → OpensToNode bytes d →
    (((why : JournalFault) × (fault ≡ openings.Journal why)) ⊎ ((got : KeyKind) × (fault ≡ openings.KeyKind kinds.Node got))) →
    ((why : JournalFault) → fault ≡ openings.Journal why → why ≢ faults.DiskFault → opened bytes ≡ Err why) →
    (fault ≡ openings.Journal faults.DiskFault → Rose 0 0) →
    ((got : KeyKind) → fault ≡ openings.KeyKind kinds.Node got → (state : Durable) × (opened bytes ≡ Ok state) × (state.key.kind ≡ got)) →
    ((got : KeyKind) → fault ≡ openings.KeyKind kinds.Node got → got ≢ kinds.Node) → ⊥
opens_well bytes d fault here (inl p) damaged rose wrong_kind other = ⊎_elim
    (λ (disk : p.0 ≡ faults.DiskFault). never_rose (rose (p.1 ∙ ap openings.Journal disk)))
    (λ (not : p.0 ≢ faults.DiskFault). ok_or_err bytes d p.0 here.opens (damaged p.0 p.1 not))
    (disk_or_other p.0)
opens_well bytes d fault here (inr p) damaged rose wrong_kind other =
    let q = wrong_kind p.0 p.1 in
    other p.0 p.1 (sym q.2 ∙ ap (λ (s : Durable). s.key.kind) (one_state bytes q.0 d q.1 here.opens) ∙ here.kind)

-- ---- an event

-- what keeps a node more has the same key
pub kept_in : (d : Durable) (m : Node Entry) (b : ServiceBook) (x : NodeId) → IsFileIn d b x → IsFileIn (kept_after d m) b x
kept_in d m b x f = record { keys = f.keys; book = f.book; named = f.named; key = f.key }

pub file_kept : (bytes : List ℕ) (d : Durable) (b : ServiceBook) (x : NodeId) → opened bytes ≡ Ok d → IsFileIn d b x →
    (e : Durable) → opened bytes ≡ Ok e → IsFileIn e b x
file_kept bytes d b x is f e other = subst (λ (s : Durable). IsFileIn s b x) (one_state bytes d e is other) f

-- ---- a restart

-- what the file held gives the restart of each node for which the core stood, and its snapshot
-- stands for the entries of that up to the base
pub record Restarts (old : SeenFileNode) : Type 0 where
  pub gives : Reports Stands old.core (λ b x n. (e : Durable) → opened old.disk.bytes ≡ Ok e → GivesRestart b n e)
  pub holds : Reports Stands old.core (λ b x n. (e : Durable) → opened old.disk.bytes ≡ Ok e → HoldsBase n e)
  pub below : Reports Stands old.core (λ b x n. (e : Durable) → HoldsBase n e → IsBelow e (take n.base n.log))

turned : (old new : SeenFileNode) (d : Durable) → opened old.disk.bytes ≡ Ok d → opened new.disk.bytes ≡ Ok d → StandsForFile d new.core (λ b below. restarted_node b below d) → Restarts old →
    (b : ServiceBook) (x : NodeId) (n : Node Entry) → StandsOverFile old b x n → StandsOverFile new b x (restart {A = Response} {F = Rejection} b n).node
turned old new d before after stands law b x n s =
    let f = s.file d before in
    let under = take n.base n.log in
    let is_under : IsBelow d under = law.below b x n s.core d (law.holds b x n s.core d before) in
    let here : StandsFor Stands new.core (ledger_book service_layers f.keys) (node_of d) (restarted_node (ledger_book service_layers f.keys) under d) = stands f.keys f.key under is_under in
    let as_book : StandsFor Stands new.core b (node_of d) (restarted_node b under d) = subst (λ (v : ServiceBook). StandsFor Stands new.core v (node_of d) (restarted_node v under d)) (sym f.book) here in
    let as_node : StandsFor Stands new.core b x (restarted_node b under d) = subst (λ (y : NodeId). StandsFor Stands new.core b y (restarted_node b under d)) (sym f.named) as_book in
    record {
      core = subst (λ (m : Node Entry). StandsFor Stands new.core b x m) (law.gives b x n s.core d before) as_node;
      file = file_kept new.disk.bytes d b x after f;
    }

-- it answers so, and sends nothing
restart_says : (b : ServiceBook) (n : Node Entry) → ((restart {A = Response} {F = Rejection} b n).outcome ≡ outcomes.Done) × ((restart {A = Response} {F = Rejection} b n).sent ≡ [])
unfolding restart
restart_says b n = (refl, refl)

pub restarted_steps : (old new : SeenFileNode) (done : ServiceDone NodeStore) (d : Durable) → opened old.disk.bytes ≡ Ok d → opened new.disk.bytes ≡ Ok d → StandsForFile d new.core (λ b below. restarted_node b below d) → Restarts old →
    done.outcome ≡ answers.Done → done.sent ≡ [] → Steps StandsOverFile (λ b x n. restart b n) old done new
restarted_steps old new done d before after stands law is none b x n s = record {
  node = turned old new d before after stands law b x n s;
  outcome = ap seen_outcome is ∙ sym (restart_says b n).0;
  sent = ap (map seen_message) none ∙ sym (restart_says b n).1;
}

-- the snapshot that the file holds stands for a ledger too
pub file_ledger : (old : SeenFileNode) (d : Durable) → IsFileNode old → opened old.disk.bytes ≡ Ok d → (HasLedger old.core.book.ledger.snapshot → OpensToCore held_in goes_on_ledger old.disk.bytes old.core) → HasLedger d.snapshot
file_ledger old d is opens keeps =
    let kept = keeps is.ledger in
    subst HasLedger (sym kept.2.snapshot ∙ ap (λ (e : Durable). e.snapshot) (one_state old.disk.bytes kept.0 d kept.1 opens)) is.ledger

-- ---- why a node refuses

abbrev pub ServiceFault : Type 0
ServiceFault = NodeFault NodeStore (List Operation) GovernanceRequest Reads Response Rejection

pub err_as : {T E : Type 0} (result : Result T E) (fault other : E) → result ≡ Err fault → fault ≡ other → result ≡ Err other
err_as {E = E} result fault other is same = is ∙ ap (λ (f : E). Err f) same

module _ (result : Result (ServiceDone NodeStore) ServiceFault) (fault : ServiceFault) (why : ServiceRefusal NodeStore) (is : result ≡ Err fault) (this : fault ≡ node_faults.Refused why) where
  pub on_refused : (P : ServiceRefusal NodeStore → Type 0) → OnRefusal result P → P why
  on_refused P here = subst (λ (r : Result (ServiceDone NodeStore) ServiceFault). OnRefusal r P) (err_as result fault (node_faults.Refused why) is this) here

  pub no_fault : result ≡ Err node_faults.DiskFault → ⊥
  no_fault other =
      let wrong : ◌≡◌ {A = Result (ServiceDone NodeStore) ServiceFault} (Err (node_faults.Refused why)) (Err node_faults.DiskFault) = sym (err_as result fault (node_faults.Refused why) is this) ∙ other in
      absurd cc

-- ---- a node that serves

-- the file keeps of each node for which the core stood what the rule makes of it
abbrev pub KeepsRule : NodeEvent → SeenFileNode → SeenFileNode → Type 0
KeepsRule event old new = Reports Stands old.core (λ b x n. (e : Durable) → opened old.disk.bytes ≡ Ok e →
    opened new.disk.bytes ≡ Ok (kept_after e (rule_of event b x n).node))

pub served_steps : (event : NodeEvent) (old new : SeenFileNode) (done : ServiceDone NodeStore) → IsFileNode old → KeepsRule event old new →
    node_status.Steps Stands (rule_of event) old.core done new.core → Steps StandsOverFile (rule_of event) old done new
served_steps event old new done is kept steps b x n s =
    let p = steps b x n s.core in
    let now = kept b x n s.core is.state is.file.opens in
    let d = kept_after is.state (rule_of event b x n).node in
    record {
      node = record {
        core = p.node;
        file = file_kept new.disk.bytes d b x now (kept_in is.state (rule_of event b x n).node b x (s.file is.state is.file.opens));
      };
      outcome = p.outcome;
      sent = p.sent;
    }

pub serves_on : (event : NodeEvent) (old new : SeenFileNode) → IsFileNode old → (HasLedger old.core.book.ledger.snapshot → StandsForSome Stands old.core) → KeepsRule event old new → new.stopped ≡ old.stopped →
    new.core.book.ledger.snapshot ≡ old.core.book.ledger.snapshot → IsFileNode new
serves_on event old new is stands kept same snapshot =
    let some = stands is.ledger in
    record {
      serves = same ∙ is.serves;
      ledger = subst HasLedger (sym snapshot) is.ledger;
      state = kept_after is.state (rule_of event some.rules some.me some.node).node;
      file = record { opens = kept some.rules some.me some.node some.standing is.state is.file.opens; kind = is.file.kind };
    }

-- and one that refuses
pub refuses_on : (old new : SeenFileNode) → IsFileNode old → new.disk.bytes ≡ old.disk.bytes → new.stopped ≡ old.stopped → new.core.book.ledger.snapshot ≡ old.core.book.ledger.snapshot → IsFileNode new
refuses_on old new is bytes same snapshot = record {
  serves = same ∙ is.serves;
  ledger = subst HasLedger (sym snapshot) is.ledger;
  state = is.state;
  file = record { opens = ap opened bytes ∙ is.file.opens; kind = is.file.kind };
}

pub keeps_over : (old new : SeenFileNode) → new.disk.bytes ≡ old.disk.bytes → node_status.KeepsAll Stands old.core new.core → KeepsAll StandsOverFile old new
keeps_over old new bytes keeps b x n s = record {
  core = keeps b x n s.core;
  file = λ state opens. s.file state (ap opened (sym bytes) ∙ opens);
}

-- ---- two rules that are one

module _ (rule other : Rule) (same : (b : ServiceBook) (x : NodeId) (n : Node Entry) → other b x n ≡ rule b x n) (old : SeenFileNode) where
  pub steps_as : (new : SeenFileNode) (done : ServiceDone NodeStore) → Steps StandsOverFile rule old done new → Steps StandsOverFile other old done new
  steps_as new done steps b x n s = subst (λ (step : Step Entry Response Rejection). Stepped StandsOverFile b x step done new) (sym (same b x n)) (steps b x n s)

  pub refuses_as : (why : ServiceRefusal NodeStore) → Refuses StandsOverFile rule old why → Refuses StandsOverFile other old why
  refuses_as why refuses b x n s = subst (λ (step : Step Entry Response Rejection). node_status.Answers why step.outcome) (sym (same b x n)) (refuses b x n s)

  pub ok_steps : (new : SeenFileNode) (result : Result (ServiceDone NodeStore) (ServiceRefusal NodeStore)) → IfOk result (λ done. Steps StandsOverFile rule old done new) → IfOk result (λ done. Steps StandsOverFile other old done new)
  ok_steps new (Ok done) steps = steps_as new done steps
  ok_steps new (Err why) steps = tt

  pub err_refuses : (result : Result (ServiceDone NodeStore) (ServiceRefusal NodeStore)) → IfErr result (λ why. Refuses StandsOverFile rule old why) → IfErr result (λ why. Refuses StandsOverFile other old why)
  err_refuses (Ok done) refuses = tt
  err_refuses (Err why) refuses = refuses_as why refuses
