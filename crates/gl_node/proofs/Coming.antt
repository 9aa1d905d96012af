-- What an event comes to, by its exits.
use Rattle.std.proofs.Common.{◌≡◌, inl, ℕ, Bool, List, Result, Ok, Err, OnOk, IsTrue, sym, ap, subst, ◌∙◌}
use Rattle.gl_entry.specs.declared.entry.Entry.{Entry}
use Rattle.gl_rules.specs.Identity.{NodeId}
use Rattle.gl_rules.specs.Book.{Book}
use Rattle.gl_rules.specs.Node.{Node}
use Rattle.gl_rules.specs.Outcome as outcomes
use Rattle.gl_outside.specs.Disk.{Step, IsImage, Leaves}
use Rattle.gl_outside.specs.Fault.{Counts}
use Rattle.gl_outside.proofs.Moments.{started, stayed}
use Rattle.gl_journal.specs.Durable.{Durable, LogRules, durable, journal_header, OpensToOneOf}
use Rattle.gl_journal.specs.Kept.{IsKept}
use Rattle.gl_journal.specs.Stops.{IsSettled}
use Rattle.gl_journal.specs.declared.journal.Journal.{Journal}
use Rattle.gl_journal.proofs.Appending.{settled_gate}
use Rattle.gl_replication.specs.Holding.{Holding}
use Rattle.gl_replication.specs.Stands.{KeepsAll, Refuses, Reports, StandsFor, Steps}
use Rattle.gl_replication.specs.declared.node.Core.{Core}
use Rattle.gl_replication.specs.declared.done.Done.{Done}
use Rattle.gl_replication.specs.declared.done.Refusal.{Refusal}
use Rattle.gl_node.specs.Changes.{IsAsKept, KeepsBase}
use Rattle.gl_node.specs.Comes.{Comes, IsBroken, IsDone, IsRefused}
use Rattle.gl_node.specs.Kept.{Kept, kept_after}
use Rattle.gl_node.specs.Persistence.{HoldsAbove, IsFileOf, IsServing, SnapshotOf, StandsForSome, kept_of}
use Rattle.gl_node.specs.declared.fault.NodeFault.{NodeFault}
use Rattle.gl_node.specs.declared.fault.NodeFault.TheVariants.{Refused, DiskFault, Stopped}
use Rattle.gl_node.proofs.Ending.{SameFile, ends_broken, of_ok}
use Rattle.gl_node.proofs.Standings.{keeps_kept, kept_same, kept_still, still_keeps}
use Rattle.gl_node.proofs.ElectionSteps.{as_it_was}

-- an image of a settled file opens as the file does
settled_image : (goes_on : LogRules) (place : ℕ) (bytes : List ℕ) (past : List Step) (state next : Durable) → IsSettled journal_header place bytes past → durable goes_on bytes ≡ Ok state → (image : List ℕ) → IsImage past image → OpensToOneOf goes_on state next image
settled_image goes_on place bytes past state next settled is image left =
    subst (OpensToOneOf goes_on state next) (sym (settled.kept image left)) (settled_gate journal_header place bytes past settled, inl is)

pub same_ok : {T E : Type 0} (a b : T) → ◌≡◌ {A = Result T E} (Ok a) (Ok b) → a ≡ b
same_ok a b is = cc

module _ {D S Q G R A F : Type 0} (stands : S → Book Entry Q G R A F → Holding Entry → Type 0) (held : S → Kept) (snapshot_of : SnapshotOf) (goes_on : LogRules) (honest : Bool) (bytes : D → List ℕ) (past : D → List Step) (faults : D → ℕ) where
  abbrev Serving : Core S Q G R A F → Journal D → Type 0
  Serving c j = IsServing stands held snapshot_of goes_on honest bytes past c j

  abbrev Same : Journal D → Journal D → Type 0
  Same j j' = SameFile honest bytes past faults j j'

  module _ {c : Core S Q G R A F} {j j' : Journal D} (here : Serving c j) (same : Same j j') where
    -- each image that a stop leaves opens to what the file does
    pub opens_still : (d next : Durable) → IsTrue honest → durable goes_on (bytes j.gated.disk) ≡ Ok d → Leaves (OpensToOneOf goes_on d next) (past j.gated.disk) (past j'.gated.disk)
    opens_still d next h is =
        let P = OpensToOneOf goes_on d next in
        let f = here.file h in
        let settled = subst (λ (header : List ℕ). IsSettled header j.gated.place (bytes j.gated.disk) (past j.gated.disk)) f.kept.header f.kept.settled in
        stayed P (past j.gated.disk) (past j.gated.disk) (past j'.gated.disk)
        (started P (past j.gated.disk) (settled_image goes_on j.gated.place (bytes j.gated.disk) (past j.gated.disk) d next settled is)) (same.stops h)

  module _ {c c' : Core S Q G R A F} {j j' : Journal D} (here : Serving c j) (same : Same j j') (above : HoldsAbove stands held snapshot_of c'.book) where
    -- a node in which nothing of what the file keeps is another
    pub serving_still : {m : Node Entry} → StandsFor stands c' here.some.rules here.some.me m → IsAsKept here.some.node m → Serving c' j'
    serving_still {m} s k = record {
      some = record { rules = here.some.rules; me = here.some.me; node = m; standing = s };
      above = above;
      file = λ h.
          let f = here.file h in
          record {
            kept = same.settles h f.kept;
            state = f.state;
            opens = ap (durable goes_on) (same.reads h) ∙ f.opens;
            keeps = still_keeps stands held snapshot_of here.above here.some.standing above s f.state k f.keeps;
            leaves = f.leaves;
          };
    }

    -- a refusal
    pub refused_by : (rule : Book Entry Q G R A F → NodeId → Node Entry → outcomes.Step Entry A F) (why : Refusal S Q G R A F) → Refuses stands rule c why → KeepsAll stands c c' → IsRefused stands held snapshot_of goes_on honest bytes past faults rule c j why c' j'
    refused_by rule why refuses keeps = record {
      refused = refuses;
      keeps = keeps;
      serving = serving_still (keeps here.some.rules here.some.me here.some.node here.some.standing) (as_it_was here.some.node);
      same = λ h. (same.reads h, same.stops h);
      quiet = same.counted;
    }

    -- an event that changes nothing of what the file keeps
    pub passed_by : (rule : Book Entry Q G R A F → NodeId → Node Entry → outcomes.Step Entry A F) (done : Done S Q G R A F) → Steps stands rule c done c' → Reports stands c (λ b x n. IsAsKept n (rule b x n).node) → IsDone stands held snapshot_of goes_on honest bytes past faults rule c j done c' j'
    passed_by rule done steps kept =
        let s = here.some.standing in
        let b = here.some.rules in
        let x = here.some.me in
        let n = here.some.node in
        let then = (steps b x n s).node in
        let k = kept b x n s in
        let state_is : IsTrue honest → (d : Durable) → durable goes_on (bytes j.gated.disk) ≡ Ok d → kept_of held d c' ≡ d =
        λ h d is.
        let f = here.file h in
        let one : f.state ≡ d = same_ok f.state d (sym f.opens ∙ is) in
        kept_still stands held snapshot_of d c' (subst (λ (v : Durable). IsFileOf held v c') one (still_keeps stands held snapshot_of here.above s above then f.state k f.keeps)) in
        let opens : IsTrue honest → (d : Durable) → durable goes_on (bytes j.gated.disk) ≡ Ok d → durable goes_on (bytes j'.gated.disk) ≡ Ok (kept_of held d c') =
        λ h d is. ap (durable goes_on) (same.reads h) ∙ is ∙ ap (λ (v : Durable). Ok v) (sym (state_is h d is)) in
        let serving = serving_still then k in
        record {
          steps = steps;
          serving = serving;
          kept = opens;
          after = λ h d is image left. ap (durable goes_on) ((serving.file h).kept.settled.kept image left) ∙ opens h d is;
          any_moment = λ h d is. opens_still here same d (kept_of held d c') h is;
          quiet = same.counted;
        }

-- an event whose changes are kept, or at which the disk fails
module _ {D S Q G R A F T E : Type 0} (stands : S → Book Entry Q G R A F → Holding Entry → Type 0) (held : S → Kept) (snapshot_of : SnapshotOf) (goes_on : LogRules) (honest : Bool) (bytes : D → List ℕ) (past : D → List Step) (faults : D → ℕ)
    {c c' : Core S Q G R A F} {j mid : Journal D} (j' : Journal D) (here : IsServing stands held snapshot_of goes_on honest bytes past c j) (same : SameFile honest bytes past faults j mid) (above : HoldsAbove stands held snapshot_of c'.book)
    (rule : Book Entry Q G R A F → NodeId → Node Entry → outcomes.Step Entry A F) (done : Done S Q G R A F) (steps : Steps stands rule c done c')
    (stays : KeepsBase here.some.node (rule here.some.rules here.some.me here.some.node).node)
    (Change : Durable → Type 0) (changes : (h : IsTrue honest) → Change (here.file h).state) (result : Result T E)
    (settles : IsTrue honest → OnOk result (IsKept bytes past j'))
    (kept : IsTrue honest → (d : Durable) → durable goes_on (bytes mid.gated.disk) ≡ Ok d → Change d → OnOk result (durable goes_on (bytes j'.gated.disk) ≡ Ok (kept_of held d c')))
    (after : IsTrue honest → (d : Durable) → durable goes_on (bytes mid.gated.disk) ≡ Ok d → Change d → OnOk result ((image : List ℕ) → IsImage (past j'.gated.disk) image → durable goes_on image ≡ Ok (kept_of held d c')))
    (any_moment : IsTrue honest → (d : Durable) → durable goes_on (bytes mid.gated.disk) ≡ Ok d → Change d → Leaves (OpensToOneOf goes_on d (kept_of held d c')) (past mid.gated.disk) (past j'.gated.disk))
    (counts : Counts (faults mid.gated.disk) (faults j'.gated.disk) result) where
  there : IsTrue honest → (d : Durable) → durable goes_on (bytes j.gated.disk) ≡ Ok d → durable goes_on (bytes mid.gated.disk) ≡ Ok d
  there h d is = ap (durable goes_on) (same.reads h) ∙ is

  changed : (h : IsTrue honest) (d : Durable) → durable goes_on (bytes j.gated.disk) ≡ Ok d → Change d
  changed h d is = let f = here.file h in subst Change (same_ok f.state d (sym f.opens ∙ is)) (changes h)

  then : StandsFor stands c' here.some.rules here.some.me (rule here.some.rules here.some.me here.some.node).node
  then = (steps here.some.rules here.some.me here.some.node here.some.standing).node

  abbrev some_then : StandsForSome stands c'
  some_then = record { rules = here.some.rules; me = here.some.me; node = (rule here.some.rules here.some.me here.some.node).node; standing = then }

  moments : IsTrue honest → (d : Durable) → durable goes_on (bytes j.gated.disk) ≡ Ok d → Leaves (OpensToOneOf goes_on d (kept_of held d c')) (past j.gated.disk) (past j'.gated.disk)
  moments h d is = subst (λ (p : List Step). Leaves (OpensToOneOf goes_on d (kept_of held d c')) p (past j'.gated.disk)) (same.stops h) (any_moment h d (there h d is) (changed h d is))

  pub done_by : (value : T) → result ≡ Ok value → IsDone stands held snapshot_of goes_on honest bytes past faults rule c j done c' j'
  done_by value ok = record {
    steps = steps;
    serving = record {
      some = some_then;
      above = above;
      file = λ h.
          let f = here.file h in
          record {
            kept = of_ok result value ok (settles h);
            state = kept_of held f.state c';
            opens = of_ok result value ok (kept h f.state (there h f.state f.opens) (changes h));
            keeps = keeps_kept stands held snapshot_of here.above here.some.standing above then f.state stays f.keeps;
            leaves = f.leaves;
          };
    };
    kept = λ h d is. of_ok result value ok (kept h d (there h d is) (changed h d is));
    after = λ h d is. of_ok result value ok (after h d (there h d is) (changed h d is));
    any_moment = moments;
    quiet = of_ok result value ok counts.quiet ∙ same.counted;
  }

  pub broken_by : (e : E) → result ≡ Err e → IsBroken stands held snapshot_of goes_on honest bytes past faults rule c j c' j'
  broken_by e err = record {
    turned = λ b x n s. (steps b x n s).node;
    some = some_then;
    above = above;
    any_moment = moments;
    rose = ends_broken honest bytes past faults j' same result counts e err;
  }

-- at every moment of an event that is served
module _ {D S Q G R A F : Type 0} (stands : S → Book Entry Q G R A F → Holding Entry → Type 0) (held : S → Kept) (snapshot_of : SnapshotOf) (goes_on : LogRules) (honest : Bool) (bytes : D → List ℕ) (past : D → List Step) (faults : D → ℕ)
    (rule : Book Entry Q G R A F → NodeId → Node Entry → outcomes.Step Entry A F) {c : Core S Q G R A F} {j : Journal D} (here : IsServing stands held snapshot_of goes_on honest bytes past c j) where
  abbrev Moments : Journal D → Type 0
  Moments j' = Reports stands c (λ b x n. (d : Durable) → durable goes_on (bytes j.gated.disk) ≡ Ok d →
      Leaves (OpensToOneOf goes_on d (kept_after d (rule b x n).node)) (past j.gated.disk) (past j'.gated.disk))

  pub every_moment : (result : Result (Done S Q G R A F) (NodeFault S Q G R A F)) (c' : Core S Q G R A F) (j' : Journal D) → Comes stands held snapshot_of goes_on honest bytes past faults rule c j result c' j' → IsTrue honest → Moments j'
  every_moment (Ok done) c' j' came h b x n s d is =
      subst (λ (next : Durable). Leaves (OpensToOneOf goes_on d next) (past j.gated.disk) (past j'.gated.disk)) (kept_same stands held snapshot_of d came.serving.above (came.steps b x n s).node) (came.any_moment h d is)
  every_moment (Err (Refused why)) c' j' came h b x n s d is =
      let same : SameFile honest bytes past faults j j' = record { settles = λ t k. (came.serving.file t).kept; reads = λ t. (came.same t).0; stops = λ t. (came.same t).1; counted = came.quiet } in
      opens_still stands held snapshot_of goes_on honest bytes past faults here same d (kept_after d (rule b x n).node) h is
  every_moment (Err DiskFault) c' j' came h b x n s d is =
      subst (λ (next : Durable). Leaves (OpensToOneOf goes_on d next) (past j.gated.disk) (past j'.gated.disk)) (kept_same stands held snapshot_of d came.above (came.turned b x n s)) (came.any_moment h d is)
  every_moment (Err (Stopped count)) c' j' came h b x n s d is = absurd came
