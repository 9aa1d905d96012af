-- What a snapshot that a node is offered comes to, by its exits.
use Rattle.std.proofs.Common.{◌≡◌, ◌≤◌, ℕ, ◌-◌, ◌==◌, ◌&&◌, Bool, true, false, nat_lt, if◌then◌else◌, List, [], length, take, drop, map, Option, None, Some, Result, Ok, Err, IfOk, OnOk, IsTrue, refl, sym, ap, subst, ◌∙◌, arith}
use Rattle.std.proofs.lemmas.Bool.Decides.{nat_tests}
use Rattle.std.proofs.lemmas.List.{drop_all}
use Rattle.gl_entry.specs.Entry.{frame_bytes}
use Rattle.gl_entry.specs.declared.entry.Entry.{Entry}
use Rattle.gl_rules.specs.Identity.{NodeId}
use Rattle.gl_rules.specs.Book.{Book}
use Rattle.gl_rules.specs.Log.{view_at}
use Rattle.gl_rules.specs.Node.{Node}
use Rattle.gl_rules.specs.Outcome as outcomes
use Rattle.gl_rules.specs.Replication.{install}
use Rattle.gl_rules.specs.Steps.{enter_view}
use Rattle.gl_snapshot_body.specs.declared.body.Body.{Body}
use Rattle.gl_outside.specs.Disk.{Step, IsImage, Leaves}
use Rattle.gl_outside.specs.Fault.{Counts}
use Rattle.gl_journal.specs.Durable.{Durable, LogRules, durable, fold_record, installed, leaf_count, OpensToOneOf}
use Rattle.gl_journal.specs.Kept.{IsKept}
use Rattle.gl_journal.specs.Records.{Install}
use Rattle.gl_journal.specs.declared.journal.Journal.{Journal}
use Rattle.gl_replication.specs.Holding.{Holding}
use Rattle.gl_replication.specs.Offers.{Offers, begun_from, kept_after_offer, kept_body}
use Rattle.gl_replication.specs.Standing.{At}
use Rattle.gl_replication.specs.Stands.{Answers, KeepsAll, StandsFor, Stepped, seen_outcome}
use Rattle.gl_replication.specs.declared.node.Core.{Core}
use Rattle.gl_replication.specs.declared.done.Done.{Done}
use Rattle.gl_replication.specs.declared.done.Outcome.{Outcome}
use Rattle.gl_replication.specs.declared.done.Outcome.TheVariants as answers
use Rattle.gl_replication.specs.declared.done.Refusal.{Refusal}
use Rattle.gl_replication.specs.declared.snapshots.Offer.{Offer}
use Rattle.gl_replication.specs.declared.snapshots.Offer.TheVariants.{Snapshot}
use Rattle.gl_replication.proofs.Installs.{install_some}
use Rattle.gl_node.specs.Begins.{Begins, HasOneKey, IsBegun, IsCutOff, IsDeclined, LeavesOneOf, TakesIn}
use Rattle.gl_node.specs.Kept.{Kept}
use Rattle.gl_node.specs.Offered.{IsOffered, IsTakenIn, ReportsOffered, kept_from_base}
use Rattle.gl_node.specs.Persistence.{HoldsAbove, IsFileOf, IsServing, SnapshotOf}
use Rattle.gl_node.specs.declared.fault.NodeFault.{NodeFault}
use Rattle.gl_node.specs.declared.fault.NodeFault.TheVariants.{Refused, DiskFault, Stopped}
use Rattle.gl_node.proofs.Coming.{opens_still, same_ok, serving_still}
use Rattle.gl_node.proofs.CoreOverFile.{IsFileOfNode, kept_by}
use Rattle.gl_node.proofs.ElectionSteps.{as_it_was}
use Rattle.gl_node.proofs.Ending.{SameFile, ends_broken, of_ok}
use Rattle.gl_node.proofs.Standings.{held_of, reserved_of, view_of, vote_of}

-- ---- durable states

module _ (snapshot_of : SnapshotOf) (d : Durable) where
  -- where a file keeps a node already nothing is another
  pub kept_node : (n : Node Entry) → IsFileOfNode snapshot_of d n → kept_from_base snapshot_of d n ≡ d
  kept_node n f =
      ap (λ (v : ℕ). record d { view = v; vote = n.vote; base = n.base; snapshot = snapshot_of (take n.base n.log); log = map frame_bytes (drop n.base n.log); reserved = n.reserved }) (sym f.view)
      ∙ ap (λ (v : Option NodeId). record d { vote = v; base = n.base; snapshot = snapshot_of (take n.base n.log); log = map frame_bytes (drop n.base n.log); reserved = n.reserved }) (sym f.vote)
      ∙ ap (λ (k : ℕ). record d { base = k; snapshot = snapshot_of (take n.base n.log); log = map frame_bytes (drop n.base n.log); reserved = n.reserved }) (sym f.base)
      ∙ ap (λ (o : Option (List ℕ)). record d { snapshot = o; log = map frame_bytes (drop n.base n.log); reserved = n.reserved }) (sym f.snapshot)
      ∙ ap (λ (l : List (List ℕ)). record d { log = l; reserved = n.reserved }) (sym f.log)
      ∙ ap (λ (k : ℕ). record d { reserved = k }) (sym f.reserved)

  -- a file that keeps it does
  pub node_kept : (n : Node Entry) → IsFileOfNode snapshot_of (kept_from_base snapshot_of d n) n
  node_kept n = record { view = refl; vote = refl; base = refl; snapshot = refl; log = refl; reserved = refl }

  module _ {Q G R A F : Type 0} (b : Book Entry Q G R A F) (goes_on : LogRules) (n : Node Entry) (log : List Entry) (empty : n.log ≡ []) (bottom : n.base ≡ 0) (f : IsFileOfNode snapshot_of d n) where
    none_above : map frame_bytes (drop n.base n.log) ≡ []
    none_above = ap (map frame_bytes) (drop_all n.base n.log (let e = ap length empty in omega (arith, e)))

    none_then : map frame_bytes (drop (length log) log) ≡ []
    none_then = ap (map frame_bytes) (drop_all (length log) log (omega arith))

    -- a node that begins from a snapshot of no entries
    of_none : length log ≡ 0 → kept_from_base snapshot_of d (begun_from b log n) ≡ d
    of_none zero =
        let first : view_at b log (length log) ≡ 0 = ap (view_at b log) zero in
        let t : nat_lt n.view (view_at b log (length log)) ≡ false = grind (arith, nat_tests) in
        let m : Node Entry = record n { log = log; base = length log; commit = length log } in
        let stood : take n.base n.log ≡ take (length log) log = ap (λ (k : ℕ). take k n.log) bottom ∙ sym (ap (λ (k : ℕ). take k log) zero) in
        ap (λ (u : Bool). kept_from_base snapshot_of d (record (if u then enter_view b (view_at b log (length log)) n else n) { log = log; base = length log; commit = length log })) t
        ∙ kept_node m (record {
          view = f.view;
          vote = f.vote;
          base = f.base ∙ bottom ∙ sym zero;
          snapshot = f.snapshot ∙ ap snapshot_of stood;
          log = f.log ∙ none_above ∙ sym none_then;
          reserved = f.reserved;
        })

    module _ (body : List ℕ) (held : snapshot_of (take (length log) log) ≡ Some body) where
      rest : (view : ℕ) (vote : Option NodeId) → record d { view = view; vote = vote; base = length log; snapshot = Some body }
          ≡ record d { view = view; vote = vote; base = length log; snapshot = snapshot_of (take (length log) log); log = map frame_bytes (drop (length log) log); reserved = n.reserved }
      rest view vote =
          ap (λ (o : Option (List ℕ)). record d { view = view; vote = vote; base = length log; snapshot = o }) (sym held)
          ∙ ap (λ (l : List (List ℕ)). record d { view = view; vote = vote; base = length log; snapshot = snapshot_of (take (length log) log); log = l }) (f.log ∙ none_above ∙ sym none_then)
          ∙ ap (λ (k : ℕ). record d { view = view; vote = vote; base = length log; snapshot = snapshot_of (take (length log) log); log = map frame_bytes (drop (length log) log); reserved = k }) f.reserved

      entered : (v : ℕ) (u : Bool) → record (if u then record d { view = v; vote = None } else d) { base = length log; snapshot = Some body }
          ≡ kept_from_base snapshot_of d (record (if u then enter_view b v n else n) { log = log; base = length log; commit = length log })
      unfolding enter_view
      entered v true = rest v None
      entered v false =
          ap (λ (w : ℕ). record d { view = w; base = length log; snapshot = Some body }) f.view
          ∙ ap (λ (o : Option NodeId). record d { view = n.view; vote = o; base = length log; snapshot = Some body }) f.vote
          ∙ rest n.view n.vote

      of_some : goes_on.installs body ≡ Some (record { base = length log; view = view_at b log (length log) }) → fold_record goes_on d (Install body) ≡ Some (kept_from_base snapshot_of d (begun_from b log n))
      of_some taken =
          let v = view_at b log (length log) in
          let low : (d.base == 0) ≡ true = let e = f.base ∙ bottom in grind (arith, nat_tests) in
          let none : (length d.log == 0) ≡ true = let e : length d.log ≡ 0 = ap length (f.log ∙ none_above) in grind (arith, nat_tests) in
          ap (λ (t : Bool). if t && (length d.log == 0) then installed d body (goes_on.installs body) else None) low
          ∙ ap (λ (t : Bool). if t then installed d body (goes_on.installs body) else None) none
          ∙ ap (installed d body) taken
          ∙ ap (λ (w : ℕ). Some (record (if nat_lt w v then record d { view = v; vote = None } else d) { base = length log; snapshot = Some body })) f.view
          ∙ ap (λ (e : Durable). Some e) (entered v (nat_lt n.view v))

    -- a node that begins from a snapshot is kept once a file takes that in
    pub takes_in : (kept : Option (List ℕ)) → snapshot_of (take (length log) log) ≡ kept → IsTakenIn goes_on (length log) (view_at b log (length log)) kept → TakesIn goes_on kept d (kept_from_base snapshot_of d (begun_from b log n))
    takes_in None held taken = of_none taken
    takes_in (Some body) held taken = of_some body held taken

is_done : {A F : Type 0} (o : Outcome A) → seen_outcome {F = F} o ≡ outcomes.Done → o ≡ answers.Done
is_done answers.Done e = refl
is_done answers.Idle e = absurd (cc)
is_done answers.BecameCandidate e = absurd (cc)
is_done answers.BecameLeader e = absurd (cc)
is_done (answers.Accepted view seqno answer) e = absurd (cc)
is_done (answers.Signed view seqno) e = absurd (cc)
is_done (answers.Committed view seqno) e = absurd (cc)

-- ---- exits

module _ {D S Q G R A F : Type 0} (stands : S → Book Entry Q G R A F → Holding Entry → Type 0) (held : S → Kept) (snapshot_of : SnapshotOf) (goes_on : LogRules) (honest : Bool) (bytes : D → List ℕ) (past : D → List Step) (faults : D → ℕ) where
  abbrev Serving : Core S Q G R A F → Journal D → Type 0
  Serving c j = IsServing stands held snapshot_of goes_on honest bytes past c j

  abbrev Opens : Journal D → Durable → Type 0
  Opens j d = durable goes_on (bytes j.gated.disk) ≡ Ok d

  -- a core that stands for a node that its file keeps
  serves : {c : Core S Q G R A F} {j : Journal D} {b : Book Entry Q G R A F} {x : NodeId} {n : Node Entry} → StandsFor stands c b x n → HoldsAbove stands held snapshot_of c.book →
      (IsTrue honest → (d : Durable) × IsKept bytes past j × Opens j d × IsFileOfNode snapshot_of d n × (leaf_count d ≡ b.leaves x)) → Serving c j
  serves {c} {j} {b} {x} {n} s above opened = record {
    some = record { rules = b; me = x; node = n; standing = s };
    above = above;
    file = λ h. let o = opened h in kept_by stands held snapshot_of goes_on honest bytes past c j b x n s above o.0 o.1 o.2 o.3 o.4;
  }

  module _ {c : Core S Q G R A F} {j : Journal D} (here : Serving c j) where
    keeps_node : {b : Book Entry Q G R A F} {x : NodeId} {n : Node Entry} → StandsFor stands c b x n → IsTrue honest → (d : Durable) → Opens j d → IsFileOfNode snapshot_of d n
    keeps_node s h d is =
        let f = here.file h in
        let k : IsFileOf held d c = subst (λ (v : Durable). IsFileOf held v c) (same_ok f.state d (sym f.opens ∙ is)) f.keeps in
        let it = held_of stands held snapshot_of here.above s in
        record {
          view = k.view ∙ view_of stands s;
          vote = k.vote ∙ vote_of stands s;
          base = k.base ∙ sym it.base;
          snapshot = k.snapshot ∙ sym it.snapshot;
          log = k.log ∙ ap (map frame_bytes) (sym it.entries);
          reserved = k.reserved ∙ reserved_of stands s;
        }

    leaves_of : HasOneKey stands c.book → {b : Book Entry Q G R A F} {x : NodeId} {n : Node Entry} → StandsFor stands c b x n → (h : IsTrue honest) → leaf_count (here.file h).state ≡ b.leaves x
    leaves_of key {b} s h = (here.file h).leaves ∙ sym (key here.some.rules _ here.some.standing.ledger b _ s.ledger)

    module _ (shows : Body → Book Entry Q G R A F → List Entry → Type 0) (offer : Offer) {c' : Core S Q G R A F} {j' : Journal D} (same : SameFile honest bytes past faults j j') (above : HoldsAbove stands held snapshot_of c'.book) where
      -- a refusal
      pub declined_by : (why : Refusal S Q G R A F) → ReportsOffered stands shows offer c (λ b x n m. Answers why (install b m n).outcome) → KeepsAll stands c c' → IsDeclined stands held snapshot_of goes_on honest bytes past faults shows offer c j why c' j'
      declined_by why refused keeps = record {
        refused = refused;
        keeps = keeps;
        serving = serving_still stands held snapshot_of goes_on honest bytes past faults here same above (keeps here.some.rules here.some.me here.some.node here.some.standing) (as_it_was here.some.node);
        same = λ h. (same.reads h, same.stops h);
        any_moment = λ h b x n s m offered d is. opens_still stands held snapshot_of goes_on honest bytes past faults here same d (kept_from_base snapshot_of d (install b m n).node) h is;
        quiet = same.counted;
      }

      -- an offer that leaves the node as it is
      pub passed_by : (done : Done S Q G R A F) → IsOffered stands shows offer c → HasOneKey stands c.book → ReportsOffered stands shows offer c (λ b x n m. Stepped stands b x (install b m n) done c') → ReportsOffered stands shows offer c (λ b x n m. (install b m n).node ≡ n) →
          IsBegun stands held snapshot_of goes_on honest bytes past faults shows offer c j done c' j'
      passed_by done o key steps stays =
          let s' : StandsFor stands c' o.rules o.me o.node = subst (λ (n : Node Entry). StandsFor stands c' o.rules o.me n) (stays o.rules o.me o.node o.standing o.from o.offers) (steps o.rules o.me o.node o.standing o.from o.offers).node in
          let serving : Serving c' j' = serves s' above (λ h.
          let f = here.file h in
          (f.state, same.settles h f.kept, ap (durable goes_on) (same.reads h) ∙ f.opens, keeps_node o.standing h f.state f.opens, leaves_of key o.standing h)) in
          let kept : IsTrue honest → ReportsOffered stands shows offer c (λ b x n m. (d : Durable) → Opens j d → Opens j' (kept_from_base snapshot_of d (install b m n).node)) =
          λ h b x n s m offered d is.
          let still = ap (kept_from_base snapshot_of d) (stays b x n s m offered) ∙ kept_node snapshot_of d n (keeps_node s h d is) in
          ap (durable goes_on) (same.reads h) ∙ is ∙ ap (λ (e : Durable). Ok e) (sym still) in
          record {
            steps = steps;
            serving = serving;
            kept = kept;
            after = λ h b x n s m offered d is image left. ap (durable goes_on) ((serving.file h).kept.settled.kept image left) ∙ kept h b x n s m offered d is;
            any_moment = λ h b x n s m offered d is. opens_still stands held snapshot_of goes_on honest bytes past faults here same d (kept_from_base snapshot_of d (install b m n).node) h is;
            quiet = same.counted;
          }

-- a node that begins from a snapshot, which is kept, or at which the disk fails
module _ {D S Q G R A F T E : Type 0} (stands : S → Book Entry Q G R A F → Holding Entry → Type 0) (held : S → Kept) (snapshot_of : SnapshotOf) (goes_on : LogRules) (honest : Bool) (bytes : D → List ℕ) (past : D → List Step) (faults : D → ℕ)
    (shows : Body → Book Entry Q G R A F → List Entry → Type 0) (base_snapshot : S → Option (List ℕ)) {c c' : Core S Q G R A F} {j mid : Journal D} (j' : Journal D)
    (here : IsServing stands held snapshot_of goes_on honest bytes past c j) (same : SameFile honest bytes past faults j mid) (body : Body) (o : IsOffered stands shows (Snapshot body) c) (empty : At stands c.book (λ b h. h.log ≡ [])) (key : HasOneKey stands c.book)
    (done : Done S Q G R A F) (steps : ReportsOffered stands shows (Snapshot body) c (λ b x n m. Stepped stands b x (install b m n) done c')) (above : HoldsAbove stands held snapshot_of c'.book)
    (holds : (held c'.book).snapshot ≡ base_snapshot c'.book) (becomes : base_snapshot c'.book ≡ kept_after_offer (Snapshot body) done.outcome (base_snapshot c.book))
    (taken_in : At stands c'.book (λ b h. IsTakenIn goes_on h.base (view_at b h.log h.base) (base_snapshot c'.book)))
    (result : Result T E) (settles : IsTrue honest → OnOk result (IsKept bytes past j'))
    (kept : IsTrue honest → (d next : Durable) → durable goes_on (bytes mid.gated.disk) ≡ Ok d → TakesIn goes_on (kept_body body) d next → OnOk result (durable goes_on (bytes j'.gated.disk) ≡ Ok next))
    (after : IsTrue honest → (d next : Durable) → durable goes_on (bytes mid.gated.disk) ≡ Ok d → TakesIn goes_on (kept_body body) d next → OnOk result ((image : List ℕ) → IsImage (past j'.gated.disk) image → durable goes_on image ≡ Ok next))
    (any_moment : IsTrue honest → (d next : Durable) → durable goes_on (bytes mid.gated.disk) ≡ Ok d → TakesIn goes_on (kept_body body) d next → Leaves (OpensToOneOf goes_on d next) (past mid.gated.disk) (past j'.gated.disk))
    (counts : Counts (faults mid.gated.disk) (faults j'.gated.disk) result) where
  there : IsTrue honest → (d : Durable) → durable goes_on (bytes j.gated.disk) ≡ Ok d → durable goes_on (bytes mid.gated.disk) ≡ Ok d
  there h d is = ap (durable goes_on) (same.reads h) ∙ is

  step_is : (b : Book Entry Q G R A F) (x : NodeId) (n m : Node Entry) → StandsFor stands c b x n → (offered : Offers shows (Snapshot body) b m) → install b m n ≡ outcomes.quiet (begun_from b (take (offered.1 - 1) m.log) n) outcomes.Done
  step_is b x n m s offered = install_some b m n (ap length (empty b _ s.ledger)) offered.1 offered.2

  stands_then : StandsFor stands c' o.rules o.me (install o.rules o.from o.node).node
  stands_then = (steps o.rules o.me o.node o.standing o.from o.offers).node

  -- the store keeps the body
  body_is : base_snapshot c'.book ≡ kept_body body
  body_is =
      let answered : seen_outcome {F = F} done.outcome ≡ outcomes.Done = (steps o.rules o.me o.node o.standing o.from o.offers).outcome ∙ ap (λ (s : outcomes.Step Entry A F). s.outcome) (step_is o.rules o.me o.node o.from o.standing o.offers) in
      becomes ∙ ap (λ (a : Outcome A). kept_after_offer (Snapshot body) a (base_snapshot c.book)) (is_done done.outcome answered)

  takes : IsTrue honest → ReportsOffered stands shows (Snapshot body) c (λ b x n m. (d : Durable) → durable goes_on (bytes j.gated.disk) ≡ Ok d → TakesIn goes_on (kept_body body) d (kept_from_base snapshot_of d (install b m n).node))
  takes h b x n s m offered d is =
      let log = take (offered.1 - 1) m.log in
      let none : n.log ≡ [] = empty b _ s.ledger in
      let bottom : n.base ≡ 0 = let e = ap length none in let w : n.base ≤ length n.log = (held_of stands held snapshot_of here.above s).within in omega (arith, e, w) in
      let node : (install b m n).node ≡ begun_from b log n = ap (λ (t : outcomes.Step Entry A F). t.node) (step_is b x n m s offered) in
      let s' : StandsFor stands c' b x (begun_from b log n) = subst (λ (k : Node Entry). StandsFor stands c' b x k) node (steps b x n s m offered).node in
      let taken = subst (λ (k : Option (List ℕ)). IsTakenIn goes_on (length log) (view_at b log (length log)) k) body_is (taken_in b _ s'.ledger) in
      subst (λ (k : Node Entry). TakesIn goes_on (kept_body body) d (kept_from_base snapshot_of d k)) (sym node)
      (takes_in snapshot_of d b goes_on n log none bottom (keeps_node stands held snapshot_of goes_on honest bytes past faults here s h d is) (kept_body body) ((held_of stands held snapshot_of above s').snapshot ∙ holds ∙ body_is) taken)

  moments : LeavesOneOf stands held snapshot_of goes_on honest bytes past faults shows (Snapshot body) c j j'
  moments h b x n s m offered d is =
      let next = kept_from_base snapshot_of d (install b m n).node in
      subst (λ (p : List Step). Leaves (OpensToOneOf goes_on d next) p (past j'.gated.disk)) (same.stops h) (any_moment h d next (there h d is) (takes h b x n s m offered d is))

  pub begun_by : (value : T) → result ≡ Ok value → IsBegun stands held snapshot_of goes_on honest bytes past faults shows (Snapshot body) c j done c' j'
  begun_by value ok = record {
    steps = steps;
    serving = serves stands held snapshot_of goes_on honest bytes past faults stands_then above (λ h.
        let f = here.file h in
        let next = kept_from_base snapshot_of f.state (install o.rules o.from o.node).node in (
          next,
          of_ok result value ok (settles h),
          of_ok result value ok (kept h f.state next (there h f.state f.opens) (takes h o.rules o.me o.node o.standing o.from o.offers f.state f.opens)),
          node_kept snapshot_of f.state (install o.rules o.from o.node).node,
          leaves_of stands held snapshot_of goes_on honest bytes past faults here key o.standing h,
        ));
    kept = λ h b x n s m offered d is. of_ok result value ok (kept h d _ (there h d is) (takes h b x n s m offered d is));
    after = λ h b x n s m offered d is. of_ok result value ok (after h d _ (there h d is) (takes h b x n s m offered d is));
    any_moment = moments;
    quiet = of_ok result value ok counts.quiet ∙ same.counted;
  }

  pub cut_off_by : (e : E) → result ≡ Err e → IsCutOff stands held snapshot_of goes_on honest bytes past faults shows (Snapshot body) c j c' j'
  cut_off_by e err = record {
    some = record { rules = o.rules; me = o.me; node = (install o.rules o.from o.node).node; standing = stands_then };
    any_moment = moments;
    rose = ends_broken honest bytes past faults j' same result counts e err;
  }

-- ---- by what is answered

module _ {D S Q G R A F : Type 0} (stands : S → Book Entry Q G R A F → Holding Entry → Type 0) (held : S → Kept) (snapshot_of : SnapshotOf) (goes_on : LogRules) (honest : Bool) (bytes : D → List ℕ) (past : D → List Step) (faults : D → ℕ)
    (shows : Body → Book Entry Q G R A F → List Entry → Type 0) (offer : Offer) (c c' : Core S Q G R A F) (j j' : Journal D) where
  abbrev Comes : Result (Done S Q G R A F) (NodeFault S Q G R A F) → Type 0
  Comes result = Begins stands held snapshot_of goes_on honest bytes past faults shows offer c j result c' j'

  abbrev OfEach : (Durable → Durable → Type 0) → Type 0
  OfEach P = ReportsOffered stands shows offer c (λ b x n m. (d : Durable) → durable goes_on (bytes j.gated.disk) ≡ Ok d → P d (kept_from_base snapshot_of d (install b m n).node))

  pub begun_steps : (result : Result (Done S Q G R A F) (NodeFault S Q G R A F)) → Comes result → IfOk result (λ done. ReportsOffered stands shows offer c (λ b x n m. Stepped stands b x (install b m n) done c'))
  begun_steps (Ok done) came = came.steps
  begun_steps (Err why) came = tt

  pub begun_kept : (result : Result (Done S Q G R A F) (NodeFault S Q G R A F)) → Comes result → IsTrue honest → OnOk result (OfEach (λ d next. durable goes_on (bytes j'.gated.disk) ≡ Ok next))
  begun_kept (Ok done) came h = came.kept h
  begun_kept (Err why) came h = tt

  pub begun_after : (result : Result (Done S Q G R A F) (NodeFault S Q G R A F)) → Comes result → IsTrue honest → OnOk result (OfEach (λ d next. (image : List ℕ) → IsImage (past j'.gated.disk) image → durable goes_on image ≡ Ok next))
  begun_after (Ok done) came h = came.after h
  begun_after (Err why) came h = tt

  pub begun_moments : (result : Result (Done S Q G R A F) (NodeFault S Q G R A F)) → Comes result → IsTrue honest → OfEach (λ d next. Leaves (OpensToOneOf goes_on d next) (past j.gated.disk) (past j'.gated.disk))
  begun_moments (Ok done) came = came.any_moment
  begun_moments (Err (Refused why)) came = came.any_moment
  begun_moments (Err DiskFault) came = came.any_moment
  begun_moments (Err (Stopped count)) came = absurd came
