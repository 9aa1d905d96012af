-- A leaf is spent before it is told, and none is told twice.
use Rattle.std.proofs.Common.{◌≡◌, ◌⊎◌, ◌≤◌, ◌<◌, inl, inr, ℕ, Bool, List, [], ◌∷◌, ◌++◌, Some, Result, Ok, Err, IsTrue, All, AllPairs, refl, sym, ap, subst, ◌∙◌, arith}
use Rattle.std.proofs.lemmas.List.Elements.{All-append, All-nil, All-weaker}
use Rattle.gl_entry.specs.declared.entry.Entry.{Entry}
use Rattle.gl_rules.specs.Identity.{NodeId}
use Rattle.gl_rules.specs.Node.{Node}
use Rattle.gl_ledger.specs.LedgerBook.{ServiceBook}
use Rattle.gl_outside.specs.Disk.{IsImage, Step}
use Rattle.gl_outside.proofs.Moments.{Images, now}
use Rattle.gl_journal.specs.Durable.{Durable, LogRules, OpensToOneOf, durable}
use Rattle.gl_journal.specs.Kept.{IsAtRest}
use Rattle.gl_replication.specs.Events.{rule_of}
use Rattle.gl_replication.specs.Holding.{Holding}
use Rattle.gl_replication.specs.Stands.{StandsFor}
use Rattle.gl_node.specs.Kept.{kept_after}
use Rattle.gl_node.specs.Leaves.{leaf_of}
use Rattle.gl_node.specs.declared.fault.NodeFault.TheVariants.{Refused, DiskFault, Stopped}
use Rattle.gl_node.proofs.SignedLeaves.{Above, event_signs, more as leaves_then, reserved_before}
use Rattle.gl_serve.specs.Events.{Happens}
use Rattle.gl_serve.specs.Life.{IsTold, Lived, Lives, node_after, told_in, told_through}
use Rattle.gl_serve.specs.Types.{NodeDone, NodeEvent, NodeFaults, NodeSeen}
use Rattle.gl_serve.proofs.Living.{still}

none_above : (used : ℕ) → Above used []
none_above used = (λ i j d below last. absurd (omega (arith, last)), All-nil (λ (leaf : ℕ). used ≤ leaf))

module _ {D S : Type 0} (stands : S → ServiceBook → Holding Entry → Type 0) (goes_on : LogRules) (honest : Bool) (bytes : D → List ℕ) (past : D → List Step) (faults : D → ℕ)
    (is_honest : IsTrue honest) (b : ServiceBook) (x : NodeId) where
  abbrev Live : NodeSeen D S → List (Lived S) → NodeSeen D S → Type 0
  Live first life last = Lives stands goes_on honest bytes past faults first life last

  abbrev Happen : NodeEvent S → NodeSeen D S → Result (NodeDone S) (NodeFaults S) → NodeSeen D S → Type 0
  Happen event old result new = Happens stands goes_on honest bytes past faults event old result new

  abbrev Opens : Durable → List ℕ → Type 0
  Opens d image = durable goes_on image ≡ Ok d

  -- what one event tells, and the events after it
  abbrev told_by : Node Entry → NodeEvent S → Result (NodeDone S) (NodeFaults S) → List (Lived S) → List ℕ
  told_by n event result more = told_in b x n event result ++ told_through b x (node_after b x n event result) more

  -- ---- at a node that had stopped nothing is told

  silent_by : (event : NodeEvent S) (result : Result (NodeDone S) (NodeFaults S)) (more : List (Lived S)) (first next : NodeSeen D S) (n : Node Entry) (count : ℕ) → Happen event first result next → first.stopped ≡ Some count →
      ((m : Node Entry) → next.stopped ≡ Some count → told_through b x m more ≡ []) → told_by n event result more ≡ []
  silent_by event (Ok done) more first next n count h stopped rest = absurd (cc (h.going.0, stopped))
  silent_by event (Err (Refused why)) more first next n count h stopped rest = absurd (cc (h.going.0, stopped))
  silent_by event (Err DiskFault) more first next n count h stopped rest = absurd (cc (h.going, stopped))
  silent_by event (Err (Stopped other)) more first next n count h stopped rest = rest n (ap (λ (v : NodeSeen D S). v.stopped) h.same ∙ stopped)

  silent : (life : List (Lived S)) (first last : NodeSeen D S) (n : Node Entry) (count : ℕ) → Live first life last → first.stopped ≡ Some count → told_through b x n life ≡ []
  silent [] first last n count h stopped = refl
  silent (lived ∷ more) first last n count h stopped = silent_by lived.event lived.result more first h.0 n count h.1 stopped (λ m s. silent more h.0 last m count h.2 s)

  -- ---- they rise

  rises_by : (event : NodeEvent S) (result : Result (NodeDone S) (NodeFaults S)) (more : List (Lived S)) (first next last : NodeSeen D S) (n : Node Entry) → Happen event first result next → Live next more last →
      ((m : Node Entry) → StandsFor stands next.core b x m → Above m.used (told_through b x m more)) → StandsFor stands first.core b x n → Above n.used (told_by n event result more)
  rises_by event (Ok done) more first next last n h lives rest s =
      let m = (rule_of event b x n).node in
      leaves_then n m (leaf_of b x n event) (told_through b x m more) (event_signs b x n event s.used) (rest m (h.steps b x n s).node)
  rises_by event (Err (Refused why)) more first next last n h lives rest s = rest n (h.keeps b x n s)
  rises_by event (Err DiskFault) more first next last n h lives rest s =
      subst (Above n.used) (sym (silent more next last (rule_of event b x n).node (faults next.disk) lives h.stopped)) (none_above n.used)
  rises_by event (Err (Stopped count)) more first next last n h lives rest s = rest n (subst (λ (v : NodeSeen D S). StandsFor stands v.core b x n) (sym h.same) s)

  rises : (life : List (Lived S)) (first last : NodeSeen D S) (n : Node Entry) → Live first life last → StandsFor stands first.core b x n → Above n.used (told_through b x n life)
  rises [] first last n h s = none_above n.used
  rises (lived ∷ more) first last n h s = rises_by lived.event lived.result more first h.0 last n h.1 h.2 (λ m t. rises more h.0 last m h.2 t) s

  -- ---- they are spent in each image that a stop leaves then

  abbrev Spent : Durable → List ℕ → List ℕ → Type 0
  Spent d told image = (state : Durable) × Opens state image × (d.reserved ≤ state.reserved) × All (λ leaf. leaf < state.reserved) told

  spent_by : (event : NodeEvent S) (result : Result (NodeDone S) (NodeFaults S)) (more : List (Lived S)) (first next last : NodeSeen D S) (n : Node Entry) (d : Durable) → Happen event first result next → Live next more last →
      ((m : Node Entry) (e : Durable) → StandsFor stands next.core b x m → e.reserved ≡ m.reserved → Opens e (bytes next.disk) → Images (Opens e) (past next.disk) → Images (Spent e (told_through b x m more)) (past last.disk)) →
      StandsFor stands first.core b x n → d.reserved ≡ n.reserved → Opens d (bytes first.disk) → Images (Opens d) (past first.disk) → Images (Spent d (told_by n event result more)) (past last.disk)
  spent_by event (Ok done) more first next last n d h lives rest s same opens here image left =
      let m = (rule_of event b x n).node in
      let k = rest m (kept_after d m) (h.steps b x n s).node refl (h.file is_honest b x n s d opens) (h.kept is_honest b x n s d opens) image left in
      let r = reserved_before b x n event s.used in
      let more_reserved = r.0 in
      let least = k.2 in (
        k.0,
        k.1,
        omega (arith, least, more_reserved, same),
        All-append (λ (leaf : ℕ). leaf < k.0.reserved) (leaf_of b x n event) (told_through b x m more)
            (All-weaker (λ (leaf : ℕ). leaf < n.reserved) (λ (leaf : ℕ). leaf < k.0.reserved) (λ leaf below. omega (arith, below, least, more_reserved)) (leaf_of b x n event) r.1) k.3,
      )
  spent_by event (Err (Refused why)) more first next last n d h lives rest s same opens here image left =
      rest n d (h.keeps b x n s) same (ap (durable goes_on) (h.file is_honest) ∙ opens) (subst (Images (Opens d)) (sym (h.history is_honest)) here) image left
  spent_by event (Err DiskFault) more first next last n d h lives rest s same opens here image left =
      go (now (OpensToOneOf goes_on d (kept_after d m)) (past first.disk) (past next.disk) (h.throughout is_honest b x n s d opens) image
      (subst (λ (v : NodeSeen D S). IsImage (past v.disk) image) (still stands goes_on honest bytes past faults more next last (faults next.disk) lives h.stopped) left)).1
    where
      m : Node Entry
      m = (rule_of event b x n).node

      nothing : (reserved : ℕ) → All (λ leaf. leaf < reserved) (told_by n event (Err DiskFault) more)
      nothing reserved = subst (All (λ (leaf : ℕ). leaf < reserved)) (sym (silent more next last m (faults next.disk) lives h.stopped)) (All-nil (λ (leaf : ℕ). leaf < reserved))

      go : Opens d image ⊎ Opens (kept_after d m) image → Spent d (told_by n event (Err DiskFault) more) image
      go (inl e) = (d, e, omega arith, nothing d.reserved)
      go (inr e) = let r = (reserved_before b x n event s.used).0 in (kept_after d m, e, omega (arith, r, same), nothing m.reserved)
  spent_by event (Err (Stopped count)) more first next last n d h lives rest s same opens here image left =
      rest n d (subst (λ (v : NodeSeen D S). StandsFor stands v.core b x n) (sym h.same) s) same (ap (λ (v : NodeSeen D S). durable goes_on (bytes v.disk)) h.same ∙ opens)
      (subst (λ (v : NodeSeen D S). Images (Opens d) (past v.disk)) (sym h.same) here) image left

  spent : (life : List (Lived S)) (first last : NodeSeen D S) (n : Node Entry) (d : Durable) → Live first life last → StandsFor stands first.core b x n → d.reserved ≡ n.reserved → Opens d (bytes first.disk) → Images (Opens d) (past first.disk) →
      Images (Spent d (told_through b x n life)) (past last.disk)
  spent [] first last n d h s same opens here image left =
      (d, here image (subst (λ (v : NodeSeen D S). IsImage (past v.disk) image) h left), omega arith, All-nil (λ (leaf : ℕ). leaf < d.reserved))
  spent (lived ∷ more) first last n d h s same opens here image left =
      spent_by lived.event lived.result more first h.0 last n d h.1 h.2 (λ m e t r o i. spent more h.0 last m e h.2 t r o i) s same opens here image left

  pub life_tells : (first last : NodeSeen D S) (life : List (Lived S)) → Live first life last → (n : Node Entry) → StandsFor stands first.core b x n → (d : Durable) → IsAtRest (bytes first.disk) (past first.disk) → Opens d (bytes first.disk) → d.reserved ≡ n.reserved →
      IsTold stands goes_on honest bytes past faults first life last b x n
  life_tells first last life lives n s d rest opens same =
      let up = rises life first last n lives s in record {
        once = up.0;
        unused = up.1;
        spent = λ image left.
            let k = spent life first last n d lives s same opens (λ i l. ap (durable goes_on) (rest.only i l) ∙ opens) image left in
            (k.0, k.1, k.3);
      }
