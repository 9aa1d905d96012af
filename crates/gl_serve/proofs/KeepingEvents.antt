-- Through events a file keeps what each of them made of the node.
use Rattle.std.proofs.Common.{◌≡◌, ◌⊎◌, inl, inr, ℕ, Bool, List, [], ◌∷◌, None, Result, Ok, Err, IsTrue, refl, sym, ap, subst, ◌∙◌}
use Rattle.gl_entry.specs.declared.entry.Entry.{Entry}
use Rattle.gl_rules.specs.Identity.{NodeId}
use Rattle.gl_rules.specs.Node.{Node}
use Rattle.gl_ledger.specs.LedgerBook.{ServiceBook}
use Rattle.gl_outside.specs.Disk.{Leaves, Step}
use Rattle.gl_outside.proofs.Moments.{Images, now, so_too, started, stayed, then_too}
use Rattle.gl_journal.specs.Durable.{Durable, LogRules, OpensToOneOf, durable, journal_header}
use Rattle.gl_journal.specs.Parts.{HasGate}
use Rattle.gl_replication.specs.Events.{rule_of}
use Rattle.gl_replication.specs.Holding.{Holding}
use Rattle.gl_replication.specs.Stands.{StandsFor}
use Rattle.gl_node.specs.Kept.{kept_after}
use Rattle.gl_node.specs.declared.fault.NodeFault.TheVariants.{Refused, DiskFault, Stopped}
use Rattle.gl_serve.specs.Events.{Happens}
use Rattle.gl_serve.specs.Life.{IsKeptThrough, Lived, Lives, MayKeep, kept_through, kept_upto, node_after}
use Rattle.gl_serve.specs.Types.{NodeDone, NodeEvent, NodeFaults, NodeSeen}
use Rattle.gl_serve.proofs.Living.{still}

module _ {D S : Type 0} (stands : S → ServiceBook → Holding Entry → Type 0) (goes_on : LogRules) (honest : Bool) (bytes : D → List ℕ) (past : D → List Step) (faults : D → ℕ)
    (is_honest : IsTrue honest) (b : ServiceBook) (x : NodeId) where
  abbrev Live : NodeSeen D S → List (Lived S) → NodeSeen D S → Type 0
  Live first life last = Lives stands goes_on honest bytes past faults first life last

  abbrev Happen : NodeEvent S → NodeSeen D S → Result (NodeDone S) (NodeFaults S) → NodeSeen D S → Type 0
  Happen event old result new = Happens stands goes_on honest bytes past faults event old result new

  abbrev Opens : Durable → List ℕ → Type 0
  Opens d image = durable goes_on image ≡ Ok d

  -- with its closed gate
  abbrev Holds : Durable → List ℕ → Type 0
  Holds d image = HasGate journal_header image × Opens d image

  -- an image opens to what the file may keep
  abbrev Known : Node Entry → Durable → List (Lived S) → List ℕ → Type 0
  Known n d life image = HasGate journal_header image × (state : Durable) × MayKeep b x n d life state × (durable goes_on image ≡ Ok state)

  at_first : (n : Node Entry) (d : Durable) (life : List (Lived S)) → MayKeep b x n d life d
  at_first n d [] = refl
  at_first n d (lived ∷ more) = inl refl

  module _ (event : NodeEvent S) (more : List (Lived S)) where
    abbrev life_of : Result (NodeDone S) (NodeFaults S) → List (Lived S)
    life_of result = record { event = event; result = result } ∷ more

    -- what an event kept or is to keep
    around : (n : Node Entry) (d : Durable) (result : Result (NodeDone S) (NodeFaults S)) (image : List ℕ) →
        OpensToOneOf goes_on d (kept_upto d (node_after b x n event result) result) image → Known n d (life_of result) image
    around n d result image h = go h.1
      where
        go : (durable goes_on image ≡ Ok d) ⊎ (durable goes_on image ≡ Ok (kept_upto d (node_after b x n event result) result)) → Known n d (life_of result) image
        go (inl e) = (h.0, d, inl refl, e)
        go (inr e) = (h.0, kept_upto d (node_after b x n event result) result, inr (at_first (node_after b x n event result) (kept_upto d (node_after b x n event result) result) more), e)

    later : (n : Node Entry) (d : Durable) (result : Result (NodeDone S) (NodeFaults S)) (image : List ℕ) →
        Known (node_after b x n event result) (kept_upto d (node_after b x n event result) result) more image → Known n d (life_of result) image
    later n d result image h = (h.0, h.1, inr h.2, h.3)

    moments_by : (result : Result (NodeDone S) (NodeFaults S)) (first next last : NodeSeen D S) (n : Node Entry) (d : Durable) → Happen event first result next → Live next more last →
        ((m : Node Entry) (e : Durable) → StandsFor stands next.core b x m → Opens e (bytes next.disk) → Images (Holds e) (past next.disk) → Leaves (Known m e more) (past next.disk) (past last.disk)) →
        StandsFor stands first.core b x n → Opens d (bytes first.disk) → Images (Holds d) (past first.disk) → Leaves (Known n d (life_of result)) (past first.disk) (past last.disk)
    moments_by (Ok done) first next last n d h lives rest s opens here =
        let m = (rule_of event b x n).node in
        let through = h.throughout is_honest b x n s d opens in
        then_too (Known n d (life_of (Ok done))) (past first.disk) (past next.disk) (past last.disk)
        (so_too (OpensToOneOf goes_on d (kept_after d m)) (Known n d (life_of (Ok done))) (past first.disk) (past next.disk) (around n d (Ok done)) through)
        (so_too (Known m (kept_after d m) more) (Known n d (life_of (Ok done))) (past next.disk) (past last.disk) (later n d (Ok done))
        (rest m (kept_after d m) (h.steps b x n s).node (h.file is_honest b x n s d opens)
        (λ image left. ((now (OpensToOneOf goes_on d (kept_after d m)) (past first.disk) (past next.disk) through image left).0, h.kept is_honest b x n s d opens image left))))
    moments_by (Err (Refused why)) first next last n d h lives rest s opens here =
        subst (λ (steps : List Step). Leaves (Known n d (life_of (Err (Refused why)))) steps (past last.disk)) (h.history is_honest)
        (so_too (Known n d more) (Known n d (life_of (Err (Refused why)))) (past next.disk) (past last.disk) (later n d (Err (Refused why)))
        (rest n d (h.keeps b x n s) (ap (durable goes_on) (h.file is_honest) ∙ opens) (subst (Images (Holds d)) (sym (h.history is_honest)) here)))
    moments_by (Err DiskFault) first next last n d h lives rest s opens here =
        let m = (rule_of event b x n).node in
        stayed (Known n d (life_of (Err DiskFault))) (past first.disk) (past next.disk) (past last.disk)
        (so_too (OpensToOneOf goes_on d (kept_after d m)) (Known n d (life_of (Err DiskFault))) (past first.disk) (past next.disk) (around n d (Err DiskFault)) (h.throughout is_honest b x n s d opens))
        (ap (λ (v : NodeSeen D S). past v.disk) (still stands goes_on honest bytes past faults more next last (faults next.disk) lives h.stopped))
    moments_by (Err (Stopped count)) first next last n d h lives rest s opens here =
        let same = ap (λ (v : NodeSeen D S). v.disk) h.same in
        subst (λ (disk : D). Leaves (Known n d (life_of (Err (Stopped count)))) (past disk) (past last.disk)) same
        (so_too (Known n d more) (Known n d (life_of (Err (Stopped count)))) (past next.disk) (past last.disk) (later n d (Err (Stopped count)))
        (rest n d (subst (λ (v : NodeSeen D S). StandsFor stands v.core b x n) (sym h.same) s) (ap (λ (v : D). durable goes_on (bytes v)) same ∙ opens) (subst (λ (v : D). Images (Holds d) (past v)) (sym same) here)))

    kept_by : (result : Result (NodeDone S) (NodeFaults S)) (first next last : NodeSeen D S) (n : Node Entry) (d : Durable) → Happen event first result next → Live next more last →
        ((m : Node Entry) (e : Durable) → StandsFor stands next.core b x m → Opens e (bytes next.disk) → Opens (kept_through b x m e more) (bytes last.disk)) →
        StandsFor stands first.core b x n → Opens d (bytes first.disk) → last.stopped ≡ None → Opens (kept_through b x n d (life_of result)) (bytes last.disk)
    kept_by (Ok done) first next last n d h lives rest s opens going = rest _ _ (h.steps b x n s).node (h.file is_honest b x n s d opens)
    kept_by (Err (Refused why)) first next last n d h lives rest s opens going = rest n d (h.keeps b x n s) (ap (durable goes_on) (h.file is_honest) ∙ opens)
    kept_by (Err DiskFault) first next last n d h lives rest s opens going =
        absurd (cc (going, ap (λ (v : NodeSeen D S). v.stopped) (still stands goes_on honest bytes past faults more next last (faults next.disk) lives h.stopped), h.stopped))
    kept_by (Err (Stopped count)) first next last n d h lives rest s opens going =
        rest n d (subst (λ (v : NodeSeen D S). StandsFor stands v.core b x n) (sym h.same) s) (ap (λ (v : NodeSeen D S). durable goes_on (bytes v.disk)) h.same ∙ opens)

  moments : (life : List (Lived S)) (first last : NodeSeen D S) (n : Node Entry) (d : Durable) → Live first life last → StandsFor stands first.core b x n → Opens d (bytes first.disk) → Images (Holds d) (past first.disk) →
      Leaves (Known n d life) (past first.disk) (past last.disk)
  moments [] first last n d is s opens here =
      stayed (Known n d []) (past first.disk) (past first.disk) (past last.disk)
      (started (Known n d []) (past first.disk) (λ image left. ((here image left).0, d, refl, (here image left).1))) (ap (λ (v : NodeSeen D S). past v.disk) is)
  moments (lived ∷ more) first last n d h s opens here =
      moments_by lived.event more lived.result first h.0 last n d h.1 h.2 (λ m e t o i. moments more h.0 last m e h.2 t o i) s opens here

  kept : (life : List (Lived S)) (first last : NodeSeen D S) (n : Node Entry) (d : Durable) → Live first life last → StandsFor stands first.core b x n → Opens d (bytes first.disk) → last.stopped ≡ None → Opens (kept_through b x n d life) (bytes last.disk)
  kept [] first last n d is s opens going = ap (λ (v : NodeSeen D S). durable goes_on (bytes v.disk)) is ∙ opens
  kept (lived ∷ more) first last n d h s opens going =
      kept_by lived.event more lived.result first h.0 last n d h.1 h.2 (λ m e t o. kept more h.0 last m e h.2 t o going) s opens going

  pub life_is_kept : (first last : NodeSeen D S) (life : List (Lived S)) → Live first life last → (n : Node Entry) → StandsFor stands first.core b x n → (d : Durable) → durable goes_on (bytes first.disk) ≡ Ok d →
      IsKeptThrough stands goes_on honest bytes past faults first life last b x n d
  life_is_kept first last life lives n s d opens = record {
    any_moment = λ rest. moments life first last n d lives s opens (λ image left. (subst (HasGate journal_header) (sym (rest.only image left)) rest.gate, ap (durable goes_on) (rest.only image left) ∙ opens));
    kept = kept life first last n d lives s opens;
  }
