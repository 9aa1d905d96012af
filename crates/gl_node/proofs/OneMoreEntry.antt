-- What one entry more makes of a node, and of what a file keeps of it.
use Rattle.std.proofs.Common.{◌≡◌, ◌≤◌, ℕ, ◌+◌, ◌-◌, List, [], ◌∷◌, ◌++◌, length, take, drop, refl, sym, ap, ◌∙◌, arith, length-append, length-drop}
use Rattle.std.proofs.lemmas.List.{drop-drop, take_at, take_all, take-append-le}
use Rattle.gl_entry.specs.declared.entry.Entry.{Entry}
use Rattle.gl_rules.specs.Identity.{NodeId}
use Rattle.gl_rules.specs.Book.{Book}
use Rattle.gl_rules.specs.Node.{Node}
use Rattle.gl_rules.specs.Outcome.{Step}
use Rattle.gl_replication.specs.Holding.{Holding}
use Rattle.gl_replication.specs.Stands.{StandsFor, Stepped}
use Rattle.gl_replication.specs.declared.done.Done.{Done}
use Rattle.gl_replication.specs.declared.node.Core.{Core}
use Rattle.gl_node.specs.Changes.{Extends, IsExtended, KeepsBase}
use Rattle.gl_node.specs.Kept.{Kept}
use Rattle.gl_node.specs.Persistence.{HoldsAbove, SnapshotOf}
use Rattle.gl_node.proofs.Standings.{held_of}
use Rattle.gl_node.proofs.TakenEntries.{never_refused}

-- one ledger is another with one entry more
pub record IsMore (old new : List Entry) : Type 0 where
  pub entry : Entry
  pub is : new ≡ old ++ entry ∷ []

module _ (old new : List Entry) (more : IsMore old new) (len : ℕ) (at : len ≡ length old) where
  pub one_longer : length new ≡ len + 1
  one_longer = omega (arith, ap length more.is, length-append old (more.entry ∷ []), at)

  pub more_prefix : take len new ≡ take len old
  more_prefix = ap (take len) more.is ∙ take_at old (more.entry ∷ []) len (sym at) ∙ sym (take_all len old (omega (arith, at)))

module _ {S Q G R A F : Type 0} (stands : S → Book Entry Q G R A F → Holding Entry → Type 0) (held : S → Kept) (snapshot_of : SnapshotOf) {c c' : Core S Q G R A F} {b : Book Entry Q G R A F} {x : NodeId} {n : Node Entry} (above : HoldsAbove stands held snapshot_of c.book) (s : StandsFor stands c b x n)
    (above' : HoldsAbove stands held snapshot_of c'.book) (step : Step Entry A F) (done : Done S Q G R A F) (stepped : Stepped stands b x step done c') (extends : Extends n step) where
  pub step_extended : IsExtended n step.node
  step_extended = extends (λ why is. never_refused done.outcome why (stepped.outcome ∙ is))

  pub step_rises : n.view ≤ step.node.view
  step_rises = let h = ap (λ (m : Node Entry). m.view) step_extended.node in omega (arith, h)

  pub step_reserves : n.reserved ≤ step.node.reserved
  step_reserves = let h = ap (λ (m : Node Entry). m.reserved) step_extended.node in omega (arith, h)

  pub step_more : IsMore n.log step.node.log
  step_more = record { entry = step_extended.entry; is = ap (λ (m : Node Entry). m.log) step_extended.node }

  pub base_within : n.base ≤ length n.log
  base_within = (held_of stands held snapshot_of above s).within

  pub more_base : KeepsBase n step.node
  more_base = record {
    base = ap (λ (m : Node Entry). m.base) step_extended.node;
    below = ap (take n.base) step_more.is ∙ take-append-le n.base n.log (step_more.entry ∷ []) base_within;
  }

  module _ (count : ℕ) (is : count ≡ length (held c.book).entries) where
    counted : count ≡ length n.log - n.base
    counted = is ∙ ap length (sym (held_of stands held snapshot_of above s).entries) ∙ length-drop n.base n.log

    entries_are : (held c'.book).entries ≡ drop n.base step.node.log
    entries_are = sym (held_of stands held snapshot_of above' stepped.node).entries ∙ ap (λ (i : ℕ). drop i step.node.log) more_base.base

    one_held : length (held c'.book).entries ≡ count + 1
    one_held = let h = ap length entries_are in omega (arith, h, length-drop n.base step.node.log, one_longer n.log step.node.log step_more (length n.log) refl, counted, base_within)

    -- the entry after those that were held stands after the ledger
    pub after_held : take 1 (drop count (held c'.book).entries) ≡ drop (length n.log) step.node.log
    after_held =
        let entries = (held c'.book).entries in
        let at : n.base + count ≡ length n.log = omega (arith, counted, base_within) in
        take_all 1 (drop count entries) (omega (arith, length-drop count entries, one_held))
        ∙ ap (drop count) entries_are ∙ drop-drop count n.base step.node.log ∙ ap (λ (i : ℕ). drop i step.node.log) at
