-- A node is restarted from what its file keeps of it.
use Rattle.std.proofs.Common.{◌≡◌, ℕ, ◌≤◌, List, ◌++◌, Option, Ok, Result, length, take, drop, map, refl, sym, ap, subst, ◌∙◌, arith}
use Rattle.std.proofs.lemmas.List.{length-take-le, take-append-drop}
use Rattle.gl_entry.specs.Entry.{frame_bytes}
use Rattle.gl_entry.specs.declared.entry.Entry.{Entry}
use Rattle.gl_rules.specs.Identity.{NodeId}
use Rattle.gl_rules.specs.Node.{Node}
use Rattle.gl_rules.specs.Replication.{restart}
use Rattle.gl_rules.specs.World.{joiner}
use Rattle.gl_journal.specs.Durable.{Durable}
use Rattle.gl_journal.specs.declared.fault.JournalFault.{JournalFault}
use Rattle.gl_requests.specs.declared.request.GovernanceRequest.{GovernanceRequest}
use Rattle.gl_tx.specs.declared.request.Operation.{Operation}
use Rattle.gl_ledger.specs.LedgerBook.{ServiceBook, ledger_book}
use Rattle.gl_ledger.specs.declared.response.Response.{Response}
use Rattle.gl_ledger.specs.declared.response.Reads.{Reads}
use Rattle.gl_ledger.specs.declared.response.Rejection.{Rejection}
use Rattle.gl_ledger.specs.NodeKeys.{service_layers}
use Rattle.gl_ledger_base.specs.Ledgers.{IsBase}
use Rattle.gl_node.specs.Kept.{kept_after}
use Rattle.gl_node.specs.Persistence.{IsFileOf, IsHeldOf, OpensToCore}
use Rattle.gl_replication.specs.Events.{rule_of}
use Rattle.gl_replication.specs.declared.event.Event.{Event}
use Rattle.gl_replication.specs.Stands.{StandsFor, held_by}
use Rattle.gl_store_book.specs.AtOpening.{kept_ledger}
use Rattle.gl_store_book.specs.BasedLedgers.{BasedLedger, IsAudited, body_of}
use Rattle.gl_store_book.specs.Frames.{goes_on_ledger, ledger_of_frames}
use Rattle.gl_store_book.specs.NodeFile.{opened}
use Rattle.gl_store_book.specs.Replicas.{IsBelow, NodeCore}
use Rattle.gl_store_book.specs.Restarts.{GivesRestart, HoldsBase}
use Rattle.gl_store_book.specs.Stands.{NodeStore, Stands, snapshot_below}
use Rattle.gl_store_book.proofs.FrameLaws.{AllFit, fit_behind, ledger_of_frames-map}
use Rattle.gl_store_book.proofs.HeldLedgers.{base_within, held_in, holds_above, kept_above_base, kept_below, snapshot_kept}
use Rattle.gl_store_book.proofs.ServedNodes.{ledger_is}
use Rattle.gl_store_book.proofs.ValidSteps.{IsSoundNode, step_sound}

-- what a restart leaves of a node that has this and forgot the rest
abbrev after : ServiceBook → ℕ → Option NodeId → List Entry → ℕ → ℕ → Node Entry
after b view vote log base reserved = (restart b (record joiner { view = view; vote = vote; log = log; base = base; reserved = reserved })).node

forgets : (b : ServiceBook) (n : Node Entry) → after b n.view n.vote n.log n.base n.reserved ≡ (restart b n).node
unfolding restart
forgets b n = refl

kept_is : (d : Durable) (es : List Entry) → AllFit es → d.log ≡ map frame_bytes es → kept_ledger d ≡ es
kept_is d es fits log = ledger_is d es (ap ledger_of_frames log ∙ ledger_of_frames-map es fits)

-- a file that keeps what stands above the base, behind the entries up to it
gives_restart : (b : ServiceBook) (d : Durable) (n : Node Entry) → AllFit (drop n.base n.log) → n.base ≤ length n.log → d.view ≡ n.view → d.vote ≡ n.vote → d.log ≡ map frame_bytes (drop n.base n.log) → d.reserved ≡ n.reserved → GivesRestart b n d
gives_restart b d n fits within view vote log reserved =
    let below = take n.base n.log in
    ap (λ (v : ℕ). after b v d.vote (below ++ kept_ledger d) (length below) d.reserved) view
    ∙ ap (λ (v : Option NodeId). after b n.view v (below ++ kept_ledger d) (length below) d.reserved) vote
    ∙ ap (λ (l : List Entry). after b n.view n.vote (below ++ l) (length below) d.reserved) (kept_is d (drop n.base n.log) fits log)
    ∙ ap (λ (l : List Entry). after b n.view n.vote l (length below) d.reserved) (take-append-drop n.base n.log)
    ∙ ap (λ (k : ℕ). after b n.view n.vote n.log k d.reserved) (length-take-le n.base n.log within)
    ∙ ap (λ (k : ℕ). after b n.view n.vote n.log n.base k) reserved
    ∙ forgets b n

pub same_ok : {T E : Type 0} (x y : T) → ◌≡◌ {A = Result T E} (Ok x) (Ok y) → x ≡ y
same_ok x y is = cc

module _ (core : NodeCore) (valid : IsAudited core.book.ledger) (b : ServiceBook) (x : NodeId) (n : Node Entry) (s : StandsFor Stands core b x n) where
  held : IsHeldOf snapshot_below (held_in core.book) (held_by x n)
  held = holds_above core.book b (held_by x n) s.ledger

  -- a file that keeps the node
  module _ (bytes : List ℕ) (opens : OpensToCore held_in goes_on_ledger bytes core) (d : Durable) (is : opened bytes ≡ Ok d) where
    file : IsFileOf held_in d core
    file = subst (λ (v : Durable). IsFileOf held_in v core) (same_ok {E = JournalFault} opens.0 d (sym opens.1 ∙ is)) opens.2

    pub restarts : GivesRestart b n d
    restarts =
        gives_restart b d n (subst AllFit (sym held.entries) (fit_behind core.book.ledger.snapshot core.book.ledger.entries valid)) held.within
        (file.view ∙ ap (λ (m : Node Entry). m.view) s.same)
        (file.vote ∙ ap (λ (m : Node Entry). m.vote) s.same)
        (file.log ∙ ap (map frame_bytes) (sym held.entries))
        (file.reserved ∙ ap (λ (m : Node Entry). m.reserved) s.same)

    pub holds_base : HoldsBase n d
    holds_base = record { base = file.base ∙ sym held.base; snapshot = file.snapshot ∙ sym held.snapshot }

  -- the snapshot of such a file stands for the entries up to the base
  pub below_stands : (d : Durable) → HoldsBase n d → IsBelow d (take n.base n.log)
  below_stands d h =
      let holds = s.ledger.holding.holds in
      let there : take n.base n.log ≡ holds.below = ap (λ (i : ℕ). take i n.log) s.ledger.holding.base ∙ kept_below core.book.ledger n.log holds in
      let same : d.snapshot ≡ core.book.ledger.snapshot = h.snapshot ∙ held.snapshot in
      subst (λ (o : Option (List ℕ)). IsBase service_layers (body_of o) (take n.base n.log)) (sym same)
      (subst (λ (l : List Entry). IsBase service_layers (body_of core.book.ledger.snapshot) l) (sym there) holds.base)

  sound_node : IsSoundNode (body_of core.book.ledger.snapshot) n
  sound_node = record {
    base = s.ledger.holding.base;
    ledger = record { entries = core.book.ledger.entries; holds = s.ledger.holding.holds; valid = valid };
  }

  -- and one that keeps what the rule of an event makes of it
  pub restarts_next : (e : Event NodeStore (List Operation) GovernanceRequest Reads Response Rejection) (d : Durable) → let next = (rule_of e b x n).node in GivesRestart b next (kept_after d next)
  restarts_next e d =
      subst (λ (v : ServiceBook). GivesRestart v (rule_of e v x n).node (kept_after d (rule_of e v x n).node)) (sym s.ledger.book)
      (next_above (ledger_book service_layers s.ledger.keys) (rule_of e (ledger_book service_layers s.ledger.keys) x n).node
      (step_sound (body_of core.book.ledger.snapshot) s.ledger.keys x e n (subst (λ (k : ℕ). k ≤ n.commit) s.ledger.holding.base s.above) sound_node))
    where
      next_above : (v : ServiceBook) (m : Node Entry) → IsSoundNode (body_of core.book.ledger.snapshot) m → GivesRestart v m (kept_after d m)
      next_above v m sound =
          let l : BasedLedger = record { snapshot = core.book.ledger.snapshot; entries = sound.ledger.entries } in
          let above : drop m.base m.log ≡ sound.ledger.entries = ap (λ (i : ℕ). drop i m.log) sound.base ∙ kept_above_base l m.log sound.ledger.holds in
          gives_restart v (kept_after d m) m
          (subst AllFit (sym above) (fit_behind core.book.ledger.snapshot sound.ledger.entries sound.ledger.valid))
          (let within = base_within l m.log sound.ledger.holds in omega (arith, within, sound.base)) refl refl refl refl

  -- which has the same base, with the same snapshot up to it
  pub base_next : (e : Event NodeStore (List Operation) GovernanceRequest Reads Response Rejection) (d : Durable) → HoldsBase n d → let next = (rule_of e b x n).node in HoldsBase next (kept_after d next)
  base_next e d h =
      subst (λ (v : ServiceBook). HoldsBase (rule_of e v x n).node (kept_after d (rule_of e v x n).node)) (sym s.ledger.book)
      (next_holds (rule_of e (ledger_book service_layers s.ledger.keys) x n).node
      (step_sound (body_of core.book.ledger.snapshot) s.ledger.keys x e n (subst (λ (k : ℕ). k ≤ n.commit) s.ledger.holding.base s.above) sound_node))
    where
      next_holds : (m : Node Entry) → IsSoundNode (body_of core.book.ledger.snapshot) m → HoldsBase m (kept_after d m)
      next_holds m sound =
          let l : BasedLedger = record { snapshot = core.book.ledger.snapshot; entries = sound.ledger.entries } in
          let now : snapshot_below (take m.base m.log) ≡ core.book.ledger.snapshot =
          ap (λ (i : ℕ). snapshot_below (take i m.log)) sound.base ∙ snapshot_kept l m.log sound.ledger.holds s.ledger.holding.spelled in
          record {
            base = h.base ∙ s.ledger.holding.base ∙ sym sound.base;
            snapshot = h.snapshot ∙ held.snapshot ∙ sym now;
          }
