use Rattle.std.proofs.Common.{rules, ◌≡◌, ◌++◌, ◌∷◌, ⊎_elim, ℕ, List, Option, length, refl, ap, subst, ◌∙◌, arith}
use Rattle.gl_entry.specs.declared.entry.Entry.{Entry}
use Rattle.gl_journal.specs.Durable.{fold_records}
use Rattle.gl_journal.specs.Records.{Vote}
use Rattle.gl_journal.specs.declared.fault.JournalFault.TheVariants as disks
use Rattle.gl_ledger.specs.NodeKeys.{service_layers}
use Rattle.gl_ledger.proofs.Valid.{valid_sound}
use Rattle.gl_store_book.specs.AtOpening.{append_records}
use Rattle.gl_store_book.specs.BasedLedgers.{IsAudited}
use Rattle.gl_store_book.specs.Frames.{goes_on_ledger}
use Rattle.gl_store_book.specs.ViewVotes.{view_vote_records}
use Rattle.gl_store_book.specs.declared.node_file.fault.OpeningFault.TheVariants as faults
use Rattle.gl_store_book.specs.declared.node_file.opening_batch.ViewVote.{ViewVote}
use Rattle.ccfg.proofs.FileNodes.{as_plain_fault, as_plain_other, never_rose}
use Rattle.ccfg.proofs.FileStarts.{node_folds, node_size}
use Rattle.ccfg.proofs.schedule_nodes.start.keep_node.Goals as goal

pub keep_opening-requires-clause-open : goal.keep_opening-requires-clause-open
keep_opening-requires-clause-open c = λ honest. c.requires.«open».1.kept honest

pub keep_opening-requires-clause-few : goal.keep_opening-requires-clause-few
keep_opening-requires-clause-few c =
    let all : c.entries_of-entries.result.now ≡ c.args.core.now.book.ledger.entries = c.entries_of-entries.ensures.entries in
    let few = c.requires.few in
    omega (arith, few, ap length all)

pub only_memory-requires : goal.only_memory-requires
only_memory-requires c = λ fault is.
    let e = as_plain_fault _ _ fault c.in-Err.is is in
    let all : c.entries_of-entries.result.now ≡ c.args.core.now.book.ledger.entries = c.entries_of-entries.ensures.entries in
    let few = c.requires.few in
    let size = node_size (view_vote_records c.turn_of-turn.result) c.entries_of-entries.result.now (search rules) c.turn_of-turn.ensures.small (omega (arith, few, ap length all)) in
    ⊎_elim
    (λ (disk : fault ≡ faults.Journal disks.DiskFault). never_rose (c.keep_opening.ensures.disk_fault (as_plain_other _ _ _ e disk)))
    (λ (q : (size : ℕ) × (fault ≡ faults.TooLarge size)).
    let wrong = c.keep_opening.ensures.too_large q.0 (as_plain_other _ _ _ e q.1) in
    absurd (omega (arith, wrong.0, wrong.1, size)))
    (c.keep_opening.ensures.only fault e)

pub returns-in-Ok : goal.returns-in-Ok
returns-in-Ok c = λ state here none behind low.
    let core = c.args.core.now in
    let ledger = core.book.ledger.entries in
    let all : c.entries_of-entries.result.now ≡ ledger = c.entries_of-entries.ensures.entries in
    let valid = subst (λ (o : Option (List ℕ)). IsAudited (record { snapshot = o; entries = ledger })) c.requires.whole c.entries_of-entries.ensures.valid in
    let folds =
    ap (λ (t : ViewVote). fold_records goes_on_ledger state (view_vote_records t ++ append_records c.entries_of-entries.result.now)) c.turn_of-turn.ensures.turn
    ∙ ap (λ (l : List Entry). fold_records goes_on_ledger state (Vote core.peer.view core.peer.vote ∷ append_records l)) all
    ∙ node_folds state core.peer.view core.peer.vote ledger valid (valid_sound service_layers ledger valid).in_order.fits none behind low in
    record {
      kept = λ honest. c.in-Ok.ensures.«open» honest;
      opens = λ honest. c.in-Ok.ensures.kept honest state _ (here.opens honest) folds;
    }
