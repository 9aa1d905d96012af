-- What a node's file folds into.
use Rattle.std.proofs.Common.{◌≡◌, ◌≤◌, ◌++◌, ℕ, max, List, [], Ok, None, Some, false, length, nat_lt, ap, sym, ◌∙◌, arith, ltb-false}
use Rattle.std.proofs.lemmas.Bool.{or_parts}
use Rattle.std.proofs.lemmas.List.{nil_from_length}
use Rattle.gl_rules.specs.Identity.{NodeId}
use Rattle.gl_rules.specs.World.{Start}
use Rattle.gl_entry.specs.declared.entry.Entry.{Entry}
use Rattle.gl_journal.specs.Durable.{Durable, fold_records, leaf_count}
use Rattle.gl_journal.specs.Records.{RecordValue}
use Rattle.gl_store_book.specs.AtOpening.{append_records, opened_state, opening_records, opening_view, vote_records}
use Rattle.gl_store_book.specs.Frames.{goes_on_ledger}
use Rattle.gl_store_book.specs.NodeFile.{has_ledger, opened}
use Rattle.gl_store_book.specs.ServiceStart.{service_start, start_in}
use Rattle.gl_store_book.specs.ViewVotes.{IsViewVoteOf, view_vote_records}
use Rattle.gl_store_book.specs.declared.node_file.opening_batch.ViewVote.{ViewVote}
use Rattle.gl_store_book.proofs.FoldedStates.{durable_ordered}
use Rattle.gl_store_book.proofs.OpeningFolds.{opening_folds}
use Rattle.gl_store_book.proofs.ServiceStarts.{start_valid, start_fits}

-- no file tells of more reserved leaves than its key has
pub limited : (file : List ℕ) (old new : Durable) → (old.reserved ≤ leaf_count old → new ≡ old) → opened file ≡ Ok old → opened file ≡ Ok new
limited file old new same is = is ∙ ap (λ (d : Durable). Ok d) (sym (same (durable_ordered file old is).within))

-- a file that has no ledger has no snapshot either
pub without_snapshot : (file : List ℕ) (d : Durable) → has_ledger d ≡ false → opened file ≡ Ok d → (d.snapshot ≡ None) × (d.log ≡ [])
without_snapshot file d none is =
    let parts = or_parts (nat_lt 0 d.base) (nat_lt 0 (length d.log)) none in
    let base = ltb-false 0 d.base parts.0 in
    let long = ltb-false 0 (length d.log) parts.1 in
    ((durable_ordered file d is).begun (omega (arith, base)), nil_from_length d.log (omega (arith, long)))

-- the batch of an opening that was read
pub read_folds : (bytes : List ℕ) (ledger : List Entry) (first : NodeId) (d : Durable) (t : ViewVote) (entries : List Entry) (s : Start Entry)
    → start_in bytes ≡ Ok (service_start ledger first) → IsViewVoteOf (service_start ledger first) d t → entries ≡ ledger → d.snapshot ≡ None → d.log ≡ [] → start_in bytes ≡ Ok s
    → fold_records goes_on_ledger d (view_vote_records t ++ append_records entries) ≡ Some (opened_state s d)
read_folds bytes ledger first d t entries s here turn is alone none starts =
    let o = service_start ledger first in
    let same : service_start ledger first ≡ s = cc in
    let records : view_vote_records t ++ append_records entries ≡ opening_records o d =
    ap (λ (l : List Entry). view_vote_records t ++ append_records l) is
    ∙ ap (λ (l : List RecordValue). l ++ append_records ledger)
    (turn.records ∙ ap (λ (v : ℕ). vote_records d v t.vote) turn.view ∙ ap (vote_records d (max d.view (opening_view o))) turn.vote) in
    ap (fold_records goes_on_ledger d) records ∙ opening_folds o d (start_valid bytes o here) (start_fits bytes o here) alone none
    ∙ ap (λ (z : Start Entry). Some (opened_state z d)) same
