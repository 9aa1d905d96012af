-- A recovered ledger opens its service again: under the key of the recovery, with the nodes that
-- this names.
use Rattle.std.proofs.Common.{◌≡◌, ℕ, ◌+◌, ◌-◌, List, [], ◌∷◌, length, map, take, Option, Some, None, Ok, Bool, slice_get, ◌∙◌, ap, arith, length-append}
use Rattle.std.proofs.Math.Seq.{take-append_seam}
use Rattle.gl_base.proofs.Lists.{slice_get-last}
use Rattle.gl_rules.specs.Identity.{NodeId}
use Rattle.gl_entry.specs.declared.entry.Entry.{Entry}
use Rattle.gl_requests.specs.Encoding.{node_id}
use Rattle.gl_requests.specs.declared.genesis.Recovery.{Recovery}
use Rattle.gl_gov_rules.specs.declared.change.Recorded.{Recorded}
use Rattle.gl_gov_rules.specs.Changes.{history}
use Rattle.gl_gov_rules.specs.Nodes as nodes
use Rattle.gl_ledger.specs.ServiceRow.{identity_in}
use Rattle.gl_ledger.specs.Tree.{tables_of}
use Rattle.gl_ledger.specs.Layers.{Layers}
use Rattle.gl_ledger.specs.NodeKeys.{NodeKeys}
use Rattle.gl_ledger.specs.Recordings.{last_entry, trusted_nodes}
use Rattle.gl_ledger.specs.Past.{is_unopened}
use Rattle.gl_ledger.specs.Broken.{broken}
use Rattle.gl_ledger.specs.Makers.{signature_after, signed_entry}
use Rattle.gl_ledger.specs.Audit.{LedgerFault, audited, signer_of, opened_where, opened_unless, opened}
use Rattle.gl_ledger.specs.Sound.{IsSound}
use Rattle.gl_ledger.specs.Recovery.{recovery_view, recovery_entry, with_recovery, recovered_of, Refounds}
use Rattle.gl_ledger.proofs.Gathering.{requests-quiet}
use Rattle.gl_ledger.proofs.RecordedNodes.{named_digests, among}
use Rattle.gl_ledger.proofs.RecoveryLaws.{recovery_unbroken, recovery_identity, recovery_trusted, recovery_begins, reopening_unbroken}
use Rattle.gl_ledger.proofs.SignatureEntries.{signed_is_entry}
use Rattle.gl_ledger.proofs.TablesLaws.{tables_of-push}
use Rattle.gl_ledger.proofs.Valid.{valid_sound, valid-push}

module _ (layers : Layers) (keys : NodeKeys) (ledger : List Entry) (r : Recovery) (x : NodeId) (leaf : ℕ) (h : Refounds layers keys ledger r x leaf) where
  -- the signature that opens the service again
  abbrev opening : Entry
  opening = signed_entry keys x leaf (with_recovery r ledger) (recovery_view ledger) (length ledger + 2)

  sound : IsSound layers ledger
  sound = valid_sound layers ledger h.valid

  long : length (with_recovery r ledger) ≡ length ledger + 1
  long = length-append ledger (recovery_entry r ledger ∷ [])

  -- it breaks no rule after the recovery
  opening_unbroken : broken layers (with_recovery r ledger) opening ≡ None
  opening_unbroken =
      let left = h.left in
      reopening_unbroken layers ledger r sound h.signed h.view h.left h.fits h.accepted x (signature_after keys x leaf (with_recovery r ledger) (recovery_view ledger) (length ledger + 2)) h.named
      (signed_is_entry layers keys x leaf (with_recovery r ledger) (recovery_view ledger) (length ledger + 2) (among x (map node_id r.nodes) (named_digests r.nodes) h.named) (omega (arith, long)) h.view
      (omega (arith, long, left)) (omega (arith, left)) h.signs)
      h.signs.valid

  -- so the audit finds no fault
  pub recovered_valid : audited layers (recovered_of keys r x leaf ledger) ≡ None
  recovered_valid =
      valid-push layers (with_recovery r ledger) opening
      (valid-push layers ledger (recovery_entry r ledger) h.valid (recovery_unbroken layers ledger r sound h.signed h.view h.left h.fits h.accepted))
      opening_unbroken

  -- and the check of an opening names the node that signed it
  pub recovered_opened : opened layers (recovered_of keys r x leaf ledger) ≡ Ok x
  unfolding opened
  recovered_opened =
      let all : List Entry = recovered_of keys r x leaf ledger in
      let after : length all ≡ length (with_recovery r ledger) + 1 = length-append (with_recovery r ledger) (opening ∷ []) in
      let last : length all - 1 ≡ length (with_recovery r ledger) = omega (arith, after) in
      ap (λ (o : Option LedgerFault). opened_unless layers o all) recovered_valid
      ∙ ap (λ (j : ℕ). opened_where (is_unopened (last_entry (take j all))) (signer_of (slice_get all j)) (length all)) last
      ∙ ap (λ (es : List Entry). opened_where (is_unopened (last_entry es)) (signer_of (slice_get all (length (with_recovery r ledger)))) (length all)) (take-append_seam (with_recovery r ledger) (opening ∷ []))
      ∙ ap (λ (o : Option Entry). opened_where (is_unopened (last_entry (with_recovery r ledger))) (signer_of o) (length all)) (slice_get-last (with_recovery r ledger) opening)
      ∙ ap (λ (b : Bool). opened_where b (Some x) (length all)) (recovery_begins layers ledger r sound h.signed h.view h.left h.fits h.accepted)

  -- the key of the recovery is in force
  pub recovered_identity : identity_in (tables_of (recovered_of keys r x leaf ledger)) ≡ r.identity
  recovered_identity = ap identity_in (tables_of-push (with_recovery r ledger) opening) ∙ recovery_identity layers ledger r sound h.signed h.view h.left h.fits h.accepted

  -- and the nodes that it names are trusted, in its order
  pub recovered_nodes : trusted_nodes (recovered_of keys r x leaf ledger) ≡ map node_id r.nodes
  unfolding trusted_nodes
  recovered_nodes =
      ap (λ (rs : List Recorded). nodes.trusted (history rs)) (requests-quiet (with_recovery r ledger) opening tt) ∙ recovery_trusted layers ledger r sound h.signed h.view h.left h.fits h.accepted
