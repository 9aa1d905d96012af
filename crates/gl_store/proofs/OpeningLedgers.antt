-- Which ledgers open a service: those that end with an entry with which it begins, and the
-- signature after it.
use Rattle.std.proofs.Common.{◌≡◌, ℕ, suc, ◌-◌, List, [], length, take, slice_get, Option, Some, None, Ok, Err, Bool, true, false, refl, ◌∙◌, ap, arith}
use Rattle.std.proofs.lemmas.List.{length-take-le}
use Rattle.gl_base.proofs.Lists.{slice_get-below, slice_get-of_take}
use Rattle.gl_rules.specs.Identity.{NodeId}
use Rattle.gl_entry.specs.Entry.{is_signature}
use Rattle.gl_entry.specs.declared.entry.Content.{Content}
use Rattle.gl_entry.specs.declared.entry.Content.TheVariants as content
use Rattle.gl_entry.specs.declared.entry.Entry.{Entry}
use Rattle.gl_ledger.specs.declared.breach.Broken.{Broken}
use Rattle.gl_ledger.specs.NodeKeys.{service_layers}
use Rattle.gl_ledger.specs.Recordings.{last_entry}
use Rattle.gl_ledger.specs.Sound.{IsSound}
use Rattle.gl_ledger.specs.Audit.{LedgerFault, audited, fault_from, signer_in, signer_of, opened_where, opened_unless, opened}
use Rattle.gl_ledger.specs.Past.{is_unopened}
use Rattle.gl_store.specs.Kept.{IsKept}
use Rattle.gl_store.specs.Tail.{Tail}
use Rattle.gl_audit.proofs.KeptLedgers.{state_sound}
use Rattle.gl_audit.proofs.LastEntries.{last_at}

-- entries of which one breaks a rule
pub stopped : (entries : List Entry) (seqno : ℕ) (broken : Broken) → fault_from service_layers [] entries ≡ Some (record { seqno = seqno; broken = broken }) → opened service_layers entries ≡ Err seqno
unfolding opened audited
stopped entries seqno broken is = ap (λ (o : Option LedgerFault). opened_unless service_layers o entries) is

opened_valid : (ledger : List Entry) → audited service_layers ledger ≡ None →
    opened service_layers ledger ≡ opened_where (is_unopened (last_entry (take (length ledger - 1) ledger))) (signer_of (last_entry ledger)) (length ledger)
unfolding opened
opened_valid ledger valid = ap (λ (o : Option LedgerFault). opened_unless service_layers o ledger) valid

-- a valid ledger, where no service begins with the entry before the last
pub not_opening : (ledger : List Entry) → audited service_layers ledger ≡ None → is_unopened (last_entry (take (length ledger - 1) ledger)) ≡ false → opened service_layers ledger ≡ Err (length ledger)
not_opening ledger valid other = opened_valid ledger valid ∙ ap (λ (b : Bool). opened_where b (signer_of (last_entry ledger)) (length ledger)) other

-- where one does the last entry is its signature
pub last_signs : (ledger : List Entry) → IsSound service_layers ledger → is_unopened (last_entry (take (length ledger - 1) ledger)) ≡ true →
    (f : Entry) × (last_entry ledger ≡ Some f) × (is_signature f.content ≡ true)
last_signs ledger sound begun = go (last_entry (take (length ledger - 1) ledger)) refl begun
  where
    go : (o : Option Entry) → last_entry (take (length ledger - 1) ledger) ≡ o → is_unopened o ≡ true → (f : Entry) × (last_entry ledger ≡ Some f) × (is_signature f.content ≡ true)
    go None is founder = absurd (cc)
    go (Some e) is founder =
        let before : ℕ = length (take (length ledger - 1) ledger) - 1 in
        let taken = slice_get-of_take (length ledger - 1) ledger before e is in
        let long : length (take (length ledger - 1) ledger) ≡ length ledger - 1 = length-take-le (length ledger - 1) ledger (omega arith) in
        let next : suc before ≡ length ledger - 1 = omega (arith, long, taken.0) in
        let last = slice_get-below ledger (length ledger - 1) (omega (arith, next)) in
        (last.0, last.1, (sound.founded.opened before e last.0 taken.1 founder (ap (slice_get ledger) next ∙ last.1)).0)

-- so it opens the service
pub opening_signed_by : (ledger : List Entry) → audited service_layers ledger ≡ None → IsSound service_layers ledger → is_unopened (last_entry (take (length ledger - 1) ledger)) ≡ true →
    (x : NodeId) × (opened service_layers ledger ≡ Ok x)
opening_signed_by ledger valid sound begun =
    let last = last_signs ledger sound begun in
    let signer = signer_there last.0.content last.2 in (
      signer.0,
      opened_valid ledger valid
          ∙ ap (λ (b : Bool). opened_where b (signer_of (last_entry ledger)) (length ledger)) begun
          ∙ ap (λ (o : Option Entry). opened_where true (signer_of o) (length ledger)) last.1 ∙ ap (λ (o : Option NodeId). opened_where true o (length ledger)) signer.1,
    )
  where
    signer_there : (c : Content) → is_signature c ≡ true → (x : NodeId) × (signer_in c ≡ Some x)
    signer_there (content.Governance bytes) is = absurd (cc)
    signer_there (content.Application bytes) is = absurd (cc)
    signer_there (content.Signature s) is = (s.node, refl)
    signer_there (content.Evidence d) is = absurd (cc)

-- it is committed, all of it
pub kept_opened : (t : Tail) (commit : ℕ) → IsKept t commit → is_unopened (last_entry (take (length t.entries - 1) t.entries)) ≡ true → IsKept t (length t.entries)
kept_opened t commit k begun = record {
  stands = k.stands;
  within = omega arith;
  committed = λ some. let last = last_signs t.entries (state_sound t.entries t.state k.stands.stands) begun in (last.0, last_at t.entries ∙ last.1, last.2);
}
