-- What a ledger takes for an evidence: with the trial by the rules of the audit, and where that
-- refuses nothing.
use Rattle.std.proofs.Common.{◌≡◌, ℕ, ◌<◌, ◌^◌, List, [], ◌∷◌, ◌++◌, length, Option, None, Ok, Err, Bool, true, false, nat_lt, if◌then◌else◌, refl, sym, ap, ◌∙◌}
use Rattle.gl_entry.specs.declared.entry.Entry.{Entry}
use Rattle.gl_snapshot_body.specs.Body as snapshots
use Rattle.gl_ledger.specs.Ledger.{within_named}
use Rattle.gl_ledger.specs.Makers.{MayMake, by_store, evidence_entry, evidence_result, within_snapshot}
use Rattle.gl_ledger.specs.NodeKeys.{service_layers}
use Rattle.gl_ledger.specs.Past.{Past, is_signed, past_of, past_over}
use Rattle.gl_ledger.specs.declared.refusal.Refusal.TheVariants as refusals
use Rattle.gl_ledger.specs.declared.response.Rejection.TheVariants.{NotAfterSignature}
use Rattle.gl_ledger.proofs.EvidenceEntries.{evidence_is}
use Rattle.gl_store_book.specs.BasedLedgers as based
use Rattle.gl_store_book.specs.BasedLedgers.{BasedLedger, body_of, broken_after, with_entries}
use Rattle.gl_store_book.specs.Taken.{TakesEntry, evident}
use Rattle.gl_store_book.proofs.AnyKeys.{any_keys}
use Rattle.gl_store_book.proofs.TakenEntries.{Each, IsQuietIn, each_ok, itself, made_so, named, never_broken, stored}
use Rattle.gl_store_book.proofs.WholeBased.{whole_broken}

evidence_quiet_in : (p : Past) (view : ℕ) → Each (IsQuietIn view) (evidence_result p view)
evidence_quiet_in p view = go (is_signed p.last)
  where
    e : Entry
    e = evidence_entry p view

    size : ℕ
    size = length (snapshots.body_bytes p.snapshot)

    small : (b : Bool) → Each (IsQuietIn view) (if b then Err (refusals.TooLarge size) else within_named p.len e)
    small true = tt
    small false = named (IsQuietIn view) p.len e (refl, tt)

    go : (b : Bool) → Each (IsQuietIn view) (if b then by_store (within_snapshot size (within_named p.len e)) else Err NotAfterSignature)
    go false = tt
    go true = stored (IsQuietIn view) (within_snapshot size (within_named p.len e)) (small (nat_lt snapshots.snapshot_limit size))

module _ (l : BasedLedger) (view : ℕ) (e : Entry) (is : evidence_result (based.past_of l) view ≡ Ok e) where
  pub evidence_quiet : IsQuietIn view e
  evidence_quiet = each_ok (IsQuietIn view) (evidence_result (based.past_of l) view) e (evidence_quiet_in (based.past_of l) view) is

  -- where entries may be made it breaks no rule
  pub evidence_unbroken : view < 2 ^ 32 → l.snapshot ≡ None → MayMake l.entries view → broken_after l e ≡ None
  evidence_unbroken low none may =
      whole_broken l none e
      ∙ never_broken itself l.entries e (evidence_result (past_of l.entries) view) (evidence_is service_layers any_keys l.entries view low may)
      (ap (λ (o : Option (List ℕ)). evidence_result (past_over (body_of o) l.entries) view) (sym none) ∙ is)

  pub takes_evidence : (new : BasedLedger) → broken_after l e ≡ None → new ≡ with_entries l (l.entries ++ e ∷ []) → TakesEntry (evident l view) view l new
  takes_evidence new unbroken entered = record {
    entry = e;
    made = made_so itself l e (evidence_result (based.past_of l) view) is unbroken;
    in_view = evidence_quiet.0;
    entered = entered;
  }
