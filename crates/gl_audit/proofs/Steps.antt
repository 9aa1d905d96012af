-- What was taken of a ledger file, step by step, and how the file ends.
use Rattle.std.proofs.Common.{◌≡◌, ℕ, suc, ◌+◌, ◌-◌, ◌≤◌, ◌<◌, List, [], ◌∷◌, ◌++◌, length, Option, None, Some, append_assoc, append-nil, length-append, refl, sym, ap, ◌∙◌, subst, arith}
use Rattle.std.proofs.lemmas.Bool.Decides.{nat_tests}
use Rattle.gl_base.specs.TxId.{last_seqno}
use Rattle.gl_entry.specs.Stream.{to_read}
use Rattle.gl_entry.specs.declared.entry.Entry.{Entry}
use Rattle.gl_entry.specs.declared.fault.EntryFault.{EntryFault}
use Rattle.gl_ledger.specs.Audit.{LedgerFault, audited, fault_from, fault_or}
use Rattle.gl_ledger.specs.Broken.{broken}
use Rattle.gl_ledger.specs.NodeKeys.{service_layers}
use Rattle.gl_ledger.specs.Recordings.{last_entry}
use Rattle.gl_ledger.specs.declared.breach.Broken.{Broken}
use Rattle.gl_ledger.proofs.Faults.{broken_first, fault_from-append}
use Rattle.gl_ledger.proofs.Passing.{passing}
use Rattle.gl_entry.specs.SourceBytes.{OfBytes}
use Rattle.gl_entry.specs.LedgerFile.{LedgerFile, ledger_file, no_entries, with_entries}
use Rattle.gl_entry.specs.FileReading.{Consumes, IsNext}
use Rattle.gl_entry.specs.declared.next.Next.{Next}
use Rattle.gl_entry.specs.declared.next.Next.TheVariants as nexts
use Rattle.gl_entry.proofs.FileSteps.{consumes_none, consumes_then, of_all, of_consumed, of_map}
use Rattle.gl_audit.specs.Kept.{ForLedgers, IsStateOf}
use Rattle.gl_audit.specs.declared.ledger_end.LedgerEnd.{LedgerEnd}
use Rattle.gl_audit.specs.declared.ledger_state.LedgerState.{LedgerState}
use Rattle.gl_audit.specs.AuditSteps.{AreTaken, Ends, EndsAt, IsTaken, Takes}
use Rattle.gl_audit.specs.declared.ledger_audit.Stop.{Stop}
use Rattle.gl_audit.specs.declared.ledger_audit.Stop.TheVariants as stops
use Rattle.gl_audit.specs.Verdict.{judged, unless_broken, unless_unread, verdict, verdict_of}
use Rattle.gl_audit.specs.declared.verdict.Verdict.{Verdict}
use Rattle.gl_audit.specs.declared.verdict.Verdict.TheVariants as verdicts

-- ---- the first fault of entries one after the other

taken_one : (before : List Entry) (e : Entry) → broken service_layers before e ≡ None → fault_from service_layers before (e ∷ []) ≡ None
taken_one before e none = ap (λ (o : Option Broken). fault_or (length before + 1) o None) none

-- ---- the auditor's state after what it has taken

pub record HasTaken (old new : Option (List ℕ)) (before now : List Entry) : Type 0 where
  pub entries : List Entry
  pub consumed : Consumes old entries new
  pub added : AreTaken before entries now

pub starts : (bytes : Option (List ℕ)) (ledger : List Entry) → HasTaken bytes bytes ledger ledger
starts bytes ledger = record { entries = []; consumed = consumes_none bytes; added = (refl, sym (append-nil ledger)) }

go_on : (old mid new : Option (List ℕ)) (before now next : List Entry) (e : Entry) → HasTaken old mid before now → Consumes mid (e ∷ []) new → IsTaken now e None next → HasTaken old new before next
go_on old mid new before now next e t c is = record {
  entries = t.entries ++ e ∷ [];
  consumed = consumes_then old mid new t.entries (e ∷ []) t.consumed c;
  added = (
    fault_from-append service_layers before t.entries (e ∷ []) t.added.0
        ∙ ap (λ (l : List Entry). fault_from service_layers l (e ∷ [])) (sym t.added.1)
        ∙ taken_one now e is.0,
    is.1 ∙ ap (λ (l : List Entry). l ++ e ∷ []) t.added.1 ∙ append_assoc before t.entries (e ∷ []),
  );
}

-- What the calls told, where they told this.
at_entry : (mid new : Option (List ℕ)) (n : Next) (e : Entry) → n ≡ nexts.Entry e → IsNext mid n new → Consumes mid (e ∷ []) new
at_entry mid new n e is reported = subst (λ (x : Next). IsNext mid x new) is reported

as_reported : (now next : List Entry) (e : Entry) (reported rule : Option ℕ) → reported ≡ rule → IsTaken now e reported next → IsTaken now e rule next
as_reported now next e reported rule is taken = subst (λ (r : Option ℕ). IsTaken now e r next) is taken

pub goes_on : (old mid new : Option (List ℕ)) (before now next : List Entry) (n : Next) (e : Entry) (reported : Option ℕ) → HasTaken old mid before now → n ≡ nexts.Entry e → IsNext mid n new → reported ≡ None → IsTaken now e reported next → HasTaken old new before next
goes_on old mid new before now next n e reported t is read none taken = go_on old mid new before now next e t (at_entry mid new n e is read) (as_reported now next e reported None none taken)

added_whole : (before now : List Entry) (entries : List Entry) → AreTaken before entries now → AreTaken before (entries ++ []) now
added_whole before now entries a = subst (λ (es : List Entry). AreTaken before es now) (sym (append-nil entries)) a

pub ends_whole : (old new : Option (List ℕ)) (before now : List Entry) → (n : Next) (after : Option (List ℕ)) → HasTaken old new before now → n ≡ nexts.End → IsNext new n after → OfBytes old (λ bytes. Ends before (ledger_file bytes) stops.End now)
ends_whole old new before now n after t is reported =
    of_consumed old new t.entries (λ file. Ends before file stops.End now) t.consumed
    (of_map new (λ bytes. ledger_file bytes ≡ no_entries None) (λ rest. Ends before (with_entries t.entries (ledger_file rest)) stops.End now)
    (λ rest is. subst (λ (file : LedgerFile). Ends before (with_entries t.entries file) stops.End now) (sym is) (added_whole before now t.entries t.added, refl)) (subst (λ (x : Next). IsNext new x after) is reported))

pub ends_unread : (old new : Option (List ℕ)) (before now : List Entry) → (n : Next) (after : Option (List ℕ)) → HasTaken old new before now → n ≡ nexts.Unread → IsNext new n after → OfBytes old (λ bytes. Ends before (ledger_file bytes) stops.Unread now)
ends_unread old new before now n after t is reported =
    of_consumed old new t.entries (λ file. Ends before file stops.Unread now) t.consumed
    (of_map new (λ bytes. (f : EntryFault) × (ledger_file bytes ≡ no_entries (Some f))) (λ rest. Ends before (with_entries t.entries (ledger_file rest)) stops.Unread now)
    (λ rest is. subst (λ (file : LedgerFile). Ends before (with_entries t.entries file) stops.Unread now) (sym is.1) (added_whole before now t.entries t.added, is.0, refl)) (subst (λ (x : Next). IsNext new x after) is reported))

end_broken : (old mid new : Option (List ℕ)) (before now next : List Entry) (e : Entry) (rule : ℕ) → HasTaken old mid before now → Consumes mid (e ∷ []) new → IsTaken now e (Some rule) next
    → OfBytes old (λ bytes. Ends before (ledger_file bytes) (stops.Broken rule) next)
end_broken old mid new before now next e rule t c is =
    of_consumed old new (t.entries ++ e ∷ []) (λ file. Ends before file (stops.Broken rule) next) (consumes_then old mid new t.entries (e ∷ []) t.consumed c)
    (of_all new (λ rest. Ends before (with_entries (t.entries ++ e ∷ []) (ledger_file rest)) (stops.Broken rule) next) (λ rest. (is.0, is.2, at_rest rest)))
  where
    at_rest : (rest : List ℕ) → fault_from service_layers before ((t.entries ++ e ∷ []) ++ (ledger_file rest).entries) ≡ Some (record { seqno = suc (length next); broken = is.0 })
    at_rest rest =
        let more = (ledger_file rest).entries in
        ap (fault_from service_layers before) (append_assoc t.entries (e ∷ []) more)
        ∙ fault_from-append service_layers before t.entries (e ∷ more) t.added.0
        ∙ ap (λ (l : List Entry). fault_from service_layers l (e ∷ more)) (sym t.added.1)
        ∙ broken_first service_layers now e more is.0 is.1
        ∙ ap (λ (l : List Entry). Some (record { seqno = suc (length l); broken = is.0 })) (sym is.3)

pub ends_broken : (old mid new : Option (List ℕ)) (before now next : List Entry) (n : Next) (e : Entry) (reported : Option ℕ) (rule : ℕ) → HasTaken old mid before now → n ≡ nexts.Entry e → IsNext mid n new → reported ≡ Some rule → IsTaken now e reported next
    → OfBytes old (λ bytes. Ends before (ledger_file bytes) (stops.Broken rule) next)
ends_broken old mid new before now next n e reported rule t is read some taken = end_broken old mid new before now next e rule t (at_entry mid new n e is read) (as_reported now next e reported (Some rule) some taken)

-- ---- an audit comes to an end: there are no more entries than seqnos

pub smaller : (now next : List Entry) (e : Entry) (reported : Option ℕ) → reported ≡ None → IsTaken now e reported next → last_seqno - length next < last_seqno - length now
smaller now next e reported none taken =
    let is = as_reported now next e reported None none taken in
    let p = passing service_layers now e is.0 in
    let left : length now + 1 ≤ last_seqno = grind (arith, nat_tests, p.named) in
    let one : length next ≡ length now + 1 = ap length is.1 ∙ length-append now (e ∷ []) in
    omega (arith, one, left)

-- ---- the verdict

at_whole : (identity : List ℕ) (ledger : List Entry) (file : LedgerFile) → Ends [] file stops.End ledger → judged identity ledger (last_entry ledger) ≡ verdict_of identity file
unfolding audited
at_whole identity ledger file e =
    let none : unless_broken (fault_from service_layers [] file.entries) (unless_unread (suc (length file.entries)) file.fault (judged identity file.entries (last_entry file.entries))) ≡ unless_unread (suc (length file.entries)) file.fault (judged identity file.entries (last_entry file.entries)) =
    ap (λ (o : Option LedgerFault). unless_broken o (unless_unread (suc (length file.entries)) file.fault (judged identity file.entries (last_entry file.entries)))) e.0.0 in
    ap (λ (l : List Entry). judged identity l (last_entry l)) e.0.1
    ∙ ap (λ (f : Option EntryFault). unless_unread (suc (length file.entries)) f (judged identity file.entries (last_entry file.entries))) (sym e.1) ∙ sym none

at_unread : (identity : List ℕ) (ledger : List Entry) (file : LedgerFile) → Ends [] file stops.Unread ledger → verdicts.Fault (length ledger + 1) 1 ≡ verdict_of identity file
unfolding audited
at_unread identity ledger file e =
    let next : length ledger + 1 ≡ suc (length file.entries) = omega (arith, ap length e.0.1) in
    let none : unless_broken (fault_from service_layers [] file.entries) (unless_unread (suc (length file.entries)) file.fault (judged identity file.entries (last_entry file.entries))) ≡ unless_unread (suc (length file.entries)) file.fault (judged identity file.entries (last_entry file.entries)) =
    ap (λ (o : Option LedgerFault). unless_broken o (unless_unread (suc (length file.entries)) file.fault (judged identity file.entries (last_entry file.entries)))) e.0.0 in
    ap (λ (n : ℕ). verdicts.Fault n 1) next
    ∙ ap (λ (f : Option EntryFault). unless_unread (suc (length file.entries)) f (judged identity file.entries (last_entry file.entries))) (sym e.2) ∙ sym none

at_broken : (identity : List ℕ) (ledger : List Entry) (rule : ℕ) (file : LedgerFile) → Ends [] file (stops.Broken rule) ledger → verdicts.Fault (length ledger + 1) rule ≡ verdict_of identity file
unfolding audited
at_broken identity ledger rule file e =
    let next : length ledger + 1 ≡ suc (length ledger) = omega arith in
    let faulty : unless_broken (fault_from service_layers [] file.entries) (unless_unread (suc (length file.entries)) file.fault (judged identity file.entries (last_entry file.entries))) ≡ verdicts.Fault (suc (length ledger)) e.0.rule =
    ap (λ (o : Option LedgerFault). unless_broken o (unless_unread (suc (length file.entries)) file.fault (judged identity file.entries (last_entry file.entries)))) e.2 in
    ap (λ (n : ℕ). verdicts.Fault n rule) next ∙ ap (λ (r : ℕ). verdicts.Fault (suc (length ledger)) r) (sym e.1) ∙ sym faulty

-- What the auditor tells where the entries ended so.
abbrev pub reported_at : Stop → List ℕ → List Entry → Verdict
reported_at stops.End identity ledger = judged identity ledger (last_entry ledger)
reported_at stops.Unread identity ledger = verdicts.Fault (length ledger + 1) 1
reported_at (stops.Broken rule) identity ledger = verdicts.Fault (length ledger + 1) rule

reported_right : (stop : Stop) (identity : List ℕ) (ledger : List Entry) (file : LedgerFile) → Ends [] file stop ledger → reported_at stop identity ledger ≡ verdict_of identity file
reported_right stops.End identity ledger file e = at_whole identity ledger file e
reported_right stops.Unread identity ledger file e = at_unread identity ledger file e
reported_right (stops.Broken rule) identity ledger file e = at_broken identity ledger rule file e

pub reported_verdict : (stop at : Stop) (reported : Verdict) (identity : List ℕ) (ledger : List Entry) → stop ≡ at → reported ≡ reported_at at identity ledger → (file : LedgerFile) → Ends [] file stop ledger → reported ≡ verdict_of identity file
reported_verdict stop at reported identity ledger is same file e = same ∙ reported_right at identity ledger file (subst (λ (s : Stop). Ends [] file s ledger) is e)

pub of_taken : (given : Option (List ℕ)) (reported : Verdict) (identity : List ℕ) (stop : Stop) (state : LedgerState) →
    ForLedgers state (λ ledger. (file : LedgerFile) → Ends [] file stop ledger → reported ≡ verdict_of identity file) → EndsAt given stop state → OfBytes given (λ bytes. reported ≡ verdict identity bytes)
unfolding verdict
of_taken given reported identity stop state f e =
    of_map given (λ bytes. Ends [] (ledger_file bytes) stop e.0) (λ bytes. reported ≡ verdict identity bytes) (λ bytes ends. f e.0 e.1 (ledger_file bytes) ends) e.2

-- ---- the auditor's state

-- after what was read of the bytes this is the state of the ledger that was taken
pub record IsAt (old new : Option (List ℕ)) (state : LedgerState) : Type 0 where
  pub ledger : List Entry
  pub taken : HasTaken old new [] ledger
  pub stands : IsStateOf ledger state

pub starts_at : (left : Option (List ℕ)) (kept : List ℕ) (state : LedgerState) → kept ≡ [] → IsStateOf [] state → IsAt left (to_read kept left) state
starts_at left kept state none stands =
    subst (λ (new : Option (List ℕ)). IsAt left new state) (sym (at_first left kept none)) (record { ledger = []; taken = starts left []; stands = stands })
  where
    at_first : (left : Option (List ℕ)) (kept : List ℕ) → kept ≡ [] → to_read kept left ≡ left
    at_first None kept none = refl
    at_first (Some bytes) kept none = ap (λ (xs : List ℕ). Some (xs ++ bytes)) none

pub goes_on_at : (old mid new : Option (List ℕ)) (before after : LedgerState) (n : Next) (e : Entry) (reported : Option ℕ) → (a : IsAt old mid before) → n ≡ nexts.Entry e → IsNext mid n new → reported ≡ None →
    Takes a.ledger e reported after → IsAt old new after
goes_on_at old mid new before after n e reported a is read none t =
    record { ledger = t.0; taken = goes_on old mid new [] a.ledger t.0 n e reported a.taken is read none t.1; stands = t.2 }

pub ends_whole_at : (old new : Option (List ℕ)) (state : LedgerState) (n : Next) (after : Option (List ℕ)) → IsAt old new state → n ≡ nexts.End → IsNext new n after → EndsAt old stops.End state
ends_whole_at old new state n after a is reported = (a.ledger, a.stands, ends_whole old new [] a.ledger n after a.taken is reported)

pub ends_unread_at : (old new : Option (List ℕ)) (state : LedgerState) (n : Next) (after : Option (List ℕ)) → IsAt old new state → n ≡ nexts.Unread → IsNext new n after → EndsAt old stops.Unread state
ends_unread_at old new state n after a is reported = (a.ledger, a.stands, ends_unread old new [] a.ledger n after a.taken is reported)

pub ends_broken_at : (old mid new : Option (List ℕ)) (before after : LedgerState) (n : Next) (e : Entry) (reported : Option ℕ) (rule : ℕ) → (a : IsAt old mid before) → n ≡ nexts.Entry e → IsNext mid n new →
    reported ≡ Some rule → Takes a.ledger e reported after → EndsAt old (stops.Broken rule) after
ends_broken_at old mid new before after n e reported rule a is read some t = (t.0, t.2, ends_broken old mid new [] a.ledger t.0 n e reported rule a.taken is read some t.1)

pub smaller_at : (old mid : Option (List ℕ)) (before after : LedgerState) (e : Entry) (reported : Option ℕ) → (a : IsAt old mid before) → reported ≡ None → Takes a.ledger e reported after →
    last_seqno - after.end.len < last_seqno - before.end.len
smaller_at old mid before after e reported a none t =
    let less = smaller a.ledger t.0 e reported none t.1 in
    let was = ap (λ (end : LedgerEnd). end.len) a.stands.ends in
    let is = ap (λ (end : LedgerEnd). end.len) t.2.ends in
    omega (arith, less, was, is)
