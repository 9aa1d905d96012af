-- The last entry of a ledger and of its first entries, and that the entries of a valid ledger are
-- read.
use Rattle.std.proofs.Common.{◌≡◌, ℕ, zero, suc, ◌-◌, ◌≤◌, List, [], ◌∷◌, length, take, slice_get, Option, Some, None, IfSome, refl, sym, ◌∙◌, ap, subst, arith}
use Rattle.std.proofs.lemmas.List.{length-take-le}
use Rattle.gl_base.proofs.Lists.{slice_get-below, slice_get-take}
use Rattle.gl_rules.specs.Log.{entry_at}
use Rattle.gl_entry.specs.declared.entry.Entry.{Entry}
use Rattle.gl_ledger.specs.NodeKeys.{service_layers}
use Rattle.gl_ledger.specs.Recordings.{last_entry}
use Rattle.gl_ledger.specs.Broken.{broken, broken_over}
use Rattle.gl_ledger.specs.Audit.{audited}
use Rattle.gl_ledger.proofs.Auditing.{audited_none}
use Rattle.gl_snapshot_body.specs.Body.{no_body}
use Rattle.gl_snapshot_body.specs.declared.body.Body.{Body}
use Rattle.gl_audit.specs.Ends.{IsRead}
use Rattle.gl_ledger.proofs.Passing.{passing_over}

-- ---- which is the last

-- the last entry has the ledger's length as its seqno
pub last_at : (ledger : List Entry) → entry_at ledger (length ledger) ≡ last_entry ledger
last_at [] = refl
last_at (e ∷ es) = ap (slice_get (e ∷ es)) (let same : length es ≡ length (e ∷ es) - 1 = omega arith in same)

-- and the last of the first entries has their number
pub last_of_take : (ledger : List Entry) (n : ℕ) → n ≤ length ledger → last_entry (take n ledger) ≡ entry_at ledger n
last_of_take ledger zero within = refl
last_of_take ledger (suc i) within =
    let e = slice_get-below ledger i (omega (arith, within)) in
    let long : length (take (suc i) ledger) ≡ suc i = length-take-le (suc i) ledger within in
    ap (slice_get (take (suc i) ledger)) (omega (arith, long)) ∙ slice_get-take (suc i) ledger i e.0 (omega arith) e.1 ∙ sym e.1

-- ---- that it is read

-- an entry that breaks no rule is read
pub unbroken_over : (body : Body) (es : List Entry) (e : Entry) → broken_over service_layers body es e ≡ None → IsRead e
unbroken_over body es e unbroken = λ none. let reads = sym (passing_over service_layers body es e unbroken).reads ∙ none in cc

pub unbroken_read : (ledger : List Entry) (e : Entry) → broken service_layers ledger e ≡ None → IsRead e
unbroken_read ledger e unbroken = unbroken_over no_body ledger e unbroken

-- so each one of a valid ledger is
pub entry_read : (ledger : List Entry) → audited service_layers ledger ≡ None → (seqno : ℕ) → IfSome (entry_at ledger seqno) IsRead
entry_read ledger valid zero = tt
entry_read ledger valid (suc i) = go (slice_get ledger i) refl
  where
    go : (o : Option Entry) → slice_get ledger i ≡ o → IfSome o IsRead
    go None is = tt
    go (Some e) is = unbroken_read (take i ledger) e (audited_none service_layers ledger valid i e is)

-- and the last one, if there is one
pub last_read : (ledger : List Entry) → audited service_layers ledger ≡ None → IfSome (last_entry ledger) IsRead
last_read ledger valid = subst (λ (o : Option Entry). IfSome o IsRead) (last_at ledger) (entry_read ledger valid (length ledger))
