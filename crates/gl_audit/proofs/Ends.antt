-- How a ledger ends with one more entry, and after a cut.
use Rattle.std.proofs.Common.{◌≡◌, ℕ, zero, suc, ◌+◌, ◌-◌, List, [], ◌∷◌, ◌++◌, length, slice_get, Option, None, Some, option_map, Bool, true, false, ◌==◌, if◌then◌else◌, refl, sym, ◌∙◌, ap, ap₂, arith, length-append}
use Rattle.std.specs.Option.{option_or}
use Rattle.std.proofs.lemmas.Bool.Decides.{nat_tests}
use Rattle.gl_base.specs.declared.tx_id.TxId.{TxId}
use Rattle.gl_base.proofs.Lists.{slice_get-last, slice_get-append}
use Rattle.gl_rules.specs.Log.{entry_at}
use Rattle.gl_entry.specs.Entry.{is_signature}
use Rattle.gl_entry.specs.Leaf.{id_of}
use Rattle.gl_entry.specs.declared.entry.Entry.{Entry}
use Rattle.gl_ledger.specs.Recordings.{last_entry, begins}
use Rattle.gl_ledger.specs.Past.{commit_after, commit_from, is_unopened, last_commit, last_signed, past_at, past_over}
use Rattle.gl_ledger.proofs.Signatures.{last_signature-push, last_signature-signed, last_is_signed}
use Rattle.gl_ledger.specs.Snapshot.{view_or}
use Rattle.gl_snapshot_body.specs.declared.body.Body.{Body}
use Rattle.gl_ledger.specs.Behind.{IsReadAt, IsReadBody}
use Rattle.gl_audit.specs.Ends.{end_at, end_behind, end_of, end_over, end_with, id_or_base, view_of}
use Rattle.gl_audit.specs.Kept.{commit_at, commit_or}
use Rattle.gl_audit.proofs.SignatureSeqnos.{commit_from-is, commit_up_to, last_commit-is}
use Rattle.gl_audit.specs.declared.ledger_end.LedgerEnd.{LedgerEnd}

-- the last entry is the one after
last_entry-push : (ledger : List Entry) (e : Entry) → last_entry (ledger ++ e ∷ []) ≡ Some e
last_entry-push ledger e =
    ap (slice_get (ledger ++ e ∷ [])) (let long : length (ledger ++ e ∷ []) ≡ length ledger + 1 = length-append ledger (e ∷ []) in omega (arith, long)) ∙ slice_get-last ledger e

-- the last signature's entry stays where another entry comes after it
signature-push : (ledger : List Entry) (e : Entry) → is_signature e.content ≡ false → entry_at (ledger ++ e ∷ []) (last_signed (ledger ++ e ∷ [])) ≡ entry_at ledger (last_signed ledger)
signature-push ledger e other = ap (entry_at (ledger ++ e ∷ [])) (last_signature-push ledger e other) ∙ go (last_signed ledger) refl
  where
    go : (n : ℕ) → last_signed ledger ≡ n → entry_at (ledger ++ e ∷ []) n ≡ entry_at ledger n
    go zero is = refl
    go (suc i) is =
        let there = last_is_signed ledger i is in
        slice_get-append ledger (e ∷ []) i there.0 there.1 ∙ sym there.1

-- and one that comes after is the last one
signature-signed : (ledger : List Entry) (e : Entry) → is_signature e.content ≡ true → entry_at (ledger ++ e ∷ []) (last_signed (ledger ++ e ∷ [])) ≡ Some e
signature-signed ledger e signs = ap (entry_at (ledger ++ e ∷ [])) (last_signature-signed ledger e signs) ∙ slice_get-last ledger e

signed-push : (named : Option Entry → Option TxId) (ledger : List Entry) (e : Entry) →
    named (entry_at (ledger ++ e ∷ []) (last_signed (ledger ++ e ∷ [])))
    ≡ (if is_signature e.content then named (Some e) else named (entry_at ledger (last_signed ledger)))
signed-push named ledger e = go (is_signature e.content) refl
  where
    go : (b : Bool) → is_signature e.content ≡ b →
        named (entry_at (ledger ++ e ∷ []) (last_signed (ledger ++ e ∷ []))) ≡ (if b then named (Some e) else named (entry_at ledger (last_signed ledger)))
    go true is = ap named (signature-signed ledger e is)
    go false is = ap named (signature-push ledger e is)

commit-push : (commit : ℕ) (ledger : List Entry) (e : Entry) → commit_from commit (ledger ++ e ∷ []) ≡ commit_after (commit_from commit ledger) e.content
commit-push commit [] e = refl
commit-push commit (f ∷ ledger) e = commit-push (commit_after commit f.content) ledger e

ended : ℕ → Option TxId → Option TxId → ℕ → Bool → LedgerEnd
ended len last signed commit unopened = record { len = len; last = last; signed = signed; commit = commit; is_unopened = unopened }

pub end_of-push : (ledger : List Entry) (e : Entry) → end_of (ledger ++ e ∷ []) ≡ end_with (end_of ledger) e
unfolding ended
end_of-push ledger e =
    ap₂ (λ (len : ℕ) (last : Option Entry). ended len (option_map id_of last) (option_map id_of (entry_at (ledger ++ e ∷ []) (last_signed (ledger ++ e ∷ [])))) (last_commit (ledger ++ e ∷ [])) (is_unopened last))
    (let long : length (ledger ++ e ∷ []) ≡ length ledger + 1 = length-append ledger (e ∷ []) in long) (last_entry-push ledger e)
    ∙ ap₂ (λ (signed : Option TxId) (commit : ℕ). ended (length ledger + 1) (Some (id_of e)) signed commit (begins e)) (signed-push (option_map id_of) ledger e) (commit-push 0 ledger e)

-- behind a base
end_behind-push : (body : Body) (es : List Entry) (e : Entry) → end_behind body (es ++ e ∷ []) ≡ end_with (end_behind body es) e
unfolding ended
end_behind-push body es e =
    ap₂ (λ (len : ℕ) (last : Option Entry). ended len (Some (id_or_base body last)) (Some (id_or_base body (entry_at (es ++ e ∷ []) (last_signed (es ++ e ∷ []))))) (commit_from body.commit (es ++ e ∷ [])) (is_unopened last))
    (let long : body.base + length (es ++ e ∷ []) ≡ body.base + length es + 1 = (let one : length (es ++ e ∷ []) ≡ length es + 1 = length-append es (e ∷ []) in omega (arith, one)) in long)
    (last_entry-push es e)
    ∙ ap₂ (λ (signed : Option TxId) (commit : ℕ). ended (body.base + length es + 1) (Some (id_of e)) signed commit (begins e))
    (signed-push (λ (last : Option Entry). Some (id_or_base body last)) es e) (commit-push body.commit es e)

pub end_over-push : (body : Body) (es : List Entry) (e : Entry) → end_over body (es ++ e ∷ []) ≡ end_with (end_over body es) e
end_over-push body es e = go body.base
  where
    go : (n : ℕ) → end_at n body (es ++ e ∷ []) ≡ end_with (end_at n body es) e
    go zero = end_of-push es e
    go (suc n) = end_behind-push body es e

-- ---- what is read of it

pub len_over : (body : Body) (es : List Entry) → (end_over body es).len ≡ body.base + length es
len_over body es = go body.base refl
  where
    go : (n : ℕ) → body.base ≡ n → (end_at n body es).len ≡ body.base + length es
    go zero is = let sum : length es ≡ body.base + length es = omega (arith, is) in sum
    go (suc n) is = refl

pub commit_over : (body : Body) (es : List Entry) → IsReadBody body → (end_over body es).commit ≡ commit_from body.commit es
commit_over body es read = go body.base read
  where
    go : (n : ℕ) → IsReadAt n body → (end_at n body es).commit ≡ commit_from body.commit es
    go zero none = ap (λ (b : Body). commit_from b.commit es) (sym none)
    go (suc n) b = refl

-- the view of the last transaction is that of the last entry, or of the base
pub view_over : (body : Body) (es : List Entry) → IsReadBody body → view_of (end_over body es).last ≡ view_or body.view (last_entry es)
view_over body es read = go body.base read
  where
    named : (view : ℕ) (last : Option Entry) → view ≡ 0 → view_of (option_map id_of last) ≡ view_or view last
    named view None is = sym is
    named view (Some e) is = refl

    at_base : (last : Option Entry) → (id_or_base body last).view ≡ view_or body.view last
    at_base None = refl
    at_base (Some e) = refl

    go : (n : ℕ) → IsReadAt n body → view_of (end_at n body es).last ≡ view_or body.view (last_entry es)
    go zero none = named body.view (last_entry es) (ap (λ (b : Body). b.view) none)
    go (suc n) b = at_base (last_entry es)

-- ---- what it is made of

-- it is made of the last entry and of the last signature
pub end_made : (ledger : List Entry) (signed : ℕ) (last signature : Option Entry) (last_id signed_id : Option TxId) (commit : ℕ) (unopened : Bool) → last ≡ last_entry ledger →
    signed ≡ last_signed ledger → signature ≡ entry_at ledger signed → last_id ≡ option_map id_of last → signed_id ≡ option_map id_of signature → commit ≡ commit_at signature →
    unopened ≡ is_unopened last → record { len = length ledger; last = last_id; signed = signed_id; commit = commit; is_unopened = unopened } ≡ end_of ledger
unfolding ended
end_made ledger signed last signature last_id signed_id commit unopened at is there named signs recorded opening =
    let found : signature ≡ entry_at ledger (last_signed ledger) = there ∙ ap (entry_at ledger) is in
    ap₂ (λ (a b : Option TxId). ended (length ledger) a b commit unopened) (named ∙ ap (option_map id_of) at) (signs ∙ ap (option_map id_of) found)
    ∙ ap₂ (λ (n : ℕ) (b : Bool). ended (length ledger) (option_map id_of (last_entry ledger)) (option_map id_of (entry_at ledger (last_signed ledger))) n b)
    (recorded ∙ ap commit_at found ∙ sym (last_commit-is ledger)) (opening ∙ ap is_unopened at)

-- the commit that the last signature records, else the one before
commit_of_last : (commit : ℕ) (es : List Entry) → commit_from commit es ≡ commit_or commit (entry_at es (last_signed es))
commit_of_last commit es = commit_from-is commit es ∙ go (last_signed es) refl
  where
    go : (m : ℕ) → last_signed es ≡ m → commit_up_to commit es m ≡ commit_or commit (entry_at es m)
    go zero is = refl
    go (suc i) is = let there = last_is_signed es i is in ap commit_at there.1 ∙ sym (ap (commit_or commit) there.1)

-- behind a base it is made of the last entry and of the last signature there, else of the end at the base
pub over_made : (body : Body) (es : List Entry) (base : LedgerEnd) (signed len : ℕ) (last signature : Option Entry) (last_id signed_id : Option TxId) (commit : ℕ) (unopened : Bool) →
    base ≡ end_over body [] → signed ≡ (past_over body es).last_signed → last ≡ last_entry es → signature ≡ entry_at es (signed - base.len) → len ≡ base.len + length es →
    last_id ≡ option_or (option_map id_of last) base.last → signed_id ≡ option_or (option_map id_of signature) base.signed → commit ≡ commit_or base.commit signature → unopened ≡ is_unopened last →
    record { len = len; last = last_id; signed = signed_id; commit = commit; is_unopened = unopened } ≡ end_over body es
unfolding ended
over_made body es base signed len last signature last_id signed_id commit unopened begun is at there long named signs recorded opening = go body.base refl begun is
  where
    -- the place of the last signature behind the base
    place : signed - base.len ≡ last_signed es → signature ≡ entry_at es (last_signed es)
    place same = there ∙ ap (entry_at es) same

    none : (o : Option TxId) → option_or o None ≡ o
    none None = refl
    none (Some id) = refl

    some : (o : Option Entry) → option_or (option_map id_of o) (Some (record { view = body.view; seqno = body.base })) ≡ Some (id_or_base body o)
    some None = refl
    some (Some e) = refl

    all : (total : ℕ) (a b : Option TxId) (c : ℕ) → len ≡ total → last_id ≡ a → signed_id ≡ b → commit ≡ c →
        record { len = len; last = last_id; signed = signed_id; commit = commit; is_unopened = unopened } ≡ ended total a b c (is_unopened (last_entry es))
    all total a b c one two three four =
        ap₂ (λ (n : ℕ) (o : Option TxId). ended n o signed_id commit unopened) one two ∙ ap₂ (λ (o : Option TxId) (n : ℕ). ended total a o n unopened) three four
        ∙ ap (ended total a b c) (opening ∙ ap is_unopened at)

    go : (n : ℕ) → body.base ≡ n → base ≡ end_at n body [] → signed ≡ (past_at n body es).last_signed →
        record { len = len; last = last_id; signed = signed_id; commit = commit; is_unopened = unopened } ≡ end_at n body es
    go zero whole begun is =
        let from : base.len ≡ 0 = ap (λ (end : LedgerEnd). end.len) begun in
        let found = place (omega (arith, is, from)) in
        all (length es) (option_map id_of (last_entry es)) (option_map id_of (entry_at es (last_signed es))) (last_commit es) (omega (arith, long, from))
        (named ∙ ap₂ (λ (o : Option Entry) (other : Option TxId). option_or (option_map id_of o) other) at (ap (λ (end : LedgerEnd). end.last) begun) ∙ none (option_map id_of (last_entry es)))
        (signs ∙ ap₂ (λ (o : Option Entry) (other : Option TxId). option_or (option_map id_of o) other) found (ap (λ (end : LedgerEnd). end.signed) begun)
        ∙ none (option_map id_of (entry_at es (last_signed es))))
        (recorded ∙ ap₂ (λ (c : ℕ) (o : Option Entry). commit_or c o) (ap (λ (end : LedgerEnd). end.commit) begun) found ∙ sym (commit_of_last 0 es))
    go (suc n) whole begun is =
        let from : base.len ≡ body.base + 0 = ap (λ (end : LedgerEnd). end.len) begun in
        let found = place (behind (last_signed es) (omega (arith, from)) is) in
        all (body.base + length es) (Some (id_or_base body (last_entry es))) (Some (id_or_base body (entry_at es (last_signed es)))) (commit_from body.commit es) (omega (arith, long, from))
        (named ∙ ap₂ (λ (o : Option Entry) (other : Option TxId). option_or (option_map id_of o) other) at (ap (λ (end : LedgerEnd). end.last) begun) ∙ some (last_entry es))
        (signs ∙ ap₂ (λ (o : Option Entry) (other : Option TxId). option_or (option_map id_of o) other) found (ap (λ (end : LedgerEnd). end.signed) begun)
        ∙ some (entry_at es (last_signed es)))
        (recorded ∙ ap₂ (λ (c : ℕ) (o : Option Entry). commit_or c o) (ap (λ (end : LedgerEnd). end.commit) begun) found ∙ sym (commit_of_last body.commit es))
      where
        behind : (m : ℕ) → base.len ≡ body.base → signed ≡ (if m == 0 then body.base else body.base + m) → signed - base.len ≡ m
        behind zero from is = omega (arith, from, is)
        behind (suc m) from is = let t : (suc m == 0) ≡ false = grind (arith, nat_tests) in let at = is ∙ ap (λ (b : Bool). if b then body.base else body.base + suc m) t in omega (arith, from, at)
