use Rattle.std.proofs.Common.{◌≡◌, ◌≤◌, ◌++◌, ℕ, List, length, drop, None, Some, Err, IsOk, sym, ◌∙◌, ap, subst, arith, length-append}
use Rattle.std.proofs.lemmas.Result.{IfOk-weaker}
use Rattle.gl_journal.specs.Gates.{batches, mismatch, payloads_of, payloads_from}
use Rattle.gl_journal.specs.Parts.{Parts, FileParts, IsClosed}
use Rattle.gl_journal.specs.declared.fault.JournalFault.{JournalFault}
use Rattle.gl_journal.specs.declared.fault.JournalFault.TheVariants.{NotJournal}
use Rattle.gl_journal.proofs.Exits.{is_ok, ok_gives}
use Rattle.gl_journal.proofs.Headers.{begins_with}
use Rattle.gl_journal.proofs.PartLaws.{file_parts, file_opens, file_differs, opens_by_parts}
use Rattle.gl_journal.proofs.reader.end_of_payloads.Goals as goal

pub returns-in-Some-clause-fault : goal.returns-in-Some-clause-fault
returns-in-Some-clause-fault c fault e =
    let differs : mismatch c.args.header.now c.args.bytes.now ≡ Some c.in-Some.at = cc in
    let same : NotJournal c.in-Some.at ≡ fault = cc in
    file_differs c.args.header.now c.args.bytes.now c.in-Some.at differs ∙ ap (λ (f : _). Err f) same

pub split_at-requires : goal.split_at-requires
split_at-requires c =
    let begins : mismatch c.args.header.now c.args.bytes.now ≡ None = cc in
    omega (arith, ap length (begins_with c.args.header.now c.args.bytes.now begins), length-append c.args.header.now (drop (length c.args.header.now) c.args.bytes.now))

pub returns-clause-parts : goal.returns-clause-parts
returns-clause-parts c =
    let header = c.args.header.now in
    let bytes = c.args.bytes.now in
    let begins : mismatch c.args.header.now c.args.bytes.now ≡ None = cc in
    let Ends : ℕ → Type 0 = λ place. (payloads : List (List ℕ)) × (rest : List ℕ) × Parts (length header) c.split_at.result.1.now payloads place rest × IsClosed rest in
    IfOk-weaker c.end_of_batches.result Ends (λ place. (payloads : List (List ℕ)) × (rest : List ℕ) × FileParts header bytes payloads place rest)
    (λ place is.
    let parts = subst (λ (l : List ℕ). Parts (length header) l is.0 place is.1) c.split_at.ensures.back is.2 in
    (is.0, is.1, file_parts header bytes is.0 place is.1 begins parts is.3))
    c.end_of_batches.ensures.parts

pub returns-clause-fault : goal.returns-clause-fault
returns-clause-fault c fault e =
    let header = c.args.header.now in
    let bytes = c.args.bytes.now in
    let begins : mismatch c.args.header.now c.args.bytes.now ≡ None = cc in
    let at = c.end_of_batches.ensures.fault fault e in
    let opens = subst (λ (l : List ℕ). payloads_from (length header) l ≡ Err at.0) c.split_at.ensures.back at.2 in
    file_opens header bytes (Err at.0) begins opens ∙ ap (λ (f : JournalFault). Err f) (sym at.1)

pub returns-clause-opens : goal.returns-clause-opens
returns-clause-opens c =
    let header = c.args.header.now in
    let bytes = c.args.bytes.now in
    ok_gives c.end_of_batches.result (λ place. (payloads : List (List ℕ)) × (rest : List ℕ) × FileParts header bytes payloads place rest) (IsOk (payloads_of header bytes))
    (λ place is. is_ok (payloads_of header bytes) is.0 (opens_by_parts header bytes is.0 place is.1 is.2))
    (returns-clause-parts c)

pub returns-clause-within : goal.returns-clause-within
returns-clause-within c =
    let header = c.args.header.now in
    let bytes = c.args.bytes.now in
    IfOk-weaker c.end_of_batches.result (λ place. (payloads : List (List ℕ)) × (rest : List ℕ) × FileParts header bytes payloads place rest) (λ place. place ≤ length bytes)
    (λ place is. let parts = is.2 in omega (arith, parts.current, ap length parts.split, length-append (header ++ batches is.0) is.1))
    (returns-clause-parts c)
