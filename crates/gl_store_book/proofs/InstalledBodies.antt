-- What is told of bytes as the body of a snapshot: where they are one, its base and its view.
use Rattle.std.proofs.Common.{◌≡◌, ℕ, ◌<◌, Bool, true, false, List, [], Option, None, Some, option_map, Result, Ok, Err, length, ◌==◌, if◌then◌else◌, nat_le, refl, sym, ap, subst, ◌∙◌, arith}
use Rattle.std.proofs.lemmas.Bool.{and_parts}
use Rattle.std.proofs.lemmas.Bool.Decides.{nat_tests}
use Rattle.gl_base.specs.Answers.{Fails}
use Rattle.gl_base.specs.Code.{ended, field}
use Rattle.gl_base.specs.Cut.{Unread, number_at}
use Rattle.gl_base.specs.TxId.{last_seqno}
use Rattle.gl_base.specs.declared.fault.CodeFault.{CodeFault}
use Rattle.gl_base.specs.declared.fault.CodeFault.TheVariants.{Trailing}
use Rattle.gl_base.specs.declared.or_no_memory.OrNoMemory.{OrNoMemory}
use Rattle.gl_base.specs.declared.or_no_memory.OrNoMemory.TheVariants.{NoMemory, Fault}
use Rattle.gl_base.proofs.Steps.{bind_ok, ok_injective}
use Rattle.gl_gov_rules.specs.GovernedRows.{governed_rows}
use Rattle.gl_gov_rules.specs.declared.row.GovernedRows.{GovernedRows}
use Rattle.gl_snapshot_body.specs.Body.{body_bytes, is_base}
use Rattle.gl_snapshot_body.specs.Parsing.{base_at, body_at, body_in, peaks_at, rows_at, shape_of, starts_at}
use Rattle.gl_snapshot_body.specs.declared.body.Body.{Body}
use Rattle.gl_snapshot_body.specs.declared.fault.ShapeFault.{ShapeFault}
use Rattle.gl_snapshot_body.proofs.Ascending.{required_ok}
use Rattle.gl_snapshot_body.proofs.BodyLaws.{shape-read}
use Rattle.gl_ledger.specs.Behind.{IsBaseBody}
use Rattle.gl_snapshot.specs.Parsing.{body_of as governed_body, governed_by}
use Rattle.gl_snapshot.proofs.Steps.{by_place_ok}
use Rattle.gl_journal.specs.declared.installed.Installed.{Installed}
use Rattle.gl_store_book.specs.BasedLedgers.{BasedLedger, body_encoded, body_read}
use Rattle.gl_store_book.specs.Frames.{frames_of, snapshot_in, told_by}

-- ---- what was read

abbrev pub told_of : Body → Installed
told_of b = record { base = b.base; view = b.view }

pub told_read : (told : Option Installed) (read : Option Body) (b : Body) → told ≡ option_map told_of read → read ≡ Some b → Some (told_of b) ≡ told
told_read told read b is some = sym (is ∙ ap (λ (o : Option Body). option_map told_of o) some)

-- of bytes in which a fault was found nothing is told
pub told_no_fault : (r : Result Body ShapeFault) (e : OrNoMemory ShapeFault) (fault : ShapeFault) → e ≡ Fault fault → Fails e r → told_by r ≡ None
told_no_fault r NoMemory fault is fails = absurd (cc)
told_no_fault r (Fault other) fault is fails = ap told_by fails

-- a ledger begins behind the body, of no entries
pub begun_log : (l : BasedLedger) (bytes : List ℕ) (b : Body) → l ≡ record { snapshot = Some (body_bytes b); entries = [] } → bytes ≡ body_bytes b →
    (frames_of (Some l) ≡ []) × (snapshot_in (Some l) ≡ Some bytes)
begun_log l bytes b is spelled = (
  ap (λ (m : BasedLedger). frames_of (Some m)) is,
  ap (λ (m : BasedLedger). m.snapshot) is ∙ ap (λ (bs : List ℕ). Some bs) (sym spelled),
)

-- ---- the base of what reads as a body

base_read : (old new : Unread) (base : ℕ) → base_at old ≡ Ok (base, new) → is_base base ≡ true
unfolding base_at
base_read old new base e =
    let read = bind_ok {E = CodeFault} (field (number_at 8 old)) _ (base, new) e in
    let holds = required_ok (is_base read.0.0) old.at read.0 (base, new) read.2 in
    subst (λ (y : ℕ × Unread). is_base y.0 ≡ true) {x = read.0} holds.1 holds.0

body_based : (old new : Unread) (b : Body) → body_at old ≡ Ok (b, new) → is_base b.base ≡ true
unfolding body_at
body_based old new b e =
    let base = bind_ok {E = CodeFault} (base_at old) _ (b, new) e in
    let view = bind_ok {E = CodeFault} (field (number_at 4 base.0.1)) _ (b, new) base.2 in
    let commit = bind_ok {E = CodeFault} (field (number_at 8 view.0.1)) _ (b, new) view.2 in
    let views = bind_ok {E = CodeFault} (starts_at base.0.0 commit.0.1) _ (b, new) commit.2 in
    let peaks = bind_ok {E = CodeFault} (peaks_at base.0.0 views.0.1) _ (b, new) views.2 in
    let rows = bind_ok {E = CodeFault} (rows_at peaks.0.1) _ (b, new) peaks.2 in
    let made : Body = record { base = base.0.0; view = view.0.0; commit = commit.0.0; views = views.0.0; peaks = peaks.0.0; rows = rows.0.0 } in
    let gave : Body × Unread = (made, rows.0.1) in
    let same : gave ≡ (b, new) = ok_injective {E = CodeFault} gave (b, new) rows.2 in
    subst (λ (y : Body × Unread). is_base y.0.base ≡ true) {x = gave} same (base_read old base.0.1 base.0.0 base.1)

ended_is : (read : Body × Unread) (b : Body) → ended read ≡ Ok b → read.0 ≡ b
ended_is read b e = go (length read.1.bytes == 0) e
  where
    go : (all : Bool) → ◌≡◌ {A = Result Body CodeFault} (if all then Ok read.0 else Err (Trailing read.1.at)) (Ok b) → read.0 ≡ b
    go true is = ok_injective {E = CodeFault} read.0 b is
    go false is = absurd (cc)

shape_based : (bytes : List ℕ) (b : Body) → shape_of 0 bytes ≡ Ok b → is_base b.base ≡ true
shape_based bytes b e =
    let read = bind_ok {E = CodeFault} (body_at (record { at = 0; bytes = bytes })) ended b (by_place_ok (body_in 0 bytes) b e) in
    subst (λ (y : Body). is_base y.base ≡ true) (ended_is read.0 b read.2) (body_based (record { at = 0; bytes = bytes }) read.0.1 read.0.0 read.1)

-- ---- what is told of it

told_body : (r : Result Body ShapeFault) (at : Installed) → told_by r ≡ Some at → (b : Body) × (r ≡ Ok b) × (told_of b ≡ at)
told_body (Ok b) at is = let same : told_of b ≡ at = cc in (b, refl, same)
told_body (Err fault) at is = absurd (cc)

spelled_of : (at : ℕ) (b c : Body) (r : Result GovernedRows ℕ) → governed_by at b r ≡ Ok c → b ≡ c
spelled_of at b c (Ok g) e = cc
spelled_of at b c (Err index) e = absurd (cc)

-- the base that is told is that of the body that the bytes encode, and above 0
pub told_base : (bytes : List ℕ) (at : Installed) → told_by (governed_body 0 bytes) ≡ Some at → (at.base ≡ (body_encoded bytes).base) × (0 < at.base)
unfolding governed_body body_encoded
told_base bytes at is =
    let told = told_body (governed_body 0 bytes) at is in
    let shape = bind_ok {E = ShapeFault} (shape_of 0 bytes) _ told.0 told.1 in
    let same : shape.0 ≡ told.0 = spelled_of 0 shape.0 told.0 (governed_rows shape.0.base shape.0.rows) shape.2 in
    let encoded : body_encoded bytes ≡ shape.0 = ap body_read shape.1 in
    let base : shape.0.base ≡ at.base = ap (λ (b : Body). b.base) same ∙ ap (λ (i : Installed). i.base) told.2 in
    let low = (and_parts (nat_le 1 shape.0.base) (nat_le shape.0.base last_seqno) (shape_based bytes shape.0 shape.1)).0 in
    let above : 0 < shape.0.base = grind (arith, nat_tests, low) in
    (sym base ∙ sym (ap (λ (b : Body). b.base) encoded), omega (arith, base, above))

-- of a body that can be read its own base and view are told
pub told_again : (body : Body) → IsBaseBody body → told_by (governed_body 0 (body_bytes body)) ≡ Some (told_of body)
unfolding governed_body
told_again body read = rw (shape-read 0 body read.fits, read.spelled) refl
