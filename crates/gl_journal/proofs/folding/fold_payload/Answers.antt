use Rattle.std.proofs.Common.{◌≡◌, ℕ, ◌+◌, List, ◌∷◌, ◌++◌, length, true, false, Bool, None, Some, option_map, Ok, Err, sym, ◌∙◌, ap, arith, length-append}
use Rattle.gl_base.specs.Cut.{Unread, string_at}
use Rattle.gl_journal.specs.Gates.{length_limit, payload_at, body_of}
use Rattle.gl_journal.specs.Records.{record_of}
use Rattle.gl_journal.specs.Durable.{fold_payload}
use Rattle.gl_journal.specs.RecordView.{record_value, state_of}
use Rattle.gl_journal.specs.declared.fault.JournalFault.TheVariants.{BadRecord}
use Rattle.gl_journal.proofs.Openings.{payload_facts, length-body}
use Rattle.gl_journal.proofs.PayloadLaws.{fold_end, fold_on, fold_cut, fold_no_record, fold_refused}
use Rattle.gl_journal.proofs.folding.fold_payload.Goals as goal

pub returns-in_default-bytes-clause-fault : goal.returns-in_default-bytes-clause-fault
returns-in_default-bytes-clause-fault g c fault e =
    let goes_on = g.L.EntryLog.goes_on in
    let view = state_of g.L.EntryLog.frames in
    let place = c.loop-kind.place in
    let kind = c.in-Some.kind in
    let suffix = c.in-Some.suffix.now in
    let state = option_map view c.loop-kind.state in
    let so_far : fold_payload goes_on c.args.at c.args.payload.now (option_map view c.args.state.now) ≡ fold_payload goes_on place (kind ∷ suffix) state =
    c.loop-kind.invariant.folded ∙ ap (λ (l : List ℕ). fold_payload goes_on place l state) c.in-Some.ensures.some in
    let same : fault ≡ BadRecord place = cc in
    let read : payload_at (place + 1) suffix ≡ Err c.in_default-bytes.field-0 = ap (string_at 4 length_limit) (sym c.new_at-cut.ensures) ∙ c.in_default-bytes.ensures.exact.0 in
    (place, same, so_far ∙ fold_cut goes_on place kind suffix c.in_default-bytes.field-0 state read)

pub returns-in_default-record_of-clause-fault : goal.returns-in_default-record_of-clause-fault
returns-in_default-record_of-clause-fault g c fault e =
    let goes_on = g.L.EntryLog.goes_on in
    let view = state_of g.L.EntryLog.frames in
    let place = c.loop-kind.place in
    let kind = c.in-Some.kind in
    let suffix = c.in-Some.suffix.now in
    let state = option_map view c.loop-kind.state in
    let so_far : fold_payload goes_on c.args.at c.args.payload.now (option_map view c.args.state.now) ≡ fold_payload goes_on place (kind ∷ suffix) state =
    c.loop-kind.invariant.folded ∙ ap (λ (l : List ℕ). fold_payload goes_on place l state) c.in-Some.ensures.some in
    let same : fault ≡ BadRecord place = cc in
    let body = c.in-Ok.body.now in
    let new = c.bytes.new.self in
    let read : payload_at (place + 1) suffix ≡ Ok (body, new) = ap (string_at 4 length_limit) (sym c.new_at-cut.ensures) ∙ c.in-Ok.ensures.exact in
    let is : record_of kind body ≡ None = sym c.in_default-record_of.ensures in
    (place, same, so_far ∙ fold_no_record goes_on place kind suffix body new state read is)

pub returns-then-not-branch-clause-fault : goal.returns-then-not-branch-clause-fault
returns-then-not-branch-clause-fault g c fault e =
    let goes_on = g.L.EntryLog.goes_on in
    let view = state_of g.L.EntryLog.frames in
    let place = c.loop-kind.place in
    let kind = c.in-Some.kind in
    let suffix = c.in-Some.suffix.now in
    let state = option_map view c.loop-kind.state in
    let so_far : fold_payload goes_on c.args.at c.args.payload.now (option_map view c.args.state.now) ≡ fold_payload goes_on place (kind ∷ suffix) state =
    c.loop-kind.invariant.folded ∙ ap (λ (l : List ℕ). fold_payload goes_on place l state) c.in-Some.ensures.some in
    let same : fault ≡ BadRecord place = cc in
    let body = c.in-Ok.body.now in
    let new = c.bytes.new.self in
    let read : payload_at (place + 1) suffix ≡ Ok (body, new) = ap (string_at 4 length_limit) (sym c.new_at-cut.ensures) ∙ c.in-Ok.ensures.exact in
    let rec = record_value c.in-Some-record_of.one in
    let is : record_of kind body ≡ Some rec = sym c.in-Some-record_of.ensures in
    let was : c.fold_next.result ≡ Ok false = c.in_ok-fold_next.was ∙ ap (λ (b : Bool). Ok b) c.if-not-branch.true in
    (place, same, so_far ∙ fold_refused goes_on place kind suffix body new rec state read is (c.fold_next.ensures.refuses was))

pub loop-kind-preserved : goal.loop-kind-preserved
loop-kind-preserved g c =
    let goes_on = g.L.EntryLog.goes_on in
    let view = state_of g.L.EntryLog.frames in
    let place = c.loop-kind.place in
    let kind = c.in-Some.kind in
    let suffix = c.in-Some.suffix.now in
    let state = option_map view c.loop-kind.state in
    let so_far : fold_payload goes_on c.args.at c.args.payload.now (option_map view c.args.state.now) ≡ fold_payload goes_on place (kind ∷ suffix) state =
    c.loop-kind.invariant.folded ∙ ap (λ (l : List ℕ). fold_payload goes_on place l state) c.in-Some.ensures.some in
    let body = c.in-Ok.body.now in
    let new = c.bytes.new.self in
    let read : payload_at (place + 1) suffix ≡ Ok (body, new) = ap (string_at 4 length_limit) (sym c.new_at-cut.ensures) ∙ c.in-Ok.ensures.exact in
    let rec = record_value c.in-Some-record_of.one in
    let is : record_of kind body ≡ Some rec = sym c.in-Some-record_of.ensures in
    let was : c.fold_next.result ≡ Ok true = c.in_ok-fold_next.was ∙ ap (λ (b : Bool). Ok b) c.if-not-branch.false in
    let next = option_map view c.fold_next.new.state in
    let facts = payload_facts (place + 1) suffix body new read in
    let encoded : suffix ≡ body_of body ++ new.bytes = sym (ap (λ (u : Unread). u.bytes) c.new_at-cut.ensures) ∙ c.in-Ok.ensures.encoded in
    let step = so_far ∙ fold_on goes_on place kind suffix body new rec state next read is (c.fold_next.ensures.folds was) (c.fold_next.ensures.some was) in
    record {
      stands = c.fold_next.ensures.stands was;
      folded = step ∙ ap (λ (n : ℕ). fold_payload goes_on n new.bytes next) (sym c.at-place.ensures) ∙ ap (λ (l : List ℕ). fold_payload goes_on c.at-place.result l next) (sym c.rest-rest.ensures);
      size = omega (arith, facts.1, c.loop-kind.invariant.size, c.at-place.ensures, ap length c.rest-rest.ensures, ap length encoded, ap length c.in-Some.ensures.some, length-append (body_of body) new.bytes, length-body body);
    }

pub returns-clause-folds : goal.returns-clause-folds
returns-clause-folds g c =
    let state = option_map (state_of g.L.EntryLog.frames) c.loop-kind.state in
    c.loop-kind.invariant.folded ∙ ap (λ (l : List ℕ). fold_payload g.L.EntryLog.goes_on c.loop-kind.place l state) c.in_default.ensures.none ∙ fold_end g.L.EntryLog.goes_on c.loop-kind.place state
