use Rattle.std.proofs.Common.{◌≡◌, ℕ, List, ◌++◌, drop, Ok, sym, ◌∙◌, ap, subst}
use Rattle.gl_outside.specs.Disk.{IsImage}
use Rattle.gl_outside.proofs.Moments.{so_too}
use Rattle.gl_journal.specs.Gates.{payload_in, payloads_of, with_last}
use Rattle.gl_journal.specs.Stops.{IsOpen, OpensTo}
use Rattle.gl_journal.specs.Records.{records_bytes}
use Rattle.gl_journal.specs.Durable.{durable, journal_header, OpensToOneOf}
use Rattle.gl_journal.specs.RecordView.{record_values}
use Rattle.gl_journal.proofs.Settling.{both_ok}
use Rattle.gl_journal.proofs.DurableLaws.{durable_after, durable_between, when_ok}
use Rattle.gl_journal.proofs.journal.Journal.commit_batch.Goals as goal

pub returns-clause-kept : goal.returns-clause-kept
returns-clause-kept g c h goes_on state next opens folds =
    let recs = record_values c.args.records.now in
    let bytes = g.D.Disk.bytes c.args.self.now.gated.disk in
    let bytes' = g.D.Disk.bytes c.append.new.self.disk in
    let before = c.args.self.now.gated.header in
    let header : before ≡ journal_header = (c.requires.open h).header in
    let put : List ℕ = payload_in c.put_records.new.out in
    let payload : put ≡ records_bytes recs = ap (drop 4) c.put_records.ensures.put ∙ ap (λ (l : List ℕ). drop 4 (l ++ records_bytes recs)) c.begin_batch.ensures.begun in
    when_ok c.append.result
    (λ (is : payloads_of c.append.new.self.header bytes' ≡ with_last put (payloads_of before bytes)).
    durable_after goes_on bytes bytes' recs state next opens c.put_records.ensures.fields folds
    (ap (λ (l : List ℕ). payloads_of l bytes') (sym (c.append.ensures.header ∙ header)) ∙ is
    ∙ ap (λ (l : List ℕ). with_last l (payloads_of before bytes)) payload
    ∙ ap (λ (l : List ℕ). with_last (records_bytes recs) (payloads_of l bytes)) header))
    (c.append.ensures.kept h)

pub returns-clause-after : goal.returns-clause-after
returns-clause-after g c h goes_on state next opens folds =
    let bytes' = g.D.Disk.bytes c.append.new.self.disk in
    both_ok c.append.result (c.append.ensures.open h) (returns-clause-kept g c h goes_on state next opens folds)
    (λ (here : IsOpen g.D.Disk.bytes g.D.Disk.past c.append.new.self) (is : durable goes_on bytes' ≡ Ok next) (image : List ℕ) (left : IsImage (g.D.Disk.past c.append.new.self.disk) image).
    ap (durable goes_on) (here.kept image left) ∙ is)

pub returns-clause-any_moment : goal.returns-clause-any_moment
returns-clause-any_moment g c h goes_on state next opens folds =
    let recs = record_values c.args.records.now in
    let bytes = g.D.Disk.bytes c.args.self.now.gated.disk in
    let before = c.args.self.now.gated.header in
    let header : before ≡ journal_header = (c.requires.open h).header in
    let put : List ℕ = payload_in c.put_records.new.out in
    let payload : put ≡ records_bytes recs = ap (drop 4) c.put_records.ensures.put ∙ ap (λ (l : List ℕ). drop 4 (l ++ records_bytes recs)) c.begin_batch.ensures.begun in
    so_too (OpensTo before bytes put) (OpensToOneOf goes_on state next) (g.D.Disk.past c.args.self.now.gated.disk) (g.D.Disk.past c.append.new.self.disk)
    (λ image opens_to. durable_between goes_on bytes image recs state next opens c.put_records.ensures.fields folds
    (subst (λ (l : List ℕ). OpensTo journal_header bytes l image) payload (subst (λ (l : List ℕ). OpensTo l bytes put image) header opens_to)))
    (c.append.ensures.any_moment h)
