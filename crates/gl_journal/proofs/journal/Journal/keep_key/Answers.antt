use Rattle.std.proofs.Common.{◌≡◌, ℕ, List, ◌++◌, drop, sym, ◌∙◌, ap, subst}
use Rattle.gl_journal.specs.Gates.{payload_in, payloads_of, with_last}
use Rattle.gl_journal.specs.Records.{Key, record_bytes}
use Rattle.gl_outside.proofs.Moments.{so_too}
use Rattle.gl_journal.specs.Stops.{OpensTo}
use Rattle.gl_journal.specs.Durable.{journal_header, OpensToKeyOrNone}
use Rattle.gl_journal.proofs.DurableLaws.{durable_first, when_ok}
use Rattle.gl_journal.proofs.JournalMoments.{key_between}
use Rattle.gl_journal.proofs.journal.Journal.keep_key.Goals as goal

pub returns-clause-kept : goal.returns-clause-kept
returns-clause-kept g c h goes_on =
    let key = c.args.key.now in
    let bytes = g.D.Disk.bytes c.args.self.now.gated.disk in
    let bytes' = g.D.Disk.bytes c.append.new.self.disk in
    let before = c.args.self.now.gated.header in
    let header : before ≡ journal_header = (c.requires.open h).header in
    let put : List ℕ = payload_in c.put_key.new.out in
    let payload : put ≡ record_bytes (Key key) = ap (drop 4) c.put_key.ensures.put ∙ ap (λ (l : List ℕ). drop 4 (l ++ record_bytes (Key key))) c.begin_batch.ensures.begun in
    when_ok c.append.result
    (λ (is : payloads_of c.append.new.self.header bytes' ≡ with_last put (payloads_of before bytes)).
    durable_first goes_on bytes bytes' put key (c.requires.none h) c.put_key.ensures.fields payload
    (ap (λ (l : List ℕ). payloads_of l bytes') (sym (c.append.ensures.header ∙ header)) ∙ is
    ∙ ap (λ (l : List ℕ). with_last put (payloads_of l bytes)) header))
    (c.append.ensures.kept h)

pub returns-clause-any_moment : goal.returns-clause-any_moment
returns-clause-any_moment g c h goes_on =
    let key = c.args.key.now in
    let bytes = g.D.Disk.bytes c.args.self.now.gated.disk in
    let before = c.args.self.now.gated.header in
    let header : before ≡ journal_header = (c.requires.open h).header in
    let put : List ℕ = payload_in c.put_key.new.out in
    let payload : put ≡ record_bytes (Key key) = ap (drop 4) c.put_key.ensures.put ∙ ap (λ (l : List ℕ). drop 4 (l ++ record_bytes (Key key))) c.begin_batch.ensures.begun in
    so_too (OpensTo before bytes put) (OpensToKeyOrNone goes_on key) (g.D.Disk.past c.args.self.now.gated.disk) (g.D.Disk.past c.append.new.self.disk)
    (λ image opens. key_between goes_on bytes image put key (c.requires.none h) c.put_key.ensures.fields payload (subst (λ (l : List ℕ). OpensTo l bytes put image) header opens))
    (c.append.ensures.any_moment h)
