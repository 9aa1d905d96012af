use Rattle.std.proofs.Common.{◌++◌, [], ◌∷◌, if◌then◌else◌, Bool, sym, ap, ◌∙◌}
use Rattle.gl_journal.specs.Records.{Vote}
use Rattle.gl_journal.specs.RecordView.{record_values}
use Rattle.gl_store_book.proofs.OpeningSizes.{record_values-push}
use Rattle.gl_store_book.proofs.node_file.opening_batch.ViewVote.push_record.Goals as goal

pub returns-in_ok-push : goal.returns-in_ok-push
returns-in_ok-push c =
    let t = c.args.self.now in
    let old = c.args.records.now.items in
    ap record_values c.in_ok-push.ensures.items ∙ record_values-push old _
    ∙ ap (λ (b : Bool). record_values old ++ (if b then Vote t.view t.vote ∷ [] else [])) (sym c.if-self.true)
