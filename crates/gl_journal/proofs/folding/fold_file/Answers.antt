use Rattle.std.proofs.Common.{◌≡◌, ℕ, List, length, drop, None, IsOk, refl, sym, ◌∙◌, ap, subst, arith, length-append}
use Rattle.gl_base.specs.Answers.{Answers}
use Rattle.gl_journal.specs.Gates.{opening_answer, payloads_from}
use Rattle.gl_journal.specs.Durable.{durable, durable_of, journal_header}
use Rattle.gl_journal.specs.RecordView.{state_of}
use Rattle.gl_journal.proofs.DurableLaws.{durable_opened}
use Rattle.gl_journal.proofs.Headers.{begins_with}
use Rattle.gl_journal.proofs.PartLaws.{file_opened, file_opens}
use Rattle.gl_journal.proofs.folding.fold_file.Goals as goal

pub split_at-requires : goal.split_at-requires
split_at-requires g c =
    let file = c.args.file.now in
    let eight : length journal_header ≡ 8 = refl in
    omega (arith, eight, ap length (begins_with journal_header file (file_opened journal_header file c.requires).0), length-append journal_header (drop (length journal_header) file))

pub fold_batches-requires-clause-opens : goal.fold_batches-requires-clause-opens
fold_batches-requires-clause-opens g c =
    subst (λ (l : List ℕ). IsOk (payloads_from 8 l)) (sym c.split_at.ensures.back) (file_opened journal_header c.args.file.now c.requires).1

pub returns-clause-exact : goal.returns-clause-exact
returns-clause-exact g c =
    let goes_on = g.L.EntryLog.goes_on in
    let file = c.args.file.now in
    let begins = (file_opened journal_header file c.requires).0 in
    let is : durable goes_on file ≡ durable_of goes_on (opening_answer None (payloads_from 8 c.split_at.result.1.now)) =
    durable_opened goes_on file (opening_answer None (payloads_from 8 (drop 8 file))) (file_opens journal_header file (payloads_from 8 (drop 8 file)) begins refl)
    ∙ ap (λ (l : List ℕ). durable_of goes_on (opening_answer None (payloads_from 8 l))) (sym c.split_at.ensures.back) in
    subst (Answers (state_of g.L.EntryLog.frames) c.fold_batches.result) (sym is) c.fold_batches.ensures.exact
