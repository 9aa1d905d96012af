use Rattle.std.proofs.Common.{◌≡◌, Ok, ap, refl, rules, sym, ◌∙◌}
use Rattle.ccfg.specs.Nodes.{BeginsAs, Beginning, beginning, reopened}
use Rattle.ccfg.proofs.Beginnings.{any_bytes, begins_again, ok_map}
use Rattle.ccfg.proofs.KeyLemmas.{whole_as}
use Rattle.ccfg.proofs.NodeMoments.{keeps_at_rest, reopened_disk, reopened_moments}
use Rattle.ccfg.proofs.ShownLemmas.{of_text}
use Rattle.ccfg.proofs.node.begin.Goals as goal

pub returns-then-has_ledger-clause-begins : goal.returns-then-has_ledger-clause-begins
returns-then-has_ledger-clause-begins g c =
    let d = c.args.file.state in
    let has = sym c.has_ledger.ensures ∙ c.if-has_ledger.true in
    ok_map c.reopen.result (λ replica began. any_bytes (g.S.Source.left c.args.source.now) (λ given. (reopened d, begins_again d given has, began))) c.reopen.ensures.begins

pub returns-in-Ok-clause-begins : goal.returns-in-Ok-clause-begins
returns-in-Ok-clause-begins g c =
    let d = c.args.file.state in
    let text = c.deref.result.now in
    let left = g.S.Source.left c.args.source.now in
    let whole = whole_as left c.in-Ok.given.items text c.deref.ensures.value c.in-Ok.ensures.whole in
    ok_map c.begin_with.result (λ replica began. of_text left text
    (λ given. (b : Beginning) × (beginning d given ≡ Ok b) × BeginsAs g.D.Disk.honest g.D.Disk.bytes g.D.Disk.past g.D.Disk.faults b replica) whole began) c.begin_with.ensures.begins

pub returns-then-has_ledger-clause-spent : goal.returns-then-has_ledger-clause-spent
returns-then-has_ledger-clause-spent g c honest =
    ok_map c.reopen.result (λ replica began. keeps_at_rest c.args.file.state (g.D.Disk.bytes replica.disk) (g.D.Disk.past replica.disk) (began.at_rest honest) (began.keeps honest)) c.reopen.ensures.begins

pub returns-then-has_ledger-clause-any_moment : goal.returns-then-has_ledger-clause-any_moment
returns-then-has_ledger-clause-any_moment g c honest =
    reopened_moments c.args.file.state (g.D.Disk.bytes c.args.file.disk) _ _ (c.requires.at_rest honest) (c.requires.kept honest)
    (ap g.D.Disk.past (reopened_disk c.reopen.result c.args.file.disk c.reopen.ensures.same c.reopen.ensures.err))

pub returns-in-Err-Failed-clause-any_moment : goal.returns-in-Err-Failed-clause-any_moment
returns-in-Err-Failed-clause-any_moment g c honest =
    reopened_moments c.args.file.state (g.D.Disk.bytes c.args.file.disk) _ _ (c.requires.at_rest honest) (c.requires.kept honest) (ap g.D.Disk.past c.into_disk.ensures)

pub returns-in-Err-Memory : goal.returns-in-Err-Memory
returns-in-Err-Memory g c = record {
  begins = search rules;
  refused = search rules;
  untouched = search rules;
  going = search rules;
  quiet = search rules;
  unread = search rules;
  source_quiet = search rules;
  ended = search rules;
  ended_refused = search rules;
  source_failed = search rules;
  disk_failed = search rules;
  spent = search rules;
  any_moment = λ honest. reopened_moments c.args.file.state (g.D.Disk.bytes c.args.file.disk) _ _ (c.requires.at_rest honest) (c.requires.kept honest) (ap g.D.Disk.past c.into_disk-in-Err-Memory.ensures);
}

pub returns-in-Err-Failed-clause-source_quiet : goal.returns-in-Err-Failed-clause-source_quiet
returns-in-Err-Failed-clause-source_quiet g c none = absurd (none _ refl)
