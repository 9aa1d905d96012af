use Rattle.std.proofs.Common.{◌≡◌, ◌∙◌, ◌+◌, ◌++◌, List, map, drop, sym, ap, append_assoc}
use Rattle.std.specs.List.{flat_map}
use Rattle.std.proofs.lemmas.List.{drop_more}
use Rattle.gl_gov_rules.specs.declared.row.Vote.{Vote}
use Rattle.gl_gov_rules.specs.declared.row.ProposalAt.{ProposalAt}
use Rattle.gl_gov_rules.specs.History.{Answered}
use Rattle.gl_gov_rules.specs.GovernedRows.{answers_carried}
use Rattle.gl_gov_rules.proofs.carried.carried_answers.Goals as goal

pub loop-row-preserved : goal.loop-row-preserved
loop-row-preserved c =
    let rows = c.args.rows.now in
    let i = c.loop-row.row-index in
    let row = c.row-item.result in
    let before = c.loop-row.answers.items in
    let rest : List Answered = flat_map answers_carried (drop (i + 1) rows) in
    let one : Vote → Answered = λ v. record { id = row.id; member = v.member; agrees = v.agrees } in
    let split : flat_map answers_carried (drop i rows) ≡ answers_carried row ++ rest =
    ap (flat_map answers_carried) (drop_more rows i row c.loop-row-test.true) ∙ ap (λ (r : ProposalAt). answers_carried r ++ rest) (sym c.row-item.is) in
    ap (λ (us : List Answered). us ++ rest) (c.in_ok-push_answers.ensures ∙ ap (λ (vs : List Vote). before ++ map one vs) c.as_slice.ensures)
    ∙ append_assoc before (answers_carried row) rest ∙ ap (λ (us : List Answered). before ++ us) (sym split) ∙ c.loop-row.invariant
