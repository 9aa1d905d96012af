use Rattle.std.proofs.Common.{◌≡◌, ◌≢◌, ◌==◌, ℕ, ◌∷◌, ◌++◌, [], Ok, IfOk, length, sym, ap, ◌∙◌, subst}
use Rattle.std.specs.List.{flat_map}
use Rattle.std.specs.Option.{ok_or}
use Rattle.std.proofs.lemmas.Result.{err_from_is_err_and}
use Rattle.gl_base.specs.Code.{whole}
use Rattle.gl_requests.specs.Encoding.{action_bytes}
use Rattle.gl_gov_rules.specs.declared.row.ProposalRow.{ProposalRow}
use Rattle.gl_gov_rules.specs.declared.row.GovernedRows.{GovernedRows}
use Rattle.gl_gov_rules.specs.GovernedRows.{proposal_row_at, is_proposal_row, with_row}
use Rattle.gl_gov_rows.proofs.Spelled.{unread, refused, adds, and_first, was_read}
use Rattle.gl_gov_rows.proofs.RowKinds.{proposal-added, proposal-unnamed}
use Rattle.gl_gov_rows.proofs.read.Gathered.add_proposal.Goals as goal

pub returns-in_default : goal.returns-in_default
returns-in_default c =
    let short : length c.args.row.now.key ≢ 32 = λ long. c.in_default.ensures.cases (ap length c.as_slice.ensures.value ∙ long) in
    ap (λ o. ok_or o c.args.index) (proposal-unnamed c.args.self.now c.args.row.now c.requires short)

pub returns-in_err-proposal : goal.returns-in_err-proposal
returns-in_err-proposal c =
    let g = c.args.self.now in
    let id = c.in-Some.id.now in
    let p = err_from_is_err_and c.from_residual.result c.from_residual.ensures.1 in
    rw (p.1, p.2)
    (unread (λ (x : ProposalRow × ℕ). x.0) c.args.index (whole proposal_row_at c.as_slice-2.result.now) c.spelled.result (length id == 32) is_proposal_row (λ (x : ProposalRow). record g { proposals = g.proposals ++ record { id = id; row = x } ∷ [] }) (with_row g c.args.row.now) c.in_err-proposal.field-0.0
    (record { read = c.read_proposal.result; answers = c.read_proposal.ensures.exact; is = c.spelled.ensures })
    (proposal-added g c.args.row.now id c.as_slice-2.result.now c.requires (c.in-Some.ensures.cases.same ∙ c.as_slice.ensures.value) c.as_slice-2.ensures.value) c.in_err-proposal.was)

pub is_proposal-requires : goal.is_proposal-requires
is_proposal-requires c =
    subst (λ read. IfOk read (λ (x : ProposalRow × ℕ). x.1 ≡ length (flat_map action_bytes x.0.actions)))
    (was_read c.args.index c.read_proposal.result (c.in_ok-proposal.proposal, c.in_ok-proposal.bytes) (sym c.spelled.ensures ∙ c.in_ok-proposal.was)) c.read_proposal.ensures.size

pub returns-in_err-required : goal.returns-in_err-required
returns-in_err-required c =
    let g = c.args.self.now in
    let id = c.in-Some.id.now in
    let p = err_from_is_err_and c.from_residual-in_err-required.result c.from_residual-in_err-required.ensures.1 in
    rw (p.1, p.2)
    (refused (λ (x : ProposalRow × ℕ). x.0) c.args.index (whole proposal_row_at c.as_slice-2.result.now) c.spelled.result (length id == 32) is_proposal_row (λ (x : ProposalRow). record g { proposals = g.proposals ++ record { id = id; row = x } ∷ [] }) (with_row g c.args.row.now) (c.in_ok-proposal.proposal, c.in_ok-proposal.bytes) c.in_err-required.field-0.0 c.is_proposal.result
    (record { read = c.read_proposal.result; answers = c.read_proposal.ensures.exact; is = c.spelled.ensures })
    (proposal-added g c.args.row.now id c.as_slice-2.result.now c.requires (c.in-Some.ensures.cases.same ∙ c.as_slice.ensures.value) c.as_slice-2.ensures.value)
    c.in_ok-proposal.was (c.is_proposal.ensures ∙ and_first (length id == 32) _ (ap (λ n. n == 32) (ap length c.in-Some.ensures.cases.same ∙ c.in-Some.ensures.cases.long))) (sym c.required.ensures ∙ c.in_err-required.was))

pub returns : goal.returns
returns c =
    let g = c.args.self.now in
    let id = c.in-Some.id.now in
    let x = c.in_ok-proposal.proposal in
    rw c.in_ok-push.ensures.items
    (adds (λ (x : ProposalRow × ℕ). x.0) c.args.index (whole proposal_row_at c.as_slice-2.result.now) c.spelled.result (length id == 32) is_proposal_row (λ (x : ProposalRow). record g { proposals = g.proposals ++ record { id = id; row = x } ∷ [] }) (with_row g c.args.row.now) (c.in_ok-proposal.proposal, c.in_ok-proposal.bytes) c.is_proposal.result
    (record { read = c.read_proposal.result; answers = c.read_proposal.ensures.exact; is = c.spelled.ensures })
    (proposal-added g c.args.row.now id c.as_slice-2.result.now c.requires (c.in-Some.ensures.cases.same ∙ c.as_slice.ensures.value) c.as_slice-2.ensures.value)
    c.in_ok-proposal.was (c.is_proposal.ensures ∙ and_first (length id == 32) _ (ap (λ n. n == 32) (ap length c.in-Some.ensures.cases.same ∙ c.in-Some.ensures.cases.long))) (sym c.required.ensures ∙ c.in_ok-required.was)
    ∙ ap (λ (g : GovernedRows). Ok (record g { proposals = g.proposals ++ record { id = id; row = x } ∷ [] })) (sym c.self.view_is))
