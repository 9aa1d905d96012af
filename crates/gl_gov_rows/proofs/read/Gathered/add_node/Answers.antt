use Rattle.std.proofs.Common.{◌≢◌, ◌∷◌, ◌++◌, [], Ok, length, nat_lt, sym, ap, ◌∙◌}
use Rattle.std.specs.Option.{ok_or}
use Rattle.std.proofs.lemmas.Result.{err_from_is_err_and}
use Rattle.gl_base.specs.Code.{whole}
use Rattle.gl_gov_rules.specs.declared.row.NodeRow.{NodeRow}
use Rattle.gl_gov_rules.specs.declared.row.GovernedRows.{GovernedRows}
use Rattle.gl_gov_rules.specs.GovernedRows.{node_row_at, is_node_row, with_row}
use Rattle.gl_gov_rows.proofs.Spelled.{unread, refused, adds}
use Rattle.gl_gov_rows.proofs.RowKinds.{node-added, node-unnamed}
use Rattle.gl_gov_rows.proofs.read.Gathered.add_node.Goals as goal

pub returns-in_default : goal.returns-in_default
returns-in_default c =
    let short : length c.args.row.now.key ≢ 32 = λ long. c.in_default.ensures.cases (ap length c.as_slice.ensures.value ∙ long) in
    ap (λ o. ok_or o c.args.index) (node-unnamed c.args.self.now c.args.row.now c.requires short)

pub returns-in_err-node : goal.returns-in_err-node
returns-in_err-node c =
    let g = c.args.self.now in
    let id = c.in-Some.id.now in
    let p = err_from_is_err_and c.from_residual.result c.from_residual.ensures.1 in
    rw (p.1, p.2)
    (unread (λ x. x) c.args.index (whole (node_row_at id) c.as_slice-2.result.now) c.spelled.result (nat_lt (length g.nodes) 65535) is_node_row (λ (x : NodeRow). record g { nodes = g.nodes ++ x ∷ [] }) (with_row g c.args.row.now) c.in_err-node.field-0.0
    (record { read = c.read_node_row.result; answers = c.read_node_row.ensures; is = c.spelled.ensures })
    (node-added g c.args.row.now id c.as_slice-2.result.now c.requires (c.in-Some.ensures.cases.same ∙ c.as_slice.ensures.value) c.as_slice-2.ensures.value) c.in_err-node.was)

pub returns-in_err-required : goal.returns-in_err-required
returns-in_err-required c =
    let g = c.args.self.now in
    let id = c.in-Some.id.now in
    let p = err_from_is_err_and c.from_residual-in_err-required.result c.from_residual-in_err-required.ensures.1 in
    rw (p.1, p.2)
    (refused (λ x. x) c.args.index (whole (node_row_at id) c.as_slice-2.result.now) c.spelled.result (nat_lt (length g.nodes) 65535) is_node_row (λ (x : NodeRow). record g { nodes = g.nodes ++ x ∷ [] }) (with_row g c.args.row.now) c.in_ok-node.node c.in_err-required.field-0.0 c.takes_node.result
    (record { read = c.read_node_row.result; answers = c.read_node_row.ensures; is = c.spelled.ensures })
    (node-added g c.args.row.now id c.as_slice-2.result.now c.requires (c.in-Some.ensures.cases.same ∙ c.as_slice.ensures.value) c.as_slice-2.ensures.value)
    c.in_ok-node.was c.takes_node.ensures (sym c.required.ensures ∙ c.in_err-required.was))

pub returns : goal.returns
returns c =
    let g = c.args.self.now in
    let id = c.in-Some.id.now in
    let x = c.in_ok-node.node in
    rw c.in_ok-push.ensures.items
    (adds (λ x. x) c.args.index (whole (node_row_at id) c.as_slice-2.result.now) c.spelled.result (nat_lt (length g.nodes) 65535) is_node_row (λ (x : NodeRow). record g { nodes = g.nodes ++ x ∷ [] }) (with_row g c.args.row.now) c.in_ok-node.node c.takes_node.result
    (record { read = c.read_node_row.result; answers = c.read_node_row.ensures; is = c.spelled.ensures })
    (node-added g c.args.row.now id c.as_slice-2.result.now c.requires (c.in-Some.ensures.cases.same ∙ c.as_slice.ensures.value) c.as_slice-2.ensures.value)
    c.in_ok-node.was c.takes_node.ensures (sym c.required.ensures ∙ c.in_ok-required.was)
    ∙ ap (λ (g : GovernedRows). Ok (record g { nodes = g.nodes ++ x ∷ [] })) (sym c.self.view_is))
