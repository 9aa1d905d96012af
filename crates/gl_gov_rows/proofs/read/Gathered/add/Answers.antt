use Rattle.std.proofs.Common.{ap, sym, ◌≡◌, ◌∙◌, List, ℕ, false, Bool}
use Rattle.std.specs.Option.{ok_or}
use Rattle.gl_base.specs.Bytes.{same_bytes}
use Rattle.gl_gov_rules.specs.Rows.{service_map, members_map, nodes_map, proposals_map, constitution_map, dealing_map, shares_map}
use Rattle.gl_gov_rows.proofs.RowKinds.{none-added}
use Rattle.gl_gov_rows.proofs.read.Gathered.add.Goals as goal

pub returns-else-same_bytes-7 : goal.returns-else-same_bytes-7
returns-else-same_bytes-7 c =
    let at : (map : List ℕ) (b : Bool) → b ≡ same_bytes c.as_slice-map.result.now map → b ≡ false → same_bytes c.args.row.now.map map ≡ false = λ map b is no. ap (λ m. same_bytes m map) (sym c.as_slice-map.ensures.value) ∙ sym is ∙ no in
    ap (λ o. ok_or o c.args.index)
    (none-added c.args.self.now c.args.row.now
    (at service_map _ c.same_bytes.ensures.value c.if-same_bytes.false)
    (at members_map _ c.same_bytes-else-same_bytes.ensures.value c.if-same_bytes-2.false)
    (at nodes_map _ c.same_bytes-else-same_bytes-2.ensures.value c.if-same_bytes-3.false)
    (at proposals_map _ c.same_bytes-else-same_bytes-3.ensures.value c.if-same_bytes-4.false)
    (at constitution_map _ c.same_bytes-else-same_bytes-4.ensures.value c.if-same_bytes-5.false)
    (at dealing_map _ c.same_bytes-else-same_bytes-5.ensures.value c.if-same_bytes-6.false)
    (at shares_map _ c.same_bytes-else-same_bytes-6.ensures.value c.if-same_bytes-7.false))
