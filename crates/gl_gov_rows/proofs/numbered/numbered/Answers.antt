use Rattle.std.proofs.Common.{◌≡◌, length, subst, ap, ◌∙◌, IfOk}
use Rattle.std.specs.Option.{option_map}
use Rattle.gl_gov_rows.specs.Reading.{all_of}
use Rattle.gl_gov_rows.proofs.NodesByNumber.{all_numbered}
use Rattle.gl_gov_rows.proofs.numbered.numbered.Goals as goal

pub returns : goal.returns
returns c =
    subst (λ found. IfOk c.all_of.result (λ nodes. option_map (λ v. v.items) nodes ≡ found))
    (ap all_of c.in_ok-places.ensures ∙ all_numbered c.args.nodes.items 1 (length c.args.nodes.items)) c.all_of.ensures
