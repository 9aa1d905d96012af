use Rattle.std.proofs.Common.{◌≡◌, sym, ◌∙◌, ap, ap₂}
use Rattle.gl_hss.specs.Profile.{identifier_of}
use Rattle.gl_base.specs.Bytes.{same_bytes}
use Rattle.gl_world.specs.Keys.{member_seed}
use Rattle.gl_world.proofs.MemberKeys.{keys_differ}
use Rattle.gl_world.proofs.Numbers.{not_true}
use Rattle.gl_world.proofs.founding.have_one_key.Goals as goal

pub returns-then-ne : goal.returns-then-ne
returns-then-ne c =
    let a = member_seed c.args.settings.now c.args.other in
    let b = member_seed c.args.settings.now c.args.number in
    let one : c.identifier_of.result ≡ identifier_of a = c.identifier_of.ensures ∙ ap identifier_of c.member_seed.ensures in
    let other : c.identifier_of-2.result ≡ identifier_of b = c.identifier_of-2.ensures ∙ ap identifier_of c.member_seed-2.ensures in
    sym (keys_differ 1 a b (
    ap₂ same_bytes (sym one) (sym other)
    ∙ not_true (same_bytes c.identifier_of.result c.identifier_of-2.result) (sym c.ne.ensures ∙ c.if-ne.true)))
