use Rattle.std.proofs.Common.{sym, ap, ◌∙◌}
use Rattle.gl_hss.specs.Lent.{key_of, signature_of}
use Rattle.gl_hss.specs.Order.{top_key}
use Rattle.gl_hss.proofs.Endorsements.{endorsed_root}
use Rattle.gl_hss.proofs.verdict.upper_level.Goals as goal

pub returns : goal.returns
returns c =
    let e = c.in-Some.endorsed.now in
    let same = c.if-stands_in.ensures in
    sym
    (endorsed_root e.identity e.key e.signature c.args.signature.now (key_of c.args.top.now) (signature_of c.args.upper.now) c.args.at
    same.valid (ap top_key (sym same.identity) ∙ c.requires.top) c.requires.fields c.requires.place same.signature same.key)
