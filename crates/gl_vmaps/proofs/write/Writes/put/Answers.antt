use Rattle.std.proofs.Common.{sym, ◌∙◌}
use Rattle.gl_vmaps.proofs.WriteLaws.{within-put}
use Rattle.gl_vmaps.proofs.write.Writes.put.Goals as goal

pub invariant_of-self : goal.invariant_of-self
invariant_of-self c =
    within-put c.put_into.result c.self.inside.items.items c.put_into.new.items.items c.args.write c.put_into.ensures.ok c.put_into.ensures.err
    c.self.invariant (sym c.is_within.ensures.value ∙ c.is_within.ensures.always)
