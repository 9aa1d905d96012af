-- One more write keeps the order.
use Rattle.std.proofs.Common.{◌≤◌, List, length, arith, IsTrue}
use Rattle.gl_vmaps.specs.Writes.{is_ordered, with_write}
use Rattle.gl_vmaps.specs.declared.write.Write.{Write}
use Rattle.gl_vmaps.proofs.WriteLaws.{is_ordered-with_write}
use Rattle.gl_tx.proofs.Writing.{after_put, length-with_write, length-put}
use Rattle.gl_tx.proofs.overlay.Overlay.put.Goals as goal

pub invariant_of-self : goal.invariant_of-self
invariant_of-self g c =
    let old = c.args.self.now.writes in
    let longer = length-with_write old c.args.write in
    let fits : length (with_write old c.args.write) ≤ 64 = omega arith in
    record {
      ordered = after_put (λ (ws : List Write). IsTrue (is_ordered ws)) c.put.result old (with_write old c.args.write) c.put.new.self c.put.ensures.ok c.put.ensures.err
          c.args.self.now.ordered (is_ordered-with_write old c.args.write c.args.self.now.ordered);
      few = after_put (λ (ws : List Write). length ws ≤ 64) c.put.result old (with_write old c.args.write) c.put.new.self c.put.ensures.ok c.put.ensures.err
          c.args.self.now.few fits;
    }

pub returns-clause-longer : goal.returns-clause-longer
returns-clause-longer g c = length-put c.put.result c.args.self.now.writes c.put.new.self c.args.write c.put.ensures.ok
