use Rattle.std.proofs.Common.{ℕ, ◌+◌, ◌-◌, ◌<◌, List, ap, ◌∙◌, arith}
use Rattle.std.proofs.lemmas.Result.{on_ok_weaker}
use Rattle.gl_world.specs.Founding.{numbers_from}
use Rattle.gl_schedule.specs.Text.{with_numbers}
use Rattle.gl_schedule.proofs.TextLemmas.{some_sent}
use Rattle.gl_schedule.proofs.text.put_sent.Goals as goal

pub returns : goal.returns
returns c =
    let more : c.args.before < c.args.now = omega (arith, c.if-now-before.false) in
    on_ok_weaker c.put_numbers.result
    (λ written. written
    ∙ ap (λ (u : List ℕ). with_numbers u (numbers_from (c.args.before + 1) (c.args.now - c.args.before))) c.in_ok-extend_from_slice.ensures.items
    ∙ some_sent c.args.out.now.items c.args.before c.args.now more) c.put_numbers.ensures
