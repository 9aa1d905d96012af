use Rattle.std.proofs.Common.{List, [], ◌∷◌, ◌++◌, ap, ◌∙◌}
use Rattle.gl_schedule.specs.declared.line_request.LineRequest.{LineRequest}
use Rattle.gl_schedule.specs.Playing.{Playing}
use Rattle.gl_schedule.proofs.RequestLemmas.{sends_from}
use Rattle.gl_schedule.proofs.machine.Machine.send.Goals as goal

pub returns : goal.returns
returns g c =
    sends_from c.args.self.now c.govern.new.self _ c.args.number c.args.node c.args.request c.push.new.self.items c.args.out.now.items c.govern.new.out.items c.put_sent.new.out.items
    c.sent-before.result c.sent.result c.in_ok-govern.ensures c.sent-before.ensures c.sent.ensures c.in_ok-put_sent.ensures
    (c.in_ok-push.ensures.items ∙ ap (λ (l : List LineRequest). l ++ record { line = c.args.number; request = c.args.request } ∷ []) (ap (λ (p : Playing). p.requests) c.self.view_is))
    (ap (λ (p : Playing). record p { requests = c.push.new.self.items }) c.self.view_is)
