use Rattle.std.proofs.Common.{◌++◌, List, ℕ, codes, decimal, ap, sym, ◌∙◌}
use Rattle.gl_schedule.proofs.PlayLemmas.{goes_on_with, line_is}
use Rattle.gl_schedule.proofs.player.line_text.Goals as goal

pub returns-clause-text : goal.returns-clause-text
returns-clause-text g c = λ t is_in next.
    line_is t c.args.line c.args.machine.now c.play.new.self c.args.number c.extend_from_slice.new.self.items c.play.new.out.items next
    (c.in_ok-extend_from_slice.ensures.items ∙ ap (λ (l : List ℕ). l ++ codes " ") (c.in_ok-put_number.ensures ∙ ap (λ (l : List ℕ). l ++ decimal c.args.number) c.new-text.ensures.items))
    (c.in_ok-play.ensures.prints t is_in next)
    ∙ ap (λ (l : List ℕ). t.text ++ l) (sym c.in_ok-extend_from_slice-2.ensures.items)

pub returns-clause-goes_on : goal.returns-clause-goes_on
returns-clause-goes_on g c = λ t is_in next. goes_on_with t c.args.line c.args.machine.now c.play.new.self _ _ (c.in_ok-play.ensures.prints t is_in next)
