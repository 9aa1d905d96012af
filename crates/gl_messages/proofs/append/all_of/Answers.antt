use Rattle.std.proofs.Common.{◌≡◌, length, sym, ap, ◌∙◌, arith}
use Rattle.gl_base.specs.Cut.{Unread}
use Rattle.gl_messages.proofs.Appending.{all_read}
use Rattle.gl_messages.proofs.append.all_of.Goals as goal

pub overflow_sub-result : goal.overflow_sub-result
overflow_sub-result c =
    let counted : length c.rest-rest.result.now ≡ length c.copy-end.result.bytes = ap length c.rest-rest.ensures ∙ ap (λ (u : Unread). length u.bytes) (sym c.copy-end.ensures) in
    let all = all_read (λ s. s.now) c.copy-end.result c.bytes-all.new.self (length c.rest-rest.result.now) c.bytes-all.result counted c.bytes-all.ensures.exact in
    omega (arith, all, c.at.ensures)

pub returns-clause-place : goal.returns-clause-place
returns-clause-place c =
    let counted : length c.rest-rest.result.now ≡ length c.copy-end.result.bytes = ap length c.rest-rest.ensures ∙ ap (λ (u : Unread). length u.bytes) (sym c.copy-end.ensures) in
    let all = all_read (λ s. s.now) c.copy-end.result c.bytes-all.new.self (length c.rest-rest.result.now) c.bytes-all.result counted c.bytes-all.ensures.exact in
    omega (arith, all, c.at.ensures, ap (λ (u : Unread). u.at) c.copy-end.ensures)
