use Rattle.std.proofs.Common.{◌∙◌, length, sym, ap, arith}
use Rattle.std.proofs.lemmas.List.Quantifiers.{position-Some}
use Rattle.gl_base.specs.Cut.{Unread, is_no_text}
use Rattle.gl_base.proofs.Numbers.{string_at_fits}
use Rattle.gl_base.proofs.cut.Cut.name.Goals as goal

pub overflow_add-result : goal.overflow_add-result
overflow_add-result c =
    let fits = string_at_fits 1 c.args.limit c.copy-ahead.result c.string.new.self c.in_ok-name.name.now c.in_ok-name.ensures.exact in
    let same = ap (λ (u : Unread). length u.bytes) (c.copy-ahead.ensures ∙ sym c.self.view_is) in
    omega (arith, c.self.invariant, fits, same)

pub overflow_add-result-in-Some : goal.overflow_add-result-in-Some
overflow_add-result-in-Some c =
    let fits = string_at_fits 1 c.args.limit c.copy-ahead.result c.string.new.self c.in_ok-name.name.now c.in_ok-name.ensures.exact in
    let same = ap (λ (u : Unread). length u.bytes) (c.copy-ahead.ensures ∙ sym c.self.view_is) in
    let within = position-Some is_no_text c.in_ok-name.name.now c.in-Some.index 0 (sym c.in-Some.ensures) in
    omega (arith, c.self.invariant, fits, same, within.0)
