use Rattle.std.proofs.Common.{◌≡◌, ◌+◌, ◌<◌, Ok, Err, length, rules, arith, sym, ap, ◌∙◌}
use Rattle.gl_recovery.specs.SettingsPrefix.{settings_len}
use Rattle.gl_recovery.specs.declared.recovering_fault.RecoveringFault.TheVariants.{Short}
use Rattle.gl_recovery.proofs.SourcePrefixes.{handed_on, head_fault, takes_settings, text_fault}
use Rattle.gl_recovery.proofs.settings_prefix.read_settings.Goals as goal

pub returns-in_err-len-clause-refused : goal.returns-in_err-len-clause-refused
returns-in_err-len-clause-refused g c fault is outside =
    let met = handed_on c.from_residual-in_err-len.result c.in_err-len.field-0.0 fault c.from_residual-in_err-len.ensures.0 c.from_residual-in_err-len.ensures.1 is in
    let read : settings_len c.in_ok-head.head.items ≡ Err fault = ap settings_len (sym c.deref.ensures.value) ∙ sym c.settings_len.ensures ∙ c.in_err-len.was ∙ ap Err met in
    head_fault _ _ c.in_ok-head.head.items fault c.in_ok-head.ensures.taken c.in_ok-head.ensures.within (λ short. (c.in_ok-head.ensures.short short).0) read

pub returns-then-len-clause-refused : goal.returns-then-len-clause-refused
returns-then-len-clause-refused g c fault is outside =
    let read : settings_len c.in_ok-head.head.items ≡ Ok c.in_ok-len.len = ap settings_len (sym c.deref.ensures.value) ∙ sym c.settings_len.ensures ∙ c.in_ok-len.was in
    let short : length c.in_ok-text.text.items < c.in_ok-len.len = (let len : c.len.result ≡ length c.in_ok-text.text.items = search rules in let less = c.if-len.true in omega (arith, len, less)) in
    let here : c.len-then-len.result + c.len-then-len-2.result ≡ length c.in_ok-head.head.items + length c.in_ok-text.text.items = search rules in
    let reported : Short (c.len-then-len.result + c.len-then-len-2.result) ≡ fault = cc in
    text_fault _ _ _ c.in_ok-head.head.items c.in_ok-text.text.items c.in_ok-len.len (c.len-then-len.result + c.len-then-len-2.result) fault c.in_ok-head.ensures.taken c.in_ok-text.ensures.taken c.in_ok-head.ensures.within read
    short (c.in_ok-text.ensures.short short).0 here reported

pub returns-clause-read : goal.returns-clause-read
returns-clause-read g c =
    let read : settings_len c.in_ok-head.head.items ≡ Ok c.in_ok-len.len = ap settings_len (sym c.deref.ensures.value) ∙ sym c.settings_len.ensures ∙ c.in_ok-len.was in
    let whole : length c.in_ok-text.text.items ≡ c.in_ok-len.len = (let len : c.len.result ≡ length c.in_ok-text.text.items = search rules in let more = c.if-len.false in let most = c.in_ok-text.ensures.within in omega (arith, len, more, most)) in
    takes_settings _ _ _ c.in_ok-head.head.items c.in_ok-text.text.items c.in_ok-len.len c.in_ok-head.ensures.taken c.in_ok-text.ensures.taken c.in_ok-head.ensures.within read whole
