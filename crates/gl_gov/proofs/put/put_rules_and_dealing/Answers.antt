use Rattle.std.proofs.Common.{List, ◌++◌, sym, ◌∙◌, ap}
use Rattle.gl_vmaps.specs.declared.write.Write.{Write}
use Rattle.gl_vmaps.specs.Changes.{set_from}
use Rattle.gl_vmaps.proofs.WriteSets.{set_from-append}
use Rattle.gl_gov_rules.specs.Service.{constitution, dealing}
use Rattle.gl_gov_rules.specs.Rows.{rule_writes_of, write_of, dealing_write}
use Rattle.gl_gov.proofs.Selected.{rules_and_dealing, all_alike_put, none_alike_put}
use Rattle.gl_gov.proofs.put.put_rules_and_dealing.Goals as goal

pub returns-then-not-has_settings : goal.returns-then-not-has_settings
returns-then-not-has_settings c =
    none_alike_put c.args.selection.now c.args.writes.now (rule_writes_of (constitution c.args.past.now) ++ write_of dealing_write (dealing c.args.past.now))
    (rules_and_dealing c.args.selection.now c.args.past.now) (sym c.has_settings.ensures ∙ c.if-not-has_settings.true)

pub returns : goal.returns
returns c =
    c.in_ok-put_dealing.ensures ∙ ap (λ (ws : List Write). set_from ws (write_of dealing_write (dealing c.args.past.now))) c.in_ok-put_constitution.ensures
    ∙ sym (set_from-append c.args.writes.now (rule_writes_of (constitution c.args.past.now)) (write_of dealing_write (dealing c.args.past.now)))
    ∙ all_alike_put c.args.selection.now c.args.writes.now (rule_writes_of (constitution c.args.past.now) ++ write_of dealing_write (dealing c.args.past.now))
    (rules_and_dealing c.args.selection.now c.args.past.now) (sym c.has_settings.ensures ∙ c.if-not-has_settings.false)
