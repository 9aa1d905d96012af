use Rattle.std.proofs.Common.{List, ◌++◌, map, sym, ◌∙◌, ap₂}
use Rattle.gl_vmaps.specs.declared.write.Write.{Write}
use Rattle.gl_vmaps.specs.Changes.{set_from}
use Rattle.gl_vmaps.proofs.WriteSets.{set_from-append}
use Rattle.gl_shares.specs.declared.share.Share.{Share}
use Rattle.gl_gov_rules.specs.Service.{shares_given}
use Rattle.gl_gov_rules.specs.Rows.{write_of, service_row, service_write, share_write}
use Rattle.gl_gov.proofs.Selected.{service_and_shares, all_alike_put, none_alike_put}
use Rattle.gl_gov.proofs.put.put_service_and_shares.Goals as goal

pub returns-then-not-has_settings : goal.returns-then-not-has_settings
returns-then-not-has_settings c =
    none_alike_put c.args.selection.now c.args.writes.now (write_of service_write (service_row c.args.past.now) ++ map share_write (shares_given c.args.past.now))
    (service_and_shares c.args.selection.now c.args.past.now) (sym c.has_settings.ensures ∙ c.if-not-has_settings.true)

pub returns : goal.returns
returns c =
    c.in_ok-put_shares.ensures
    ∙ ap₂ (λ (ws : List Write) (ss : List Share). set_from ws (map share_write ss)) c.in_ok-put_service.ensures (c.deref.ensures.value ∙ c.in_ok-shares_given.ensures)
    ∙ sym (set_from-append c.args.writes.now (write_of service_write (service_row c.args.past.now)) (map share_write (shares_given c.args.past.now)))
    ∙ all_alike_put c.args.selection.now c.args.writes.now (write_of service_write (service_row c.args.past.now) ++ map share_write (shares_given c.args.past.now))
    (service_and_shares c.args.selection.now c.args.past.now) (sym c.has_settings.ensures ∙ c.if-not-has_settings.false)
