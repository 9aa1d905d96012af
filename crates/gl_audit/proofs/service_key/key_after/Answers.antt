use Rattle.std.proofs.Common.{◌≡◌, ℕ, ◌+◌, List, [], ◌∷◌, ◌++◌, Option, take, sym, ap, ◌∙◌}
use Rattle.std.specs.Option.{option_copied}
use Rattle.std.proofs.lemmas.List.{take_more}
use Rattle.gl_vmaps.proofs.TablesLaws.{value_in-nothing}
use Rattle.gl_entry.specs.declared.entry.Entry.{Entry}
use Rattle.gl_gov_rules.specs.Rows.{service_key, service_map}
use Rattle.gl_ledger.specs.ServiceRow.{identity_in, identity_of_value}
use Rattle.gl_ledger.specs.Tree.{tables_of}
use Rattle.gl_audit.specs.Kept.{key_of}
use Rattle.gl_audit.proofs.InForce.{key_kept, key_written}
use Rattle.gl_audit.proofs.service_key.key_after.Goals as goal
use Rattle.gl_audit.proofs.service_key.key_after.Goals.{in-Some, in_default}

pub loop-entry-init : goal.loop-entry-init
loop-entry-init c = ap (λ (v : Option (List ℕ)). key_of (identity_of_value v)) (sym (value_in-nothing service_map service_key))

pub loop-entry-preserved : goal.loop-entry-preserved
loop-entry-preserved c =
    let es = c.args.entries.now in
    let i = c.loop-entry.entry-index in
    let e = c.entry-item.result in
    let more : take (i + 1) es ≡ take i es ++ e ∷ [] = take_more es i e c.loop-entry-test.true ∙ ap (λ (x : Entry). take i es ++ x ∷ []) (sym c.entry-item.is) in
    let after : key_of (identity_in (tables_of (take (i + 1) es))) ≡ key_of (identity_in (tables_of (take i es ++ e ∷ []))) = ap (λ (l : List Entry). key_of (identity_in (tables_of l))) more in
    elim c.match-service_write.branch [
      | in-Some w ↦
          w.key-is ∙ w.written_key-key.ensures
          ∙ sym (after ∙ ap key_of (key_written (take i es) e w.in-Some.write.now (sym c.service_write.ensures ∙ ap option_copied w.in-Some.is)))
      | in_default w ↦
          w.key-is ∙ c.loop-entry.invariant ∙ sym (after ∙ ap key_of (key_kept (take i es) e (sym c.service_write.ensures ∙ ap option_copied w.in_default.is)))
    ]
