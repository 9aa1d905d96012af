use Rattle.std.proofs.Common.{ap, sym, ◌∙◌}
use Rattle.std.specs.Option.{option_and_then}
use Rattle.gl_vmaps.specs.Chains.{chains_by, chain_of, with_chain, trimmed, present, newest_place}
use Rattle.gl_vmaps.specs.Kept.{place_or_zero}
use Rattle.gl_vmaps.specs.declared.table.Version.{Version}
use Rattle.gl_vmaps.proofs.ChainLaws.{trimmed-alike, present-alike, newest-alike}
use Rattle.gl_vmaps.proofs.table.Table.trim.Goals as goal

pub invariant_of-self : goal.invariant_of-self
invariant_of-self c =
    let C = chains_by c.self.inside.rows.entries in
    let key = c.args.key.now in
    let N = with_chain C key (trimmed c.args.place (chain_of C key)) in
    record {
      counted = c.self.invariant.counted
          ∙ sym (present-alike N C (λ other. ap (λ o. option_and_then (λ (v : Version). v.value) o) (trimmed-alike c.args.place C key other)))
          ∙ ap present (sym c.trim_in.ensures);
      topped = c.self.invariant.topped
          ∙ sym (newest-alike N C (λ other. ap place_or_zero (trimmed-alike c.args.place C key other)))
          ∙ ap newest_place (sym c.trim_in.ensures);
    }
