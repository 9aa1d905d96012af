use Rattle.std.proofs.Common.{None, ap, sym, ◌∙◌, [], Option, unwrap_or, List}
use Rattle.std.specs.Cmp.Lexicographic.{slice_cmp}
use Rattle.std.specs.FinMap.{get-empty}
use Rattle.std.specs.List.{last_or}
use Rattle.std.specs.Ordering.{nat_cmp}
use Rattle.gl_vmaps.specs.Chains.{chain_of}
use Rattle.gl_vmaps.specs.Kept.{Chains}
use Rattle.gl_vmaps.specs.declared.table.Version.{Version}
use Rattle.gl_vmaps.proofs.MapLaws.{rows_in-by, rows_of}
use Rattle.gl_vmaps.proofs.tables.last_version.Goals as goal

pub returns-in-None : goal.returns-in-None
returns-in-None c =
    ap (λ (o : Option (List Version)). last_or None (unwrap_or o [])) (sym (get-empty (slice_cmp nat_cmp) c.args.key.now))
    ∙ ap (λ o. last_or None (chain_of (rows_of o) c.args.key.now)) c.in-None.ensures.value
    ∙ ap (λ (t : Chains). last_or None (chain_of t c.args.key.now)) (sym (rows_in-by c.args.maps.now.entries c.args.map.now))

pub returns-in-Some : goal.returns-in-Some
returns-in-Some c =
    c.last.ensures
    ∙ ap (λ o. last_or None (chain_of (rows_of o) c.args.key.now)) c.in-Some.ensures.value
    ∙ ap (λ (t : Chains). last_or None (chain_of t c.args.key.now)) (sym (rows_in-by c.args.maps.now.entries c.args.map.now))
