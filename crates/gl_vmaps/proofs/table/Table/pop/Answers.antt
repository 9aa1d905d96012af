use Rattle.std.proofs.Common.{◌≡◌, ◌-◌, Bool, is_some, take, length, if◌then◌else◌, ap, sym, ◌∙◌}
use Rattle.std.specs.Option.{option_and_then}
use Rattle.gl_vmaps.specs.Chains.{chains_by, chain_of, with_chain, newest_place}
use Rattle.gl_vmaps.specs.Kept.{Chains, last_value}
use Rattle.gl_vmaps.specs.declared.table.Version.{Version}
use Rattle.gl_vmaps.proofs.TablesLaws.{same_bytes-itself}
use Rattle.gl_vmaps.proofs.ChainLaws.{counted-with, some-count, chain_of-with}
use Rattle.gl_vmaps.proofs.table.Table.pop.Goals as goal

pub recount-self-inside-requires-clause-some : goal.recount-self-inside-requires-clause-some
recount-self-inside-requires-clause-some c = λ is.
    let had : c.has_value-had.result ≡ is_some (last_value (chain_of c.args.self.now c.args.key.now)) =
    c.has_value-had.ensures ∙ ap (λ o. is_some (option_and_then (λ (v : Version). v.value) o)) c.last.ensures in
    some-count c.args.self.now c.args.key.now c.size-count.result c.has_value-had.result c.size-count.ensures.value had is

pub invariant_of-self : goal.invariant_of-self
invariant_of-self c =
    let C = chains_by c.self.inside.rows.entries in
    let N = chains_by c.pop_from.new.rows.entries in
    let key = c.args.key.now in
    let had : c.has_value-had.result ≡ is_some (last_value (chain_of c.args.self.now key)) =
    c.has_value-had.ensures ∙ ap (λ o. is_some (option_and_then (λ (v : Version). v.value) o)) c.last.ensures in
    let vs = take (length (chain_of C key) - 1) (chain_of C key) in
    let left : chain_of N key ≡ vs =
    ap (λ (t : Chains). chain_of t key) c.pop_from.ensures
    ∙ chain_of-with C key vs key ∙ ap (λ (b : Bool). if b then vs else chain_of C key) (same_bytes-itself key) in
    let has : c.has_value-left.result ≡ is_some (last_value vs) =
    c.has_value-left.ensures ∙ ap (λ o. is_some (option_and_then (λ (v : Version). v.value) o)) c.last_of.ensures ∙ ap (λ ws. is_some (last_value ws)) left in
    record {
      counted = counted-with C c.args.self.now N key vs c.size-count.result c.recount-self-inside.result c.has_value-had.result c.has_value-left.result
          c.self.view_is c.pop_from.ensures c.size-count.ensures.value had has c.recount-self-inside.ensures;
      topped = c.requires
          ∙ ap (λ (t : Chains). newest_place (with_chain t key (take (length (chain_of t key) - 1) (chain_of t key)))) (sym c.self.view_is)
          ∙ ap newest_place (sym c.pop_from.ensures);
    }
