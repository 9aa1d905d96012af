use Rattle.std.proofs.Common.{◌≡◌, ◌≤◌, [], ◌∷◌, ◌++◌, is_some, ap, sym, ◌∙◌, subst}
use Rattle.gl_vmaps.specs.Chains.{chains_by, chain_of, newest_place}
use Rattle.gl_vmaps.specs.Kept.{Chains, last_value}
use Rattle.gl_vmaps.proofs.ChainLaws.{counted-with, last_value-pushed, some-count, newest-pushed}
use Rattle.gl_vmaps.proofs.table.Table.push.Goals as goal

pub recount-self-inside-requires-clause-some : goal.recount-self-inside-requires-clause-some
recount-self-inside-requires-clause-some c = λ is.
    let had : c.in_ok-had.had ≡ is_some (last_value (chain_of c.args.self.now c.args.key.now)) =
    c.in_ok-had.ensures.had ∙ ap (λ (t : Chains). is_some (last_value (chain_of t c.args.key.now))) c.self.view_is in
    some-count c.args.self.now c.args.key.now c.size-count.result c.in_ok-had.had c.size-count.ensures.value had is

pub invariant_of-self-2 : goal.invariant_of-self-2
invariant_of-self-2 c =
    let C = chains_by c.self.inside.rows.entries in
    let had : c.in_ok-had.had ≡ is_some (last_value (chain_of c.args.self.now c.args.key.now)) =
    c.in_ok-had.ensures.had ∙ ap (λ (t : Chains). is_some (last_value (chain_of t c.args.key.now))) c.self.view_is in
    let vs = chain_of C c.args.key.now ++ c.args.version ∷ [] in
    let has : c.is_some-has.result ≡ is_some (last_value vs) =
    c.is_some-has.ensures ∙ ap is_some (sym (last_value-pushed (chain_of C c.args.key.now) c.args.version)) in
    let le : newest_place C ≤ c.args.version.place = subst (λ (t : Chains). newest_place t ≤ c.args.version.place) (sym c.self.view_is) c.requires in
    record {
      counted = counted-with C c.args.self.now (chains_by c.push_into.new.rows.entries) c.args.key.now vs c.size-count.result c.recount-self-inside.result c.in_ok-had.had c.is_some-has.result
          c.self.view_is c.in_ok-had.ensures.ok c.size-count.ensures.value had has c.recount-self-inside.ensures;
      topped = sym (ap newest_place c.in_ok-had.ensures.ok ∙ newest-pushed C c.args.key.now c.args.version le);
    }
