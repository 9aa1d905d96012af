use Rattle.std.proofs.Common.{◌≡◌, List, [], ◌∷◌, ◌++◌, Option, sym, ap, ◌∙◌}
use Rattle.std.proofs.lemmas.List.{append-nil}
use Rattle.gl_rules.specs.Identity.{NodeId}
use Rattle.gl_config.specs.Active.{at_seqno}
use Rattle.gl_config.specs.NodeSet.{are_distinct}
use Rattle.gl_gov_rules.specs.Nodes.{trusted}
use Rattle.gl_audit.specs.GovState.{history_of}
use Rattle.gl_ledger.specs.Recordings.{changed_set}
use Rattle.gl_store_book.specs.Lists.{last_nodes}
use Rattle.gl_store_book.proofs.Growing.{changed, lists_are, lists_differ, unchanged}
use Rattle.gl_store_book.proofs.TrustedSets.{trusted_distinct}
use Rattle.gl_store_book.proofs.configurations.push_configuration.Goals as goal

pub returns-then-eq-clause-pushed : goal.returns-then-eq-clause-pushed
returns-then-eq-clause-pushed c =
    let cs = c.args.configurations.now.items in
    let set = trusted (history_of c.args.gov.now) in
    let now : c.in_ok-nodes.nodes.items ≡ set = c.in_ok-nodes.ensures ∙ ap trusted c.history.ensures.history in
    let last : c.last_nodes.result.now ≡ last_nodes cs = c.last_nodes.ensures ∙ ap last_nodes c.deref.ensures.value in
    let same : c.last_nodes.result.now ≡ c.as_slice.result.now = lists_are c.last_nodes.result.now c.as_slice.result.now (sym c.eq.ensures ∙ c.if-eq.true) in
    let none = ap (λ (before : List NodeId). changed_set before set) (sym last ∙ same ∙ c.as_slice.ensures.value ∙ now) ∙ unchanged set in
    sym (append-nil cs) ∙ ap (λ (o : Option (List NodeId)). cs ++ at_seqno c.args.seqno o) (sym none)

pub new-requires : goal.new-requires
new-requires c =
    ap are_distinct (c.in_ok-nodes.ensures ∙ ap trusted c.history.ensures.history) ∙ trusted_distinct c.args.gov.now c.requires

pub returns-clause-pushed : goal.returns-clause-pushed
returns-clause-pushed c =
    let cs = c.args.configurations.now.items in
    let set = trusted (history_of c.args.gov.now) in
    let now : c.in_ok-nodes.nodes.items ≡ set = c.in_ok-nodes.ensures ∙ ap trusted c.history.ensures.history in
    let last : c.last_nodes.result.now ≡ last_nodes cs = c.last_nodes.ensures ∙ ap last_nodes c.deref.ensures.value in
    let other : last_nodes cs ≡ set → ⊥ = λ same. lists_differ c.last_nodes.result.now c.as_slice.result.now (sym c.eq.ensures ∙ c.if-eq.false) (last ∙ same ∙ sym now ∙ sym c.as_slice.ensures.value) in
    c.in_ok-push.ensures.items
    ∙ ap (λ (ids : List NodeId). cs ++ record { seqno = c.args.seqno; nodes = ids } ∷ []) (c.new.ensures ∙ now)
    ∙ ap (λ (o : Option (List NodeId)). cs ++ at_seqno c.args.seqno o) (sym (changed (last_nodes cs) set other))
