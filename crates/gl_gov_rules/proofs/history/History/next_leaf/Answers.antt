use Rattle.std.proofs.Common.{◌≡◌, ◌∙◌, sym, ap, subst, ℕ, ◌≤◌}
use Rattle.gl_vmaps.specs.LastWrite.{last_such}
use Rattle.gl_gov_rules.specs.declared.change.Recorded.{Recorded}
use Rattle.gl_gov_rules.specs.Members.{is_by, leaf_after_last, next_leaf}
use Rattle.gl_gov_rules.specs.Index.{signed, last_leaf}
use Rattle.gl_gov_rules.proofs.HistoryIndex.{next_of_last, leaf_small}
use Rattle.gl_gov_rules.proofs.history.History.next_leaf.Goals as goal

pub returns-clause-leaf : goal.returns-clause-leaf
unfolding next_leaf signed
returns-clause-leaf c =
    let h = c.args.self.now in
    c.last_leaf.ensures ∙ ap (last_leaf c.leaf_carried.result) c.signed.ensures.reported ∙ sym (next_of_last c.leaf_carried.result c.args.number h.requests)
    ∙ ap (λ (k : ℕ). leaf_after_last k (last_such (λ (r : Recorded). is_by c.args.number r.request) h.requests)) c.leaf_carried.ensures

pub returns-clause-range : goal.returns-clause-range
unfolding next_leaf signed
returns-clause-range c = λ small.
    let h = c.args.self.now in
    let same : c.last_leaf.result ≡ next_leaf h c.args.number = c.last_leaf.ensures ∙ ap (last_leaf c.leaf_carried.result) c.signed.ensures.reported ∙ sym (next_of_last c.leaf_carried.result c.args.number h.requests)
    ∙ ap (λ (k : ℕ). leaf_after_last k (last_such (λ (r : Recorded). is_by c.args.number r.request) h.requests)) c.leaf_carried.ensures in
    subst (λ (n : ℕ). n ≤ 1024) (sym same) (leaf_small h c.args.number small c.signed.ensures.leaves)
