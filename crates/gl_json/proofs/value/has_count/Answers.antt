use Rattle.std.proofs.Common.{ℕ, ◌==◌, sym, ap, ◌∙◌}
use Rattle.gl_json.specs.Form.{has_count}
use Rattle.gl_json.proofs.ObjectLemmas.{members_len-view}
use Rattle.gl_json.proofs.value.has_count.Goals as goal

pub returns-in-Some : goal.returns-in-Some
returns-in-Some c =
    ap (λ (n : ℕ). n == c.args.count) (c.len.ensures.len ∙ sym (members_len-view c.in-Some.members.now.entries))
    ∙ ap (has_count c.args.count) c.in-Some.ensures
