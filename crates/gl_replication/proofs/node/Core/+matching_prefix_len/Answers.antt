use Rattle.std.proofs.Common.{◌≡◌, List, [], ◌∷◌, length, take, drop, refl, sym, arith}
use Rattle.gl_entry.specs.declared.entry.Entry.{Entry}
use Rattle.gl_replication.proofs.Prefixes.{match_zero}
use Rattle.gl_replication.proofs.node.Core.+matching_prefix_len.Goals as goal

none_by_length : (es : List Entry) → length es ≡ 0 → es ≡ []
none_by_length [] none = refl
none_by_length (e ∷ es) none = absurd (omega (arith, none))

pub returns-in-None-clause-value : goal.returns-in-None-clause-value
returns-in-None-clause-value g t c = λ b x n standing within.
    sym (match_zero b (drop c.args.prev (take c.args.len n.log)) c.args.entries.now (none_by_length _ c.in-None.ensures.cases))
