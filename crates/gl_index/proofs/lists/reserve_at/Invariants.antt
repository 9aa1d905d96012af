use Rattle.std.proofs.Common.{◌≡◌, ℕ, ◌+◌, ◌-◌, ◌<◌, ◌≤◌}
use Rattle.std.specs.Prelude.{vec_len}
use Rattle.gl_index.specs.Lists.{lists_of, list_at}
use Rattle.gl_index.proofs.lists.reserve_at.Given as goal

-- what is added is empty
abbrev pub invariant-loop-alloc : goal.invariant-loop-alloc
invariant-loop-alloc g l = record {
  same : (n : ℕ) → list_at (lists_of l.lists.items) n ≡ list_at (lists_of l.initial.lists.items) n;
  len : (n : ℕ) → vec_len l.initial.lists ≤ n → l.number < n → vec_len l.lists ≤ n;
}

abbrev pub decreases-loop-alloc : goal.decreases-loop-alloc
decreases-loop-alloc g l = l.number + 1 - vec_len l.lists
