use Rattle.std.proofs.Common.{refl, arith}
use Rattle.gl_world.proofs.Groups.{group_begins, group_opens, group_safe, group_never_conflicts, group_retires}
use Rattle.gl_world.proofs.laws.is_safe.Goals as goal

pub returns : goal.returns
returns c = record {
  headline = λ s h events. group_safe s h events;
  opening = λ s h. group_opens s h;
  begins = λ s h. group_begins s h;
  no_conflict = λ s h events. group_never_conflicts s h events;
  retirement = λ s h events. group_retires s h events;
  smallest = λ state seed allowed. record {
    first_state = allowed;
    first = omega arith;
    starting = omega arith;
    joiners = omega arith;
    some = omega arith;
    few = omega arith;
    distinct = refl;
    apart = refl;
  };
}
