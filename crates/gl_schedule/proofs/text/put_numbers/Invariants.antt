use Rattle.std.proofs.Common.{◌≡◌, ◌+◌, ◌-◌}
use Rattle.gl_world.specs.Founding.{numbers_from}
use Rattle.gl_schedule.specs.Text.{with_numbers}
use Rattle.gl_schedule.proofs.text.put_numbers.Given as goal

-- with the numbers that are left, what is written is the whole
abbrev pub invariant-loop-index : goal.invariant-loop-index
invariant-loop-index l =
    with_numbers l.out.items (numbers_from (l.index + 1) (l.now - l.index)) ≡ with_numbers l.fn.out.items (numbers_from (l.fn.before + 1) (l.now - l.fn.before))
