use Rattle.std.proofs.Common.{◌≡◌, ◌*◌, ◌≤◌, ◌++◌, length, drop}
use Rattle.std.specs.List.{flat_map}
use Rattle.gl_answers.specs.Encoding.{most_bytes, value_bytes, values_bytes}
use Rattle.gl_answers.proofs.encoding.values_bytes.Given as goal

-- with the values that are left, what is written is the whole
abbrev pub invariant-loop-value : goal.invariant-loop-value
invariant-loop-value l = record {
  written : l.out.items ++ flat_map value_bytes (drop l.value-index l.values) ≡ values_bytes l.values;
  within : length l.out.items ≤ l.value-index * most_bytes;
}
