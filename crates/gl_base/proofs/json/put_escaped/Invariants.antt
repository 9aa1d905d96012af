use Rattle.std.proofs.Common.{◌≡◌, ◌++◌, length, take, drop}
use Rattle.gl_base.specs.Json.{escaped}
use Rattle.gl_base.proofs.json.put_escaped.Given as goal

-- what is written and what is left to write make the whole, after what was there
abbrev pub invariant-loop-byte : goal.invariant-loop-byte
invariant-loop-byte l = record {
  written : l.out.items ++ escaped (drop l.byte-index l.name) ≡ l.fn.out.items ++ escaped l.name;
  prefix : take (length l.fn.out.items) l.out.items ≡ l.fn.out.items;
}
