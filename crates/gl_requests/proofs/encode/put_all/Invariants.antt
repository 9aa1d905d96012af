use Rattle.std.proofs.Common.{◌≡◌, ◌++◌, drop, true}
use Rattle.std.specs.List.{flat_map, list_all}
use Rattle.gl_requests.proofs.encode.put_all.Given as goal

-- what is written and what is left to write make the whole
abbrev pub invariant-loop-part : goal.invariant-loop-part
invariant-loop-part g l = record {
  written : l.out.items ++ flat_map g.T.Encode.bytes (drop l.part-index l.parts) ≡ l.fn.out.items ++ flat_map g.T.Encode.bytes l.parts;
  rest : list_all g.T.Encode.fits (drop l.part-index l.parts) ≡ true;
}
