use Rattle.std.proofs.Common.{◌≡◌, []}
use Rattle.gl_vmaps.specs.Chains.{maps_by}
use Rattle.gl_vmaps.proofs.CopyLaws.{maps_with}
use Rattle.gl_vmaps.proofs.journal.copy_maps.Given as goal

abbrev pub invariant-loop-map : goal.invariant-loop-map
invariant-loop-map l = maps_with (maps_by l.copy.entries) l.map-iterator ≡ maps_with (maps_by []) l.maps.entries
