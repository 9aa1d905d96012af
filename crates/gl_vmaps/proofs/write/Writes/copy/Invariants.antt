use Rattle.std.proofs.Common.{◌≡◌, take}
use Rattle.gl_vmaps.proofs.write.Writes.copy.Given as goal

abbrev pub invariant-loop-write : goal.invariant-loop-write
invariant-loop-write l = l.items.items ≡ take l.write-index l.write-items
