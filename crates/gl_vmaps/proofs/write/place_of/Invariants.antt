use Rattle.std.proofs.Common.{◌≡◌, ◌++◌, take, drop}
use Rattle.gl_vmaps.specs.Writes.{with_write}
use Rattle.gl_vmaps.proofs.write.place_of.Given as goal

-- the write belongs after those that were passed
abbrev pub invariant-loop-place : goal.invariant-loop-place
invariant-loop-place l = with_write l.items l.write ≡ take l.place l.items ++ with_write (drop l.place l.items) l.write
