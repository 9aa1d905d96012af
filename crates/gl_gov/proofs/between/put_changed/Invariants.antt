use Rattle.std.proofs.Common.{◌≡◌, drop, filter}
use Rattle.gl_vmaps.specs.Changes.{is_changed, set_from}
use Rattle.gl_gov.proofs.between.put_changed.Given as goal

-- what is put and what is left to put make the whole
abbrev pub invariant-loop-write : goal.invariant-loop-write
invariant-loop-write l = set_from l.writes (filter (is_changed l.before) (drop l.write-index l.after)) ≡ set_from l.fn.writes (filter (is_changed l.before) l.after)
