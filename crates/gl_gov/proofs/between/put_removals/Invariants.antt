use Rattle.std.proofs.Common.{◌≡◌, drop, filter, map}
use Rattle.gl_vmaps.specs.Changes.{is_gone, removal_of, set_from}
use Rattle.gl_gov.proofs.between.put_removals.Given as goal

-- what is put and what is left to put make the whole
abbrev pub invariant-loop-write : goal.invariant-loop-write
invariant-loop-write l =
    set_from l.writes (map removal_of (filter (is_gone l.after) (drop l.write-index l.before))) ≡ set_from l.fn.writes (map removal_of (filter (is_gone l.after) l.before))
