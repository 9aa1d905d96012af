use Rattle.std.proofs.Common.{◌≡◌, fold, map, drop}
use Rattle.gl_base.specs.Json.{member_of}
use Rattle.gl_receipt.proofs.form.push_members.Given as goal

-- from where the path has come the names that are left lead to its end
abbrev pub invariant-loop-name : goal.invariant-loop-name
invariant-loop-name l =
    fold member_of l.path (map (λ s. s.now) (drop l.name-index l.names)) ≡ fold member_of l.fn.path (map (λ s. s.now) l.names)
