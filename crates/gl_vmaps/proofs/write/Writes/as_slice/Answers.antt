use Rattle.std.proofs.Common.{◌≡◌, true, subst}
use Rattle.std.specs.List.{list_all, AllByRecursion}
use Rattle.std.proofs.lemmas.Bool.{and_parts}
use Rattle.gl_vmaps.specs.Writes.{is_ordered, is_write}
use Rattle.gl_vmaps.proofs.WriteLaws.{all_writes}
use Rattle.gl_vmaps.proofs.write.Writes.as_slice.Goals as goal

pub returns-clause-limits : goal.returns-clause-limits
returns-clause-limits c =
    let ws = c.self.inside.items.items in
    let both = and_parts (is_ordered ws) (list_all is_write ws) c.self.invariant in
    subst (λ l. AllByRecursion (λ w. is_write w ≡ true) l) c.self.view_is (all_writes ws both.1)
