use Rattle.std.proofs.Common.{◌≡◌, true, false, nat_le, length, sym, ◌∙◌, arith}
use Rattle.std.proofs.lemmas.Bool.Decides.{nat_tests}
use Rattle.gl_forms.proofs.ListLemmas.{has_so_many-view}
use Rattle.gl_forms.proofs.value.has_so_many.Goals as goal

pub returns-then-low-elements : goal.returns-then-low-elements
returns-then-low-elements c =
    let low : nat_le c.args.low (length c.args.elements.now) ≡ true = grind (arith, nat_tests) in
    sym (has_so_many-view c.args.low c.args.high c.args.elements.now true low)

pub returns-else-low-elements : goal.returns-else-low-elements
returns-else-low-elements c =
    let low : nat_le c.args.low (length c.args.elements.now) ≡ false = grind (arith, nat_tests) in
    low ∙ sym (has_so_many-view c.args.low c.args.high c.args.elements.now false low)
