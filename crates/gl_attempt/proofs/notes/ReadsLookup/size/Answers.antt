-- A number of keys is noted below 2^63.
use Rattle.std.proofs.Common.{ap, sym, ◌∙◌, Option, Bor}
use Rattle.std.specs.Option.{option_copied}
use Rattle.gl_attempt.specs.Asks.{is_of_map}
use Rattle.gl_attempt.specs.declared.notes.Note.{Note}
use Rattle.gl_attempt.proofs.NotedSizes.{size-noted}
use Rattle.gl_attempt.proofs.notes.ReadsLookup.size.Goals as goal

pub returns-in-Some-Map-clause-few : goal.returns-in-Some-Map-clause-few
returns-in-Some-Map-clause-few c =
    size-noted (is_of_map c.args.map.now) c.args.self.now c.in-Some-Map.field-0.now c.in-Some-Map.field-0-0 c.in-Some-Map.size c.as_slice-notes.ensures.limits
    (ap (λ (o : Option (Bor Note)). option_copied o) (sym c.in-Some-Map.is) ∙ c.of_map.ensures) c.in-Some-Map.field-0-is
