use Rattle.std.proofs.Common.{◌≡◌, []}
use Rattle.gl_gov_rows.specs.Reading.{by_number}
use Rattle.gl_gov_rows.proofs.numbered.no_places.Given as goal

-- so many places so far
abbrev pub invariant-loop : goal.invariant-loop
invariant-loop l = l.places.items ≡ by_number [] l.counter
