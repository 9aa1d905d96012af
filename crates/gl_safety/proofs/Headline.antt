-- The laws of a run, from its invariants.
use Rattle.std.proofs.Common.{List}
use Rattle.gl_rules.specs.Book.{Book}
use Rattle.gl_rules.specs.World.{Start, Event}
use Rattle.gl_rules.specs.Safety.{IsOpening, IsLawful, EachFollows, IsSafe}
use Rattle.gl_safety.proofs.Prefixes.{prefix, ledger}
use Rattle.gl_safety.proofs.Statuses.{status}

module _ {E Q G R A F : Type 0} {b : Book E Q G R A F} {s : Start E} (o : IsOpening b (EachFollows b) s) (la : IsLawful b (EachFollows b)) where
  pub safe : (es : List (Event Q G R)) → IsSafe b (EachFollows b) s es
  safe es = record { prefix = prefix o la es; status = status o la es; ledger = ledger o la es }
