-- Lists of requests at rising seqnos, as those of the entries that record them.
use Rattle.std.specs.Prelude.{◌≡◌, ℕ, List, Some, take, slice_get}
use Rattle.gl_gov_rules.specs.declared.change.Recorded.{Recorded}
use Rattle.gl_gov_rules.specs.Governed.{IsAbove}

-- The seqno of each request is above those of the requests before it.
abbrev pub IsRising : List Recorded → Type 0
IsRising rs = (i : ℕ) (r : Recorded) → slice_get rs i ≡ Some r → IsAbove r.seqno (take i rs)
