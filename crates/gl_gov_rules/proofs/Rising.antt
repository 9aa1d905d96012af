-- Requests at rising seqnos, one after another.
use Rattle.std.proofs.Common.{◌≡◌, ℕ, zero, suc, ◌<◌, List, [], ◌∷◌, Some, slice_get, refl}
use Rattle.std.specs.List.{AllByRecursion}
use Rattle.gl_gov_rules.specs.declared.change.Recorded.{Recorded}
use Rattle.gl_gov_rules.specs.Governed.{IsGoverned}
use Rattle.gl_gov_rules.specs.Rising.{IsRising}

-- requests that follow one another stand at rising seqnos
pub governed_rise : (rs : List Recorded) → IsGoverned rs → IsRising rs
governed_rise rs all i r at = (all i r at).above

-- those after the first do too
pub rest_rises : (r : Recorded) (rs : List Recorded) → IsRising (r ∷ rs) → IsRising rs
rest_rises r rs rising i s at = (rising (suc i) s at).1

abbrev pub AreAfter : ℕ → List Recorded → Type 0
AreAfter seqno rs = AllByRecursion (λ (s : Recorded). seqno < s.seqno) rs

all_after : (seqno : ℕ) (rs : List Recorded) → ((i : ℕ) (s : Recorded) → slice_get rs i ≡ Some s → seqno < s.seqno) → AreAfter seqno rs
all_after seqno [] each = tt
all_after seqno (s ∷ rs) each = (each zero s refl, all_after seqno rs (λ i. each (suc i)))

-- and all of them after the first
pub rest_after : (r : Recorded) (rs : List Recorded) → IsRising (r ∷ rs) → AreAfter r.seqno rs
rest_after r rs rising = all_after r.seqno rs (λ i s at. (rising (suc i) s at).0)
