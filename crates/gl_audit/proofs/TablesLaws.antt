-- What the tables and the frontier that are kept tell of a ledger, and of entries behind a base.
use Rattle.std.proofs.Common.{◌≡◌, ℕ, suc, subst, Result, Ok, Err, IfOk, ◌+◌, ◌-◌, ◌<◌, List, [], ◌∷◌, ◌++◌, length, take, drop, Some, None, Bool, true, false, max, slice_get, if◌then◌else◌, refl, sym, ◌∙◌, ap, arith}
use Rattle.std.proofs.lemmas.List.{take-append-drop, length-take-le}
use Rattle.gl_base.proofs.Lists.{slice_get-within}
use Rattle.gl_merkle.specs.Frontier.{Content, count_of, ForLeaves}
use Rattle.gl_merkle.specs.Peaks.{peaks_of, peaks_within, peaks_over}
use Rattle.gl_merkle.proofs.MorePeaks.{peaks_of-more}
use Rattle.gl_vmaps.specs.Kept.{Kept, version_of}
use Rattle.gl_vmaps.specs.Rows.{row_writes}
use Rattle.gl_vmaps.specs.Standing.{StandsFor}
use Rattle.gl_vmaps.specs.Versions.{IsAbove, Placed, placed_at, greatest_place, is_to_row, version_in}
use Rattle.gl_vmaps.specs.declared.write.Write.{Write}
use Rattle.gl_vmaps.proofs.StandingLaws.{version_of-stands}
use Rattle.gl_entry.specs.declared.entry.Entry.{Entry}
use Rattle.gl_snapshot_body.specs.Body.{no_body}
use Rattle.gl_snapshot_body.specs.declared.body.Body.{Body}
use Rattle.gl_ledger.specs.NodeKeys.{service_layers}
use Rattle.gl_ledger.specs.Audit.{audited_over}
use Rattle.gl_ledger.specs.Snapshot.{writes_over}
use Rattle.gl_ledger.specs.Tree.{writes_of, leaves_of}
use Rattle.gl_ledger.proofs.TablesLaws.{length-leaves_of}
use Rattle.gl_audit.specs.Kept.{IsTreeOf, IsTreeOver}
use Rattle.gl_audit.proofs.GovernanceBehind.{numbered_over}
use Rattle.gl_audit.proofs.TreeOver.{count_over}

-- ---- the places of writes

above-append : (place : ℕ) (ps qs : List Placed) → IsAbove place ps → IsAbove place qs → IsAbove place (ps ++ qs)
above-append place [] qs all rest = rest
above-append place (p ∷ ps) qs all rest = (all.0, above-append place ps qs all.1 rest)

above-placed_at : (place low : ℕ) (ws : List Write) → low < place → IsAbove place (placed_at low ws)
above-placed_at place low [] less = tt
above-placed_at place low (w ∷ ws) less = (less, above-placed_at place low ws less)

above_each : (place : ℕ) (es : List Entry) → ((i : ℕ) (e : Entry) → slice_get es i ≡ Some e → e.seqno < place) → IsAbove place (writes_of es)
above_each place [] below = tt
above_each place (e ∷ es) below =
    above-append place (placed_at e.seqno e.writes) (writes_of es) (above-placed_at place e.seqno e.writes (below 0 e refl)) (above_each place es (λ i f at. below (suc i) f at))

greatest_below : (is_such : Write → Bool) (place : ℕ) (ps : List Placed) → 0 < place → IsAbove place ps → greatest_place is_such ps < place
greatest_below is_such place [] some all = some
greatest_below is_such place (p ∷ ps) some all = go (is_such p.write) (greatest_below is_such place ps some all.1)
  where
    go : (b : Bool) → greatest_place is_such ps < place → max (if b then p.place else 0) (greatest_place is_such ps) < place
    go true rest = let first : p.place < place = all.0 in omega (arith, first, rest)
    go false rest = omega (arith, rest)

-- the next seqno is above the versions of all rows
pub versions_below : (body : Body) (es : List Entry) (t : Kept) (seqno : ℕ) → audited_over service_layers body es ≡ None → StandsFor t (writes_over body es) → seqno ≡ body.base + length es + 1 →
    (map key : List ℕ) → version_of t map key < seqno
versions_below body es t seqno valid stands at map key =
    let all = above-append seqno (placed_at 0 (row_writes body.rows)) (writes_of es) (above-placed_at seqno 0 (row_writes body.rows) (omega (arith, at)))
    (above_each seqno es (λ i e there. let place = numbered_over service_layers body es valid i e there in let low = slice_get-within es i e there in omega (arith, place, low, at))) in
    let below : version_in (writes_over body es) map key < seqno = greatest_below (is_to_row map key) seqno (writes_over body es) (omega (arith, at)) all in
    let same : version_of t map key ≡ version_in (writes_over body es) map key = version_of-stands t (writes_over body es) stands map key in
    omega (arith, below, same)

-- ---- the tree of a ledger

-- it has the leaves below the frontier's base
pub tree_of_whole : (leaves : List (List ℕ)) (f : Content) → IsTreeOver no_body leaves f → IsTreeOf leaves f
unfolding peaks_of peaks_within
tree_of_whole leaves f t =
    let within = t.within in
    record {
      below = take f.base leaves;
      is_base = record {
        count = length-take-le f.base leaves (omega (arith, within));
        peaks = peaks_of-more [] (take f.base leaves) ∙ ap (λ (k : ℕ). peaks_over 0 [] (take k leaves)) at ∙ sym t.peaks;
      };
      leaves_are = ap (λ (ls : List (List ℕ)). take f.base leaves ++ ls) (t.leaves_are ∙ ap (λ (k : ℕ). drop k leaves) (sym at)) ∙ take-append-drop f.base leaves;
    }
  where
    at : f.base ≡ f.base - 0
    at = omega arith

-- what holds of the whole list of a frontier's leaves holds of those that it is the tree of
pub of_frontier : (f : Content) (leaves : List (List ℕ)) (P : List (List ℕ) → Type 0) → IsTreeOver no_body leaves f → ForLeaves f P → P leaves
of_frontier f leaves P t all = let stands = tree_of_whole leaves f t in subst P stands.leaves_are (all stands.below stands.is_base)

-- so does what a call gives
pub given_of_frontier : {X E : Type 0} (f : Content) (leaves : List (List ℕ)) (P : X → List (List ℕ) → Type 0) (r : Result X E) → IsTreeOver no_body leaves f → IfOk r (λ x. ForLeaves f (P x)) →
    IfOk r (λ x. P x leaves)
given_of_frontier f leaves P (Ok x) stands all = of_frontier f leaves (P x) stands all
given_of_frontier f leaves P (Err e) stands all = tt

pub count_of_frontier : (f : Content) (ledger : List Entry) → IsTreeOver no_body (leaves_of ledger) f → count_of f ≡ length ledger
count_of_frontier f ledger stands = let count = count_over no_body (leaves_of ledger) f stands in let long = length-leaves_of ledger in omega (arith, count, long)
