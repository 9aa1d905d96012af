-- What a cut leaves of a ledger: its writes up to there, its requests of governance, its leaves,
-- that it breaks no rule, and the signatures below.
use Rattle.std.proofs.Common.{◌≡◌, ℕ, zero, suc, ◌+◌, ◌-◌, ◌<◌, ◌≤◌, nat_le, List, [], ◌∷◌, ◌++◌, take, slice_get, Option, Some, None, true, false, cond, refl, sym, ◌∙◌, ap, ap₂, arith}
use Rattle.std.proofs.lemmas.Bool.Decides.{nat_tests}
use Rattle.std.specs.List.{AllByRecursion}
use Rattle.std.proofs.lemmas.List.{take-take, append-nil}
use Rattle.std.proofs.lemmas.List.Elements.{filter-append}
use Rattle.gl_base.proofs.Lists.{slice_get-take, slice_get-of_take}
use Rattle.gl_vmaps.specs.Rows.{row_writes, tables_with}
use Rattle.gl_vmaps.specs.Tables.{Tables, no_tables, wrote_all}
use Rattle.gl_vmaps.specs.Versions.{Placed, placed_at, up_to}
use Rattle.gl_vmaps.specs.declared.write.Write.{Write}
use Rattle.gl_entry.specs.Leaf.{leaf_of}
use Rattle.gl_entry.specs.declared.entry.Content.{Content}
use Rattle.gl_entry.specs.declared.entry.Content.TheVariants as content
use Rattle.gl_entry.specs.declared.entry.Entry.{Entry}
use Rattle.gl_requests.specs.Parsing.{request_in}
use Rattle.gl_requests.specs.declared.request.GovernanceRequest.{GovernanceRequest}
use Rattle.gl_gov_rules.specs.declared.change.Recorded.{Recorded}
use Rattle.gl_gov_rules.specs.Governed as governed
use Rattle.gl_gov_rules.proofs.RequestsUpTo.{up_to-all}
use Rattle.gl_snapshot_body.specs.declared.body.Body.{Body}
use Rattle.gl_ledger.specs.Recordings.{recorded_at, recorded_in, requests_from, requests_of}
use Rattle.gl_ledger.specs.ServiceRow.{identity_in}
use Rattle.gl_ledger.specs.Tree.{writes_of, leaves_from, leaves_of}
use Rattle.gl_ledger.specs.Serial.{IsLedger}
use Rattle.gl_ledger.specs.Snapshot.{leaves_over, requests_over, writes_over}
use Rattle.gl_ledger.specs.Signed.{IsSignedUpTo}
use Rattle.gl_ledger.specs.Layers.{Layers}
use Rattle.gl_ledger.specs.Broken.{broken}
use Rattle.gl_ledger.specs.Audit.{audited}
use Rattle.gl_ledger.proofs.Auditing.{audited_none, audited_all}

-- ---- writes

-- the i-th entry has the seqno i after the first one's
abbrev pub CountFrom : ℕ → List Entry → Type 0
CountFrom n es = (i : ℕ) (e : Entry) → slice_get es i ≡ Some e → e.seqno ≡ n + i

placed_within : (to place : ℕ) (ws : List Write) → place ≤ to → up_to to (placed_at place ws) ≡ placed_at place ws
placed_within to place [] le = refl
placed_within to place (w ∷ ws) le =
    let here : nat_le place to ≡ true = grind (arith, nat_tests) in
    let p : Placed = record { place = place; write = w } in
    ap (λ b. cond b (p ∷ up_to to (placed_at place ws)) (up_to to (placed_at place ws))) here ∙ ap (λ (ps : List Placed). p ∷ ps) (placed_within to place ws le)

placed_above : (to place : ℕ) (ws : List Write) → to < place → up_to to (placed_at place ws) ≡ []
placed_above to place [] low = refl
placed_above to place (w ∷ ws) low =
    let here : nat_le place to ≡ false = grind (arith, nat_tests) in
    let p : Placed = record { place = place; write = w } in
    ap (λ b. cond b (p ∷ up_to to (placed_at place ws)) (up_to to (placed_at place ws))) here ∙ placed_above to place ws low

both_parts : (to : ℕ) (e : Entry) (es : List Entry) → up_to to (writes_of (e ∷ es)) ≡ up_to to (placed_at e.seqno e.writes) ++ up_to to (writes_of es)
both_parts to e es = filter-append (λ (p : Placed). nat_le p.place to) (placed_at e.seqno e.writes) (writes_of es)

none_within : (n to : ℕ) (es : List Entry) → CountFrom n es → to < n → up_to to (writes_of es) ≡ []
none_within n to [] count low = refl
none_within n to (e ∷ es) count low =
    both_parts to e es
    ∙ ap₂ (λ (ps qs : List Placed). ps ++ qs) (placed_above to e.seqno e.writes (let at = count 0 e refl in omega (arith, at)))
    (none_within (suc n) to es (λ i f at. count (suc i) f at ∙ omega arith) (omega arith))

pub writes_from-take : (n : ℕ) (es : List Entry) (to : ℕ) → CountFrom (suc n) es → writes_of (take to es) ≡ up_to (n + to) (writes_of es)
writes_from-take n es zero count = sym (none_within (suc n) (n + 0) es count (omega arith))
writes_from-take n [] (suc to) count = refl
writes_from-take n (e ∷ es) (suc to) count =
    ap₂ (λ (ps qs : List Placed). ps ++ qs) (sym (placed_within (n + suc to) e.seqno e.writes (let at = count 0 e refl in omega (arith, at))))
    (writes_from-take (suc n) es to (λ i f at. count (suc i) f at ∙ omega arith) ∙ ap (λ (k : ℕ). up_to k (writes_of es)) (omega arith))
    ∙ sym (both_parts (n + suc to) e es)

-- the writes of a cut ledger are those up to its length
pub writes_of-take : (ledger : List Entry) (to : ℕ) → IsLedger ledger → writes_of (take to ledger) ≡ up_to to (writes_of ledger)
writes_of-take ledger to h =
    writes_from-take 0 ledger to (λ i e at. h.seqnos i e at ∙ omega arith) ∙ ap (λ (k : ℕ). up_to k (writes_of ledger)) (omega arith)

-- the writes behind a base up to a seqno that isn't below it; those of the body's rows come at 0
pub writes_over-take : (body : Body) (es : List Entry) (to : ℕ) → CountFrom (suc body.base) es → body.base ≤ to → writes_over body (take (to - body.base) es) ≡ up_to to (writes_over body es)
writes_over-take body es to count low =
    ap₂ (λ (ps qs : List Placed). ps ++ qs) (sym (placed_within to 0 (row_writes body.rows) (omega arith)))
    (writes_from-take body.base es (to - body.base) count ∙ ap (λ (k : ℕ). up_to k (writes_of es)) (let same : body.base + (to - body.base) ≡ to = omega (arith, low) in same))
    ∙ sym (filter-append (λ (p : Placed). nat_le p.place to) (placed_at 0 (row_writes body.rows)) (writes_of es))

-- ---- requests of governance

-- an entry's request has the entry's seqno
recorded_within : (to seqno : ℕ) (c : Content) → seqno ≤ to → governed.up_to to (recorded_in seqno c) ≡ recorded_in seqno c
recorded_within to seqno (content.Governance bytes) low = go (request_in bytes)
  where
    go : (o : Option GovernanceRequest) → governed.up_to to (recorded_at seqno o) ≡ recorded_at seqno o
    go None = refl
    go (Some g) = let here : nat_le seqno to ≡ true = grind (arith, nat_tests, low) in let r : Recorded = record { seqno = seqno; request = g } in ap (λ b. cond b (r ∷ []) []) here
recorded_within to seqno (content.Application bytes) low = refl
recorded_within to seqno (content.Signature s) low = refl
recorded_within to seqno (content.Evidence d) low = refl

recorded_above : (to seqno : ℕ) (c : Content) → to < seqno → governed.up_to to (recorded_in seqno c) ≡ []
recorded_above to seqno (content.Governance bytes) high = go (request_in bytes)
  where
    go : (o : Option GovernanceRequest) → governed.up_to to (recorded_at seqno o) ≡ []
    go None = refl
    go (Some g) = let here : nat_le seqno to ≡ false = grind (arith, nat_tests, high) in let r : Recorded = record { seqno = seqno; request = g } in ap (λ b. cond b (r ∷ []) []) here
recorded_above to seqno (content.Application bytes) high = refl
recorded_above to seqno (content.Signature s) high = refl
recorded_above to seqno (content.Evidence d) high = refl

both_requests : (to n : ℕ) (e : Entry) (es : List Entry) → governed.up_to to (requests_from n (e ∷ es)) ≡ governed.up_to to (recorded_in n e.content) ++ governed.up_to to (requests_from (suc n) es)
both_requests to n e es = filter-append (λ (r : Recorded). nat_le r.seqno to) (recorded_in n e.content) (requests_from (suc n) es)

none_up_to : (n to : ℕ) (es : List Entry) → to < n → governed.up_to to (requests_from n es) ≡ []
none_up_to n to [] low = refl
none_up_to n to (e ∷ es) low =
    both_requests to n e es ∙ ap₂ (λ (rs qs : List Recorded). rs ++ qs) (recorded_above to n e.content low) (none_up_to (suc n) to es (omega (arith, low)))

requests_from-take : (n : ℕ) (es : List Entry) (to : ℕ) → requests_from (suc n) (take to es) ≡ governed.up_to (n + to) (requests_from (suc n) es)
requests_from-take n es zero = sym (none_up_to (suc n) (n + 0) es (omega arith))
requests_from-take n [] (suc to) = refl
requests_from-take n (e ∷ es) (suc to) =
    ap₂ (λ (rs qs : List Recorded). rs ++ qs) (sym (recorded_within (n + suc to) (suc n) e.content (omega arith)))
    (requests_from-take (suc n) es to ∙ ap (λ (k : ℕ). governed.up_to k (requests_from (suc (suc n)) es)) (omega arith))
    ∙ sym (both_requests (n + suc to) (suc n) e es)

-- the requests of a cut ledger are those up to its length
pub requests_of-take : (ledger : List Entry) (to : ℕ) → requests_of (take to ledger) ≡ governed.up_to to (requests_of ledger)
requests_of-take ledger to = requests_from-take 0 ledger to ∙ ap (λ (k : ℕ). governed.up_to k (requests_of ledger)) (omega arith)

-- and of those behind a base
pub requests_over-take : (body : Body) (es : List Entry) (to : ℕ) → body.base ≤ to → requests_over body (take (to - body.base) es) ≡ governed.up_to to (requests_over body es)
requests_over-take body es to low =
    requests_from-take body.base es (to - body.base) ∙ ap (λ (k : ℕ). governed.up_to k (requests_over body es)) (let same : body.base + (to - body.base) ≡ to = omega (arith, low) in same)

-- a request with this seqno goes where those before it are below
pub taken_back : (seqno : ℕ) (rs : List Recorded) (c : Content) → 0 < seqno → governed.IsAbove seqno rs → governed.up_to (seqno - 1) (rs ++ recorded_in seqno c) ≡ rs
taken_back seqno rs c some all =
    filter-append (λ (r : Recorded). nat_le r.seqno (seqno - 1)) rs (recorded_in seqno c)
    ∙ ap₂ (λ (xs ys : List Recorded). xs ++ ys) (up_to-all (seqno - 1) rs (below rs all)) (recorded_above (seqno - 1) seqno c (omega (arith, some))) ∙ append-nil rs
  where
    below : (qs : List Recorded) → governed.IsAbove seqno qs → AllByRecursion (λ (r : Recorded). r.seqno ≤ seqno - 1) qs
    below [] low = tt
    below (q ∷ qs) low = (omega (arith, low.0, some), below qs low.1)

-- ---- leaves

leaves_from-take : (t : Tables) (es : List Entry) (to : ℕ) → leaves_from t (take to es) ≡ take to (leaves_from t es)
leaves_from-take t es zero = refl
leaves_from-take t [] (suc to) = refl
leaves_from-take t (e ∷ es) (suc to) =
    ap (λ (ls : List (List ℕ)). leaf_of (identity_in (wrote_all t e.writes)) e ∷ ls) (leaves_from-take (wrote_all t e.writes) es to)

-- each entry keeps its leaf
pub leaves_of-take : (ledger : List Entry) (to : ℕ) → leaves_of (take to ledger) ≡ take to (leaves_of ledger)
leaves_of-take ledger to = leaves_from-take no_tables ledger to

pub leaves_over-take : (body : Body) (es : List Entry) (to : ℕ) → leaves_over body (take to es) ≡ take to (leaves_over body es)
leaves_over-take body es to = leaves_from-take (tables_with body.rows) es to

-- ---- rules

-- a cut ledger breaks no rule
pub audited-take : (layers : Layers) (ledger : List Entry) (to : ℕ) → audited layers ledger ≡ None → audited layers (take to ledger) ≡ None
audited-take layers ledger to h = audited_all layers (take to ledger) each
  where
    each : (i : ℕ) (e : Entry) → slice_get (take to ledger) i ≡ Some e → broken layers (take i (take to ledger)) e ≡ None
    each i e at =
        let before = slice_get-of_take to ledger i e at in
        ap (λ (l : List Entry). broken layers l e) (take-take i to ledger (omega (arith, before.0))) ∙ audited_none layers ledger h i e before.1

-- ---- signatures

-- a signature within stays at its place
pub signed_up_to-take : (ledger : List Entry) (to seqno : ℕ) → seqno ≤ to → IsSignedUpTo ledger seqno → IsSignedUpTo (take to ledger) seqno
signed_up_to-take ledger to zero le h some = absurd (omega arith)
signed_up_to-take ledger to (suc i) le h some = let at = h (omega arith) in (at.0, slice_get-take to ledger i at.0 (omega arith) at.1, at.2)
