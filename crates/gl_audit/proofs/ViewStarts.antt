-- Where the views of cut entries start.
use Rattle.std.proofs.Common.{◌≡◌, ℕ, zero, suc, ◌+◌, ◌-◌, ◌<◌, ◌≤◌, List, [], ◌∷◌, ◌++◌, take, Option, Some, None, Bool, true, false, cond, if◌then◌else◌, ◌&&◌, nat_le, nat_lt, ◌==◌, refl, sym, ◌∙◌, ap, ap₂, subst, arith}
use Rattle.std.specs.List.{AllByRecursion}
use Rattle.std.proofs.lemmas.Bool.{and_parts}
use Rattle.std.proofs.lemmas.Bool.Decides.{nat_tests}
use Rattle.std.proofs.lemmas.List.Elements.{filter-append}
use Rattle.gl_entry.specs.declared.entry.Entry.{Entry}
use Rattle.gl_snapshot_body.specs.Body.{are_starts, follow, is_next_start, is_start, is_start_after}
use Rattle.gl_snapshot_body.specs.declared.body.Body.{Body}
use Rattle.gl_snapshot_body.specs.declared.body.ViewStart.{ViewStart}
use Rattle.gl_snapshot_body.proofs.BodyLaws.{parts_of}
use Rattle.gl_ledger.specs.Snapshot.{starts_from}
use Rattle.gl_ledger.specs.Behind.{IsReadAt, IsReadBody}
use Rattle.gl_audit.specs.Kept.{starts_up_to}
use Rattle.gl_audit.proofs.Cutting.{CountFrom}

-- ---- those of a body

next_within : (base : ℕ) (last : Option ViewStart) (v : ViewStart) → is_start_after base last v ≡ true → v.seqno ≤ base
next_within base None v ok =
    let low = (and_parts (v.seqno == 1) (nat_le v.seqno base) (and_parts (is_start v) (is_next_start base None v) ok).1).1 in grind (arith, nat_tests, low)
next_within base (Some last) v ok =
    let low = (and_parts (nat_lt last.view v.view && nat_lt last.seqno v.seqno) (nat_le v.seqno base) (and_parts (is_start v) (is_next_start base (Some last) v) ok).1).1 in grind (arith, nat_tests, low)

starts_within : (base to : ℕ) (last : Option ViewStart) (views : List ViewStart) → base ≤ to → follow (is_start_after base) last views ≡ true → AllByRecursion (λ (v : ViewStart). v.seqno ≤ to) views
starts_within base to last [] low ok = tt
starts_within base to last (v ∷ views) low ok =
    let both = and_parts (is_start_after base last v) (follow (is_start_after base) (Some v) views) ok in
    let here = next_within base last v both.0 in
    (omega (arith, here, low), starts_within base to (Some v) views low both.1)

-- none is above a seqno that isn't below the base
pub views_within : (body : Body) (to : ℕ) → IsReadBody body → body.base ≤ to → AllByRecursion (λ (v : ViewStart). v.seqno ≤ to) body.views
views_within body to read low = go body.base read
  where
    go : (n : ℕ) → IsReadAt n body → AllByRecursion (λ (v : ViewStart). v.seqno ≤ to) body.views
    go zero none = subst (λ (b : Body). AllByRecursion (λ (v : ViewStart). v.seqno ≤ to) b.views) (sym none) tt
    go (suc n) b = starts_within body.base to None body.views low (and_parts _ (are_starts body.base body.views) (parts_of body b.fits).views).1

all_within : (to : ℕ) (views : List ViewStart) → AllByRecursion (λ (v : ViewStart). v.seqno ≤ to) views → starts_up_to to views ≡ views
all_within to [] all = refl
all_within to (v ∷ views) all =
    let low = all.0 in
    let here : nat_le v.seqno to ≡ true = grind (arith, nat_tests, low) in
    ap (λ (b : Bool). cond b (v ∷ starts_up_to to views) (starts_up_to to views)) here ∙ ap (λ (vs : List ViewStart). v ∷ vs) (all_within to views all.1)

-- ---- cut entries

none_within : (n to view : ℕ) (es : List Entry) → CountFrom n es → to < n → starts_up_to to (starts_from view es) ≡ []
none_within n to view [] count low = refl
none_within n to view (e ∷ es) count low =
    let rest : (v : ℕ) → starts_up_to to (starts_from v es) ≡ [] = λ v. none_within (suc n) to v es (λ i f at. count (suc i) f at ∙ omega arith) (omega (arith, low)) in
    go (e.view == view) (rest view) (rest e.view)
  where
    here : nat_le e.seqno to ≡ false
    here = let at = count 0 e refl in grind (arith, nat_tests, at, low)

    go : (b : Bool) → starts_up_to to (starts_from view es) ≡ [] → starts_up_to to (starts_from e.view es) ≡ [] →
        starts_up_to to (if b then starts_from view es else record { view = e.view; seqno = e.seqno } ∷ starts_from e.view es) ≡ []
    go true same other = same
    go false same other =
        ap (λ (b : Bool). cond b (record { view = e.view; seqno = e.seqno } ∷ starts_up_to to (starts_from e.view es)) (starts_up_to to (starts_from e.view es))) here ∙ other

-- the starts behind a base, of entries up to a seqno above it
pub starts_from-take : (n view : ℕ) (es : List Entry) (to : ℕ) → CountFrom (suc n) es → starts_from view (take to es) ≡ starts_up_to (n + to) (starts_from view es)
starts_from-take n view es zero count = sym (none_within (suc n) (n + 0) view es count (omega arith))
starts_from-take n view [] (suc to) count = refl
starts_from-take n view (e ∷ es) (suc to) count =
    let rest : (v : ℕ) → starts_from v (take to es) ≡ starts_up_to (n + suc to) (starts_from v es) =
    λ v. starts_from-take (suc n) v es to (λ i f at. count (suc i) f at ∙ omega arith) ∙ ap (λ (k : ℕ). starts_up_to k (starts_from v es)) (let next : suc n + to ≡ n + suc to = omega arith in next) in
    go (e.view == view) (rest view) (rest e.view)
  where
    here : nat_le e.seqno (n + suc to) ≡ true
    here = let at = count 0 e refl in grind (arith, nat_tests, at)

    go : (b : Bool) → starts_from view (take to es) ≡ starts_up_to (n + suc to) (starts_from view es) → starts_from e.view (take to es) ≡ starts_up_to (n + suc to) (starts_from e.view es) →
        (if b then starts_from view (take to es) else record { view = e.view; seqno = e.seqno } ∷ starts_from e.view (take to es))
        ≡ starts_up_to (n + suc to) (if b then starts_from view es else record { view = e.view; seqno = e.seqno } ∷ starts_from e.view es)
    go true same other = same
    go false same other =
        ap (λ (vs : List ViewStart). record { view = e.view; seqno = e.seqno } ∷ vs) other
        ∙ sym (ap (λ (b : Bool). cond b (record { view = e.view; seqno = e.seqno } ∷ starts_up_to (n + suc to) (starts_from e.view es)) (starts_up_to (n + suc to) (starts_from e.view es))) here)

-- the starts up to a seqno that isn't below the base
pub starts_over-take : (body : Body) (es : List Entry) (to : ℕ) → IsReadBody body → CountFrom (suc body.base) es → body.base ≤ to →
    body.views ++ starts_from body.view (take (to - body.base) es) ≡ starts_up_to to (body.views ++ starts_from body.view es)
starts_over-take body es to read count low =
    ap₂ (λ (vs ws : List ViewStart). vs ++ ws) (sym (all_within to body.views (views_within body to read low)))
    (starts_from-take body.base body.view es (to - body.base) count ∙ ap (λ (k : ℕ). starts_up_to k (starts_from body.view es)) (let same : body.base + (to - body.base) ≡ to = omega (arith, low) in same))
    ∙ sym (filter-append (λ (v : ViewStart). nat_le v.seqno to) body.views (starts_from body.view es))
