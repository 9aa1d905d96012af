-- A journal of what was written: one more write, one taken back, and the first one settled.
use Rattle.std.proofs.Common.{◌≡◌, ℕ, suc, ◌+◌, ◌-◌, ◌≤◌, ◌<◌, nat_le, nat_lt, max, Bool, true, false, ◌&&◌, ◌||◌, cond, List, [], ◌∷◌, ◌++◌, Option, Some, None, refl, sym, ◌∙◌, ap, subst, if◌then◌else◌, take, drop, length, reverse, unwrap_or, arith}
use Rattle.std.specs.Cmp.Lexicographic.{slice_cmp}
use Rattle.std.specs.FinMap.{get, get-empty, empty}
use Rattle.std.specs.Ordering.{nat_cmp}
use Rattle.std.specs.List.{AllByRecursion, last_or}
use Rattle.std.proofs.lemmas.Bool.{and_parts}
use Rattle.std.proofs.lemmas.Bool.Decides.{nat_tests}
use Rattle.std.proofs.lemmas.List.{append-nil}
use Rattle.std.proofs.lemmas.List.Elements.{filter-append}
use Rattle.gl_vmaps.specs.Tables.{same_bytes}
use Rattle.gl_vmaps.specs.Versions.{Placed, placed_at, is_to_row}
use Rattle.gl_vmaps.specs.Writes.{is_ordered, write_order}
use Rattle.gl_vmaps.specs.Kept.{Chains, last_place, place_or_zero}
use Rattle.gl_vmaps.specs.Standing.{is_up_to, versions_up_to, version, versions_in}
use Rattle.gl_vmaps.specs.Chains.{chain_of, newest_place, with_chain, Maps, rows_in, found_in, with_versions, without_last}
use Rattle.gl_vmaps.specs.Journal.{popped, IsLast, IsSettled, IsJournal, IsTidy, CanPop, popped_last, is_last_above, pushed, written, pushed_maps, pushed_journal, AreFresh}
use Rattle.gl_vmaps.specs.declared.journal.Written.{Written}
use Rattle.gl_vmaps.specs.declared.table.Version.{Version}
use Rattle.gl_vmaps.specs.declared.write.Write.{Write}
use Rattle.std.specs.declared.cmp.Ordering.TheVariants.{Less}
use Rattle.gl_vmaps.proofs.TablesLaws.{same_bytes-eq, same_bytes-itself}
use Rattle.gl_vmaps.proofs.ChainLaws.{newest-pushed, newest-below}
use Rattle.gl_vmaps.proofs.MapLaws.{IsProper, found_in-with, proper-versions, tidy-versions, same_found, rows_in-with}
use Rattle.gl_vmaps.proofs.VersionLaws.{with_first, versions_in-first}
use Rattle.gl_vmaps.proofs.VersionLists.{last_or-append}
use Rattle.gl_vmaps.proofs.WriteLaws.{ordered_before, is_ordered-rest, other_row}

-- ---- the last of some versions

abbrev pub last_from : Version → List Version → Version
last_from v [] = v
last_from v (w ∷ ws) = last_from w ws

take_all_but : (v : Version) (vs : List Version) → v ∷ vs ≡ take (length vs) (v ∷ vs) ++ last_from v vs ∷ []
take_all_but v [] = refl
take_all_but v (w ∷ ws) = ap (λ us. v ∷ us) (take_all_but w ws)

pub without_last-take : (v : Version) (vs : List Version) → without_last (v ∷ vs) ≡ take (length vs) (v ∷ vs)
without_last-take v vs = let n : length (v ∷ vs) - 1 ≡ length vs = omega arith in ap (λ k. take k (v ∷ vs)) n

pub split_last : (v : Version) (vs : List Version) → v ∷ vs ≡ without_last (v ∷ vs) ++ last_from v vs ∷ []
split_last v vs = take_all_but v vs ∙ ap (λ us. us ++ last_from v vs ∷ []) (sym (without_last-take v vs))

last_or-from : (o : Option Version) (v : Version) (vs : List Version) → last_or o (v ∷ vs) ≡ Some (last_from v vs)
last_or-from o v [] = refl
last_or-from o v (w ∷ ws) = last_or-from (Some v) w ws

take_prefix : (vs : List Version) (v : Version) → take (length vs) (vs ++ v ∷ []) ≡ vs
take_prefix [] v = refl
take_prefix (w ∷ ws) v = ap (λ us. w ∷ us) (take_prefix ws v)

length_more : (vs : List Version) (v : Version) → length (vs ++ v ∷ []) ≡ suc (length vs)
length_more [] v = refl
length_more (w ∷ ws) v = ap suc (length_more ws v)

pub without_last-pushed : (vs : List Version) (v : Version) → without_last (vs ++ v ∷ []) ≡ vs
without_last-pushed vs v =
    let long = length_more vs v in
    let n : length (vs ++ v ∷ []) - 1 ≡ length vs = omega (arith, long) in
    ap (λ k. take k (vs ++ v ∷ [])) n ∙ take_prefix vs v

pub last_place-pushed : (vs : List Version) (v : Version) → last_place (vs ++ v ∷ []) ≡ v.place
last_place-pushed vs v = ap place_or_zero (last_or-append None vs (v ∷ []))

-- versions whose last place is above 0 have a last one
pub record HasLast (vs : List Version) : Type 0 where
  pub last : Version
  pub split : vs ≡ without_last vs ++ last ∷ []
  pub place : last_place vs ≡ last.place

pub has_last : (vs : List Version) → 0 < last_place vs → HasLast vs
has_last [] lt = absurd (omega arith)
has_last (v ∷ vs) lt = record { last = last_from v vs; split = split_last v vs; place = ap place_or_zero (last_or-from None v vs) }

-- ---- one write more, and taken back

pub row_is : (n k m key : List ℕ) → (same_bytes n m && same_bytes k key) ≡ true → (n ≡ m) × (k ≡ key)
row_is n k m key is = let both = and_parts (same_bytes n m) (same_bytes k key) is in (same_bytes-eq n m both.0, same_bytes-eq k key both.1)

pub itself : (m key : List ℕ) → (same_bytes m m && same_bytes key key) ≡ true
itself m key = rw (same_bytes-itself m, same_bytes-itself key) refl

pub found_in-at : (maps : Maps) (m key : List ℕ) (vs : List Version) → found_in (with_versions maps m key vs) m key ≡ vs
found_in-at maps m key vs = found_in-with maps m key vs m key ∙ ap (λ (b : Bool). if b then vs else found_in maps m key) (itself m key)

-- giving a row its versions again
pub with_again : (maps : Maps) (m key : List ℕ) (us vs : List Version) → IsProper maps → IsTidy maps → vs ≡ found_in maps m key → with_versions (with_versions maps m key us) m key vs ≡ maps
with_again maps m key us vs proper tidy is =
    let once = with_versions maps m key us in
    same_found (with_versions once m key vs) maps
    (proper-versions once m key vs (proper-versions maps m key us proper)) proper
    (tidy-versions once m key vs (tidy-versions maps m key us tidy)) tidy
    (λ n k. found_in-with once m key vs n k ∙ go n k (same_bytes n m && same_bytes k key) refl)
  where
    go : (n k : List ℕ) (b : Bool) → (same_bytes n m && same_bytes k key) ≡ b → (if b then vs else found_in (with_versions maps m key us) n k) ≡ found_in maps n k
    go n k true same = let row = row_is n k m key same in is ∙ ap (λ a. found_in maps a key) (sym row.0) ∙ ap (found_in maps n) (sym row.1)
    go n k false differ = found_in-with maps m key us n k ∙ ap (λ (b : Bool). if b then us else found_in maps n k) differ

pub popped-pushed : (maps : Maps) (place : ℕ) (w : Write) → IsProper maps → IsTidy maps → popped (pushed maps place w) (written maps place w) ≡ maps
popped-pushed maps place w proper tidy =
    let v : Version = record { place = place; value = w.value } in
    let vs = found_in maps w.map w.key in
    let at_row = found_in-at maps w.map w.key (vs ++ v ∷ []) in
    ap (λ us. with_versions (pushed maps place w) w.map w.key (without_last us)) at_row
    ∙ with_again maps w.map w.key (vs ++ v ∷ []) (without_last (vs ++ v ∷ [])) proper tidy (without_last-pushed vs v)

pub is_last-pushed : (maps : Maps) (place : ℕ) (w : Write) → IsProper maps → IsTidy maps → last_place (found_in maps w.map w.key) < place → IsLast (pushed maps place w) (written maps place w)
is_last-pushed maps place w proper tidy lt =
    let v : Version = record { place = place; value = w.value } in
    let vs = found_in maps w.map w.key in
    let at_row = found_in-at maps w.map w.key (vs ++ v ∷ []) in
    record {
      place = ap last_place at_row ∙ last_place-pushed vs v;
      fresh = subst (λ us. last_place us < place) (sym (ap without_last at_row ∙ without_last-pushed vs v)) lt;
      before = ap (λ (t : Maps). newest_place (rows_in t w.map)) (sym (popped-pushed maps place w proper tidy));
    }

-- ---- places of a journal

at_most : (low high : ℕ) (es : List Written) → low ≤ high → AllByRecursion (λ (e : Written). e.place ≤ low) es → AllByRecursion (λ (e : Written). e.place ≤ high) es
at_most low high [] le all = tt
at_most low high (e ∷ es) le all = let one : e.place ≤ low = all.0 in (omega (arith, le, one), at_most low high es le all.1)

pub all_written_below : (c : ℕ) (maps : Maps) (es : List Written) (place : ℕ) → IsJournal c maps es → ((name key : List ℕ) → last_place (found_in maps name key) ≤ place) →
    AllByRecursion (λ (e : Written). e.place ≤ place) es
all_written_below c maps [] place journal below = tt
all_written_below c maps (w ∷ es) place journal below =
    let last = journal.0 in
    let row = below w.map w.key in
    let le : w.place ≤ place = omega (arith, last.place, row) in
    (le, at_most w.place place es le journal.1)

-- ---- a write set

pub pushed_tidy : (maps : Maps) (place : ℕ) (w : Write) → IsTidy maps → IsTidy (pushed maps place w)
pushed_tidy maps place w tidy = tidy-versions maps w.map w.key (found_in maps w.map w.key ++ (record { place = place; value = w.value }) ∷ []) tidy

pub pushed_proper : (maps : Maps) (place : ℕ) (w : Write) → IsProper maps → IsProper (pushed maps place w)
pushed_proper maps place w proper = proper-versions maps w.map w.key (found_in maps w.map w.key ++ (record { place = place; value = w.value }) ∷ []) proper

pub pushed_maps-tidy : (maps : Maps) (place : ℕ) (ws : List Write) → IsTidy maps → IsTidy (pushed_maps maps place ws)
pushed_maps-tidy maps place [] tidy = tidy
pushed_maps-tidy maps place (w ∷ ws) tidy = pushed_maps-tidy (pushed maps place w) place ws (pushed_tidy maps place w tidy)

more_here : (maps : Maps) (place : ℕ) (w : Write) (name key : List ℕ) →
    found_in (pushed maps place w) name key ≡ found_in maps name key ++ with_first (is_to_row name key w) (version (record { place = place; write = w })) []
more_here maps place w name key =
    let v : Version = record { place = place; value = w.value } in
    found_in-with maps w.map w.key (found_in maps w.map w.key ++ v ∷ []) name key ∙ go (same_bytes name w.map && same_bytes key w.key) refl
  where
    go : (b : Bool) → (same_bytes name w.map && same_bytes key w.key) ≡ b →
        (if b then found_in maps w.map w.key ++ (record { place = place; value = w.value }) ∷ [] else found_in maps name key)
        ≡ found_in maps name key ++ with_first b (record { place = place; value = w.value }) []
    go true is = let row = row_is name key w.map w.key is in ap (λ vs. vs ++ (record { place = place; value = w.value }) ∷ []) (ap (λ n. found_in maps n w.key) (sym row.0) ∙ ap (found_in maps name) (sym row.1))
    go false differ = sym (append-nil (found_in maps name key))

joined : (b : Bool) (v : Version) (xs ys : List Version) → (xs ++ with_first b v []) ++ ys ≡ xs ++ with_first b v ys
joined true v xs ys = Rattle.std.proofs.Common.append_assoc xs (v ∷ []) ys
joined false v xs ys = ap (λ zs. zs ++ ys) (append-nil xs)

-- each row has its versions, and after them what the set writes to it
pub found_in-pushed : (maps : Maps) (place : ℕ) (ws : List Write) (name key : List ℕ) →
    found_in (pushed_maps maps place ws) name key ≡ found_in maps name key ++ versions_in (placed_at place ws) name key
found_in-pushed maps place [] name key = sym (append-nil (found_in maps name key))
found_in-pushed maps place (w ∷ ws) name key =
    let p : Placed = record { place = place; write = w } in
    found_in-pushed (pushed maps place w) place ws name key
    ∙ ap (λ vs. vs ++ versions_in (placed_at place ws) name key) (more_here maps place w name key)
    ∙ joined (is_to_row name key w) (version p) (found_in maps name key) (versions_in (placed_at place ws) name key)
    ∙ ap (λ vs. found_in maps name key ++ vs) (sym (versions_in-first p (placed_at place ws) name key))

below_pushed : (maps : Maps) (place : ℕ) (w : Write) → ((name key : List ℕ) → last_place (found_in maps name key) ≤ place) → (name key : List ℕ) → last_place (found_in (pushed maps place w) name key) ≤ place
below_pushed maps place w below name key = subst (λ vs. last_place vs ≤ place) (sym (more_here maps place w name key)) (go (is_to_row name key w))
  where
    go : (b : Bool) → last_place (found_in maps name key ++ with_first b (record { place = place; value = w.value }) []) ≤ place
    go true = let e = last_place-pushed (found_in maps name key) (record { place = place; value = w.value }) in omega (arith, e)
    go false = subst (λ vs. last_place vs ≤ place) (sym (append-nil (found_in maps name key))) (below name key)

pub journal-pushed : (c : ℕ) (maps : Maps) (es : List Written) (place : ℕ) (ws : List Write) → IsProper maps → IsTidy maps → IsJournal c maps es →
    ((name key : List ℕ) → last_place (found_in maps name key) ≤ place) → AreFresh maps place ws → IsJournal c (pushed_maps maps place ws) (pushed_journal maps es place ws)
journal-pushed c maps es place [] proper tidy journal below fresh = journal
journal-pushed c maps es place (w ∷ ws) proper tidy journal below fresh =
    let one : IsJournal c (pushed maps place w) (written maps place w ∷ es) =
    (is_last-pushed maps place w proper tidy fresh.0, all_written_below c maps es place journal below, subst (λ (t : Maps). IsJournal c t es) (sym (popped-pushed maps place w proper tidy)) journal) in
    journal-pushed c (pushed maps place w) (written maps place w ∷ es) place ws (pushed_proper maps place w proper) (pushed_tidy maps place w tidy) one (below_pushed maps place w below) fresh.2

-- the writes of an ordered set are fresh at a place above all versions
pub newest_after : (maps : Maps) (place : ℕ) (w : Write) (name : List ℕ) → ((n : List ℕ) → newest_place (rows_in maps n) ≤ place) → newest_place (rows_in (pushed maps place w) name) ≤ place
newest_after maps place w name below =
    let v : Version = record { place = place; value = w.value } in
    let chain = with_chain (rows_in maps w.map) w.key (found_in maps w.map w.key ++ v ∷ []) in
    subst (λ (t : Chains). newest_place t ≤ place) (sym (rows_in-with maps w.map chain name)) (go (same_bytes name w.map))
  where
    go : (b : Bool) → newest_place (if b then with_chain (rows_in maps w.map) w.key (found_in maps w.map w.key ++ (record { place = place; value = w.value }) ∷ []) else rows_in maps name) ≤ place
    go true = let e = newest-pushed (rows_in maps w.map) w.key (record { place = place; value = w.value }) (below w.map) in omega (arith, e)
    go false = below name

still_fresh : (maps : Maps) (place : ℕ) (w : Write) (ys : List Write) → AllByRecursion (λ (y : Write). write_order w y ≡ Less) ys →
    AllByRecursion (λ (y : Write). last_place (found_in maps y.map y.key) < place) ys → AllByRecursion (λ (y : Write). last_place (found_in (pushed maps place w) y.map y.key) < place) ys
still_fresh maps place w [] before fresh = tt
still_fresh maps place w (y ∷ ys) before fresh =
    let other : is_to_row y.map y.key w ≡ false = apart (is_to_row y.map y.key w) refl in
    let same : found_in (pushed maps place w) y.map y.key ≡ found_in maps y.map y.key =
    more_here maps place w y.map y.key
    ∙ ap (λ (b : Bool). found_in maps y.map y.key ++ with_first b (record { place = place; value = w.value }) []) other
    ∙ append-nil (found_in maps y.map y.key) in
    (subst (λ vs. last_place vs < place) (sym same) fresh.0, still_fresh maps place w ys before.1 fresh.1)
  where
    apart : (b : Bool) → is_to_row y.map y.key w ≡ b → b ≡ false
    apart true is = let no = other_row y.map y.key w y before.0 is in absurd (cc (no, itself y.map y.key))
    apart false is = refl

pub fresh-ordered : (maps : Maps) (place : ℕ) (ws : List Write) → is_ordered ws ≡ true → ((n : List ℕ) → newest_place (rows_in maps n) ≤ place) →
    AllByRecursion (λ (y : Write). last_place (found_in maps y.map y.key) < place) ws → AreFresh maps place ws
fresh-ordered maps place [] ordered below fresh = tt
fresh-ordered maps place (w ∷ ws) ordered below fresh = (
  fresh.0,
  below w.map,
  fresh-ordered (pushed maps place w) place ws (is_ordered-rest w ws ordered) (λ n. newest_after maps place w n below) (still_fresh maps place w ws (ordered_before w ws ordered) fresh.1),
)

-- ---- one write taken back by a cut

-- no version above a place is among those up to it
cut_last : (vs : List Version) (to : ℕ) → 0 < last_place vs → to < last_place vs → versions_up_to to (without_last vs) ≡ versions_up_to to vs
cut_last vs to some above =
    let l = has_last vs some in
    let place = l.place in
    let over : is_up_to to l.last ≡ false = grind (arith, nat_tests) in
    let none : versions_up_to to (l.last ∷ []) ≡ [] = rw over refl in
    sym (ap (versions_up_to to) l.split
    ∙ filter-append (is_up_to to) (without_last vs) (l.last ∷ [])
    ∙ ap (λ us. versions_up_to to (without_last vs) ++ us) none
    ∙ append-nil (versions_up_to to (without_last vs)))

pub cut-popped : (maps : Maps) (w : Written) (to : ℕ) → IsLast maps w → to < w.place → (name key : List ℕ) →
    versions_up_to to (found_in (popped maps w) name key) ≡ versions_up_to to (found_in maps name key)
cut-popped maps w to last above name key =
    ap (versions_up_to to) (found_in-with maps w.map w.key (without_last (found_in maps w.map w.key)) name key)
    ∙ go (same_bytes name w.map && same_bytes key w.key) refl
  where
    go : (b : Bool) → (same_bytes name w.map && same_bytes key w.key) ≡ b →
        versions_up_to to (if b then without_last (found_in maps w.map w.key) else found_in maps name key) ≡ versions_up_to to (found_in maps name key)
    go true is =
        let row = row_is name key w.map w.key is in
        let place = last.place in
        cut_last (found_in maps w.map w.key) to (omega (arith, place)) (omega (arith, place))
        ∙ ap (λ n. versions_up_to to (found_in maps n w.key)) (sym row.0) ∙ ap (λ k. versions_up_to to (found_in maps name k)) (sym row.1)
    go false differ = refl

settled_up_to : (c to : ℕ) (vs : List Version) → c ≤ to → IsSettled c vs → versions_up_to to vs ≡ vs
settled_up_to c to [] le settled = refl
settled_up_to c to (v ∷ []) le settled = let here : v.place ≤ c = settled in let up : is_up_to to v ≡ true = grind (arith, nat_tests) in rw up refl
settled_up_to c to (v ∷ w ∷ vs) le settled = absurd settled

-- where no write is above a place, no version is
pub all_up_to : (c to : ℕ) (maps : Maps) (es : List Written) → c ≤ to → IsJournal c maps es → AllByRecursion (λ (e : Written). e.place ≤ to) es →
    (name key : List ℕ) → versions_up_to to (found_in maps name key) ≡ found_in maps name key
all_up_to c to maps [] le journal below name key = settled_up_to c to (found_in maps name key) le (journal name key)
all_up_to c to maps (w ∷ es) le journal below name key =
    go (same_bytes name w.map && same_bytes key w.key) refl
    (all_up_to c to (popped maps w) es le journal.2 below.1 name key)
    (found_in-with maps w.map w.key (without_last (found_in maps w.map w.key)) name key)
  where
    go : (b : Bool) → (same_bytes name w.map && same_bytes key w.key) ≡ b →
        versions_up_to to (found_in (popped maps w) name key) ≡ found_in (popped maps w) name key →
        found_in (popped maps w) name key ≡ (if b then without_last (found_in maps w.map w.key) else found_in maps name key) →
        versions_up_to to (found_in maps name key) ≡ found_in maps name key
    go true is rest now =
        let row = row_is name key w.map w.key is in
        let vs = found_in maps w.map w.key in
        let last = journal.0 in
        let l = has_last vs (let p = last.place in let f = last.fresh in omega (arith, p, f)) in
        let up : is_up_to to l.last ≡ true = (let a = l.place in let b = last.place in let d : w.place ≤ to = below.0 in grind (arith, nat_tests)) in
        let prefix : versions_up_to to (without_last vs) ≡ without_last vs = subst (λ us. versions_up_to to us ≡ us) now rest in
        let one : versions_up_to to (l.last ∷ []) ≡ l.last ∷ [] = rw up refl in
        let all : versions_up_to to vs ≡ vs =
        ap (versions_up_to to) l.split ∙ filter-append (is_up_to to) (without_last vs) (l.last ∷ [])
        ∙ ap (λ us. us ++ versions_up_to to (l.last ∷ [])) prefix ∙ ap (λ us. without_last vs ++ us) one ∙ sym l.split in
        subst (λ us. versions_up_to to us ≡ us) (ap (λ n. found_in maps n w.key) (sym row.0) ∙ ap (found_in maps name) (sym row.1)) all
    go false differ rest now = subst (λ us. versions_up_to to us ≡ us) now rest

-- where the last write is not above a place, none is
pub none_above : (c to : ℕ) (maps : Maps) (es : List Written) → IsJournal c maps es → is_last_above to es ≡ false → AllByRecursion (λ (e : Written). e.place ≤ to) es
none_above c to maps [] journal none = tt
none_above c to maps (w ∷ es) journal none =
    let le : w.place ≤ to = grind (arith, nat_tests, none) in
    (le, at_most w.place to es le journal.1)

pub above_place : (to : ℕ) (w : Written) (es : List Written) → is_last_above to (w ∷ es) ≡ true → to < w.place
above_place to w es is = grind (arith, nat_tests, is)

-- ---- no maps

pub rows_in-empty : (name : List ℕ) → rows_in empty name ≡ empty
rows_in-empty name = ap (λ (o : Option Chains). unwrap_or o empty) (get-empty (slice_cmp nat_cmp) name)

pub found_in-empty : (name key : List ℕ) → found_in empty name key ≡ []
found_in-empty name key = ap (λ (t : Chains). chain_of t key) (rows_in-empty name) ∙ ap (λ (o : Option (List Version)). unwrap_or o []) (get-empty (slice_cmp nat_cmp) key)

pub tidy-empty : IsTidy empty
tidy-empty name key e =
    let none : get (rows_in empty name) key ≡ None = ap (λ (t : Chains). get t key) (rows_in-empty name) ∙ get-empty (slice_cmp nat_cmp) key in
    cc (none, e)

pub journal-empty : (c : ℕ) → IsJournal c empty []
journal-empty c name key = subst (IsSettled c) (sym (found_in-empty name key)) tt

-- ---- a step of a cut

pub can_pop : (c : ℕ) (maps : Maps) (es : List Written) → IsJournal c maps es → CanPop maps es
can_pop c maps [] journal = tt
can_pop c maps (w ∷ es) journal = journal.0

pub record CutsOne (c to : ℕ) (old new : Maps) (es : List Written) : Type 0 where
  pub tidy : IsTidy new
  pub undone : IsJournal c new es
  pub rows : (name key : List ℕ) → versions_up_to to (found_in new name key) ≡ versions_up_to to (found_in old name key)

cuts-one : (c to : ℕ) (maps : Maps) (es : List Written) → IsTidy maps → IsJournal c maps es → is_last_above to es ≡ true → CutsOne c to maps (popped_last maps es) (drop 1 es)
cuts-one c to maps [] tidy journal above = absurd (cc)
cuts-one c to maps (w ∷ es) tidy journal above = record {
  tidy = tidy-versions maps w.map w.key (without_last (found_in maps w.map w.key)) tidy;
  undone = journal.2;
  rows = cut-popped maps w to journal.0 (above_place to w es above);
}

pub cuts-step : (c to : ℕ) (maps new : Maps) (es rest : List Written) → IsTidy maps → IsJournal c maps es → is_last_above to es ≡ true →
    new ≡ popped_last maps es → rest ≡ drop 1 es → CutsOne c to maps new rest
cuts-step c to maps new es rest tidy journal above is left =
    subst (λ (m : Maps). CutsOne c to maps m rest) (sym is) (subst (CutsOne c to maps (popped_last maps es)) (sym left) (cuts-one c to maps es tidy journal above))

pub above-some : (to : ℕ) (es : List Written) → is_last_above to (reverse es) ≡ true → 0 < length es
above-some to [] above = absurd (cc)
above-some to (e ∷ es) above = omega arith

-- ---- freshness from the versions

each_fresh : (maps : Maps) (place : ℕ) (ws : List Write) → ((name key : List ℕ) → last_place (found_in maps name key) < place) → AllByRecursion (λ (y : Write). last_place (found_in maps y.map y.key) < place) ws
each_fresh maps place [] above = tt
each_fresh maps place (w ∷ ws) above = (above w.map w.key, each_fresh maps place ws above)

pub fresh-above : (maps : Maps) (place : ℕ) (ws : List Write) → ((name key : List ℕ) → last_place (found_in maps name key) < place) → is_ordered ws ≡ true → AreFresh maps place ws
fresh-above maps place ws above ordered =
    fresh-ordered maps place ws ordered
    (λ n. newest-below (rows_in maps n) place (λ key. let lt = above n key in omega (arith, lt)))
    (each_fresh maps place ws above)
