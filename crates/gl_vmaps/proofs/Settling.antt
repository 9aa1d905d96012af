-- The first write of a journal settled: its row lets go of what stood before it, and all else stays
-- as it was.
use Rattle.std.proofs.Common.{◌≡◌, ℕ, ◌≤◌, ◌<◌, nat_lt, nat_eq, Bool, true, false, ◌&&◌, ◌||◌, List, [], ◌∷◌, ◌++◌, None, refl, sym, ◌∙◌, ap, subst, if◌then◌else◌, drop, length, reverse, arith}
use Rattle.std.specs.List.{AllByRecursion, last_or, list_any}
use Rattle.std.proofs.lemmas.Bool.Decides.{nat_tests}
use Rattle.std.proofs.lemmas.Grind.{reverse_onto}
use Rattle.gl_vmaps.specs.Tables.{same_bytes}
use Rattle.gl_vmaps.specs.Kept.{last_place, place_or_zero}
use Rattle.gl_vmaps.specs.Standing.{is_up_to, latest_from}
use Rattle.gl_vmaps.specs.Chains.{newest_place, trimmed, Maps, rows_in, found_in, with_versions, without_last}
use Rattle.gl_vmaps.specs.Journal.{popped, IsLast, IsSettled, IsJournal, IsTidy, settled, settled_first, is_first_up_to}
use Rattle.gl_vmaps.specs.declared.journal.Written.{Written}
use Rattle.gl_vmaps.specs.declared.table.Version.{Version}
use Rattle.gl_vmaps.proofs.TablesLaws.{same_bytes-symm}
use Rattle.gl_vmaps.proofs.ChainLaws.{newest-alike, last-trimmed}
use Rattle.gl_vmaps.proofs.MapLaws.{IsProper, found_in-with, proper-versions, tidy-versions, same_found}
use Rattle.gl_vmaps.proofs.VersionLists.{any_either}
use Rattle.gl_vmaps.proofs.JournalLaws.{without_last-take, without_last-pushed, has_last, row_is, itself, found_in-at}

-- ---- versions that let go of the first

trimmed-long : (p : ℕ) (x y : Version) (ys : List Version) → trimmed p (x ∷ y ∷ ys) ≡ (if nat_lt x.place p then y ∷ ys else x ∷ y ∷ ys)
trimmed-long p x y ys = go (nat_lt 1 (length (x ∷ y ∷ ys))) (grind (arith, nat_tests))
  where
    go : (b : Bool) → b ≡ true → (if b && nat_lt x.place p then y ∷ ys else x ∷ y ∷ ys) ≡ (if nat_lt x.place p then y ∷ ys else x ∷ y ∷ ys)
    go true e = refl
    go false e = absurd (cc)

-- the version of a place
abbrev pub is_of : ℕ → Version → Bool
is_of p v = nat_eq v.place p

of_one : (p : ℕ) (v : Version) → list_any (is_of p) (v ∷ []) ≡ true → v.place ≡ p
of_one p v has = go (is_of p v) refl has
  where
    go : (b : Bool) → is_of p v ≡ b → (b || false) ≡ true → v.place ≡ p
    go true is e = grind (arith, nat_tests, is)
    go false is e = absurd (cc)

trimmed-pushed : (p : ℕ) (us : List Version) (v : Version) → list_any (is_of p) us ≡ true → trimmed p (us ++ v ∷ []) ≡ trimmed p us ++ v ∷ []
trimmed-pushed p [] v has = absurd (cc)
trimmed-pushed p (x ∷ []) v has =
    let e : x.place ≡ p = of_one p x has in
    let no : nat_lt x.place p ≡ false = grind (arith, nat_tests) in
    trimmed-long p x v [] ∙ ap (λ (b : Bool). if b then v ∷ [] else x ∷ v ∷ []) no
trimmed-pushed p (x ∷ y ∷ ys) v has =
    trimmed-long p x y (ys ++ v ∷ []) ∙ go (nat_lt x.place p) ∙ ap (λ us. us ++ v ∷ []) (sym (trimmed-long p x y ys))
  where
    go : (b : Bool) → (if b then y ∷ (ys ++ v ∷ []) else x ∷ y ∷ (ys ++ v ∷ [])) ≡ (if b then y ∷ ys else x ∷ y ∷ ys) ++ v ∷ []
    go true = refl
    go false = refl

any_up : (p to : ℕ) (vs : List Version) → p ≤ to → list_any (is_of p) vs ≡ true → list_any (is_up_to to) vs ≡ true
any_up p to [] le has = absurd (cc)
any_up p to (v ∷ vs) le has = go (is_of p v) (is_up_to to v) refl refl (λ e. any_up p to vs le e) has
  where
    go : (a b : Bool) → is_of p v ≡ a → is_up_to to v ≡ b → (list_any (is_of p) vs ≡ true → list_any (is_up_to to) vs ≡ true) →
        (a || list_any (is_of p) vs) ≡ true → (b || list_any (is_up_to to) vs) ≡ true
    go a true is up rest either = refl
    go true false is up rest either = let e : v.place ≡ p = grind (arith, nat_tests, is) in let yes : is_up_to to v ≡ true = grind (arith, nat_tests) in absurd (cc)
    go false false is up rest either = rest either

-- what is let go is hidden by the version of the place
latest-trimmed : (p to : ℕ) (vs : List Version) → p ≤ to → list_any (is_of p) vs ≡ true → latest_from to (trimmed p vs) ≡ latest_from to vs
latest-trimmed p to [] le has = refl
latest-trimmed p to (v ∷ []) le has = refl
latest-trimmed p to (v ∷ w ∷ ws) le has = ap (latest_from to) (trimmed-long p v w ws) ∙ go (nat_lt v.place p) refl
  where
    go : (b : Bool) → nat_lt v.place p ≡ b → latest_from to (if b then w ∷ ws else v ∷ w ∷ ws) ≡ latest_from to (v ∷ w ∷ ws)
    go true lt =
        let up : is_up_to to v ≡ true = grind (arith, nat_tests, lt) in
        let not : is_of p v ≡ false = grind (arith, nat_tests, lt) in
        let others : list_any (is_of p) (w ∷ ws) ≡ true = ap (λ b. b || list_any (is_of p) (w ∷ ws)) (sym not) ∙ has in
        let any : list_any (is_up_to to) (w ∷ ws) ≡ true = any_up p to (w ∷ ws) le others in
        sym (ap (λ b. if b && list_any (is_up_to to) (w ∷ ws) then latest_from to (w ∷ ws) else v ∷ latest_from to (w ∷ ws)) up
        ∙ ap (λ b. if b then latest_from to (w ∷ ws) else v ∷ latest_from to (w ∷ ws)) any)
    go false ge = refl

settled-trimmed : (c d p : ℕ) (vs : List Version) → last_place vs ≡ p → last_place (without_last vs) < p → p ≤ d → IsSettled c (without_last vs) → IsSettled d (trimmed p vs)
settled-trimmed c d p [] place fresh le settled = absurd (omega arith)
settled-trimmed c d p (v ∷ []) place fresh le settled = omega (arith, place)
settled-trimmed c d p (v ∷ w ∷ []) place fresh le settled =
    let lt : nat_lt v.place p ≡ true = grind (arith, nat_tests, fresh) in
    subst (IsSettled d) (sym (trimmed-long p v w [] ∙ ap (λ (b : Bool). if b then w ∷ [] else v ∷ w ∷ []) lt)) (omega (arith, place))
settled-trimmed c d p (v ∷ w ∷ u ∷ us) place fresh le settled = absurd (subst (IsSettled c) (without_last-take v (w ∷ u ∷ us)) settled)

-- ---- the first write is among its row's versions

pub has_first : (c : ℕ) (maps : Maps) (es : List Written) (w : Written) → IsJournal c maps (es ++ w ∷ []) → list_any (is_of w.place) (found_in maps w.map w.key) ≡ true
has_first c maps [] w journal =
    let last = journal.0 in
    let vs = found_in maps w.map w.key in
    let l = has_last vs (let a = last.place in let b = last.fresh in omega (arith, a, b)) in
    let of : is_of w.place l.last ≡ true = (let a = l.place in let b = last.place in grind (arith, nat_tests)) in
    ap (list_any (is_of w.place)) l.split ∙ any_either (is_of w.place) (without_last vs) (l.last ∷ [])
    ∙ ap (λ b. list_any (is_of w.place) (without_last vs) || (b || false)) of ∙ or_true (list_any (is_of w.place) (without_last vs))
  where
    or_true : (b : Bool) → (b || true) ≡ true
    or_true true = refl
    or_true false = refl
has_first c maps (e ∷ es) w journal =
    go (same_bytes w.map e.map && same_bytes w.key e.key) refl
    (ap (list_any (is_of w.place)) (sym (found_in-with maps e.map e.key (without_last (found_in maps e.map e.key)) w.map w.key)) ∙ has_first c (popped maps e) es w journal.2)
  where
    prefix : (a b : Bool) → a ≡ true → (a || b) ≡ true
    prefix true b is = refl
    prefix false b is = cc

    go : (b : Bool) → (same_bytes w.map e.map && same_bytes w.key e.key) ≡ b →
        list_any (is_of w.place) (if b then without_last (found_in maps e.map e.key) else found_in maps w.map w.key) ≡ true →
        list_any (is_of w.place) (found_in maps w.map w.key) ≡ true
    go true is has =
        let row = row_is w.map w.key e.map e.key is in
        let vs = found_in maps e.map e.key in
        let last = journal.0 in
        let l = has_last vs (let a = last.place in let b = last.fresh in omega (arith, a, b)) in
        ap (list_any (is_of w.place)) (ap (λ n. found_in maps n w.key) row.0 ∙ ap (found_in maps e.map) row.1 ∙ l.split)
        ∙ any_either (is_of w.place) (without_last vs) (l.last ∷ [])
        ∙ prefix (list_any (is_of w.place) (without_last vs)) (list_any (is_of w.place) (l.last ∷ [])) has
    go false differ has = has

-- ---- changes of rows, one after another

over_again : (maps : Maps) (m key : List ℕ) (us vs : List Version) → IsProper maps → IsTidy maps → with_versions (with_versions maps m key us) m key vs ≡ with_versions maps m key vs
over_again maps m key us vs proper tidy =
    let once = with_versions maps m key us in
    same_found (with_versions once m key vs) (with_versions maps m key vs)
    (proper-versions once m key vs (proper-versions maps m key us proper)) (proper-versions maps m key vs proper)
    (tidy-versions once m key vs (tidy-versions maps m key us tidy)) (tidy-versions maps m key vs tidy)
    (λ n k. found_in-with once m key vs n k
    ∙ ap (λ ws. if same_bytes n m && same_bytes k key then vs else ws) (found_in-with maps m key us n k)
    ∙ go (same_bytes n m && same_bytes k key) (found_in maps n k)
    ∙ sym (found_in-with maps m key vs n k))
  where
    go : (b : Bool) (ws : List Version) → (if b then vs else (if b then us else ws)) ≡ (if b then vs else ws)
    go true ws = refl
    go false ws = refl

other_way : (maps : Maps) (m key n k : List ℕ) (us vs : List Version) → IsProper maps → IsTidy maps → (same_bytes m n && same_bytes key k) ≡ false →
    with_versions (with_versions maps m key us) n k vs ≡ with_versions (with_versions maps n k vs) m key us
other_way maps m key n k us vs proper tidy differ =
    let a = with_versions maps m key us in
    let b = with_versions maps n k vs in
    same_found (with_versions a n k vs) (with_versions b m key us)
    (proper-versions a n k vs (proper-versions maps m key us proper)) (proper-versions b m key us (proper-versions maps n k vs proper))
    (tidy-versions a n k vs (tidy-versions maps m key us tidy)) (tidy-versions b m key us (tidy-versions maps n k vs tidy))
    (λ x y. found_in-with a n k vs x y
    ∙ ap (λ ws. if same_bytes x n && same_bytes y k then vs else ws) (found_in-with maps m key us x y)
    ∙ go x y (same_bytes x n && same_bytes y k) (same_bytes x m && same_bytes y key) refl refl
    ∙ ap (λ ws. if same_bytes x m && same_bytes y key then us else ws) (sym (found_in-with maps n k vs x y))
    ∙ sym (found_in-with b m key us x y))
  where
    go : (x y : List ℕ) (p q : Bool) → (same_bytes x n && same_bytes y k) ≡ p → (same_bytes x m && same_bytes y key) ≡ q →
        (if p then vs else (if q then us else found_in maps x y)) ≡ (if q then us else (if p then vs else found_in maps x y))
    go x y true true is at =
        let one = row_is x y n k is in
        let two = row_is x y m key at in
        let same : (same_bytes m n && same_bytes key k) ≡ true =
        ap (λ a. same_bytes a n && same_bytes key k) (sym two.0 ∙ one.0) ∙ ap (λ a. same_bytes n n && same_bytes a k) (sym two.1 ∙ one.1) ∙ itself n k in
        absurd (cc)
    go x y true false is at = refl
    go x y false true is at = refl
    go x y false false is at = refl

-- ---- the first write settled

pub settled-last : (maps : Maps) (w : Written) (name key : List ℕ) → last_or None (found_in (settled maps w) name key) ≡ last_or None (found_in maps name key)
settled-last maps w name key =
    ap (last_or None) (found_in-with maps w.map w.key (trimmed w.place (found_in maps w.map w.key)) name key) ∙ go (same_bytes name w.map && same_bytes key w.key) refl
  where
    go : (b : Bool) → (same_bytes name w.map && same_bytes key w.key) ≡ b →
        last_or None (if b then trimmed w.place (found_in maps w.map w.key) else found_in maps name key) ≡ last_or None (found_in maps name key)
    go true is =
        let row = row_is name key w.map w.key is in
        last-trimmed w.place (found_in maps w.map w.key) ∙ ap (λ n. last_or None (found_in maps n w.key)) (sym row.0) ∙ ap (λ k. last_or None (found_in maps name k)) (sym row.1)
    go false differ = refl

settled-at : (maps : Maps) (w : Written) (m key : List ℕ) → w.map ≡ m → w.key ≡ key → settled maps w ≡ with_versions maps m key (trimmed w.place (found_in maps m key))
settled-at maps w m key to_map to_key =
    ap (λ n. with_versions maps n w.key (trimmed w.place (found_in maps n w.key))) to_map
    ∙ ap (λ k. with_versions maps m k (trimmed w.place (found_in maps m k))) to_key

-- to take back the last write and to settle the first make no difference to each other
commute : (c : ℕ) (maps : Maps) (e : Written) (es : List Written) (w : Written) → IsProper maps → IsTidy maps → IsJournal c maps (e ∷ es ++ w ∷ []) →
    popped (settled maps w) e ≡ settled (popped maps e) w
commute c maps e es w proper tidy journal = go (same_bytes w.map e.map && same_bytes w.key e.key) refl
  where
    go : (b : Bool) → (same_bytes w.map e.map && same_bytes w.key e.key) ≡ b → popped (settled maps w) e ≡ settled (popped maps e) w
    go true is =
        let row = row_is w.map w.key e.map e.key is in
        let p = w.place in
        let vs = found_in maps e.map e.key in
        let us = without_last vs in
        let once = with_versions maps e.map e.key (trimmed p vs) in
        let last = journal.0 in
        let l = has_last vs (let a = last.place in let b = last.fresh in omega (arith, a, b)) in
        let left : found_in (popped maps e) e.map e.key ≡ us = found_in-at maps e.map e.key us in
        let has : list_any (is_of p) us ≡ true =
        ap (list_any (is_of p)) (sym left ∙ ap (λ n. found_in (popped maps e) n e.key) (sym row.0) ∙ ap (found_in (popped maps e) w.map) (sym row.1))
        ∙ has_first c (popped maps e) es w journal.2 in
        let trims : without_last (trimmed p vs) ≡ trimmed p us =
        ap (λ ws. without_last (trimmed p ws)) l.split ∙ ap without_last (trimmed-pushed p us l.last has) ∙ without_last-pushed (trimmed p us) l.last in
        ap (λ (t : Maps). popped t e) (settled-at maps w e.map e.key row.0 row.1)
        ∙ ap (λ ws. with_versions once e.map e.key (without_last ws)) (found_in-at maps e.map e.key (trimmed p vs))
        ∙ over_again maps e.map e.key (trimmed p vs) (without_last (trimmed p vs)) proper tidy
        ∙ ap (with_versions maps e.map e.key) trims
        ∙ sym (over_again maps e.map e.key us (trimmed p us) proper tidy)
        ∙ ap (λ ws. with_versions (popped maps e) e.map e.key (trimmed p ws)) (sym left)
        ∙ sym (settled-at (popped maps e) w e.map e.key row.0 row.1)
    go false differ =
        let p = w.place in
        let us = without_last (found_in maps e.map e.key) in
        let trim = trimmed p (found_in maps w.map w.key) in
        let back : (same_bytes e.map w.map && same_bytes e.key w.key) ≡ false =
        ap (λ b. b && same_bytes e.key w.key) (same_bytes-symm e.map w.map) ∙ ap (λ b. same_bytes w.map e.map && b) (same_bytes-symm e.key w.key) ∙ differ in
        let same : found_in (settled maps w) e.map e.key ≡ found_in maps e.map e.key =
        found_in-with maps w.map w.key trim e.map e.key ∙ ap (λ (b : Bool). if b then trim else found_in maps e.map e.key) back in
        let kept : found_in (popped maps e) w.map w.key ≡ found_in maps w.map w.key =
        found_in-with maps e.map e.key us w.map w.key ∙ ap (λ (b : Bool). if b then us else found_in maps w.map w.key) differ in
        ap (λ ws. with_versions (settled maps w) e.map e.key (without_last ws)) same
        ∙ other_way maps w.map w.key e.map e.key trim us proper tidy differ
        ∙ ap (λ ws. with_versions (popped maps e) w.map w.key (trimmed p ws)) (sym kept)

settled_later : (c d : ℕ) (vs : List Version) → c ≤ d → IsSettled c vs → IsSettled d vs
settled_later c d [] le settled = tt
settled_later c d (v ∷ []) le settled = let here : v.place ≤ c = settled in omega (arith, here)
settled_later c d (v ∷ w ∷ vs) le settled = absurd settled

pub journal-later : (c d : ℕ) (maps : Maps) (es : List Written) → c ≤ d → IsJournal c maps es → IsJournal d maps es
journal-later c d maps [] le journal = λ name key. settled_later c d (found_in maps name key) le (journal name key)
journal-later c d maps (e ∷ es) le journal = (journal.0, journal.1, journal-later c d (popped maps e) es le journal.2)

all_prefix : (n : ℕ) (es : List Written) (w : Written) → AllByRecursion (λ (e : Written). e.place ≤ n) (es ++ w ∷ []) → AllByRecursion (λ (e : Written). e.place ≤ n) es
all_prefix n [] w all = tt
all_prefix n (e ∷ es) w all = (all.0, all_prefix n es w all.1)

last_in : (n : ℕ) (es : List Written) (w : Written) → AllByRecursion (λ (e : Written). e.place ≤ n) (es ++ w ∷ []) → w.place ≤ n
last_in n [] w all = all.0
last_in n (e ∷ es) w all = last_in n es w all.1

-- a write is the last one as before
still_last : (c : ℕ) (maps : Maps) (e : Written) (es : List Written) (w : Written) → IsProper maps → IsTidy maps → IsJournal c maps (e ∷ es ++ w ∷ []) → IsLast (settled maps w) e
still_last c maps e es w proper tidy journal =
    let last = journal.0 in
    let both = commute c maps e es w proper tidy journal in
    let before = found_in maps e.map e.key in
    let now = found_in (settled maps w) e.map e.key in
    let prefix : last_place (without_last now) ≡ last_place (without_last before) =
    ap last_place (sym (found_in-at (settled maps w) e.map e.key (without_last now)))
    ∙ ap (λ (t : Maps). last_place (found_in t e.map e.key)) both
    ∙ ap place_or_zero (settled-last (popped maps e) w e.map e.key)
    ∙ ap last_place (found_in-at maps e.map e.key (without_last before)) in
    record {
      place = ap place_or_zero (settled-last maps w e.map e.key) ∙ last.place;
      fresh = subst (λ n. n < e.place) (sym prefix) last.fresh;
      before = last.before
          ∙ sym (ap (λ (t : Maps). newest_place (rows_in t e.map)) both
          ∙ newest-alike (rows_in (settled (popped maps e) w) e.map) (rows_in (popped maps e) e.map) (λ key. ap place_or_zero (settled-last (popped maps e) w e.map key)));
    }

pub settle : (c d : ℕ) (maps : Maps) (es : List Written) (w : Written) → IsProper maps → IsTidy maps → c ≤ d → w.place ≤ d → IsJournal c maps (es ++ w ∷ []) → IsJournal d (settled maps w) es
settle c d maps [] w proper tidy le within journal = λ name key.
    subst (IsSettled d) (sym (found_in-with maps w.map w.key (trimmed w.place (found_in maps w.map w.key)) name key)) (go name key (same_bytes name w.map && same_bytes key w.key) refl)
  where
    go : (name key : List ℕ) (b : Bool) → (same_bytes name w.map && same_bytes key w.key) ≡ b → IsSettled d (if b then trimmed w.place (found_in maps w.map w.key) else found_in maps name key)
    go name key true is =
        let last = journal.0 in
        let vs = found_in maps w.map w.key in
        settled-trimmed c d w.place vs last.place last.fresh within (subst (IsSettled c) (found_in-at maps w.map w.key (without_last vs)) (journal.2 w.map w.key))
    go name key false differ =
        let us = without_last (found_in maps w.map w.key) in
        let same : found_in (popped maps w) name key ≡ found_in maps name key =
        found_in-with maps w.map w.key us name key ∙ ap (λ (b : Bool). if b then us else found_in maps name key) differ in
        settled_later c d (found_in maps name key) le (subst (IsSettled c) same (journal.2 name key))
settle c d maps (e ∷ es) w proper tidy le within journal =
    let us = without_last (found_in maps e.map e.key) in (
      still_last c maps e es w proper tidy journal,
      all_prefix e.place es w journal.1,
      subst (λ (t : Maps). IsJournal d t es) (sym (commute c maps e es w proper tidy journal))
          (settle c d (popped maps e) es w (proper-versions maps e.map e.key us proper) (tidy-versions maps e.map e.key us tidy) le within journal.2),
    )

-- what is let go is not among the latest
latest-settled : (c to : ℕ) (maps : Maps) (es : List Written) (w : Written) → w.place ≤ to → IsJournal c maps (es ++ w ∷ []) → (name key : List ℕ) →
    latest_from to (found_in (settled maps w) name key) ≡ latest_from to (found_in maps name key)
latest-settled c to maps es w le journal name key =
    ap (latest_from to) (found_in-with maps w.map w.key (trimmed w.place (found_in maps w.map w.key)) name key) ∙ go (same_bytes name w.map && same_bytes key w.key) refl
  where
    go : (b : Bool) → (same_bytes name w.map && same_bytes key w.key) ≡ b →
        latest_from to (if b then trimmed w.place (found_in maps w.map w.key) else found_in maps name key) ≡ latest_from to (found_in maps name key)
    go true is =
        let row = row_is name key w.map w.key is in
        latest-trimmed w.place to (found_in maps w.map w.key) le (has_first c maps es w journal)
        ∙ ap (λ n. latest_from to (found_in maps n w.key)) (sym row.0) ∙ ap (λ k. latest_from to (found_in maps name k)) (sym row.1)
    go false differ = refl

-- ---- a step of a compaction, and its end

pub record SettlesOne (d to : ℕ) (old new : Maps) (js : List Written) : Type 0 where
  pub tidy : IsTidy new
  pub undone : IsJournal d new (reverse js)
  pub rows : (name key : List ℕ) → latest_from to (found_in new name key) ≡ latest_from to (found_in old name key)

settles-one : (d to : ℕ) (maps : Maps) (js : List Written) → IsProper maps → IsTidy maps → to ≤ d → IsJournal d maps (reverse js) → is_first_up_to to js ≡ true →
    SettlesOne d to maps (settled_first maps js) (drop 1 js)
settles-one d to maps [] proper tidy le journal first = absurd (cc)
settles-one d to maps (w ∷ js) proper tidy le journal first =
    let up : w.place ≤ to = grind (arith, nat_tests, first) in
    let split : IsJournal d maps (reverse js ++ w ∷ []) = subst (IsJournal d maps) (reverse_onto js w []) journal in
    record {
      tidy = tidy-versions maps w.map w.key (trimmed w.place (found_in maps w.map w.key)) tidy;
      undone = settle d d maps (reverse js) w proper tidy (omega arith) (omega (arith, up)) split;
      rows = latest-settled d to maps (reverse js) w up split;
    }

pub settles-step : (d to : ℕ) (maps new : Maps) (js left : List Written) → IsProper maps → IsTidy maps → to ≤ d → IsJournal d maps (reverse js) → is_first_up_to to js ≡ true →
    new ≡ settled_first maps js → left ≡ drop 1 js → SettlesOne d to maps new left
settles-step d to maps new js left proper tidy le journal first is rest =
    subst (λ (m : Maps). SettlesOne d to maps m left) (sym is) (subst (SettlesOne d to maps (settled_first maps js)) (sym rest) (settles-one d to maps js proper tidy le journal first))

pub first-some : (to : ℕ) (js : List Written) → is_first_up_to to js ≡ true → 0 < length js
first-some to [] first = absurd (cc)
first-some to (w ∷ js) first = omega arith

latest-over : (to : ℕ) (us : List Version) (l : Version) → is_up_to to l ≡ false → latest_from to (us ++ l ∷ []) ≡ latest_from to us ++ l ∷ []
latest-over to [] l over = ap (λ (b : Bool). if b && false then [] else l ∷ []) over
latest-over to (u ∷ us) l over =
    let any : list_any (is_up_to to) (us ++ l ∷ []) ≡ list_any (is_up_to to) us =
    any_either (is_up_to to) us (l ∷ []) ∙ ap (λ b. list_any (is_up_to to) us || (b || false)) over ∙ or_false (list_any (is_up_to to) us) in
    ap (λ (b : Bool). if is_up_to to u && b then latest_from to (us ++ l ∷ []) else u ∷ latest_from to (us ++ l ∷ [])) any
    ∙ go (is_up_to to u && list_any (is_up_to to) us) (latest-over to us l over)
  where
    or_false : (b : Bool) → (b || (false || false)) ≡ b
    or_false true = refl
    or_false false = refl

    go : (b : Bool) → latest_from to (us ++ l ∷ []) ≡ latest_from to us ++ l ∷ [] →
        (if b then latest_from to (us ++ l ∷ []) else u ∷ latest_from to (us ++ l ∷ [])) ≡ (if b then latest_from to us else u ∷ latest_from to us) ++ l ∷ []
    go true rest = rest
    go false rest = ap (λ vs. u ∷ vs) rest

latest_settled : (c to : ℕ) (vs : List Version) → IsSettled c vs → latest_from to vs ≡ vs
latest_settled c to [] settled = refl
latest_settled c to (v ∷ []) settled = go (is_up_to to v)
  where
    go : (b : Bool) → (if b && false then [] else v ∷ []) ≡ v ∷ []
    go true = refl
    go false = refl
latest_settled c to (v ∷ w ∷ vs) settled = absurd settled

-- where all writes are above a place, nothing is to be let go
pub nothing_left : (c to : ℕ) (maps : Maps) (es : List Written) → IsJournal c maps es → AllByRecursion (λ (e : Written). to < e.place) es → (name key : List ℕ) →
    latest_from to (found_in maps name key) ≡ found_in maps name key
nothing_left c to maps [] journal above name key = latest_settled c to (found_in maps name key) (journal name key)
nothing_left c to maps (e ∷ es) journal above name key =
    go (same_bytes name e.map && same_bytes key e.key) refl
    (nothing_left c to (popped maps e) es journal.2 above.1 name key)
    (found_in-with maps e.map e.key (without_last (found_in maps e.map e.key)) name key)
  where
    go : (b : Bool) → (same_bytes name e.map && same_bytes key e.key) ≡ b →
        latest_from to (found_in (popped maps e) name key) ≡ found_in (popped maps e) name key →
        found_in (popped maps e) name key ≡ (if b then without_last (found_in maps e.map e.key) else found_in maps name key) →
        latest_from to (found_in maps name key) ≡ found_in maps name key
    go true is rest now =
        let row = row_is name key e.map e.key is in
        let vs = found_in maps e.map e.key in
        let last = journal.0 in
        let l = has_last vs (let p = last.place in let f = last.fresh in omega (arith, p, f)) in
        let over : is_up_to to l.last ≡ false = (let a = l.place in let b = last.place in let d : to < e.place = above.0 in grind (arith, nat_tests)) in
        let prefix : latest_from to (without_last vs) ≡ without_last vs = subst (λ us. latest_from to us ≡ us) now rest in
        let all : latest_from to vs ≡ vs =
        ap (latest_from to) l.split ∙ latest-over to (without_last vs) l.last over ∙ ap (λ us. us ++ l.last ∷ []) prefix ∙ sym l.split in
        subst (λ us. latest_from to us ≡ us) (ap (λ n. found_in maps n e.key) (sym row.0) ∙ ap (found_in maps name) (sym row.1)) all
    go false differ rest now = subst (λ us. latest_from to us ≡ us) now rest

all_over : (c to : ℕ) (maps : Maps) (es : List Written) (w : Written) → IsJournal c maps (es ++ w ∷ []) → to < w.place → AllByRecursion (λ (e : Written). to < e.place) (es ++ w ∷ [])
all_over c to maps [] w journal lt = (lt, tt)
all_over c to maps (e ∷ es) w journal lt =
    let le = last_in e.place es w journal.1 in
    (omega (arith, le, lt), all_over c to (popped maps e) es w journal.2 lt)

pub all_above : (c to : ℕ) (maps : Maps) (js : List Written) → IsJournal c maps (reverse js) → is_first_up_to to js ≡ false → AllByRecursion (λ (e : Written). to < e.place) (reverse js)
all_above c to maps [] journal first = tt
all_above c to maps (w ∷ js) journal first =
    let lt : to < w.place = grind (arith, nat_tests, first) in
    subst (AllByRecursion (λ (e : Written). to < e.place)) (sym (reverse_onto js w []))
    (all_over c to maps (reverse js) w (subst (IsJournal c maps) (reverse_onto js w []) journal) lt)
