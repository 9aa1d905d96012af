-- The lists that are kept beside a ledger with a base are those of the entries that stand behind the
-- body of its snapshot: at its beginning, with one more entry, and where it is cut.
use Rattle.std.proofs.Common.{◌≡◌, ℕ, zero, suc, ◌≤◌, ◌<◌, ◌+◌, ◌-◌, nat_le, List, [], ◌∷◌, ◌++◌, length, take, take_all, Option, None, Some, Result, Ok, Err, OnOk, OnErr, true, if◌then◌else◌, ◌==◌, refl, sym, ap, ap₂, subst, ◌∙◌, arith, length-append}
use Rattle.std.specs.Result.{result_ok}
use Rattle.std.proofs.lemmas.Bool.{and_parts}
use Rattle.std.proofs.lemmas.Bool.Decides.{nat_tests}
use Rattle.std.proofs.lemmas.List.{append-nil, length-take-le}
use Rattle.gl_base.specs.TxId.{last_seqno}
use Rattle.gl_base.proofs.Lists.{take-push, take-all}
use Rattle.gl_entry.specs.declared.entry.Content.{Content}
use Rattle.gl_entry.specs.declared.entry.Content.TheVariants as content
use Rattle.gl_entry.specs.declared.entry.Entry.{Entry}
use Rattle.gl_gov_rules.specs.declared.change.Recorded.{Recorded}
use Rattle.gl_gov_rules.specs.declared.row.GovernedRows.{GovernedRows}
use Rattle.gl_gov_rules.specs.Governed.{up_to}
use Rattle.gl_gov_rules.specs.GovernedRows.{IsBelow, governed_rows}
use Rattle.gl_gov_base.proofs.RequestsOver.{seqno_read}
use Rattle.gl_snapshot_body.specs.Body.{body_bytes, is_body, is_counted, no_body}
use Rattle.gl_snapshot_body.specs.declared.body.Body.{Body}
use Rattle.gl_snapshot_body.proofs.BodyLaws.{parts_of, shape-read}
use Rattle.gl_ledger.specs.Audit.{audited_over}
use Rattle.gl_ledger.specs.Broken.{broken_over}
use Rattle.gl_ledger.specs.Behind.{IsReadAt, IsReadBody}
use Rattle.gl_ledger.specs.NodeKeys.{service_layers}
use Rattle.gl_ledger.specs.Recordings.{recorded_in}
use Rattle.gl_ledger.specs.Snapshot.{governed_base, requests_over}
use Rattle.gl_audit.specs.GovState.{Governed, governed_up_to, ungoverned}
use Rattle.gl_audit.proofs.Cutting.{requests_over-take}
use Rattle.gl_audit.proofs.GovernanceBehind.{governed_over, read_in_order, rows_above, spelled_read}
use Rattle.gl_audit.proofs.SnapshotOver.{requests_over-push}
use Rattle.gl_store.specs.Tail.{Becomes, ForBodies, StandsBehind, Tail}
use Rattle.gl_store.proofs.Tails.{base_is, same_base}
use Rattle.gl_store_book.specs.BasedLedgers.{BasedLedger, IsEncoded, base_of, body_encoded, body_of, body_read, governed_of, with_entries}
use Rattle.gl_store_book.specs.Lists.{AreListsBefore, AreListsOf, IsBookLedger, StandBehind, configurations_behind}
use Rattle.gl_store_book.specs.Taken.{IsNoGovernance}
use Rattle.gl_store_book.specs.declared.node_lists.NodeLists.{NodeLists}
use Rattle.gl_store_book.proofs.Growing.{listed_quiet}

-- ---- requests of entries behind a body

-- Its rows of governance, and the requests of the entries.
abbrev pub governed_behind : Body → List Entry → Governed
governed_behind body es = record { base = governed_base body; requests = requests_over body es }

-- those up to a seqno are those of the first entries
pub behind_take : (body : Body) (es : List Entry) (to : ℕ) → body.base ≤ to → governed_up_to to (governed_behind body es) ≡ governed_behind body (take (to - body.base) es)
behind_take body es to low = ap (λ (rs : List Recorded). record { base = governed_base body; requests = rs }) (sym (requests_over-take body es to low))

-- those before the last one are those of the others
pub behind_before : (body : Body) (es : List Entry) (e : Entry) → governed_up_to (body.base + length es) (governed_behind body (es ++ e ∷ [])) ≡ governed_behind body es
behind_before body es e =
    let here : body.base + length es - body.base ≡ length es = omega arith in
    behind_take body (es ++ e ∷ []) (body.base + length es) (omega arith)
    ∙ ap (governed_behind body) (ap (λ (n : ℕ). take n (es ++ e ∷ [])) here ∙ take-push es e (length es) (omega arith) ∙ take-all es)

-- an entry that is none of governance adds none
pub behind_quiet : (body : Body) (es : List Entry) (e : Entry) → IsNoGovernance e.content → governed_behind body (es ++ e ∷ []) ≡ governed_behind body es
behind_quiet body es e quiet =
    ap (λ (rs : List Recorded). record { base = governed_base body; requests = rs })
    (requests_over-push body es e ∙ ap (λ (rs : List Recorded). requests_over body es ++ rs) (nothing e.content quiet) ∙ append-nil (requests_over body es))
  where
    nothing : (c : Content) → IsNoGovernance c → recorded_in (body.base + length es + 1) c ≡ []
    nothing (content.Governance bytes) n = absurd n
    nothing (content.Application bytes) n = refl
    nothing (content.Signature s) n = refl
    nothing (content.Evidence d) n = refl

-- the rows of governance of a body are not above its base
below_base : (body : Body) → IsReadBody body → IsBelow (governed_base body) body.base
below_base body read = go body.base refl read
  where
    go : (n : ℕ) → body.base ≡ n → IsReadAt n body → IsBelow (governed_base body) body.base
    go zero is none = subst (λ (b : Body). IsBelow (governed_base b) b.base) (sym none) tt
    go (suc n) is b =
        let own = seqno_read body.base body.rows b.rows b.spelled in
        subst (λ (o : Option GovernedRows). IsBelow o body.base) (sym (rows_above body b.rows (omega (arith, is)) b.spelled)) (omega (arith, own))

no_rows : (body : Body) → body.base ≡ 0 → governed_base body ≡ None
no_rows body none = ap (λ (n : ℕ). if n == 0 then None else result_ok (governed_rows n body.rows)) none

-- they stand behind the base
pub stand_over : (body : Body) (es : List Entry) → IsReadBody body → audited_over service_layers body es ≡ None → StandBehind body.base (governed_behind body es) (length es)
stand_over body es read valid =
    let none : body.base - body.base ≡ 0 = omega arith in
    let all : body.base + length es - body.base ≡ length es = omega arith in
    record {
      unfounded = no_rows body;
      below = below_base body read;
      governed = record { read = read_in_order body read; accepted = governed_over service_layers body es (spelled_read body read) valid };
      behind = sym (requests_over-take body es body.base (omega arith)) ∙ ap (λ (n : ℕ). requests_over body (take n es)) none;
      within = sym (requests_over-take body es (body.base + length es) (omega arith)) ∙ ap (requests_over body) (ap (λ (n : ℕ). take n es) all ∙ take-all es);
    }

-- ---- a tail

module _ (body : Body) (t : Tail) (stands : StandsBehind body t) where
  pub stand_tail : StandBehind body.base t.state.gov (length t.entries)
  stand_tail = subst (λ (g : Governed). StandBehind body.base g (length t.entries)) (sym stands.stands.governed) (stand_over body t.entries stands.stands.read stands.stands.valid)

  -- by the base that the tail tells
  pub stand_end : StandBehind t.base_end.len t.state.gov (length t.entries)
  stand_end = subst (λ (n : ℕ). StandBehind n t.state.gov (length t.entries)) (sym (base_is body t stands)) stand_tail

  -- the lists of a tail are those of the body and its entries
  pub lists_of_body : (lists : NodeLists) → AreListsOf t.base_end.len t.state.gov (length t.entries) lists → AreListsOf body.base (governed_behind body t.entries) (length t.entries) lists
  lists_of_body lists are =
      subst (λ (g : Governed). AreListsOf body.base g (length t.entries) lists) stands.stands.governed
      (subst (λ (n : ℕ). AreListsOf n t.state.gov (length t.entries) lists) (base_is body t stands) are)

  pub lists_of_tail : (es : List Entry) (lists : NodeLists) → t.entries ≡ es → AreListsOf body.base (governed_behind body es) (length es) lists → AreListsOf t.base_end.len t.state.gov (length t.entries) lists
  lists_of_tail es lists is are =
      subst (λ (n : ℕ). AreListsOf n t.state.gov (length t.entries) lists) (sym (base_is body t stands))
      (subst (λ (g : Governed). AreListsOf body.base g (length t.entries) lists) (sym stands.stands.governed)
      (subst (λ (xs : List Entry). AreListsOf body.base (governed_behind body xs) (length xs) lists) (sym is) are))

  -- no entries come to no requests
  pub none_requested : t.entries ≡ [] → t.state.gov.requests ≡ []
  none_requested none = ap (λ (g : Governed). g.requests) stands.stands.governed ∙ ap (requests_over body) none

-- ---- a ledger and its lists

long_push : (es : List Entry) (e : Entry) → length (es ++ e ∷ []) ≡ suc (length es)
long_push es e = let l = length-append es (e ∷ []) in omega (arith, l)

module _ (s : Option (List ℕ)) where
  -- a tail whose entries are these, with their lists
  pub book_ledger : (t : Tail) (es : List Entry) (lists : NodeLists) → IsEncoded s → StandsBehind (body_of s) t → t.entries ≡ es →
      AreListsOf (body_of s).base (governed_behind (body_of s) es) (length es) lists → IsBookLedger s t lists
  book_ledger t es lists spelled stands is are = record { spelled = spelled; stands = stands; listed = lists_of_tail (body_of s) t stands es lists is are }

  module _ (old : Tail) (lists : NodeLists) (k : IsBookLedger s old lists) where
    are_behind : AreListsOf (body_of s).base (governed_behind (body_of s) old.entries) (length old.entries) lists
    are_behind = lists_of_body (body_of s) old k.stands lists k.listed

    -- with an entry that is none of governance the lists stay
    pub kept_quiet : (new : Tail) (e : Entry) → IsNoGovernance e.content → new.entries ≡ old.entries ++ e ∷ [] → StandsBehind (body_of s) new → IsBookLedger s new lists
    kept_quiet new e quiet more stands =
        let b : Body = body_of s in
        let g : Governed = governed_behind b old.entries in
        let within : up_to (b.base + length old.entries) g.requests ≡ g.requests = (stand_over b old.entries k.stands.stands.read k.stands.stands.valid).within in
        let next : AreListsOf b.base g (suc (length old.entries)) lists = listed_quiet b.base (length old.entries) g lists within are_behind in
        let same : AreListsOf b.base (governed_behind b (old.entries ++ e ∷ [])) (suc (length old.entries)) lists =
        subst (λ (x : Governed). AreListsOf b.base x (suc (length old.entries)) lists) (sym (behind_quiet b old.entries e quiet)) next in
        book_ledger new (old.entries ++ e ∷ []) lists k.spelled stands more
        (subst (λ (n : ℕ). AreListsOf b.base (governed_behind b (old.entries ++ e ∷ [])) n lists) (sym (long_push old.entries e)) same)

    -- whichever entry comes they are those before it
    pub before_last : (new : Tail) (e : Entry) → new.entries ≡ old.entries ++ e ∷ [] → StandsBehind (body_of s) new →
        (body : Body) × StandsBehind body new × (n : ℕ) × (length new.entries ≡ suc n) × AreListsOf body.base (governed_up_to (body.base + n) new.state.gov) n lists
    before_last new e more stands =
        let b : Body = body_of s in
        let g : governed_up_to (b.base + length old.entries) new.state.gov ≡ governed_behind b old.entries =
        ap (governed_up_to (b.base + length old.entries)) (stands.stands.governed ∙ ap (governed_behind b) more) ∙ behind_before b old.entries e in (
          b,
          stands,
          length old.entries,
          ap (λ (xs : List Entry). length xs) more ∙ long_push old.entries e,
          subst (λ (x : Governed). AreListsOf b.base x (length old.entries) lists) (sym g) are_behind,
        )

    -- with the same entries, and as many in the lists
    pub kept_still : (new : Tail) (left : NodeLists) → new.entries ≡ old.entries → StandsBehind (body_of s) new →
        left.configurations.items ≡ lists.configurations.items → left.recorded.items ≡ lists.recorded.items → IsBookLedger s new left
    kept_still new left same stands cs ns =
        let are = are_behind in
        book_ledger new old.entries left k.spelled stands same (record { configured = cs ∙ are.configured; recorded = ns ∙ are.recorded })

    -- in one go, where it was added or all is as it was
    pub applied_quiet : {X E : Type 0} (new : Tail) (e : Entry) (r : Result X E) → IsNoGovernance e.content →
        OnOk r (Becomes old (old.entries ++ e ∷ []) new) → OnErr r (Becomes old old.entries new) → IsBookLedger s new lists
    applied_quiet new e (Ok x) quiet grown still = kept_quiet new e quiet grown.entries (grown.stands (body_of s) k.stands)
    applied_quiet new e (Err x) quiet grown still = kept_still new lists still.entries (still.stands (body_of s) k.stands) refl refl

    pub pushed_quiet : {X E : Type 0} (new : Tail) (e : Entry) (r : Result X E) → IsNoGovernance e.content → broken_over service_layers (body_of s) old.entries e ≡ None →
        OnOk r (new.entries ≡ old.entries ++ e ∷ []) → OnOk r (ForBodies old (λ b. broken_over service_layers b old.entries e ≡ None → StandsBehind b new)) → OnErr r (Becomes old old.entries new) →
        IsBookLedger s new lists
    pushed_quiet new e (Ok x) quiet unbroken grown stands still = kept_quiet new e quiet grown (stands (body_of s) k.stands unbroken)
    pushed_quiet new e (Err x) quiet unbroken grown stands still = kept_still new lists still.entries (still.stands (body_of s) k.stands) refl refl

    -- where it is cut, those of what is left
    pub kept_cut : (new : Tail) (left : NodeLists) (to : ℕ) → (body_of s).base ≤ to → to ≤ (body_of s).base + length old.entries →
        new.entries ≡ take (to - (body_of s).base) old.entries → StandsBehind (body_of s) new →
        ((base count : ℕ) → StandBehind base old.state.gov count → AreListsOf base old.state.gov count lists → base ≤ to → to ≤ base + count → AreListsOf base (governed_up_to to old.state.gov) (to - base) left) →
        IsBookLedger s new left
    kept_cut new left to low within is stands cut =
        let b : Body = body_of s in
        let start = base_is b old k.stands in
        let all : AreListsOf b.base old.state.gov (length old.entries) lists = subst (λ (n : ℕ). AreListsOf n old.state.gov (length old.entries) lists) start k.listed in
        let are : AreListsOf b.base (governed_up_to to old.state.gov) (to - b.base) left = cut b.base (length old.entries) (stand_tail b old k.stands) all low within in
        let g : governed_up_to to old.state.gov ≡ governed_behind b (take (to - b.base) old.entries) = ap (governed_up_to to) k.stands.stands.governed ∙ behind_take b old.entries to low in
        let long : length (take (to - b.base) old.entries) ≡ to - b.base = length-take-le (to - b.base) old.entries (omega (arith, low, within)) in
        book_ledger new (take (to - b.base) old.entries) left k.spelled stands is
        (subst (λ (n : ℕ). AreListsOf b.base (governed_behind b (take (to - b.base) old.entries)) n left) (sym long)
        (subst (λ (x : Governed). AreListsOf b.base x (to - b.base) left) g are))

-- a copy of all of it
pub copied : (s copy : Option (List ℕ)) (t new : Tail) (lists left : NodeLists) → copy ≡ s → IsBookLedger s t lists → new.entries ≡ t.entries → ForBodies t (λ b. StandsBehind b new) →
    left.configurations.items ≡ lists.configurations.items → left.recorded.items ≡ lists.recorded.items → IsBookLedger copy new left
copied s copy t new lists left same k entries stands cs ns =
    subst (λ (o : Option (List ℕ)). IsBookLedger o new left) (sym same) (kept_still s t lists k new left entries (stands (body_of s) k.stands) cs ns)

-- after what the last entry changes was taken in
pub after_last : (s : Option (List ℕ)) (new after : Tail) (lists : NodeLists) → IsEncoded s → StandsBehind (body_of s) new → after ≡ new →
    AreListsOf after.base_end.len after.state.gov (length after.entries) lists → IsBookLedger s after lists
after_last s new after lists spelled stands same are = record { spelled = spelled; stands = subst (StandsBehind (body_of s)) (sym same) stands; listed = are }

-- ---- the last entry

module _ (body : Body) (t : Tail) (stands : StandsBehind body t) (n : ℕ) (long : length t.entries ≡ suc n) where
  -- the lists are to take in what it changes
  pub last_taken : (lists : NodeLists) → AreListsOf body.base (governed_up_to (body.base + n) t.state.gov) n lists → AreListsBefore body.base n t.state.gov lists
  last_taken lists are = record { stand = subst (StandBehind body.base t.state.gov) long (stand_tail body t stands); listed = are }

  -- and took it in
  pub last_listed : (lists : NodeLists) → AreListsOf body.base t.state.gov (suc n) lists → AreListsOf t.base_end.len t.state.gov (length t.entries) lists
  last_listed lists are =
      subst (λ (m : ℕ). AreListsOf m t.state.gov (length t.entries) lists) (sym (base_is body t stands))
      (subst (λ (m : ℕ). AreListsOf body.base t.state.gov m lists) (sym long) are)

  -- or it is taken back
  pub last_cut : (new : Tail) (to : ℕ) → to ≡ body.base + n → ForBodies t (λ b. new.entries ≡ take (to - b.base) t.entries) → ForBodies t (λ b. StandsBehind b new) →
      Becomes t (take (length t.entries - 1) t.entries) new
  last_cut new to at left each =
      let left_n : to - body.base ≡ length t.entries - 1 = omega (arith, at, long) in
      record { entries = left body stands ∙ ap (λ (m : ℕ). take m t.entries) left_n; stands = each }

-- without its last entry a tail has those before
pub taken_back : (es more : List Entry) (e : Entry) → more ≡ es ++ e ∷ [] → take (length more - 1) more ≡ es
taken_back es more e is =
    let long : length (es ++ e ∷ []) - 1 ≡ length es = let l = long_push es e in omega (arith, l) in
    ap (λ (xs : List Entry). take (length xs - 1) xs) is ∙ ap (λ (n : ℕ). take n (es ++ e ∷ [])) long ∙ take-push es e (length es) (omega arith) ∙ take-all es

-- ---- no entries

-- from the start of a ledger on
pub begun_whole : (t : Tail) (lists : NodeLists) → t.entries ≡ [] → StandsBehind no_body t → AreListsOf 0 ungoverned 0 lists → IsBookLedger None t lists
begun_whole t lists none stands are = book_ledger None t [] lists tt stands none are

-- the bytes of a body encode it
pub body_of_bytes : (body : Body) → is_body body ≡ true → body_encoded (body_bytes body) ≡ body
unfolding body_encoded
body_of_bytes body fits = ap body_read (shape-read 0 body fits)

-- a base that a body tells is above 0
pub base_above : (body : Body) → is_body body ≡ true → 0 < body.base
base_above body fits = let low = (and_parts (nat_le 1 body.base) (nat_le body.base last_seqno) (parts_of body fits).base).0 in grind (arith, nat_tests, low)

-- and its lists are not too long to be counted
pub counted : (body : Body) → is_body body ≡ true → is_counted body ≡ true
counted body fits = (and_parts _ (is_counted body) fits).1

-- behind the body of a snapshot
pub begun_behind : (body : Body) (bytes : List ℕ) (t : Tail) (lists : NodeLists) → is_body body ≡ true → bytes ≡ body_bytes body → t.entries ≡ [] → StandsBehind body t →
    AreListsOf body.base t.state.gov 0 lists → IsBookLedger (Some bytes) t lists
begun_behind body bytes t lists fits spelled none stands are =
    let is : body_encoded bytes ≡ body = ap body_encoded spelled ∙ body_of_bytes body fits in
    let count : length t.entries ≡ 0 = ap (λ (xs : List Entry). length xs) none in
    record {
      spelled = (ap is_body is ∙ fits, spelled ∙ ap body_bytes (sym is));
      stands = subst (λ (b : Body). StandsBehind b t) (sym is) stands;
      listed = subst (λ (n : ℕ). AreListsOf t.base_end.len t.state.gov n lists) (sym count)
          (subst (λ (n : ℕ). AreListsOf n t.state.gov 0 lists) (sym (base_is body t stands)) are);
    }

-- ---- what is seen of it

-- The value of a ledger by what is kept of it.
abbrev pub seen : Option (List ℕ) → Tail → BasedLedger
seen s t = record { snapshot = s; entries = t.entries }

pub with_more : (s : Option (List ℕ)) (t : Tail) (l : BasedLedger) (e : Entry) (es : List Entry) → seen s t ≡ l → es ≡ t.entries ++ e ∷ [] →
    record { snapshot = s; entries = es } ≡ with_entries l (l.entries ++ e ∷ [])
with_more s t l e es is more =
    ap (λ (xs : List Entry). record { snapshot = s; entries = xs }) more ∙ ap (λ (x : BasedLedger). with_entries x (x.entries ++ e ∷ [])) is

pub with_same : (s : Option (List ℕ)) (t : Tail) (l : BasedLedger) (es : List Entry) → seen s t ≡ l → es ≡ t.entries → record { snapshot = s; entries = es } ≡ l
with_same s t l es is same = ap (λ (xs : List Entry). record { snapshot = s; entries = xs }) same ∙ is

pub not_cut : (l : BasedLedger) (to : ℕ) → base_of l + length l.entries ≤ to → l ≡ with_entries l (take (to - base_of l) l.entries)
not_cut l to high = ap (with_entries l) (sym (take_all (to - base_of l) l.entries (omega (arith, high))))

pub with_cut : (s : Option (List ℕ)) (t : Tail) (l : BasedLedger) (to : ℕ) (es : List Entry) → seen s t ≡ l → es ≡ take (to - (body_of s).base) t.entries →
    record { snapshot = s; entries = es } ≡ with_entries l (take (to - base_of l) l.entries)
with_cut s t l to es is left =
    ap (λ (xs : List Entry). record { snapshot = s; entries = xs }) left ∙ ap (λ (x : BasedLedger). with_entries x (take (to - base_of x) x.entries)) is

module _ (s : Option (List ℕ)) (t : Tail) (lists : NodeLists) (l : BasedLedger) (k : IsBookLedger s t lists) (is : seen s t ≡ l) where
  pub stands_seen : StandsBehind (body_of l.snapshot) t
  stands_seen = subst (λ (x : BasedLedger). StandsBehind (body_of x.snapshot) t) is k.stands

  pub spelled_seen : IsEncoded l.snapshot
  spelled_seen = subst (λ (x : BasedLedger). IsEncoded x.snapshot) is k.spelled

  pub base_seen : t.base_end.len ≡ base_of l
  base_seen = base_is (body_of l.snapshot) t stands_seen

  pub governed_seen : t.state.gov ≡ governed_of l
  governed_seen = k.stands.stands.governed ∙ ap governed_of is

  pub count_seen : length t.entries ≡ length l.entries
  count_seen = ap (λ (x : BasedLedger). length x.entries) is

  pub configured_seen : lists.configurations.items ≡ configurations_behind (base_of l) (governed_of l) (length l.entries)
  configured_seen =
      k.listed.configured ∙ ap (λ (n : ℕ). configurations_behind n t.state.gov (length t.entries)) base_seen
      ∙ ap₂ (λ (g : Governed) (n : ℕ). configurations_behind (base_of l) g n) governed_seen count_seen

  -- what holds of each body behind which the tail stands holds of that of the ledger's snapshot
  pub of_each : (P : Body → List Entry → Type 0) → ((body : Body) → StandsBehind body t → P body t.entries) → P (body_of l.snapshot) l.entries
  of_each P each = subst (λ (x : BasedLedger). P (body_of x.snapshot) x.entries) is (each (body_of s) k.stands)

  pub to_kept : (P : Body → List Entry → Type 0) → P (body_of l.snapshot) l.entries → P (body_of s) t.entries
  to_kept P holds = subst (λ (x : BasedLedger). P (body_of x.snapshot) x.entries) (sym is) holds

  -- each body behind which the tail stands has the ledger's base
  pub base_of_each : (body : Body) → StandsBehind body t → body.base ≡ base_of l
  base_of_each body stands = same_base body (body_of l.snapshot) t stands stands_seen
