-- The configurations behind a base give the active ones of each ledger that the entries stand for,
-- and those above a commit.
use Rattle.std.proofs.Common.{◌≡◌, ⊎_elim, ℕ, zero, suc, ◌+◌, ◌-◌, ◌<◌, ◌≤◌, nat_le, nat_lt, List, [], ◌∷◌, ◌++◌, length, take, take_all, drop, min, Option, Some, None, Bool, if◌then◌else◌, refl, sym, ◌∙◌, ap, ap₂, subst, arith}
use Rattle.std.specs.Option.{option_to_list}
use Rattle.std.proofs.lemmas.Bool.{cases_lt, le-leb, le-ltb, lt-ltb}
use Rattle.std.proofs.lemmas.List.{append-nil, length-take-le, map-append}
use Rattle.std.proofs.lemmas.List.Elements.{filter-append}
use Rattle.gl_rules.specs.Identity.{NodeId}
use Rattle.gl_rules.specs.Configuration.{active, configurations_above}
use Rattle.gl_config.specs.declared.configuration.Configuration.{Configuration}
use Rattle.gl_config.specs.Active.{above, active_of, at_seqno, last_of, sets_of, upto}
use Rattle.gl_entry.specs.declared.entry.Entry.{Entry}
use Rattle.gl_gov_rules.specs.declared.change.Recorded.{Recorded}
use Rattle.gl_gov_rules.specs.History.{History}
use Rattle.gl_gov_rules.specs.Nodes as nodes
use Rattle.gl_snapshot_body.specs.declared.body.Body.{Body}
use Rattle.gl_ledger.specs.Audit.{audited_over}
use Rattle.gl_ledger.specs.Behind.{IsReadAt, IsReadBody}
use Rattle.gl_ledger.specs.NodeKeys.{NodeKeys, service_layers}
use Rattle.gl_ledger.specs.LedgerBook.{ServiceBook}
use Rattle.gl_ledger.specs.Past.{past_over}
use Rattle.gl_ledger.specs.Recordings.{changed_set}
use Rattle.gl_ledger.specs.Snapshot.{governed_base, requests_over}
use Rattle.gl_audit.specs.GovState.{Governed, governed_up_to}
use Rattle.gl_audit.proofs.Cutting.{requests_over-take}
use Rattle.gl_ledger_base.specs.Ledgers.{HoldsLedger}
use Rattle.gl_ledger_base.specs.ReadOver.{configuration_over, configurations_over, trusted_at}
use Rattle.gl_ledger_base.proofs.LedgersHeld.{held_length}
use Rattle.gl_ledger_base.proofs.LedgersReads.{held_cut, held_rest, valid_cut}
use Rattle.gl_ledger_base.proofs.LedgersTrusted.{read_above, read_active}
use Rattle.gl_store_book.specs.Lists.{begun_at, configuration_at_base, configurations_behind, trusted_up_to}
use Rattle.gl_store_book.proofs.AllLedgers.{book}
use Rattle.gl_store_book.proofs.BookTold.{history_cut}
use Rattle.gl_store_book.proofs.Growing.{behind_lower, came, stayed}
use Rattle.gl_store_book.proofs.ListPrefixes.{first_ones, one_gone, one_kept}
use Rattle.gl_store_book.proofs.WholeConfigurations.{active_whole}

-- ---- one configuration

one_passed : (k n : ℕ) (o : Option (List NodeId)) → k ≤ n → above n (at_seqno k o) ≡ []
one_passed k n None low = refl
one_passed k n (Some set) low = rw (le-ltb n k low) refl

one_later : (k n : ℕ) (o : Option (List NodeId)) → n < k → above n (at_seqno k o) ≡ at_seqno k o
one_later k n None high = refl
one_later k n (Some set) high = rw (lt-ltb n k high) refl

sets_at : (k : ℕ) (o : Option (List NodeId)) → sets_of (at_seqno k o) ≡ option_to_list o
sets_at k None = refl
sets_at k (Some set) = refl

-- the one at a base
base_kept : (base n : ℕ) (set : List NodeId) → base ≤ n → upto n (configuration_at_base base set) ≡ configuration_at_base base set
base_kept zero n set low = refl
base_kept (suc k) n set low = rw (le-leb (suc k) n low) refl

base_passed : (base n : ℕ) (set : List NodeId) → base ≤ n → above n (configuration_at_base base set) ≡ []
base_passed zero n set low = refl
base_passed (suc k) n set low = rw (le-ltb n (suc k) low) refl

last_pushed : (cs : List Configuration) (c : Configuration) → last_of (cs ++ c ∷ []) ≡ c ∷ []
unfolding last_of
last_pushed [] c = refl
last_pushed (a ∷ []) c = refl
last_pushed (a ∷ d ∷ cs) c = last_pushed (d ∷ cs) c

sets_one : (c : Configuration) → sets_of (last_of (c ∷ [])) ≡ c.nodes ∷ []
unfolding last_of
sets_one c = refl

-- ---- the lists

module _ (base : ℕ) (g : Governed) where
  abbrev cs : ℕ → List Configuration
  cs n = configurations_behind base g n

  -- all of them are at or below a seqno after theirs, and none is above it
  all_kept : (n seqno : ℕ) → base + n ≤ seqno → upto seqno (cs n) ≡ cs n
  unfolding configurations_behind
  all_kept zero seqno low = base_kept base seqno (trusted_up_to g base) (omega (arith, low))
  all_kept (suc n) seqno low =
      let o : Option (List NodeId) = begun_at base g (base + suc n) in
      filter-append (λ (c : Configuration). nat_le c.seqno seqno) (cs n) (at_seqno (base + suc n) o)
      ∙ ap₂ (λ (us vs : List Configuration). us ++ vs) (all_kept n seqno (omega (arith, low))) (one_kept (base + suc n) seqno o low)

  all_passed : (n seqno : ℕ) → base + n ≤ seqno → above seqno (cs n) ≡ []
  unfolding configurations_behind
  all_passed zero seqno low = base_passed base seqno (trusted_up_to g base) (omega (arith, low))
  all_passed (suc n) seqno low =
      let o : Option (List NodeId) = begun_at base g (base + suc n) in
      filter-append (λ (c : Configuration). nat_lt seqno c.seqno) (cs n) (at_seqno (base + suc n) o)
      ∙ ap₂ (λ (us vs : List Configuration). us ++ vs) (all_passed n seqno (omega (arith, low))) (one_passed (base + suc n) seqno o low)

module _ (k : ℕ) (g : Governed) (n commit : ℕ) where
  abbrev us : List Configuration
  us = configurations_behind (suc k) g n

  abbrev at : ℕ
  at = suc k + suc n

  parts : (o : Option (List NodeId)) → upto commit (us ++ at_seqno at o) ≡ upto commit us ++ upto commit (at_seqno at o)
  parts o = filter-append (λ (c : Configuration). nat_le c.seqno commit) us (at_seqno at o)

  module _ (before : sets_of (last_of (upto commit us)) ≡ trusted_up_to g (min commit (suc k + n)) ∷ []) where
    same : (o : Option (List NodeId)) → upto commit (at_seqno at o) ≡ [] → sets_of (last_of (upto commit (us ++ at_seqno at o))) ≡ trusted_up_to g (min commit (suc k + n)) ∷ []
    same o none =
        ap (λ (vs : List Configuration). sets_of (last_of vs)) (parts o ∙ ap (λ (vs : List Configuration). upto commit us ++ vs) none ∙ append-nil (upto commit us)) ∙ before

    late : commit < at → (o : Option (List NodeId)) → sets_of (last_of (upto commit (us ++ at_seqno at o))) ≡ trusted_up_to g (min commit at) ∷ []
    late high o =
        same o (one_gone at commit o high)
        ∙ ap (λ (m : ℕ). trusted_up_to g m ∷ []) (let least : min commit (suc k + n) ≡ min commit (suc k + suc n) = omega (arith, high) in least)

    early : at ≤ commit → (o : Option (List NodeId)) → begun_at (suc k) g at ≡ o → sets_of (last_of (upto commit (us ++ at_seqno at o))) ≡ trusted_up_to g (min commit at) ∷ []
    early up None is =
        same None refl
        ∙ ap (λ (m : ℕ). trusted_up_to g m ∷ []) (let least : min commit (suc k + n) ≡ suc k + suc n - 1 = omega (arith, up) in least)
        ∙ ap (λ (set : List NodeId). set ∷ []) (stayed (trusted_up_to g (at - 1)) (trusted_up_to g at) is)
        ∙ ap (λ (m : ℕ). trusted_up_to g m ∷ []) (let here : suc k + suc n ≡ min commit (suc k + suc n) = omega (arith, up) in here)
    early up (Some set) is =
        ap (λ (vs : List Configuration). sets_of (last_of vs)) (parts (Some set) ∙ ap (λ (vs : List Configuration). upto commit us ++ vs) (one_kept at commit (Some set) up))
        ∙ ap (λ (vs : List Configuration). sets_of vs) (last_pushed (upto commit us) (record { seqno = at; nodes = set }))
        ∙ ap (λ (found : List NodeId). found ∷ []) (came (trusted_up_to g (at - 1)) (trusted_up_to g at) set is)
        ∙ ap (λ (m : ℕ). trusted_up_to g m ∷ []) (let here : suc k + suc n ≡ min commit (suc k + suc n) = omega (arith, up) in here)

    next_set : sets_of (last_of (upto commit (us ++ at_seqno at (begun_at (suc k) g at)))) ≡ trusted_up_to g (min commit at) ∷ []
    next_set = ⊎_elim (λ (high : commit < at). late high (begun_at (suc k) g at)) (λ (up : at ≤ commit). early up (begun_at (suc k) g at) refl) (cases_lt commit at)

-- behind a base above 0 the last one at or below a commit has the nodes that are trusted there
last_set : (k : ℕ) (g : Governed) (n commit : ℕ) → suc k ≤ commit → sets_of (last_of (upto commit (configurations_behind (suc k) g n))) ≡ trusted_up_to g (min commit (suc k + n)) ∷ []
unfolding configurations_behind
last_set k g zero commit low =
    ap (λ (us : List Configuration). sets_of (last_of us)) (base_kept (suc k) commit (trusted_up_to g (suc k)) low)
    ∙ sets_one (record { seqno = suc k; nodes = trusted_up_to g (suc k) })
    ∙ ap (λ (m : ℕ). trusted_up_to g m ∷ []) (let least : suc k ≡ min commit (suc k + 0) = omega (arith, low) in least)
last_set k g (suc n) commit low = next_set k g n commit (last_set k g n commit low)

-- ---- of entries behind a body

module _ (body : Body) (es : List Entry) (read : IsReadBody body) where
  abbrev g : Governed
  g = record { base = governed_base body; requests = requests_over body es }

  trusted_same : (seqno : ℕ) → body.base ≤ seqno → trusted_up_to g seqno ≡ trusted_at body es seqno
  trusted_same seqno low = ap (λ (h : History). nodes.trusted h) (history_cut body es seqno read low)

  begun_same : (seqno : ℕ) → body.base < seqno → begun_at body.base g seqno ≡ configuration_over body es seqno
  begun_same seqno high = ap₂ changed_set (trusted_same (seqno - 1) (omega (arith, high))) (trusted_same seqno (omega (arith, high)))

  -- past the last entry the same are trusted
  trusted_past : (commit : ℕ) → body.base ≤ commit → trusted_up_to g (min commit (body.base + length es)) ≡ trusted_at body es commit
  trusted_past commit low = ⊎_elim
      (λ (inside : commit < body.base + length es).
      ap (trusted_up_to g) (let least : min commit (body.base + length es) ≡ commit = omega (arith, inside) in least) ∙ trusted_same commit low)
      (λ (past : body.base + length es ≤ commit).
      let least : min commit (body.base + length es) ≡ body.base + length es = omega (arith, past) in
      let end : length es ≤ body.base + length es - body.base = omega arith in
      let up : length es ≤ commit - body.base = omega (arith, past) in
      ap (trusted_up_to g) least ∙ trusted_same (body.base + length es) (omega arith)
      ∙ ap (λ (xs : List Entry). nodes.trusted (past_over body xs).history) (take_all (body.base + length es - body.base) es end ∙ sym (take_all (commit - body.base) es up)))
      (cases_lt commit (body.base + length es))

  -- those above a commit from the base on
  sets_above : (commit n : ℕ) → body.base ≤ commit → sets_of (above commit (configurations_behind body.base g n)) ≡ configurations_over body es commit n
  unfolding configurations_behind
  sets_above commit zero low = ap (λ (us : List Configuration). sets_of us) (base_passed body.base commit (trusted_up_to g body.base) low)
  sets_above commit (suc n) low =
      let o : Option (List NodeId) = begun_at body.base g (body.base + suc n) in
      let rest : List (List NodeId) = configurations_over body es commit n ++ option_to_list (configuration_over body es (body.base + suc n)) in
      ⊎_elim
      (λ (late : commit < body.base + suc n).
      ap (λ (us : List Configuration). sets_of us) (filter-append (λ (c : Configuration). nat_lt commit c.seqno) (configurations_behind body.base g n) (at_seqno (body.base + suc n) o))
      ∙ map-append (λ (c : Configuration). c.nodes) (above commit (configurations_behind body.base g n)) (above commit (at_seqno (body.base + suc n) o))
      ∙ ap₂ (λ (us vs : List (List NodeId)). us ++ vs) (sets_above commit n low)
      (ap (λ (us : List Configuration). sets_of us) (one_later (body.base + suc n) commit o late) ∙ sets_at (body.base + suc n) o ∙ ap option_to_list (begun_same (body.base + suc n) (omega arith)))
      ∙ sym (ap (λ (t : Bool). if t then rest else []) (lt-ltb commit (body.base + suc n) late)))
      (λ (early : body.base + suc n ≤ commit).
      ap (λ (us : List Configuration). sets_of us) (all_passed body.base g (suc n) commit early)
      ∙ sym (ap (λ (t : Bool). if t then rest else []) (le-ltb commit (body.base + suc n) early)))
      (cases_lt commit (body.base + suc n))

-- those up to a seqno are those of the first entries
first_kept : (body : Body) (es : List Entry) (to : ℕ) → body.base ≤ to →
    upto to (configurations_behind body.base (record { base = governed_base body; requests = requests_over body es }) (length es))
    ≡ configurations_behind body.base (record { base = governed_base body; requests = requests_over body (take (to - body.base) es) }) (length (take (to - body.base) es))
first_kept body es to low = ⊎_elim inside past (cases_lt to (body.base + length es))
  where
    g : Governed
    g = record { base = governed_base body; requests = requests_over body es }

    inside : to < body.base + length es →
        upto to (configurations_behind body.base g (length es))
        ≡ configurations_behind body.base (record { base = governed_base body; requests = requests_over body (take (to - body.base) es) }) (length (take (to - body.base) es))
    inside high =
        let n : ℕ = to - body.base in
        let at : body.base + (to - body.base) ≡ to = omega (arith, low) in
        let long : (to - body.base) + (length es - (to - body.base)) ≡ length es = omega (arith, low, high) in
        let count : to - body.base ≡ length (take (to - body.base) es) = sym (length-take-le (to - body.base) es (omega (arith, low, high))) in
        ap₂ (λ (s k : ℕ). upto s (configurations_behind body.base g k)) (sym at) (sym long)
        ∙ first_ones body.base g (to - body.base) (length es - (to - body.base))
        ∙ sym (behind_lower body.base g (to - body.base) (to - body.base) (omega arith))
        ∙ ap (λ (s : ℕ). configurations_behind body.base (governed_up_to s g) (to - body.base)) at
        ∙ ap₂ (λ (rs : List Recorded) (k : ℕ). configurations_behind body.base (record { base = governed_base body; requests = rs }) k) (sym (requests_over-take body es to low)) count

    past : body.base + length es ≤ to →
        upto to (configurations_behind body.base g (length es))
        ≡ configurations_behind body.base (record { base = governed_base body; requests = requests_over body (take (to - body.base) es) }) (length (take (to - body.base) es))
    past up =
        all_kept body.base g (length es) to up
        ∙ ap (λ (xs : List Entry). configurations_behind body.base (record { base = governed_base body; requests = requests_over body xs }) (length xs)) (sym (take_all (to - body.base) es (omega (arith, up))))

-- ---- of a ledger that they stand for

module _ (keys : NodeKeys) (body : Body) (es log : List Entry) (holds : HoldsLedger service_layers body es log) (valid : audited_over service_layers body es ≡ None) (read : IsReadBody body) where
  abbrev b : ServiceBook
  b = book keys

  -- those above a commit
  all_above : (commit : ℕ) → body.base ≤ commit →
      sets_of (above commit (configurations_behind body.base (record { base = governed_base body; requests = requests_over body es }) (length es))) ≡ configurations_above b log commit (length log)
  all_above commit low =
      let long = held_length service_layers body es log holds in
      let count : length log - body.base ≡ length es = omega (arith, long) in
      sets_above body es read commit (length es) low
      ∙ sym (read_above service_layers body es log holds valid keys commit (length log) low (omega (arith, long)) (omega arith) ∙ ap (configurations_over body es commit) count)

  -- the active ones
  all_active : (commit : ℕ) → body.base ≤ commit →
      sets_of (active_of (configurations_behind body.base (record { base = governed_base body; requests = requests_over body es }) (length es)) commit) ≡ active b log commit
  unfolding active_of
  all_active commit low = go body.base refl read
    where
      cs : List Configuration
      cs = configurations_behind body.base (record { base = governed_base body; requests = requests_over body es }) (length es)

      whole : body.base ≡ 0 → log ≡ es
      whole none = held_rest service_layers body es log holds 0 (omega (arith, none)) ∙ ap (λ (k : ℕ). drop k es) (let first : 0 - body.base ≡ 0 = omega arith in first)

      go : (n : ℕ) → body.base ≡ n → IsReadAt n body → sets_of (active_of cs commit) ≡ active b log commit
      go zero is none =
          subst (λ (x : Body). sets_of (active_of (configurations_behind x.base (record { base = governed_base x; requests = requests_over x es }) (length es)) commit) ≡ active b es commit)
          (sym none) (active_whole keys es commit)
          ∙ ap (λ (l : List Entry). active b l commit) (sym (whole is))
      go (suc k) is spelled =
          let long = held_length service_layers body es log holds in
          let g : Governed = record { base = governed_base body; requests = requests_over body es } in
          let last : sets_of (last_of (upto commit cs)) ≡ trusted_at body es commit ∷ [] =
          subst (λ (n : ℕ). sets_of (last_of (upto commit (configurations_behind n g (length es)))) ≡ trusted_up_to g (min commit (n + length es)) ∷ []) (sym is)
          (last_set k g (length es) commit (omega (arith, low, is)))
          ∙ ap (λ (set : List NodeId). set ∷ []) (trusted_past body es read commit low) in
          map-append (λ (c : Configuration). c.nodes) (last_of (upto commit cs)) (above commit cs)
          ∙ ap₂ (λ (us vs : List (List NodeId)). us ++ vs) last (sets_above body es read commit (length es) low)
          ∙ sym (read_active service_layers body es log holds valid keys commit low (omega (arith, low, is)) (omega (arith, long, is)))

-- of the ledger cut to a seqno
module _ (keys : NodeKeys) (body : Body) (es log : List Entry) (holds : HoldsLedger service_layers body es log) (valid : audited_over service_layers body es ≡ None) (read : IsReadBody body) (to : ℕ) (low : body.base ≤ to)
    (cs : List Configuration) (is : cs ≡ upto to (configurations_behind body.base (record { base = governed_base body; requests = requests_over body es }) (length es))) where
  pub active_told : (commit : ℕ) → body.base ≤ commit → sets_of (active_of cs commit) ≡ active (book keys) (take to log) commit
  active_told commit up =
      ap (λ (us : List Configuration). sets_of (active_of us commit)) (is ∙ first_kept body es to low)
      ∙ all_active keys body (take (to - body.base) es) (take to log) (held_cut service_layers body es log holds to low) (valid_cut service_layers body es (to - body.base) valid) read commit up

  pub above_told : (commit : ℕ) → body.base ≤ commit → sets_of (above commit cs) ≡ configurations_above (book keys) (take to log) commit (length (take to log))
  above_told commit up =
      ap (λ (us : List Configuration). sets_of (above commit us)) (is ∙ first_kept body es to low)
      ∙ all_above keys body (take (to - body.base) es) (take to log) (held_cut service_layers body es log holds to low) (valid_cut service_layers body es (to - body.base) valid) read commit up
