-- What the rules of consensus read of a ledger is told by each body and entries that stand for it.
use Rattle.std.proofs.Common.{◌≡◌, ℕ, zero, suc, ◌+◌, ◌-◌, ◌<◌, ◌≤◌, List, [], ◌∷◌, ◌++◌, length, take, drop, max, slice_get, Option, Some, None, Bool, true, false, ◌&&◌, ◌==◌, nat_lt, if◌then◌else◌, option_map, refl, sym, ◌∙◌, ap, arith}
use Rattle.std.specs.Prelude.{unwrap_or}
use Rattle.std.proofs.Math.Seq.{take-append-add, drop-append-add}
use Rattle.std.proofs.lemmas.Bool.Decides.{nat_tests}
use Rattle.gl_rules.specs.Log as logs
use Rattle.gl_rules.specs.Log.{entry_at, greatest_recorded, is_signature_in, last_signature, seqno_with_first}
use Rattle.gl_rules.specs.Replication.{greatest_evidence, is_evidence_at}
use Rattle.gl_entry.specs.Entry.{is_signature, recorded_commit}
use Rattle.gl_entry.specs.declared.entry.Content.{Content}
use Rattle.gl_entry.specs.declared.entry.Content.TheVariants as content
use Rattle.gl_entry.specs.declared.entry.Entry.{Entry}
use Rattle.gl_snapshot_body.specs.declared.body.Body.{Body}
use Rattle.gl_ledger.specs.Audit.{audited_over}
use Rattle.gl_ledger.specs.Broken.{broken_over}
use Rattle.gl_ledger.specs.Layers.{Layers}
use Rattle.gl_ledger.specs.LedgerBook.{ServiceBook, ledger_book}
use Rattle.gl_ledger.specs.NodeKeys.{NodeKeys}
use Rattle.gl_ledger.specs.Past.{last_signed, last_signed_over}
use Rattle.gl_ledger.specs.Signed.{IsSignedUpTo}
use Rattle.gl_ledger.specs.Snapshot.{greatest_from, greatest_with, view_at}
use Rattle.gl_ledger_base.specs.Ledgers.{HoldsLedger}
use Rattle.gl_ledger.proofs.EachPassing.{all_over, each_over, passes-take}
use Rattle.gl_ledger_base.proofs.LedgersHeld.{held_base, held_entry, held_snapshot, held_view}
use Rattle.gl_ledger_base.proofs.LedgersTold.{last_signed_told, signed_end}
use Rattle.gl_ledger_base.proofs.LedgersWhole.{base_signed}

-- where a signature stands last its seqno is the length, and 0 where there is no entry
ended : (l : List Entry) → IsSignedUpTo l (length l) → last_signed l ≡ length l
ended [] ends = refl
ended (x ∷ xs) ends =
    let end = ends (omega arith) in
    signed_end (x ∷ xs) end.0 (ap (slice_get (x ∷ xs)) (let last : length (x ∷ xs) - 1 ≡ length xs = omega arith in last) ∙ end.1) end.2

-- entries behind that break no rule break none where they are cut
pub valid_cut : (layers : Layers) (body : Body) (es : List Entry) (n : ℕ) → audited_over layers body es ≡ None → audited_over layers body (take n es) ≡ None
valid_cut layers body es n h = all_over layers body (take n es) (passes-take (broken_over layers body) es n (each_over layers body es h))

-- ---- the book

module _ (layers : Layers) (keys : NodeKeys) where
  abbrev b : ServiceBook
  b = ledger_book layers keys

  last_same : (l : List Entry) → last_signature b l ≡ last_signed l
  unfolding last_signature
  last_same [] = refl
  last_same (e ∷ es) = ap (seqno_with_first (is_signature e.content)) (last_same es)

  -- the greatest commit is that of a start and of those that are recorded
  greatest_all : (commit : ℕ) (l : List Entry) → greatest_from commit l ≡ max commit (greatest_recorded b l)
  unfolding greatest_recorded
  greatest_all commit [] = omega arith
  greatest_all commit (e ∷ es) = go e.content (greatest_all (greatest_with commit e.content) es)
    where
      go : (c : Content) → greatest_from (greatest_with commit c) es ≡ max (greatest_with commit c) (greatest_recorded b es) →
          greatest_from (greatest_with commit c) es ≡ max commit (max (if is_signature c then recorded_commit c else 0) (greatest_recorded b es))
      go (content.Signature s) h = omega (arith, h)
      go (content.Governance bytes) h = omega (arith, h)
      go (content.Application bytes) h = omega (arith, h)
      go (content.Evidence d) h = omega (arith, h)

  view_or_none : (o : Option Entry) → unwrap_or (option_map (λ (e : Entry). e.view) o) 0 ≡ logs.view_of_entry b o
  view_or_none None = refl
  view_or_none (Some e) = refl

module _ (layers : Layers) (body : Body) (es ledger : List Entry) (holds : HoldsLedger layers body es ledger) where
  -- ---- cut to a seqno

  place : (seqno : ℕ) → body.base ≤ seqno → seqno ≡ length holds.below + (seqno - body.base)
  place seqno low = let counted = held_base layers body es ledger holds in omega (arith, counted, low)

  pub held_cut : (seqno : ℕ) → body.base ≤ seqno → HoldsLedger layers body (take (seqno - body.base) es) (take seqno ledger)
  held_cut seqno low = record {
    below = holds.below;
    base = holds.base;
    whole = ap (take seqno) holds.whole ∙ ap (λ (n : ℕ). take n (holds.below ++ es)) (place seqno low) ∙ take-append-add holds.below es (seqno - body.base);
  }

  pub held_rest : (seqno : ℕ) → body.base ≤ seqno → drop seqno ledger ≡ drop (seqno - body.base) es
  held_rest seqno low = ap (drop seqno) holds.whole ∙ ap (λ (n : ℕ). drop n (holds.below ++ es)) (place seqno low) ∙ drop-append-add holds.below es (seqno - body.base)

  pub held_above : (seqno : ℕ) → body.base < seqno → entry_at ledger seqno ≡ entry_at es (seqno - body.base)
  held_above seqno high =
      ap (entry_at ledger) (let same : seqno ≡ body.base + (seqno - body.base) = omega (arith, high) in same)
      ∙ held_entry layers body es ledger holds (seqno - body.base) (omega (arith, high))

  module _ (keys : NodeKeys) where
    abbrev book : ServiceBook
    book = ledger_book layers keys

    pub read_view : (seqno : ℕ) → 0 < seqno → logs.view_at book ledger seqno ≡ unwrap_or (view_at body es seqno) 0
    read_view seqno some =
        sym (ap (λ (o : Option ℕ). unwrap_or o 0) (held_view layers body es ledger holds seqno some) ∙ view_or_none layers keys (entry_at ledger seqno))

    -- ---- signatures

    pub read_signature : last_signature book ledger ≡ last_signed_over body es
    read_signature =
        last_same layers keys ledger
        ∙ ap last_signed holds.whole
        ∙ sym (last_signed_told body holds.below es (held_base layers body es ledger holds) (ended holds.below holds.base.ends))

    pub read_at_base : 0 < body.base → (view : ℕ) → is_signature_in book view (entry_at ledger body.base) ≡ (body.view == view)
    read_at_base some view =
        let end = base_signed layers body es ledger holds some in
        ap (is_signature_in book view) end.1 ∙ ap (λ (signs : Bool). signs && (end.0.view == view)) end.2 ∙ ap (λ (v : ℕ). v == view) end.3

    pub read_behind : (seqno : ℕ) → body.base < seqno → (view : ℕ) → is_signature_in book view (entry_at ledger seqno) ≡ is_signature_in book view (entry_at es (seqno - body.base))
    read_behind seqno high view = ap (is_signature_in book view) (held_above seqno high)

    pub read_commit : greatest_recorded book ledger ≡ max body.commit (greatest_recorded book es)
    read_commit =
        let whole = greatest_all layers keys 0 ledger in
        let told : greatest_from body.commit es ≡ greatest_from 0 ledger = ap (λ (s : Body). s.commit) (held_snapshot layers body es ledger holds) in
        let behind = greatest_all layers keys body.commit es in
        omega (arith, whole, told, behind)

    -- ---- evidences

    none_up : (seqno : ℕ) → seqno ≤ body.base → greatest_evidence book ledger body.base seqno ≡ None
    unfolding greatest_evidence
    none_up zero low = refl
    none_up (suc n) low =
        ap (λ (above : Bool). if above && is_evidence_at book (entry_at ledger (suc n)) then Some (suc n) else greatest_evidence book ledger body.base n)
        (let high : nat_lt body.base (suc n) ≡ false = grind (arith, nat_tests, low) in high)
        ∙ none_up n (omega (arith, low))

    abbrev above : ℕ → ℕ
    above n = body.base + n

    evidence_at : (n seqno : ℕ) → seqno ≡ body.base + n → greatest_evidence book ledger body.base seqno ≡ option_map above (greatest_evidence book es 0 n)
    unfolding greatest_evidence
    evidence_at zero seqno is = none_up seqno (omega (arith, is))
    evidence_at (suc n) zero is = absurd (omega (arith, is))
    evidence_at (suc n) (suc s) is =
        ap (λ (a : Bool). if a && is_evidence_at book (entry_at ledger (suc s)) then Some (suc s) else greatest_evidence book ledger body.base s) (let high : nat_lt body.base (suc s) ≡ true = grind (arith, nat_tests, is) in high)
        ∙ ap (λ (o : Option Entry). if is_evidence_at book o then Some (suc s) else greatest_evidence book ledger body.base s) same
        ∙ go (is_evidence_at book (entry_at es (suc n))) (evidence_at n s (omega (arith, is)))
        ∙ ap (λ (a : Bool). option_map above (if a && is_evidence_at book (entry_at es (suc n)) then Some (suc n) else greatest_evidence book es 0 n)) (let high : true ≡ nat_lt 0 (suc n) = grind (arith, nat_tests) in high)
      where
        same : entry_at ledger (suc s) ≡ entry_at es (suc n)
        same = ap (entry_at ledger) is ∙ held_entry layers body es ledger holds (suc n) (omega arith)

        go : (evident : Bool) → greatest_evidence book ledger body.base s ≡ option_map above (greatest_evidence book es 0 n) →
            (if evident then Some (suc s) else greatest_evidence book ledger body.base s) ≡ option_map above (if evident then Some (suc n) else greatest_evidence book es 0 n)
        go true before = ap (λ (k : ℕ). Some k) is
        go false before = before

    pub read_evidence : (seqno : ℕ) → body.base ≤ seqno → greatest_evidence book ledger body.base seqno ≡ option_map (λ (n : ℕ). body.base + n) (greatest_evidence book es 0 (seqno - body.base))
    read_evidence seqno low = evidence_at (seqno - body.base) seqno (omega (arith, low))

-- cut to a seqno
pub read_signature_upto : (layers : Layers) (body : Body) (es ledger : List Entry) (holds : HoldsLedger layers body es ledger) (keys : NodeKeys) (seqno : ℕ) → body.base ≤ seqno →
    last_signature (ledger_book layers keys) (take seqno ledger) ≡ last_signed_over body (take (seqno - body.base) es)
read_signature_upto layers body es ledger holds keys seqno low =
    read_signature layers body (take (seqno - body.base) es) (take seqno ledger) (held_cut layers body es ledger holds seqno low) keys
