-- The snapshot of a node's ledger before an evidence is one of each ledger that it stands for, and a
-- node that begins from one stands for that ledger.
use Rattle.std.proofs.Common.{◌≡◌, ℕ, zero, suc, ◌+◌, ◌-◌, ◌<◌, ◌≤◌, true, List, [], ◌∷◌, length, take, nat_le, slice_get, Bool, false, ◌==◌, if◌then◌else◌, Option, None, Some, Result, option_map, refl, sym, ap, subst, ◌∙◌, arith, append-nil}
use Rattle.std.proofs.lemmas.Bool.Decides.{nat_tests}
use Rattle.gl_rules.specs.Log.{entry_at}
use Rattle.gl_rules.specs.Replication.{is_evidence_at}
use Rattle.gl_entry.specs.Entry.{is_evidence, is_signature}
use Rattle.gl_entry.specs.declared.entry.Content.{Content}
use Rattle.gl_entry.specs.declared.entry.Content.TheVariants as content
use Rattle.gl_entry.specs.declared.entry.Entry.{Entry}
use Rattle.gl_snapshot_body.specs.Body.{body_bytes, is_body, is_counted, no_body, snapshot_limit}
use Rattle.gl_snapshot_body.specs.declared.body.Body.{Body}
use Rattle.gl_snapshot_body.specs.declared.fault.ShapeFault.{ShapeFault}
use Rattle.gl_snapshot_body.proofs.BodyLaws.{shape-read}
use Rattle.gl_ledger.specs.Audit.{audited_over}
use Rattle.gl_ledger.specs.Behind.{IsBaseBody, IsReadAt}
use Rattle.gl_ledger.specs.Broken.{breach, broken_by, broken_by_evidence, broken_over}
use Rattle.gl_ledger.specs.LedgerBook.{ServiceBook, ledger_book}
use Rattle.gl_ledger.specs.NodeKeys.{NodeKeys, service_layers}
use Rattle.gl_ledger.specs.Past.{Past, is_signed, last_of, past_from}
use Rattle.gl_ledger.specs.Recordings.{last_entry, recording_of}
use Rattle.gl_ledger.specs.Signed.{IsSignedUpTo}
use Rattle.gl_ledger.specs.Snapshot.{snapshot_over}
use Rattle.gl_ledger.specs.declared.recording.Recording.{Recording}
use Rattle.gl_ledger.specs.declared.recording.Recording.TheVariants as recordings
use Rattle.gl_ledger.proofs.EachPassing.{each_over, over-take}
use Rattle.gl_ledger.proofs.Passing.{passed}
use Rattle.gl_ledger_base.specs.Ledgers.{HoldsLedger, IsBase}
use Rattle.gl_ledger_base.proofs.LedgersHeld.{held_broken, held_length, held_next, held_snapshot}
use Rattle.gl_ledger_base.proofs.LedgersPassing.{passing_from}
use Rattle.gl_ledger_base.proofs.LedgersReadable.{readable, readable_or_none}
use Rattle.gl_ledger_base.proofs.LedgersReads.{held_above, held_cut}
use Rattle.gl_replication.specs.Holding.{Holding, from_snapshot}
use Rattle.gl_replication.specs.Offers.{IsWritable, kept_body}
use Rattle.gl_store_book.specs.BasedLedgers.{BasedLedger, IsAudited, IsEncoded, base_of, begun_ledger, body_encoded, body_of, body_read}
use Rattle.gl_store_book.specs.Stands.{NodeStore, Shows, Stands}
use Rattle.gl_store_book.proofs.TailLists.{counted}

-- ---- an evidence

at_most : (a b : ℕ) → nat_le a b ≡ true → a ≤ b
at_most a b is = grind (arith, nat_tests, is)

-- where the last entry is a signature the ledger ends with one
pub signed_last : (ledger : List Entry) → is_signed (option_map last_of (last_entry ledger)) ≡ true → IsSignedUpTo ledger (length ledger)
signed_last [] is some = absurd (omega (arith, some))
signed_last (x ∷ xs) is some = go (last_entry (x ∷ xs)) refl is
  where
    go : (o : Option Entry) → last_entry (x ∷ xs) ≡ o → is_signed (option_map last_of o) ≡ true → (e : Entry) × (entry_at (x ∷ xs) (length (x ∷ xs)) ≡ Some e) × (is_signature e.content ≡ true)
    go None at signs = absurd (cc)
    go (Some e) at signs = (e, ap (slice_get (x ∷ xs)) (let last : length xs ≡ length (x ∷ xs) - 1 = omega arith in last) ∙ at, signs)

-- What an evidence that breaks no rule says of the entries before it.
pub record IsEvident (p : Past) : Type 0 where
  pub signed : is_signed p.last ≡ true
  pub within : length (body_bytes p.snapshot) ≤ snapshot_limit

evident_by : (d : List ℕ) (p : Past) (e : Entry) → broken_by_evidence d p e ≡ None → IsEvident p
evident_by d p e none =
    let seqno = p.len + 1 in
    let bytes = body_bytes p.snapshot in
    let one = passed (is_signed p.last) (breach 12 seqno e) _ none in
    let two = passed (nat_le (length bytes) snapshot_limit) (breach 12 seqno e) _ one.1 in
    record { signed = one.0; within = at_most (length bytes) snapshot_limit two.0 }

evident_as : (c : Content) (t : Recording) (p : Past) (e : Entry) → is_evidence c ≡ true → recording_of c ≡ Some t → broken_by service_layers t p e ≡ None → IsEvident p
evident_as (content.Evidence d) t p e is reads none =
    let same : recordings.Evidence d ≡ t = cc in
    evident_by d p e (subst (λ (r : Recording). broken_by service_layers r p e ≡ None) (sym same) none)
evident_as (content.Governance bytes) t p e is reads none = absurd (cc)
evident_as (content.Application bytes) t p e is reads none = absurd (cc)
evident_as (content.Signature s) t p e is reads none = absurd (cc)

-- ---- a snapshot

module _ (l : BasedLedger) (valid : IsAudited l) (log : List Entry) (holds : HoldsLedger service_layers (body_of l.snapshot) l.entries log) (to : ℕ) (low : base_of l ≤ to) where
  abbrev told : Body
  told = body_of l.snapshot

  abbrev kept : List Entry
  kept = take (to - told.base) l.entries

  cut_holds : HoldsLedger service_layers told kept (take to log)
  cut_holds = held_cut service_layers told l.entries log holds to low

  cut_valid : audited_over service_layers told kept ≡ None
  cut_valid = over-take service_layers told l.entries (to - told.base) valid

  evident_after : (e : Entry) → entry_at log (suc to) ≡ Some e → is_evidence e.content ≡ true → IsEvident (past_from told.base (take to log))
  evident_after e at evident =
      let behind = sym (held_above service_layers told l.entries log holds (suc to) (omega (arith, low))) ∙ at in
      let place : suc to - told.base ≡ suc (to - told.base) = omega (arith, low) in
      let there : slice_get l.entries (to - told.base) ≡ Some e = ap (entry_at l.entries) (sym place) ∙ behind in
      let none : broken_over service_layers told kept e ≡ None = each_over service_layers told l.entries valid (to - told.base) e there in
      let passes = passing_from service_layers told.base (take to log) e (sym (held_broken service_layers told kept (take to log) cut_holds cut_valid e) ∙ none) in
      evident_as e.content passes.recording (past_from told.base (take to log)) e evident passes.reads passes.rest

  evidence_there : (b : ServiceBook) (keys : NodeKeys) (o : Option Entry) → b ≡ ledger_book service_layers keys → entry_at log (suc to) ≡ o → is_evidence_at b o ≡ true → IsEvident (past_from told.base (take to log))
  evidence_there b keys None same at is = absurd (cc)
  evidence_there b keys (Some e) same at is = evident_after e at (ap (λ (v : ServiceBook). v.is_evidence e) (sym same) ∙ is)

  pub shown : (b : ServiceBook) (keys : NodeKeys) → b ≡ ledger_book service_layers keys → is_evidence_at b (entry_at log (to + 1)) ≡ true → Shows (snapshot_over told kept) b (take to log)
  shown b keys same is =
      let after = evidence_there b keys (entry_at log (suc to)) same refl (ap (λ (n : ℕ). is_evidence_at b (entry_at log n)) (let next : suc to ≡ to + 1 = omega arith in next) ∙ is) in
      record {
        base = held_next service_layers told kept (take to log) cut_holds cut_valid (signed_last (take to log) after.signed);
        within = subst (λ (s : Body). length (body_bytes s) ≤ snapshot_limit) (sym (held_snapshot service_layers told kept (take to log) cut_holds)) after.within;
      }

-- what a node's store gives
pub shown_by : (node : NodeStore) (b : ServiceBook) (h : Holding Entry) (to place : ℕ) (given : Body) → IsAudited node.ledger → Stands node b h → h.base ≤ to → is_evidence_at b (entry_at h.log (to + 1)) ≡ true → place ≡ to →
    given ≡ snapshot_over (body_of node.ledger.snapshot) (take (place - base_of node.ledger) node.ledger.entries) → Shows given b (take to h.log)
shown_by node b h to place given valid s low evidence at is =
    let base = s.holding.base in
    subst (λ (g : Body). Shows g b (take to h.log))
    (sym (is ∙ ap (λ (n : ℕ). snapshot_over (body_of node.ledger.snapshot) (take (n - base_of node.ledger) node.ledger.entries)) at))
    (shown node.ledger valid h.log s.holding.holds to (omega (arith, low, base)) b s.keys s.book evidence)

-- and a seqno of its ledger is one of what it keeps
pub seqno_kept : (node : NodeStore) (b : ServiceBook) (h : Holding Entry) (to : ℕ) → Stands node b h → h.base ≤ to → to ≤ length h.log → (base_of node.ledger ≤ to) × (to ≤ base_of node.ledger + length node.ledger.entries)
seqno_kept node b h to s low high =
    let base = s.holding.base in
    let long = held_length service_layers (body_of node.ledger.snapshot) node.ledger.entries h.log s.holding.holds in
    (omega (arith, low, base), omega (arith, high, long))

-- ---- a node that begins from one

-- a snapshot's body can be read
pub shown_readable : (body : Body) (b : ServiceBook) (log : List Entry) → Shows body b log → 0 < body.base → IsBaseBody body
shown_readable body b log s some = readable service_layers body log s.base some s.within

-- its bytes are read as it
pub body_again : (body : Body) → is_body body ≡ true → body_encoded (body_bytes body) ≡ body
unfolding body_encoded
body_again body is = ap (λ (r : Result Body ShapeFault). body_read r) (shape-read 0 body is)

spelled_again : (body : Body) → is_body body ≡ true → IsEncoded (Some (body_bytes body))
spelled_again body is =
    let again = body_again body is in
    (ap is_body again ∙ is, ap body_bytes (sym again))

base_counted : (body : Body) (log : List Entry) → IsBase service_layers body log → length log ≡ body.base
base_counted body log base = subst (λ (b : Body). length log ≡ b.base) base.snapshot (omega arith)

holds_base : (body : Body) (log : List Entry) → IsBase service_layers body log → HoldsLedger service_layers body [] log
holds_base body log base = record { below = log; base = base; whole = sym (append-nil log) }

-- that of no entries is none
none_shown : (body : Body) (b : ServiceBook) (log : List Entry) → Shows body b log → body.base ≡ 0 → body ≡ no_body
none_shown body b log s none = subst (λ (n : ℕ). IsReadAt n body) none (readable_or_none service_layers body log s.base s.within)

-- and its counts fit their fields
counted_shown : (body : Body) (b : ServiceBook) (log : List Entry) → Shows body b log → is_counted body ≡ true
counted_shown body b log s = go body.base refl (readable_or_none service_layers body log s.base s.within)
  where
    go : (n : ℕ) → body.base ≡ n → IsReadAt n body → is_counted body ≡ true
    go zero is none = ap is_counted none
    go (suc n) is read = counted body read.fits

pub writable : (body : Body) (b : ServiceBook) (log : List Entry) → Shows body b log → IsWritable body
writable body b log s = record { counted = counted_shown body b log s; within = s.within }

-- what is kept of a body is read as it
pub kept_again : (body : Body) (b : ServiceBook) (log : List Entry) → Shows body b log → (body_of (kept_body body) ≡ body) × IsEncoded (kept_body body)
kept_again body b log shows = go (body.base == 0) refl
  where
    go : (t : Bool) → (body.base == 0) ≡ t → (body_of (if t then None else Some (body_bytes body)) ≡ body) × IsEncoded (if t then None else Some (body_bytes body))
    go true is = (sym (none_shown body b log shows (let none : body.base ≡ 0 = grind (arith, nat_tests, is) in none)), tt)
    go false is =
        let fits = (shown_readable body b log shows (let some : 0 < body.base = grind (arith, nat_tests, is) in some)).fits in
        (body_again body fits, spelled_again body fits)

pub begun_stands : (old new : NodeStore) (body : Body) (b : ServiceBook) (h : Holding Entry) (log : List Entry) → new ≡ record old { ledger = begun_ledger body } → Stands old b h → Shows body b log →
    Stands new b (from_snapshot h.me log)
begun_stands old new body b h log same s shows =
    let again = kept_again body b log shows in
    subst (λ (n : NodeStore). Stands n b (from_snapshot h.me log)) (sym same)
    (record {
      keys = s.keys;
      has = record { key = s.has.key };
      book = s.book;
      holding = record {
        me = s.holding.me;
        base = base_counted body log shows.base ∙ sym (ap (λ (c : Body). c.base) again.0);
        spelled = again.1;
        holds = subst (λ (c : Body). HoldsLedger service_layers c [] log) (sym again.0) (holds_base body log shows.base);
      };
    })
