-- What is counted of a ledger with one entry more.
use Rattle.std.proofs.Common.{◌≡◌, ℕ, ◌+◌, ◌^◌, ◌<◌, ◌≤◌, List, [], ◌∷◌, ◌++◌, length, length-append, take, All, IsTrue, get_or, None, Bool, true, false, nat_le, option_map, refl, sym, ◌∙◌, ap, ap₂, subst, arith, if◌then◌else◌}
use Rattle.std.proofs.lemmas.Bool.{and_parts}
use Rattle.std.proofs.lemmas.Bool.Decides.{nat_tests}
use Rattle.std.proofs.lemmas.Grind.{flat_map-append}
use Rattle.std.proofs.lemmas.List.{take_more}
use Rattle.std.proofs.lemmas.List.Elements.{All-get_or}
use Rattle.std.proofs.lemmas.Option.{slice_get_read}
use Rattle.gl_base.specs.LittleEndian.{little_endian}
use Rattle.gl_base.specs.declared.tx_id.TxId.{TxId}
use Rattle.gl_base.proofs.LittleEndianLaws.{length-little_endian}
use Rattle.gl_merkle.specs.Tree.{root_of}
use Rattle.gl_vmaps.specs.Tables.{size_of}
use Rattle.gl_entry.specs.Entry.{body_bytes, body_limit, frame_bytes, is_entry, is_signature}
use Rattle.gl_entry.specs.Leaf.{id_of}
use Rattle.gl_entry.specs.declared.entry.Entry.{Entry}
use Rattle.gl_entry.proofs.Sizes.{body_parts}
use Rattle.gl_ledger.specs.Audit.{audited}
use Rattle.gl_ledger.specs.Broken.{broken}
use Rattle.gl_ledger.specs.NodeKeys.{service_layers}
use Rattle.gl_ledger.specs.Recordings.{last_entry}
use Rattle.gl_ledger.specs.Tree.{leaves_of, tables_of}
use Rattle.gl_ledger.proofs.Auditing.{audited_none}
use Rattle.gl_audit.specs.Ends.{end_of}
use Rattle.gl_audit.specs.Kept.{IsStateOf}
use Rattle.gl_audit.specs.declared.ledger_end.LedgerEnd.{LedgerEnd}
use Rattle.gl_load.specs.Report.{file_of, id_or_none, report_of, signatures_in}
use Rattle.gl_load.specs.Requests.{load_map}
use Rattle.gl_load.specs.Totals.{AreTotalsOf}
use Rattle.gl_load.specs.declared.report.Report.{Report}
use Rattle.gl_load.specs.declared.totals.Totals.{Totals}
use Rattle.gl_load.proofs.Steps.{length-push, length-signatures}

-- ---- a frame

pub body_small : (e : Entry) → is_entry e ≡ true → length (body_bytes e) ≤ body_limit
body_small e fits = let last = (and_parts _ (nat_le (length (body_bytes e)) body_limit) fits).1 in grind (arith, nat_tests, last)

pub frame_length : (e : Entry) → length (frame_bytes e) ≡ 8 + length (body_bytes e)
frame_length e =
    let size : List ℕ = little_endian 6 (length (body_bytes e)) in
    omega (arith, length-append (1 ∷ 0 ∷ size) (body_bytes e), length-little_endian 6 (length (body_bytes e)))

-- The length of a frame, of an entry whose body is within its limit.
pub ruleset frame_lengths = (frame_length, body_small, body_parts)

one_signature : (e : Entry) → length (signatures_in (e ∷ [])) ≡ (if is_signature e.content then 1 else 0)
one_signature e = go (is_signature e.content)
  where
    go : (t : Bool) → length (if t then e ∷ [] else []) ≡ (if t then 1 else 0)
    go true = refl
    go false = refl

length-file : (ledger : List Entry) (e : Entry) → length (file_of (ledger ++ e ∷ [])) ≡ length (file_of ledger) + length (frame_bytes e)
length-file ledger e =
    ap length (flat_map-append frame_bytes ledger (e ∷ []))
    ∙ (let r : length (file_of ledger ++ (frame_bytes e ++ [])) ≡ length (file_of ledger) + length (frame_bytes e) = omega (arith, length-append (file_of ledger) (frame_bytes e ++ []), length-append (frame_bytes e) []) in r)

-- ---- one entry more

pub counted : (ledger : List Entry) (e : Entry) (old new : Totals) → AreTotalsOf ledger old → IsStateOf (ledger ++ e ∷ []) new.state →
    new.signatures ≡ old.signatures + (if is_signature e.content then 1 else 0) → new.bytes ≡ old.bytes + length (frame_bytes e) → length (frame_bytes e) ≤ 2 ^ 21 →
    AreTotalsOf (ledger ++ e ∷ []) new
counted ledger e old new t state signs bytes small = record {
  state = state;
  signatures = signs ∙ ap₂ (λ (a : ℕ) (b : ℕ). a + b) t.signatures (sym (one_signature e)) ∙ sym (length-signatures ledger e);
  few = few (is_signature e.content) signs;
  bytes = bytes ∙ ap (λ (k : ℕ). k + length (frame_bytes e)) t.bytes ∙ sym (length-file ledger e);
  small = let before = t.small in omega (arith, before, bytes, small, length-push ledger e);
}
  where
    few : (b : Bool) → new.signatures ≡ old.signatures + (if b then 1 else 0) → new.signatures ≤ length (ledger ++ e ∷ [])
    few true is = let before = t.few in omega (arith, before, is, length-push ledger e)
    few false is = let before = t.few in omega (arith, before, is, length-push ledger e)

-- ---- what they come to

abbrev report_with : ℕ → ℕ → ℕ → ℕ → TxId → List ℕ → Report
report_with entries signatures bytes keys last root =
    record { entries = entries; signatures = signatures; bytes = bytes; keys = keys; last = last; root = root }

pub reported : (ledger : List Entry) (t : Totals) (end : LedgerEnd) (keys : ℕ) (last : TxId) (root : List ℕ) → AreTotalsOf ledger t → end ≡ end_of ledger →
    keys ≡ size_of (tables_of ledger) load_map → last ≡ id_or_none end.last → root ≡ root_of (leaves_of ledger) → report_with end.len t.signatures t.bytes keys last root ≡ report_of ledger
reported ledger t end keys last root at ends k l r =
    let len : end.len ≡ length ledger = ap (λ (x : LedgerEnd). x.len) ends in
    let id : last ≡ id_or_none (option_map id_of (last_entry ledger)) = l ∙ ap (λ (x : LedgerEnd). id_or_none x.last) ends in
    let signs : t.signatures ≡ length (signatures_in ledger) = at.signatures in
    let bytes : t.bytes ≡ length (file_of ledger) = at.bytes in
    cc

-- ---- the entries of a ledger, one after the other

module _ (ledger : List Entry) (i : ℕ) (e : Entry) (low : i < length ledger) (is : e ≡ get_or ledger i e) where
  pub unbroken_at : audited service_layers ledger ≡ None → broken service_layers (take i ledger) e ≡ None
  unbroken_at valid = audited_none service_layers ledger valid i e (slice_get_read ledger (length ledger) i e refl low is)

  pub fits_at : All (λ (f : Entry). IsTrue (is_entry f)) ledger → is_entry e ≡ true
  fits_at fit = subst (λ (f : Entry). is_entry f ≡ true) (sym is) (All-get_or (λ (f : Entry). IsTrue (is_entry f)) ledger i e low fit)

  pub totals_at : (t : Totals) → AreTotalsOf (take i ledger ++ e ∷ []) t → AreTotalsOf (take (i + 1) ledger) t
  totals_at t at =
      subst (λ (es : List Entry). AreTotalsOf es t) (sym (take_more ledger i e low ∙ ap (λ (f : Entry). take i ledger ++ f ∷ []) (sym is))) at
