-- What a ledger's parts tell of the receipts that it gives, and that these are accepted.
use Rattle.std.proofs.Common.{◌≡◌, ℕ, zero, suc, ◌-◌, ◌^◌, ◌<◌, ◌≤◌, Bool, true, false, ◌&&◌, cond, List, [], ◌∷◌, ◌++◌, length, take, get_or, Option, None, Some, option_map, Result, Ok, Err, codes, nat_le, nat_lt, refl, sym, ap, subst, ◌∙◌, arith}
use Rattle.std.specs.Cmp.Lexicographic.{bytes_decides}
use Rattle.std.specs.Fmt.{decimal}
use Rattle.std.specs.List.{find, list_all}
use Rattle.std.specs.Str.{IsAscii, IsUtf8}
use Rattle.std.proofs.lemmas.Bool.{and_parts}
use Rattle.std.proofs.lemmas.Bool.Decides.{nat_tests}
use Rattle.std.proofs.lemmas.Fmt.{IsAscii-decimal}
use Rattle.std.proofs.lemmas.List.{length-take-le, get_or-take}
use Rattle.std.proofs.lemmas.Option.{get_or_from_slice_get}
use Rattle.std.proofs.lemmas.Str.{IsAscii-append, IsUtf8-from_ascii}
use Rattle.std.proofs.lemmas.Str.Ascii.{IsAscii-cons, IsAscii-nil}
use Rattle.sha2.specs.Sha256.{sha256}
use Rattle.hex.specs.Hex.{encode_lower, lower_digits}
use Rattle.hex.proofs.HexLemmas.{IsAscii-encode_with}
use Rattle.gl_base.specs.Status.{is_held, decided, undecided, commit_seqno, commit_view}
use Rattle.gl_base.specs.TxId.{text_of, IsTxId}
use Rattle.gl_base.specs.declared.tx_id.Status.{Status}
use Rattle.gl_base.specs.declared.tx_id.Status.TheVariants as statuses
use Rattle.gl_base.specs.declared.tx_id.TxId.{TxId}
use Rattle.gl_base.proofs.Lists.{slice_get-within}
use Rattle.gl_entry.specs.Entry.{body_bytes, is_signature, recorded_commit}
use Rattle.gl_entry.specs.Leaf.{evidence_text, evidence_digest, leaf_of_components, leaf_of, id_of}
use Rattle.gl_entry.specs.SignedMessage.{signed_message}
use Rattle.gl_entry.specs.declared.entry.Entry.{Entry}
use Rattle.gl_hss.specs.Hss.{IsValid}
use Rattle.gl_merkle.specs.Path.{path_of, climb_of}
use Rattle.gl_merkle.specs.Tree.{root_of}
use Rattle.gl_merkle.proofs.PathLemmas.{climb-within}
use Rattle.gl_merkle.proofs.TreeLemmas.{below_pow}
use Rattle.gl_receipt.specs.Made.{Ledger, at_seqno, entry_at, view_at, commit_id, status_in, if_committed, committed_entry, signature_above, is_under_same_key, if_within, later_signature, receipt_by, recorded_signature, IsOfService}
use Rattle.gl_receipt.specs.Receipt.{Accepts}
use Rattle.gl_receipt.specs.declared.make_fault.MakeFault.{MakeFault}
use Rattle.gl_receipt.specs.declared.make_fault.MakeFault.TheVariants.{NoLaterSignature}

-- ---- a text of commit evidence

abbrev is_seven_bits : ℕ → Bool
is_seven_bits byte = nat_lt byte 128

ascii_from : (bs : List ℕ) → list_all is_seven_bits bs ≡ true → IsAscii bs
ascii_from [] all = IsAscii-nil
ascii_from (b ∷ bs) all =
    let both = and_parts (is_seven_bits b) (list_all is_seven_bits bs) all in
    let small : b < 128 = let is = both.0 in grind (arith, nat_tests) in
    IsAscii-cons b bs small (ascii_from bs both.1)

pub evidence_utf8 : (identity : List ℕ) (id : TxId) → id.view < 2 ^ 64 → id.seqno < 2 ^ 64 → IsUtf8 (evidence_text identity id)
evidence_utf8 identity id small short =
    let seqno : IsAscii (46 ∷ decimal id.seqno) = IsAscii-cons 46 (decimal id.seqno) (omega arith) (IsAscii-decimal id.seqno short) in
    let text : IsAscii (text_of id) = IsAscii-append (decimal id.view) (46 ∷ decimal id.seqno) (IsAscii-decimal id.view small) seqno in
    let digits : IsAscii (encode_lower (evidence_digest identity id)) = IsAscii-encode_with lower_digits (evidence_digest identity id) (ascii_from lower_digits refl) in
    let prefix : IsAscii (codes "ce:" ++ text_of id) = IsAscii-append (codes "ce:") (text_of id) (ascii_from (codes "ce:") refl) text in
    let most : IsAscii ((codes "ce:" ++ text_of id) ++ codes ":") = IsAscii-append (codes "ce:" ++ text_of id) (codes ":") prefix (ascii_from (codes ":") refl) in
    IsUtf8-from_ascii (evidence_text identity id) (IsAscii-append ((codes "ce:" ++ text_of id) ++ codes ":") (encode_lower (evidence_digest identity id)) most digits)

-- ---- the first that passes a test

pub find_passes : {X : Type 0} (test : X → Bool) (xs : List X) (x : X) → find test xs ≡ Some x → test x ≡ true
find_passes test [] x e = cc
find_passes {X} test (y ∷ xs) x e = go (test y) refl (find_passes test xs x) e
  where
    go : (b : Bool) → test y ≡ b → (find test xs ≡ Some x → test x ≡ true) → cond b (Some y) (find test xs) ≡ Some x → test x ≡ true
    go true is rest h = let same : y ≡ x = cc in sym (ap test same) ∙ is
    go false is rest h = rest h

-- ---- a committed transaction

-- a transaction that is committed is held
held_by : (asked : TxId) (local : Option ℕ) → is_held asked local ≡ true → local ≡ Some asked.view
held_by asked None h = cc
held_by asked (Some view) h = let same : view ≡ asked.view = grind (arith, nat_tests) in ap Some same

held_if : (asked : TxId) (local : Option ℕ) (below held passed : Bool) → is_held asked local ≡ held → cond below (decided held) (undecided held passed) ≡ statuses.Committed
    → local ≡ Some asked.view
held_if asked local below true passed is h = held_by asked local is
held_if asked local true false passed is h = absurd (cc)
held_if asked local false false true is h = absurd (cc)
held_if asked local false false false is h = absurd (cc)

found_if : (status : Status) (found : Option Entry) (e : Entry) → if_committed status found ≡ Ok e → (status ≡ statuses.Committed) × (found ≡ Some e)
found_if statuses.Committed (Some f) e h = let same : f ≡ e = cc in (refl, ap Some same)
found_if statuses.Committed None e h = absurd (cc)
found_if statuses.Unknown found e h = absurd (cc)
found_if statuses.Pending found e h = absurd (cc)
found_if statuses.Invalid found e h = absurd (cc)

-- the entry of a committed transaction stands at its seqno and has its view
pub record IsEntryOf (l : Ledger) (id : TxId) (e : Entry) : Type 0 where
  pub there : entry_at l.entries id.seqno ≡ Some e
  pub view : e.view ≡ id.view

pub entry_of : (l : Ledger) (id : TxId) (e : Entry) → committed_entry l id ≡ Ok e → IsEntryOf l id e
entry_of l id e h =
    let found = found_if (status_in l id) (entry_at l.entries id.seqno) e h in
    let local = view_at l.entries id.seqno in
    let held = held_if id local (nat_le id.seqno (commit_seqno (commit_id l))) (is_held id local) (nat_lt id.view (commit_view (commit_id l))) refl found.0 in
    let one : Some e.view ≡ Some id.view = sym (ap (option_map (λ (f : Entry). f.view)) found.1) ∙ held in
    record { there = found.1; view = cc }

-- ---- a later signature

under_if : (l : Ledger) (seqno : ℕ) (found : Option Entry) (s : Entry) → if_within l seqno found ≡ Ok s → l.identity seqno ≡ l.identity s.seqno
under_if l seqno None s h = absurd (cc)
under_if l seqno (Some f) s h = go (nat_le f.seqno l.commit && is_under_same_key l seqno f.seqno) refl h
  where
    go : (passes : Bool) → (nat_le f.seqno l.commit && is_under_same_key l seqno f.seqno) ≡ passes
        → cond {A = Result Entry MakeFault} passes (Ok f) (Err (NoLaterSignature l.commit)) ≡ Ok s → l.identity seqno ≡ l.identity s.seqno
    go true is h =
        let same : f ≡ s = cc in
        let under = (and_parts (nat_le f.seqno l.commit) (is_under_same_key l seqno f.seqno) is).1 in
        (bytes_decides (l.identity seqno) (l.identity f.seqno)).0 under ∙ ap (λ (e : Entry). l.identity e.seqno) same
    go false is h = absurd (cc)

-- it is under the key in force at the seqno
pub same_key : (l : Ledger) (seqno : ℕ) (s : Entry) → later_signature l seqno ≡ Ok s → l.identity seqno ≡ l.identity s.seqno
same_key l seqno s h = under_if l seqno (signature_above l.entries seqno) s h

-- ---- a seqno within a list from 1 on

pub within : {X : Type 0} (xs : List X) (seqno : ℕ) (x : X) → at_seqno xs seqno ≡ Some x → (0 < seqno) × (seqno ≤ length xs)
within xs zero x at = absurd (cc)
within xs (suc i) x at = (omega arith, slice_get-within xs i x at)

-- the leaf at a seqno, among the first
leaf_before : (leaves : List (List ℕ)) (seqno n : ℕ) (leaf : List ℕ) → at_seqno leaves seqno ≡ Some leaf → seqno ≤ n → get_or (take n leaves) (seqno - 1) [] ≡ leaf
leaf_before leaves zero n leaf at before = absurd (cc)
leaf_before leaves (suc i) n leaf at before =
    let index : suc i - 1 ≡ i = omega arith in
    ap (λ (k : ℕ). get_or (take n leaves) k []) index ∙ get_or-take n leaves i [] (omega (arith, before)) ∙ get_or_from_slice_get leaves i leaf [] at

-- ---- its receipt

climbs : (leaves : List (List ℕ)) (index : ℕ) → 1 ≤ index → index ≤ length leaves → climb_of (get_or leaves (index - 1) []) (path_of leaves index) ≡ root_of leaves
unfolding root_of path_of
climbs leaves index low high = climb-within (length leaves) leaves index low high (omega (arith, below_pow (length leaves)))

pub accepted : (l : Ledger) (id : TxId) (e s : Entry) → committed_entry l id ≡ Ok e → e.seqno ≡ id.seqno → later_signature l id.seqno ≡ Ok s → id.seqno < s.seqno
    → entry_at l.entries s.seqno ≡ Some s → is_signature s.content ≡ true → IsOfService l → Accepts (l.identity id.seqno) (receipt_by l id e s) id
accepted l id e s committed numbered later above there signs is =
    let key : List ℕ = l.identity id.seqno in
    let of = entry_of l id e committed in
    let here = within l.entries id.seqno e of.there in
    let last = within l.leaves s.seqno (leaf_of (l.identity s.seqno) s) (is.leaves s.seqno s there) in
    let same : id_of e ≡ id = ap (λ (v : ℕ). record { view = v; seqno = e.seqno }) of.view ∙ ap (λ (n : ℕ). record { view = id.view; seqno = n }) numbered in
    let first : List (List ℕ) = take (s.seqno - 1) l.leaves in
    let size : length first ≡ s.seqno - 1 = length-take-le (s.seqno - 1) l.leaves (omega (arith, last.1)) in
    let leaf : get_or first (id.seqno - 1) [] ≡ leaf_of_components (sha256 (body_bytes e)) (sha256 (evidence_text key id)) e.claims =
    leaf_before l.leaves id.seqno (s.seqno - 1) (leaf_of key e) (is.leaves id.seqno e of.there) (omega (arith, above))
    ∙ ap (λ (i : TxId). leaf_of_components (sha256 (body_bytes e)) (sha256 (evidence_text key i)) e.claims) same in
    let root : climb_of (leaf_of_components (sha256 (body_bytes e)) (sha256 (evidence_text key id)) e.claims) (path_of first id.seqno) ≡ root_of first =
    ap (λ (x : List ℕ). climb_of x (path_of first id.seqno)) (sym leaf) ∙ climbs first id.seqno (omega (arith, here.0)) (omega (arith, above, size)) in
    let message : List ℕ = signed_message (root_of first) s.view s.seqno (recorded_commit s.content) in
    record {
      evidence = record { named = subst (λ (i : TxId). IsTxId i) same (is.named id.seqno e of.there); encoded = refl };
      signature =
          subst (λ (x : List ℕ). IsValid key (signed_message x s.view s.seqno (recorded_commit s.content)) (recorded_signature s.content)) (sym root)
          (subst (λ (k : List ℕ). IsValid k message (recorded_signature s.content)) (sym (same_key l id.seqno s later)) (is.signatures s.seqno s there signs));
    }
