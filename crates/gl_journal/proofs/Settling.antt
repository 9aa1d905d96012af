-- Files that are settled once their end is closed.
use Rattle.std.proofs.Common.{◌≡◌, inl, inr, subst, take-append-drop, ℕ, ◌+◌, ◌<◌, ◌≤◌, List, [], ◌∷◌, ◌++◌, length, take, drop, Result, Ok, Err, OnOk, OnErr, sym, ◌∙◌, ap, arith, append_assoc, length-append}
use Rattle.std.proofs.lemmas.List.{append-nil, take_all, drop_all}
use Rattle.gl_outside.specs.Disk.{Step, Kept, IsImage, Torn, LeavesOnly, Leaves, written}
use Rattle.gl_outside.proofs.Moments.{started, stayed, so_too, then_too}
use Rattle.gl_outside.proofs.Tearing.{kept_on}
use Rattle.gl_journal.specs.Gates.{batches, payloads_of}
use Rattle.gl_journal.specs.Parts.{FileParts, HasGate}
use Rattle.gl_journal.specs.Stops.{IsSettled, IsBegun}
use Rattle.gl_journal.proofs.Appending.{closed_file, has_gate}
use Rattle.gl_journal.proofs.PartLaws.{opens_by_parts}

-- a file that has its closed gate
pub settled_by_gate : (header bytes : List ℕ) (payloads : List (List ℕ)) (place : ℕ) (rest : List ℕ) (bytes' : List ℕ) (past : List Step) → FileParts header bytes payloads place rest → place < length bytes → bytes' ≡ bytes → LeavesOnly past bytes'
    → IsSettled header place bytes' past × (payloads_of header bytes' ≡ Ok payloads)
settled_by_gate header bytes payloads place [] bytes' past parts below same keeps =
    absurd (omega (arith, ap length parts.split, parts.current, length-append (header ++ batches payloads) []))
settled_by_gate header bytes payloads place (gate ∷ tail) bytes' past parts below same keeps = (
  record { payloads = payloads; gate = gate; tail = tail; file = same ∙ parts.split; closed = parts.closed; fit = parts.fit; current = parts.current; kept = keeps },
  ap (payloads_of header) same ∙ opens_by_parts header bytes payloads place (gate ∷ tail) parts,
)

-- a closed gate written after a file that lacked it
pub settled_by_closing : (header bytes : List ℕ) (payloads : List (List ℕ)) (place : ℕ) (rest : List ℕ) (bytes' : List ℕ) (past : List Step) → FileParts header bytes payloads place rest → length bytes ≤ place → bytes' ≡ written bytes place (0 ∷ []) → LeavesOnly past bytes'
    → IsSettled header place bytes' past × (payloads_of header bytes' ≡ Ok payloads)
settled_by_closing header bytes payloads place (gate ∷ tail) bytes' past parts above is keeps =
    absurd (omega (arith, ap length parts.split, parts.current, length-append (header ++ batches payloads) (gate ∷ tail)))
settled_by_closing header bytes payloads place [] bytes' past parts above is keeps =
    let whole : bytes ≡ header ++ batches payloads = parts.split ∙ append-nil (header ++ batches payloads) in
    let file : bytes' ≡ header ++ batches payloads ++ 0 ∷ [] =
    is ∙ ap (λ (l : List ℕ). l ++ (0 ∷ []) ++ drop (place + 1) bytes) (take_all place bytes above)
    ∙ ap (λ (l : List ℕ). bytes ++ (0 ∷ []) ++ l) (drop_all (place + 1) bytes (omega arith)) ∙ append-nil (bytes ++ 0 ∷ [])
    ∙ ap (λ (l : List ℕ). l ++ 0 ∷ []) whole in (
      record { payloads = payloads; gate = 0; tail = []; file = file; closed = λ e. omega arith; fit = parts.fit; current = parts.current; kept = keeps },
      ap (payloads_of header) file ∙ closed_file header payloads 0 [] parts.fit (λ e. omega arith),
    )

written_first : (bytes piece : List ℕ) → bytes ≡ [] → written bytes 0 piece ≡ piece
written_first bytes piece none =
    ap (λ (l : List ℕ). take 0 l ++ piece ++ drop (0 + length piece) l) none
    ∙ ap (λ (l : List ℕ). take 0 [] ++ piece ++ l) (drop_all (0 + length piece) [] (omega arith)) ∙ append-nil piece

-- a header and a closed gate on a disk that held nothing
pub settled_at_first : (header bytes : List ℕ) (place : ℕ) (bytes' : List ℕ) (past : List Step) → bytes ≡ [] → place ≡ length header → bytes' ≡ written bytes 0 (header ++ 0 ∷ []) → LeavesOnly past bytes'
    → IsSettled header place bytes' past × (payloads_of header bytes' ≡ Ok [])
settled_at_first header bytes place bytes' past none here is keeps =
    let whole : bytes' ≡ header ++ 0 ∷ [] = is ∙ written_first bytes (header ++ 0 ∷ []) none in
    let file : bytes' ≡ header ++ [] ++ 0 ∷ [] = whole ∙ ap (λ (l : List ℕ). l ++ 0 ∷ []) (sym (append-nil header)) in (
      record { payloads = []; gate = 0; tail = []; file = file; closed = λ e. omega arith; fit = tt; current = here ∙ ap length (sym (append-nil header)); kept = keeps },
      ap (payloads_of header) file ∙ closed_file header [] 0 [] tt (λ e. omega arith),
    )

-- a byte that is torn after the end of a file that has its gate
pub torn_end : (header bytes image : List ℕ) (len : ℕ) → HasGate header bytes → len ≡ length bytes → Torn len 1 bytes image → HasGate header image × (payloads_of header image ≡ payloads_of header bytes)
torn_end header bytes image len has size torn =
    let parts = has.parts in
    let prefix : take len image ≡ header ++ batches has.payloads ++ has.gate ∷ has.tail = torn.before ∙ take_all len bytes (omega arith) ∙ parts.split in
    let whole : image ≡ header ++ batches has.payloads ++ has.gate ∷ (has.tail ++ drop len image) =
    sym (take-append-drop len image) ∙ ap (λ (l : List ℕ). l ++ drop len image) prefix ∙ append_assoc (header ++ batches has.payloads) (has.gate ∷ has.tail) (drop len image) in (
      has_gate header image has.payloads has.gate (has.tail ++ drop len image) whole parts.fit parts.closed,
      ap (payloads_of header) whole ∙ closed_file header has.payloads has.gate (has.tail ++ drop len image) parts.fit parts.closed
          ∙ sym (opens_by_parts header bytes has.payloads has.place (has.gate ∷ has.tail) parts),
    )

-- a call that did no step
pub still : (past after : List Step) → after ≡ past → Leaves (IsImage past) past after
still past after same = stayed (IsImage past) past past after (started (IsImage past) past (λ image left. left)) same

-- a sync of bytes that a stop might have left before
pub still_kept : (past mid after : List Step) (bytes : List ℕ) → IsImage mid bytes → mid ≡ past → after ≡ Kept bytes ∷ mid → Leaves (IsImage past) past after
still_kept past mid after bytes left same kept =
    kept_on (IsImage past) past mid after bytes (still past mid same) kept (subst (λ (p : List Step). IsImage p bytes) same left)

-- a sync of a disk that holds nothing, and a call that did no step
pub begun_kept : (past mid after : List Step) (bytes : List ℕ) → bytes ≡ [] → mid ≡ Kept bytes ∷ past → after ≡ mid → Leaves (IsBegun past) past after
begun_kept past mid after bytes none kept same =
    let begun = started (IsBegun past) past (λ image left. inl left) in
    stayed (IsBegun past) past mid after (kept_on (IsBegun past) past past mid bytes begun kept (inr (omega (arith, ap length none)))) same

-- and then a write of its first bytes
pub begun_torn : (past mid after : List Step) (bytes : List ℕ) (count : ℕ) → bytes ≡ [] → count ≤ 9 → Leaves (IsBegun past) past mid → Leaves (Torn 0 count bytes) mid after → Leaves (IsBegun past) past after
begun_torn past mid after bytes count none small first second =
    then_too (IsBegun past) past mid after first (so_too (Torn 0 count bytes) (IsBegun past) mid after (λ image torn. inr (omega (arith, ap length none, torn.no_longer))) second)

-- a sync, whether it succeeded or failed
pub sync_leaves : {T E : Type 0} (result : Result T E) (P : List ℕ → Type 0) (before mid after : List Step) (bytes : List ℕ) → OnOk result (after ≡ Kept bytes ∷ mid) → OnErr result (after ≡ mid)
    → Leaves P before mid → P bytes → Leaves P before after
sync_leaves (Ok x) P before mid after bytes kept failed so_far here = kept_on P before mid after bytes so_far kept here
sync_leaves (Err e) P before mid after bytes kept failed so_far here = stayed P before mid after so_far failed

-- what a sync keeps, where it succeeded
pub sync_only : {T E : Type 0} (result : Result T E) (mid after : List Step) (bytes bytes' : List ℕ) → OnOk result (after ≡ Kept bytes ∷ mid) → OnOk result (bytes' ≡ bytes)
    → OnOk result (LeavesOnly after bytes')
sync_only (Ok x) mid after bytes bytes' kept same = λ image left. subst (λ (p : List Step). IsImage p image) kept left ∙ sym same
sync_only (Err e) mid after bytes bytes' kept same = tt

-- two facts of a call that succeeded give a third
pub both_ok : {T E A B C : Type 0} (result : Result T E) → OnOk result A → OnOk result B → (A → B → C) → OnOk result C
both_ok (Ok x) a b then = then a b
both_ok (Err e) a b then = tt
