-- What is held of the ledgers that a node's ledger with a base stands for.
use Rattle.std.proofs.Common.{◌≡◌, ℕ, zero, suc, ◌<◌, ◌≤◌, List, length, take, drop, Option, None, Some, nat_le, refl, sym, ap, ◌∙◌, arith}
use Rattle.std.proofs.Math.Seq.{take-append_seam, drop-append_seam}
use Rattle.std.proofs.lemmas.Bool.{and_parts}
use Rattle.std.proofs.lemmas.Bool.Decides.{nat_tests}
use Rattle.gl_base.specs.TxId.{last_seqno}
use Rattle.gl_entry.specs.declared.entry.Entry.{Entry}
use Rattle.gl_snapshot_body.specs.Body.{body_bytes}
use Rattle.gl_snapshot_body.specs.declared.body.Body.{Body}
use Rattle.gl_snapshot_body.proofs.BodyLaws.{parts_of}
use Rattle.gl_ledger.specs.NodeKeys.{service_layers}
use Rattle.gl_ledger.specs.Snapshot.{snapshot_of}
use Rattle.gl_ledger_base.specs.Ledgers.{HoldsLedger}
use Rattle.gl_ledger_base.proofs.LedgersHeld.{held_base, held_length}
use Rattle.gl_node.specs.Kept.{Kept}
use Rattle.gl_node.specs.Persistence.{HoldsAbove}
use Rattle.gl_replication.specs.Standing.{At}
use Rattle.gl_store_book.specs.BasedLedgers.{BasedLedger, IsEncoded, body_encoded, body_of}
use Rattle.gl_store_book.specs.Stands.{HasLedger, NodeStore, Stands, held_of, snapshot_below, snapshot_up_to}

-- where there is a snapshot its base is above 0
pub spelled_some : (bytes : List ℕ) → IsEncoded (Some bytes) → 0 < (body_encoded bytes).base
spelled_some bytes spelled =
    let base = (body_encoded bytes).base in
    let is = (and_parts (nat_le 1 base) (nat_le base last_seqno) (parts_of (body_encoded bytes) spelled.0).base).0 in
    grind (arith, nat_tests, is)

-- so where the base is 0 there is none
pub none_at_start : (snapshot : Option (List ℕ)) → IsEncoded snapshot → (body_of snapshot).base ≡ 0 → snapshot ≡ None
none_at_start None spelled is = refl
none_at_start (Some bytes) spelled is = absurd (let some = spelled_some bytes spelled in omega (arith, some, is))

-- the snapshot of the ledger up to the base is the one that is kept
kept_snapshot : (snapshot : Option (List ℕ)) (below : List Entry) (n : ℕ) → IsEncoded snapshot → (body_of snapshot).base ≡ n → snapshot_of below ≡ body_of snapshot → snapshot_up_to n below ≡ snapshot
kept_snapshot snapshot below zero spelled base same = sym (none_at_start snapshot spelled base)
kept_snapshot None below (suc n) spelled base same = absurd (omega (arith, base))
kept_snapshot (Some bytes) below (suc n) spelled base same = ap (λ (b : Body). Some (body_bytes b)) same ∙ ap (λ (bs : List ℕ). Some bs) (sym spelled.1)

module _ (l : BasedLedger) (log : List Entry) (holds : HoldsLedger service_layers (body_of l.snapshot) l.entries log) where
  abbrev body : Body
  body = body_of l.snapshot

  pub counted : body.base ≡ length holds.below
  counted = held_base service_layers body l.entries log holds

  pub base_within : body.base ≤ length log
  base_within = let long = held_length service_layers body l.entries log holds in omega (arith, long)

  -- above the base stand the entries that are kept
  pub kept_above_base : drop body.base log ≡ l.entries
  kept_above_base = ap (λ (n : ℕ). drop n log) counted ∙ ap (drop (length holds.below)) holds.whole ∙ drop-append_seam holds.below l.entries

  -- and up to it those of which the body tells
  pub kept_below : take body.base log ≡ holds.below
  kept_below = ap (λ (n : ℕ). take n log) counted ∙ ap (take (length holds.below)) holds.whole ∙ take-append_seam holds.below l.entries

  pub snapshot_kept : IsEncoded l.snapshot → snapshot_below (take body.base log) ≡ l.snapshot
  snapshot_kept spelled = ap snapshot_below kept_below ∙ kept_snapshot l.snapshot holds.below (length holds.below) spelled counted holds.base.snapshot

abbrev pub held_in : NodeStore → Kept
held_in s = held_of s.ledger

pub holds_above : (s : NodeStore) → HoldsAbove Stands held_in snapshot_below s
holds_above s b h stands =
    let is = stands.holding in
    let l = s.ledger in
    record {
      base = is.base;
      within = let w = base_within l h.log is.holds in omega (arith, w, is.base);
      entries = ap (λ (n : ℕ). drop n h.log) is.base ∙ kept_above_base l h.log is.holds;
      snapshot = ap (λ (n : ℕ). snapshot_below (take n h.log)) is.base ∙ snapshot_kept l h.log is.holds is.spelled;
    }

-- and there is a ledger with its snapshot
pub has_ledger : (s : NodeStore) → At Stands s (λ b h. HasLedger s.ledger.snapshot)
has_ledger s b h stands = let holds = stands.holding.holds in (holds.below, holds.base)
