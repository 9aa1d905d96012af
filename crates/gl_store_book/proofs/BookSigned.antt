-- When a node signs behind a base, and what: where there is an entry, or a base, and a seqno is left.
use Rattle.std.proofs.Common.{◌≡◌, ℕ, zero, suc, ◌+◌, ◌-◌, ◌<◌, ◌≤◌, List, [], ◌∷◌, length, Option, Some, None, Result, Ok, Err, Bool, option_map, if◌then◌else◌, refl, sym, ◌∙◌, ap, arith}
use Rattle.std.proofs.lemmas.Bool.{lt-ltb, le-ltb}
use Rattle.gl_base.specs.TxId.{last_seqno}
use Rattle.gl_base.proofs.Lists.{slice_get-below}
use Rattle.gl_rules.specs.Identity.{NodeId}
use Rattle.gl_entry.specs.Entry.{no_digest}
use Rattle.gl_entry.specs.SignedMessage.{signed_message}
use Rattle.gl_entry.specs.declared.entry.Content.TheVariants as content
use Rattle.gl_entry.specs.declared.entry.Entry.{Entry}
use Rattle.gl_vmaps.specs.declared.write.Write.{Write}
use Rattle.gl_gov_rules.specs.Nodes as nodes
use Rattle.gl_hss.specs.Secrets.{PrivateKey}
use Rattle.gl_hss.specs.Signer.{hss_signature}
use Rattle.gl_snapshot_body.specs.declared.body.Body.{Body}
use Rattle.gl_ledger.specs.Ledger.{sign_after, signature_entry_after}
use Rattle.gl_ledger.specs.Makers.{by_store}
use Rattle.gl_ledger.specs.NodeKeys.{NodeKeys}
use Rattle.gl_ledger.specs.Past.{Last, Past, last_of, last_or_base, past_at, past_over}
use Rattle.gl_ledger.specs.Recordings.{endorsement_found, last_entry}
use Rattle.gl_ledger.specs.declared.refusal.Refusal.TheVariants as refusals
use Rattle.gl_ledger.specs.declared.response.Rejection.{Rejection}
use Rattle.gl_ledger.specs.declared.response.Rejection.TheVariants.{ByStore, NoEntry}
use Rattle.gl_audit.proofs.GovernanceBehind.{past_len}
use Rattle.gl_ledger_base.specs.BookOver.{signature_over, unless_first}
use Rattle.gl_store_book.specs.BasedLedgers.{BasedLedger, body_of, len_of, past_of}
use Rattle.gl_store_book.specs.Stands.{HasKey, NodeStore}
use Rattle.gl_store_book.specs.Taken.{signed}

module _ (body : Body) (es : List Entry) where
  none_last : body.base + length es ≡ 0 → (past_over body es).last ≡ None
  none_last none = go body.base refl
    where
      empty : (l : List Entry) → length l ≡ 0 → option_map last_of (last_entry l) ≡ None
      empty [] is = refl
      empty (e ∷ l) is = absurd (omega (arith, is))

      go : (n : ℕ) → body.base ≡ n → (past_at n body es).last ≡ None
      go zero is = empty es (omega (arith, none, is))
      go (suc n) is = absurd (omega (arith, none, is))

  some_last : 0 < body.base + length es → (last : Last) × ((past_over body es).last ≡ Some last)
  some_last some = go body.base refl
    where
      go : (n : ℕ) → body.base ≡ n → (last : Last) × ((past_at n body es).last ≡ Some last)
      go zero is = let e = slice_get-below es (length es - 1) (omega (arith, some, is)) in (last_of e.0, ap (option_map last_of) e.1)
      go (suc n) is = (last_or_base body (last_entry es), refl)

module _ (l : BasedLedger) (x : NodeId) (bytes : List ℕ) (view commit : ℕ) where
  abbrev made : Result Entry Rejection
  made = by_store (sign_after x bytes (past_of l) view commit)

  pub signs_none : len_of l ≡ 0 → unless_first (past_of l).last made ≡ Err NoEntry
  signs_none none = ap (λ (o : Option Last). unless_first o made) (none_last (body_of l.snapshot) l.entries none)

  past_first : 0 < len_of l → unless_first (past_of l).last made ≡ made
  past_first some = let last = some_last (body_of l.snapshot) l.entries some in ap (λ (o : Option Last). unless_first o made) last.1

  abbrev by_room : (b : Bool) → Result Entry Rejection
  by_room b = by_store (if b then Ok (signature_entry_after x bytes (past_of l) view commit) else Err refusals.SeqnoLimit)

  -- no seqno is left
  pub signs_full : 0 < len_of l → last_seqno ≤ len_of l → unless_first (past_of l).last made ≡ Err (ByStore refusals.SeqnoLimit)
  signs_full some full =
      past_first some
      ∙ ap by_room (le-ltb (past_of l).len last_seqno (let long = past_len (body_of l.snapshot) l.entries in omega (arith, long, full)))

  pub signs_made : 0 < len_of l → len_of l < last_seqno → unless_first (past_of l).last made ≡ Ok (signature_entry_after x bytes (past_of l) view commit)
  signs_made some left =
      past_first some
      ∙ ap by_room (lt-ltb (past_of l).len last_seqno (let long = past_len (body_of l.snapshot) l.entries in omega (arith, long, left)))

-- what is made of these is the node's signature
module _ (keys : NodeKeys) (node : NodeStore) (has : HasKey keys node) (leaf view commit : ℕ) (some : 0 < len_of node.ledger) (left : len_of node.ledger < last_seqno) where
  abbrev p : Past
  p = past_of node.ledger

  pub signed_so : (me : NodeId) (key : PrivateKey) (seqno : ℕ) (root endorsement message signature : List ℕ) (writes : List Write) → me ≡ node.me → key ≡ node.key → seqno ≡ len_of node.ledger → root ≡ p.root →
      endorsement ≡ endorsement_found (nodes.node p.history node.me) → message ≡ signed_message root view (seqno + 1) commit → signature ≡ hss_signature key (Some endorsement) leaf message → writes ≡ [] →
      signed keys node.ledger node.me leaf view commit
      ≡ Ok
      (record { view = view; seqno = seqno + 1; content = content.Signature (record { node = me; commit = commit; root = root; signature = signature }); writes = writes; claims = no_digest })
  signed_so me key seqno root endorsement message signature writes named keyed at tree endorsed said made none =
      let long : seqno ≡ p.len = at ∙ sym (past_len (body_of node.ledger.snapshot) node.ledger.entries) in
      let same : signature ≡ signature_over keys (body_of node.ledger.snapshot) node.ledger.entries node.me leaf view commit =
      made ∙ (λ i. hss_signature ((keyed ∙ sym has.key) i) (Some (endorsed i)) leaf ((said ∙ (λ j. signed_message (tree j) view (long j + 1) commit)) i)) in
      signs_made node.ledger node.me (signature_over keys (body_of node.ledger.snapshot) node.ledger.entries node.me leaf view commit) view commit some left
      ∙ sym (λ i. Ok (record {
        view = view;
        seqno = long i + 1;
        content = content.Signature (record { node = named i; commit = commit; root = tree i; signature = same i });
        writes = none i;
        claims = no_digest;
      }))
