-- What is told to the bytes of a source is a ledger that was recovered.
use Rattle.std.proofs.Common.{◌≡◌, ℕ, ◌<◌, ◌^◌, List, [], ◌∷◌, Bool, true, false, nat_le, Result, Ok, Err, IfOk, if◌then◌else◌, refl, subst, arith}
use Rattle.std.specs.List.{flat_map}
use Rattle.std.proofs.lemmas.Bool.Decides.{nat_tests}
use Rattle.std.specs.Cmp.Lexicographic.{bytes_decides}
use Rattle.gl_base.specs.Bytes.{same_bytes}
use Rattle.gl_base.specs.declared.json.FormsFault.{FormsFault}
use Rattle.gl_base.proofs.Steps.{bind_ok}
use Rattle.gl_hss.specs.Types.{height}
use Rattle.gl_hss.specs.declared.types.Types.{Types}
use Rattle.gl_hss.specs.Tree.{key_bytes}
use Rattle.gl_hss.specs.Secrets.{PrivateKey, public_of}
use Rattle.gl_hss.proofs.Octets.{seed_IsKey}
use Rattle.gl_entry.specs.Entry.{frame_bytes}
use Rattle.gl_entry.specs.declared.entry.Entry.{Entry}
use Rattle.gl_requests.specs.Ranges.{is_recovery}
use Rattle.gl_requests.specs.Encoding.{node_id}
use Rattle.gl_requests.specs.declared.genesis.NewNode.{NewNode}
use Rattle.gl_requests.specs.declared.genesis.Recovery.{Recovery}
use Rattle.gl_forms.specs.Settings.{recovery_in}
use Rattle.gl_forms.specs.Text.{from_text, tree_from}
use Rattle.gl_forms.proofs.FitForms.{recovery_fits}
use Rattle.gl_journal.specs.declared.key.Key.{Key}
use Rattle.gl_recovery.specs.SettingsPrefix.{parts_of}
use Rattle.gl_recovery.specs.ExpectedOutput.{IsFirstKey, expected_recovery, id_of, in_frames}
use Rattle.gl_recovery.specs.RecoveryOutput.{expected_after, expected_by, expected_for, has_leaf, in_form, in_order, is_first_node, private_key}
use Rattle.gl_recovery.specs.Refounded.{IsRecovered}
use Rattle.gl_recovery.specs.declared.fault.RecoveryFault.{RecoveryFault}
use Rattle.gl_recovery.specs.declared.recovering_fault.RecoveringFault.TheVariants as faults
use Rattle.gl_recovery.proofs.RecoveredLedgers.{is_refounded}

-- the key is that of the first node
first_key : (by : PrivateKey) (nodes : List NewNode) (u : Unit {0}) → is_first_node by nodes ≡ Ok u → IsFirstKey by nodes
first_key by [] u is = tt
first_key by (n ∷ ns) u is = go (same_bytes n.key (key_bytes (public_of by))) refl is
  where
    go : (b : Bool) → same_bytes n.key (key_bytes (public_of by)) ≡ b → (if b then Ok tt else Err (faults.NotFirstNode (node_id n) (id_of by))) ≡ Ok u → n.key ≡ key_bytes (public_of by)
    go true same reported = (bytes_decides n.key (key_bytes (public_of by))).0 same
    go false same reported = absurd cc

leaf_below : (types : Types) (leaf : ℕ) (u : Unit {0}) → has_leaf types leaf ≡ Ok u → leaf < 2 ^ height types
leaf_below types leaf u is = go (nat_le (2 ^ height types) leaf) refl is
  where
    go : (b : Bool) → nat_le (2 ^ height types) leaf ≡ b → (if b then Err (faults.KeyExhausted leaf) else Ok tt) ≡ Ok u → leaf < 2 ^ height types
    go true test reported = absurd cc
    go false test reported = grind (arith, nat_tests)

-- the recovery that a text names
named : (form : Result Recovery FormsFault) (r : Recovery) → in_form form ≡ Ok r → form ≡ Ok r
named (Ok recovery) r is = cc
named (Err fault) r is = absurd cc

recovery_fits_of : (text : List ℕ) (r : Recovery) → from_text recovery_in text ≡ Ok r → is_recovery r ≡ true
recovery_fits_of text r is =
    let tree = bind_ok (tree_from text) recovery_in r is in
    subst (λ (found : Result Recovery FormsFault). IfOk found (λ x. is_recovery x ≡ true)) tree.2 (recovery_fits tree.0).holds

-- the ledger whose frames are reported
ledger_reported : (expected_output : Result (List Entry) RecoveryFault) (reported : List ℕ) → in_order (in_frames expected_output) ≡ Ok reported → (ledger : List Entry) × (expected_output ≡ Ok ledger) × (reported ≡ flat_map frame_bytes ledger)
ledger_reported (Ok ledger) reported is = (ledger, refl, cc)
ledger_reported (Err fault) reported is = absurd cc

pub is_recovered : (key : Key) (leaf : ℕ) (given reported : List ℕ) → expected_by key leaf given ≡ Ok reported → IsRecovered key given reported
unfolding expected_by expected_after
is_recovered key leaf given reported is =
    let parts = bind_ok (parts_of given) (expected_for key leaf) reported is in
    let read = bind_ok (in_form (from_text recovery_in parts.0.settings)) _ reported parts.2 in
    let first = bind_ok (is_first_node (private_key key) read.0.nodes) _ reported read.2 in
    let left = bind_ok (has_leaf key.types leaf) _ reported first.2 in
    let ledger = ledger_reported (expected_recovery read.0 (private_key key) leaf parts.0.ledger) reported left.2 in
    let text : from_text recovery_in parts.0.settings ≡ Ok read.0 = named (from_text recovery_in parts.0.settings) read.0 read.1 in
    record {
      parts = parts.0;
      given_as = parts.1;
      recovery = read.0;
      named = text;
      ledger = ledger.0;
      reported_is = ledger.2;
      founded = is_refounded read.0 (private_key key) leaf parts.0.ledger ledger.0 (recovery_fits_of parts.0.settings read.0 text) (first_key (private_key key) read.0.nodes first.0 first.1) (seed_IsKey key.types key.seed)
          (leaf_below key.types leaf left.0 left.1) ledger.1;
    }
