-- The root of a ledger with an entry is a digest.
use Rattle.std.proofs.Common.{◌≡◌, ℕ, zero, suc, ◌+◌, ◌≤◌, ◌^◌, nat_le, List, [], ◌∷◌, length, Bool, true, false, if◌then◌else◌, refl, arith}
use Rattle.std.specs.List.{list_all}
use Rattle.std.proofs.Math.Nat.{pow-suc}
use Rattle.std.proofs.lemmas.Bool.{and_parts, and_from}
use Rattle.std.proofs.lemmas.Bool.Decides.{nat_tests}
use Rattle.gl_merkle.specs.Tree.{root_of, root_within, inner_of}
use Rattle.gl_vmaps.specs.Tables.{Tables, wrote_all}
use Rattle.gl_base.specs.Bytes.{is_digest}
use Rattle.gl_entry.specs.Leaf.{leaf_of}
use Rattle.gl_entry.specs.declared.entry.Entry.{Entry}
use Rattle.gl_ledger.specs.ServiceRow.{identity_in}
use Rattle.gl_ledger.specs.Tree.{leaves_from, leaves_of}
use Rattle.gl_ledger.proofs.TablesLaws.{length-leaves_of}
use Rattle.gl_gov_rules.proofs.Digests.{sha256_digest}

root_digest : (h : ℕ) (ls : List (List ℕ)) → 1 ≤ length ls → length ls ≤ 2 ^ h → list_all is_digest ls ≡ true → is_digest (root_within h ls) ≡ true
unfolding root_within
root_digest zero [] some few all = absurd (omega arith)
root_digest zero (x ∷ xs) some few all = (and_parts (is_digest x) (list_all is_digest xs) all).0
root_digest (suc h) ls some few all = go (nat_le (length ls) (2 ^ h)) refl (root_digest h ls some)
  where
    go : (b : Bool) → nat_le (length ls) (2 ^ h) ≡ b → (length ls ≤ 2 ^ h → list_all is_digest ls ≡ true → is_digest (root_within h ls) ≡ true) →
        is_digest (if b then root_within h ls else inner_of (root_within h (Rattle.std.specs.Prelude.take (2 ^ h) ls)) (root_within h (Rattle.std.specs.Prelude.drop (2 ^ h) ls))) ≡ true
    go true is again = again (grind (arith, nat_tests)) all
    go false is again = sha256_digest _

power : (n : ℕ) → n + 1 ≤ 2 ^ n
power zero = omega arith
power (suc n) = let again = power n in omega (arith, pow-suc 2 n)

leaves_digests : (t : Tables) (es : List Entry) → list_all is_digest (leaves_from t es) ≡ true
leaves_digests t [] = refl
leaves_digests t (e ∷ es) =
    and_from (is_digest (leaf_of (identity_in (wrote_all t e.writes)) e)) (list_all is_digest (leaves_from (wrote_all t e.writes) es)) (sha256_digest _) (leaves_digests (wrote_all t e.writes) es)

pub root_is_digest : (ledger : List Entry) → 1 ≤ length ledger → is_digest (root_of (leaves_of ledger)) ≡ true
unfolding root_of
root_is_digest ledger some =
    let long = length-leaves_of ledger in
    let most = power (length (leaves_of ledger)) in
    root_digest (length (leaves_of ledger)) (leaves_of ledger) (omega arith) (omega arith) (leaves_digests Rattle.gl_vmaps.specs.Tables.no_tables ledger)
