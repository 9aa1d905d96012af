-- Write sets that the tests find the same are one.
use Rattle.std.proofs.Common.{◌≡◌, ℕ, List, [], ◌∷◌, Option, true, ◌&&◌, refl, ◌∙◌, ap}
use Rattle.std.proofs.lemmas.Bool.{and_parts, and_from}
use Rattle.gl_base.specs.Bytes.{same_bytes}
use Rattle.gl_vmaps.specs.declared.write.Write.{Write}
use Rattle.gl_vmaps.specs.Tables.{same_value}
use Rattle.gl_vmaps.proofs.SameValues.{same_bytes_is, same_bytes_self, same_value_is, same_value_self}
use Rattle.gl_ledger.specs.Broken.{is_same_write, are_same_writes}

write_is : (v w : Write) → v.map ≡ w.map → v.key ≡ w.key → v.value ≡ w.value → v ≡ w
write_is v w a b c =
    ap (λ (m : List ℕ). record { map = m; key = v.key; value = v.value }) a
    ∙ ap (λ (k : List ℕ). record { map = w.map; key = k; value = v.value }) b
    ∙ ap (λ (o : Option (List ℕ)). record { map = w.map; key = w.key; value = o }) c

pub same_writes_are : (vs ws : List Write) → are_same_writes vs ws ≡ true → vs ≡ ws
same_writes_are [] [] h = refl
same_writes_are [] (w ∷ ws) h = absurd (cc)
same_writes_are (v ∷ vs) [] h = absurd (cc)
same_writes_are (v ∷ vs) (w ∷ ws) h =
    let both = and_parts (is_same_write v w) (are_same_writes vs ws) h in
    let row = and_parts (same_bytes v.map w.map && same_bytes v.key w.key) (same_value v.value w.value) both.0 in
    let names = and_parts (same_bytes v.map w.map) (same_bytes v.key w.key) row.0 in
    let one : v ≡ w = write_is v w (same_bytes_is v.map w.map names.0) (same_bytes_is v.key w.key names.1) (same_value_is v.value w.value row.1) in
    ap (λ (x : Write). x ∷ vs) one ∙ ap (λ (xs : List Write). w ∷ xs) (same_writes_are vs ws both.1)

pub same_writes_self : (ws : List Write) → are_same_writes ws ws ≡ true
same_writes_self [] = refl
same_writes_self (w ∷ ws) =
    and_from (is_same_write w w) (are_same_writes ws ws)
    (and_from (same_bytes w.map w.map && same_bytes w.key w.key) (same_value w.value w.value)
    (and_from (same_bytes w.map w.map) (same_bytes w.key w.key) (same_bytes_self w.map) (same_bytes_self w.key)) (same_value_self w.value))
    (same_writes_self ws)
