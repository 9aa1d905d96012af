-- The entries of the opening ledger of a genesis have room in their frames.
use Rattle.std.proofs.Common.{◌≡◌, ℕ, ◌+◌, ◌≤◌, List, [], ◌∷◌, ◌++◌, length, Some, None, true, ◌∙◌, ap, arith, length-append}
use Rattle.std.proofs.lemmas.Bool.{and_parts}
use Rattle.std.proofs.lemmas.Bool.Decides.{nat_tests}
use Rattle.std.specs.Prelude.{nat_le}
use Rattle.gl_base.specs.LittleEndian.{little_endian}
use Rattle.gl_base.proofs.LittleEndianLaws.{length-little_endian}
use Rattle.gl_hss.specs.Types.{signature_len}
use Rattle.gl_hss.specs.declared.types.Types.{Types}
use Rattle.gl_hss.specs.declared.types.Types.TheVariants.{H5W4, H5W8, H10W4, H10W8}
use Rattle.gl_hss.specs.Signer.{signature_size}
use Rattle.gl_entry.specs.Entry.{body_bytes, body_limit, is_entry}
use Rattle.gl_entry.specs.declared.entry.Entry.{Entry}
use Rattle.gl_requests.specs.Ranges.{is_genesis}
use Rattle.gl_requests.specs.declared.genesis.NewNode.{NewNode}
use Rattle.gl_requests.specs.declared.genesis.Genesis as founding
use Rattle.std.specs.List.{AllByRecursion}
use Rattle.gl_gov_rules.specs.History.{no_history}
use Rattle.gl_gov_rules.specs.Refusals.{genesis_refusal}
use Rattle.gl_ledger.specs.Ledger.{genesis_entry}
use Rattle.gl_ledger.proofs.Entries.{length-body_bytes}
use Rattle.gl_ledger.proofs.GenesisEntries.{genesis_is_entry}
use Rattle.gl_consortium.specs.ExpectedOutput.{first_endorsement, opening_entry}

-- ---- sizes

-- an entry's body is small
pub small_body : (e : Entry) → is_entry e ≡ true → length (body_bytes e) ≤ body_limit
small_body e h = let both = and_parts _ (nat_le (length (body_bytes e)) body_limit) h in grind (arith, nat_tests, both.1)

-- so is that of the genesis
pub genesis_small : (g : founding.Genesis) (first : Entry) → is_genesis g ≡ true → genesis_refusal no_history g ≡ None → first ≡ genesis_entry g → length (body_bytes first) ≤ body_limit
genesis_small g first fits accepted is = small_body first (ap is_entry is ∙ genesis_is_entry g fits accepted)

pub first_short : (ns : List NewNode) → AllByRecursion (λ (n : NewNode). length n.endorsement ≤ 2508) ns → length (first_endorsement ns) ≤ 2508
first_short [] all = omega arith
first_short (n ∷ ns) all = all.0

signature_len-most : (t : Types) → signature_len t ≤ 2508
signature_len-most H5W4 = omega arith
signature_len-most H5W8 = omega arith
signature_len-most H10W4 = omega arith
signature_len-most H10W8 = omega arith

-- and that of the signature after it
pub opening_small : (types : Types) (node root endorsement signature : List ℕ) (e : Entry) → length node ≡ 32 → length root ≡ 32 → length endorsement ≤ 2508 →
    length signature ≡ signature_size types (Some endorsement) → e ≡ opening_entry node root signature → length (body_bytes e) ≤ body_limit
opening_small types node root endorsement signature e node_long root_long short size e_is =
    let o : Entry = opening_entry node root signature in
    let recorded : length (node ++ little_endian 8 2 ++ root ++ (little_endian 4 (length signature) ++ signature)) ≡ length node + 8 + length root + 4 + length signature = simp (length-append, length-little_endian) (omega arith) in
    let same : length (body_bytes e) ≡ length (body_bytes o) = ap (λ (x : Entry). length (body_bytes x)) e_is in
    omega (arith, same, length-body_bytes o, recorded, node_long, root_long, size, signature_len-most types, short)
