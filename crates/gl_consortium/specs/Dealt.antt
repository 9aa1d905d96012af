-- What is dealt, and the text that tells it.
use Rattle.std.specs.Prelude.{ℕ, List, [], ◌∷◌, ◌++◌, map, flat_map, decimal, codes}
use Rattle.hex.specs.Hex.{encode_lower}
use Rattle.sha2.specs.Sha256.{sha256}
use Rattle.serde_json.specs.Written.{compact_text}
use Rattle.gl_requests.specs.declared.genesis.ShareDigest.{ShareDigest}
use Rattle.gl_requests.specs.declared.genesis.Dealing.{Dealing}
use Rattle.gl_shares.specs.Dealing.{polynomials_of, share_of}
use Rattle.gl_shares.specs.declared.share.Share.{Share}
use Rattle.gl_consortium.specs.Tree.{action_tree}

-- The members' shares of a secret, by the polynomials whose coefficients are drawn from the seed.
abbrev pub dealt : ℕ → List ℕ → List ℕ → List ℕ → List Share
dealt threshold members secret seed =
    map (share_of (polynomials_of secret threshold seed)) members

-- Who holds a share, and its digest.
abbrev pub digest_of : Share → ShareDigest
digest_of share = record { member = share.member; digest = sha256 share.value }

-- The dealing of a secret with these shares.
abbrev pub dealing_of : ℕ → List ℕ → List Share → Dealing
dealing_of threshold secret shares = record {
  threshold = threshold;
  secret_digest = sha256 secret;
  shares = map digest_of shares;
}

-- The JSON of the action that sets a dealing.
abbrev pub action_text : Dealing → List ℕ
action_text dealing = compact_text (action_tree dealing)

-- A member's number and share: its line.
abbrev pub share_line : Share → List ℕ
share_line share = decimal share.member ++ codes " " ++ encode_lower share.value ++ 10 ∷ []

-- The line of the action that sets the dealing of a secret with these shares, and then the line of
-- each share.
unfoldable pub deal_text : ℕ → List Share → List ℕ → List ℕ
deal_text threshold shares secret =
    action_text (dealing_of threshold secret shares) ++ 10 ∷ [] ++ flat_map share_line shares
