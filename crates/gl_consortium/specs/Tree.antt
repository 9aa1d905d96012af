-- The JSON tree of the action that sets a dealing.
use Rattle.std.specs.Prelude.{List, map, codes}
use Rattle.serde_json.specs.Data.{Data, number, unsigned, string, array, object, no_members, member}
use Rattle.serde_json.specs.View.{items_of}
use Rattle.gl_forms.specs.Key.{hex_tree}
use Rattle.gl_requests.specs.declared.genesis.ShareDigest.{ShareDigest}
use Rattle.gl_requests.specs.declared.genesis.Dealing.{Dealing}

-- The digest of a share, and who holds the share.
abbrev pub share_tree : ShareDigest → Data
share_tree share = object (
    member (codes "digest") (hex_tree share.digest) (
    member (codes "member") (number (unsigned share.member)) no_members
    )
    )

abbrev pub shares_tree : List ShareDigest → Data
shares_tree shares = array (items_of (map share_tree shares))

abbrev pub dealing_tree : Dealing → Data
dealing_tree dealing = object (
    member (codes "secret_digest") (hex_tree dealing.secret_digest) (
    member (codes "shares") (shares_tree dealing.shares) (
    member (codes "threshold") (number (unsigned dealing.threshold)) no_members
    )
    )
    )

-- The dealing is what the action has as arguments.
unfoldable pub action_tree : Dealing → Data
action_tree dealing = object (
    member (codes "args") (dealing_tree dealing) (
    member (codes "name") (string (codes "set_recovery_threshold")) no_members
    )
    )
