-- Which signatures of members and which endorsements of nodes are valid (RFC 8554, section 6.3),
-- and the leaf that a member's signature used.
use Rattle.std.specs.Prelude.{ℕ, List, Result, Ok, Err, Bool, ◌&&◌, is_ok, ◌==◌}
use Rattle.gl_hss.specs.Bytes.{number_at}
use Rattle.gl_hss.specs.declared.fault.HssFault.{HssFault}
use Rattle.gl_hss.specs.Order.{verdict, leaf_verdict, endorsement_verdict}
use Rattle.gl_requests.specs.Encoding.{signed_bytes}
use Rattle.gl_requests.specs.declared.request.MemberRequest.{MemberRequest}

-- A member's request is signed under its key, which has one level, in the service with this key.
unfoldable pub is_signed : List ℕ → List ℕ → MemberRequest → Bool
is_signed key identity m =
    (number_at key 0 == 1) && is_ok (verdict key (signed_bytes identity m) m.signature)

-- The number of the leaf that a signature used; 0 where the bytes are none.
abbrev pub leaf_in : Result ℕ HssFault → ℕ
leaf_in (Ok q) = q
leaf_in (Err fault) = 0

unfoldable pub leaf_of : List ℕ → ℕ
leaf_of signature = leaf_in (leaf_verdict signature)

-- The service with this key, which has two levels, endorses a node's key.
unfoldable pub is_endorsed : List ℕ → List ℕ → List ℕ → Bool
is_endorsed identity key endorsement = is_ok (endorsement_verdict identity key endorsement)
