-- The requests that the members of a schedule sign, each with the key of its own seed, one leaf
-- after another.
use Rattle.std.specs.Prelude.{◌≡◌, ℕ, ◌^◌, ◌<◌, List, [], Option, None, Some, count_by, length, nat_eq, slice_index_or}
use Rattle.gl_hss.specs.Types.{height}
use Rattle.gl_hss.specs.declared.types.Types.TheVariants.{H5W4}
use Rattle.gl_base.specs.declared.or_no_memory.OrNoMemory.{OrNoMemory}
use Rattle.gl_base.specs.declared.or_no_memory.OrNoMemory.TheVariants.{NoMemory, Fault}
use Rattle.gl_hss.specs.declared.signer.KeyExhausted.{KeyExhausted}
use Rattle.gl_hss.specs.Signer.{Signer, hss_signature}
use Rattle.gl_requests.specs.Encoding.{signed_bytes}
use Rattle.gl_requests.specs.declared.request.MemberAct.{MemberAct}
use Rattle.gl_requests.specs.declared.request.MemberRequest.{MemberRequest}
use Rattle.gl_world.specs.declared.settings.Settings.{Settings}
use Rattle.gl_world.specs.Keys.{private_key, member_seed}
use Rattle.gl_world.specs.Founding.{genesis_of}

-- Who signed so far: the member's number for each signature, in order.
pub record Signed : Type 0 where
  pub settings : Settings
  pub signed : List ℕ

-- The leaf with which a member signs next: it has signed as often.
abbrev pub next_leaf : List ℕ → ℕ → ℕ
next_leaf signed number = count_by (nat_eq number) signed

-- How many leaves the key of a member has.
abbrev pub leaf_limit : ℕ
leaf_limit = 2 ^ height H5W4

-- What a member asks for, without a signature.
abbrev pub unsigned : ℕ → MemberAct → MemberRequest
unsigned number act = record { member = number; act = act; signature = [] }

-- The same, signed with a leaf of the member's key for the service with these settings.
unfoldable pub member_request : Settings → ℕ → ℕ → MemberAct → MemberRequest
member_request s number leaf act = record (unsigned number act) {
  signature = hss_signature (private_key (member_seed s number)) None leaf
      (signed_bytes (genesis_of s).identity (unsigned number act));
}

-- Nothing is signed where memory runs out, or where each leaf of the key is used.
abbrev pub Refuses : ℕ → OrNoMemory KeyExhausted → Type 0
Refuses leaf NoMemory = Unit {0}
Refuses leaf (Fault fault) = (fault.reserved ≡ leaf_limit) × (leaf ≡ leaf_limit)

-- ---- how the signers are kept

-- The signer of a member, no leaf of which is reserved or used.
abbrev pub unused_signer : Settings → ℕ → Signer
unused_signer s number = record {
  key = private_key (member_seed s number);
  endorsement = None;
  reserved = 0;
  used = 0;
}

-- If a signer is there, it has the member's key, and no endorsement.
abbrev pub IsSignerOf : Settings → ℕ → Option Signer → Type 0
IsSignerOf s number None = Unit {0}
IsSignerOf s number (Some signer) =
    (signer.key ≡ private_key (member_seed s number)) × (signer.endorsement ≡ None)

-- How many leaves a signer has used: none before it is there.
abbrev pub leaves_used : Option Signer → ℕ
leaves_used None = 0
leaves_used (Some signer) = signer.used

-- A signer is there, and the leaf that signs next is reserved.
abbrev pub IsReady : Option Signer → Type 0
IsReady None = ⊥
IsReady (Some signer) = signer.used < signer.reserved

-- The signature of a message by the leaf that signs next.
abbrev pub signature_at : Option Signer → List ℕ → List ℕ
signature_at None message = []
signature_at (Some signer) message =
    hss_signature signer.key signer.endorsement signer.used message

-- The signer of a member who signed so often has used as many leaves.
pub record IsKept (s : Settings) (number count : ℕ) (place : Option Signer) : Type 0 where
  pub signer : IsSignerOf s number place
  pub used : leaves_used place ≡ count

-- A signer is kept for each number that a byte can hold, beside the service's key.
pub record AreKept
    (s : Settings) (key : List ℕ) (signers : List (Option Signer)) (signed : List ℕ)
    : Type 0
  where
    pub identity : key ≡ (genesis_of s).identity
    pub count : length signers ≡ 256
    pub each : (i : ℕ) → i < 256 → IsKept s i (next_leaf signed i) (slice_index_or signers i None)
