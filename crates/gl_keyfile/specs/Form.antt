-- The public form of a key.
use Rattle.std.specs.Prelude.{ℕ, List, ◌++◌, None}
use Rattle.sha2.specs.Sha256.{sha256}
use Rattle.gl_hss.specs.Bytes.{u32str}
use Rattle.gl_hss.specs.Tree.{key_bytes}
use Rattle.gl_hss.specs.Secrets.{public_of}
use Rattle.gl_hss.specs.Profile.{key_of_seed}
use Rattle.gl_forms.specs.declared.key.KeyForm.{KeyForm}
use Rattle.gl_forms.specs.declared.key.KeyForm.TheVariants as forms
use Rattle.gl_journal.specs.declared.key.Key.{Key}
use Rattle.gl_journal.specs.declared.key.KeyKind.{KeyKind}
use Rattle.gl_journal.specs.declared.key.KeyKind.TheVariants.{Service, Node, Member}

-- The LMS public key that grows from the seed of a key (RFC 8554, section 5.3).
abbrev pub lms_key : Key → List ℕ
lms_key key = key_bytes (public_of (key_of_seed key.types key.seed))

-- The HSS public key of so many levels with that on top (RFC 8554, section 6.1).
abbrev pub hss_key : ℕ → Key → List ℕ
hss_key levels key = u32str levels ++ lms_key key

abbrev pub form_of_kind : KeyKind → Key → KeyForm
form_of_kind Service key = forms.Service (hss_key 2 key)
form_of_kind Member key = forms.Member (hss_key 1 key)
form_of_kind Node key = forms.Node (lms_key key) (sha256 (lms_key key)) None

-- The public form of a key: of a service, whose key endorses those of its nodes, the HSS key of two
-- levels; of a member that of one; of a node its LMS key with its digest, not endorsed yet.
abbrev pub key_form_of : Key → KeyForm
key_form_of key = form_of_kind key.kind key
