-- What is to be signed: with which kind of key, and for which use of its leaf.
use Rattle.gl_journal.specs.declared.key.KeyKind.{KeyKind}
use Rattle.gl_journal.specs.declared.key.KeyKind.TheVariants as kinds
use Rattle.gl_keyfile.specs.declared.leaf.LeafUse.{LeafUse}
use Rattle.gl_keyfile.specs.declared.leaf.LeafUse.TheVariants as uses
use Rattle.gl_keyfile.specs.declared.signature.Signing.{Signing}
use Rattle.gl_keyfile.specs.declared.signature.Signing.TheVariants.{Endorsement, Opening, Request}

-- The kind of the key that signs: the service's key endorses, a node's opens, a member's requests.
abbrev pub kind_of : Signing → KeyKind
kind_of Endorsement = kinds.Service
kind_of Opening = kinds.Node
kind_of (Request identity number) = kinds.Member

-- What its leaf is taken for: an opening starts a service.
abbrev pub use_of : Signing → LeafUse
use_of Endorsement = uses.Signature
use_of Opening = uses.Start
use_of (Request identity number) = uses.Signature
