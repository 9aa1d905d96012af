-- What a stop may leave of a key file at each moment.
use Rattle.std.proofs.Common.{◌≡◌, inl, inr, ℕ, List, Option, IfSome, Result, Ok, sym, subst, ◌∙◌}
use Rattle.gl_entry.specs.SourceBytes.{OfBytes}
use Rattle.gl_hss.specs.declared.types.Types.{Types}
use Rattle.gl_journal.specs.declared.key.Key.{Key}
use Rattle.gl_journal.specs.declared.key.KeyKind.{KeyKind}
use Rattle.gl_journal.specs.Durable.{Durable, OpensToKeyAlone, OpensToOneOf, OpensToTheSame}
use Rattle.gl_journal.specs.declared.fault.JournalFault.{JournalFault}
use Rattle.gl_store_book.specs.NodeFile.{opened}
use Rattle.gl_store_book.specs.Frames.{goes_on_ledger}
use Rattle.gl_keyfile.specs.Leaf.{after_leaf}
use Rattle.gl_keyfile.specs.declared.leaf.LeafUse.{LeafUse}
use Rattle.gl_outside.specs.Disk.{Leaves, Step}
use Rattle.gl_outside.proofs.Moments.{so_too, started, stayed, then_too}
use Rattle.ccfg.specs.Plans.{MayBeLeft, MovesByLeaf, MovesToKey}
use Rattle.ccfg.proofs.ShownLemmas.{of_any, of_text}

of_opening : (leaf : LeafUse) (bytes : List ℕ) (before : List Step) (state : Durable) → opened bytes ≡ Ok state → (image : List ℕ) → OpensToTheSame goes_on_ledger bytes before image → MayBeLeft leaf state before image
of_opening leaf bytes before state is image (inl old) = inl old
of_opening leaf bytes before state is image (inr same) = inr (same.0, inl (same.1 ∙ is))

-- the file was opened, and no more
pub opened_only : (leaf : LeafUse) (bytes : List ℕ) (before after : List Step) → Leaves (OpensToTheSame goes_on_ledger bytes before) before after → MovesByLeaf leaf bytes before after
opened_only leaf bytes before after moved = λ state is.
    so_too (OpensToTheSame goes_on_ledger bytes before) (MayBeLeft leaf state before) before after (of_opening leaf bytes before state is) moved

same_state : (held state : Durable) → ◌≡◌ {A = Result Durable JournalFault} (Ok held) (Ok state) → held ≡ state
same_state held state is = cc

-- it was opened and its key used
pub opened_and_signed : (leaf : LeafUse) (bytes : List ℕ) (before mid after : List Step) (held : Durable) → opened bytes ≡ Ok held → Leaves (OpensToTheSame goes_on_ledger bytes before) before mid →
    Leaves (OpensToOneOf goes_on_ledger held (after_leaf leaf held)) mid after → MovesByLeaf leaf bytes before after
opened_and_signed leaf bytes before mid after held opens first second = λ state is.
    let same = same_state held state (sym opens ∙ is) in
    then_too (MayBeLeft leaf state before) before mid after (opened_only leaf bytes before mid first state is)
    (so_too (OpensToOneOf goes_on_ledger state (after_leaf leaf state)) (MayBeLeft leaf state before) mid after (λ image left. inr left)
    (subst (λ (s : Durable). Leaves (OpensToOneOf goes_on_ledger s (after_leaf leaf s)) mid after) same second))

-- nothing was done
pub nothing_done : (leaf : LeafUse) (bytes : List ℕ) (before after : List Step) → after ≡ before → MovesByLeaf leaf bytes before after
nothing_done leaf bytes before after same = λ state is.
    stayed (MayBeLeft leaf state before) before before after (started (MayBeLeft leaf state before) before (λ image left. inl left)) same

-- no key was begun
pub nothing_begun : (key : Key) (before after : List Step) → after ≡ before → Leaves (OpensToKeyAlone goes_on_ledger key before) before after
nothing_begun key before after same =
    let P = OpensToKeyAlone goes_on_ledger key before in
    stayed P before before after (started P before (λ image left. inl left)) same

pub no_key : (given : Option (List ℕ)) (kind : KeyKind) (types : Types) (before after : List Step) → after ≡ before → OfBytes given (MovesToKey kind types before after)
no_key given kind types before after same =
    of_any given (MovesToKey kind types before after) (λ seed. nothing_begun (record { kind = kind; types = types; seed = seed }) before after same)

-- one was, with bytes that were read whole as its seed
pub key_of_text : (given : Option (List ℕ)) (kind : KeyKind) (types : Types) (text seed : List ℕ) (before after : List Step) → IfSome given (λ g. text ≡ g) → seed ≡ text →
    Leaves (OpensToKeyAlone goes_on_ledger (record { kind = kind; types = types; seed = seed }) before) before after → OfBytes given (MovesToKey kind types before after)
key_of_text given kind types text seed before after whole same moved =
    of_text given text (MovesToKey kind types before after) whole (subst (λ (s : List ℕ). MovesToKey kind types before after s) same moved)
