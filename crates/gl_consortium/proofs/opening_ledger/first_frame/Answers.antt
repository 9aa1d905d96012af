use Rattle.std.proofs.Common.{◌≡◌, List, [], ◌∷◌, get_or, ap, ◌∙◌}
use Rattle.gl_merkle.specs.Tree.{root_of}
use Rattle.gl_entry.specs.Entry.{frame_bytes}
use Rattle.gl_entry.specs.declared.entry.Entry.{Entry}
use Rattle.gl_ledger.specs.Ledger.{genesis_entry}
use Rattle.gl_ledger.specs.Tree.{leaves_of}
use Rattle.gl_audit.specs.Committed.{Held}
use Rattle.gl_consortium.proofs.Openings.{genesis_small}
use Rattle.gl_consortium.proofs.opening_ledger.first_frame.Goals as goal

pub encode-requires : goal.encode-requires
encode-requires c =
    let one : c.found.new.self.ledger ≡ genesis_entry c.args.genesis ∷ [] = ap (λ (h : Held). h.ledger) c.in_ok-found.ensures.founded in
    let held : c.entries.result.now ≡ c.found.new.self.ledger = c.entries.ensures.entries in
    let first : c.index-entries-0.result ≡ genesis_entry c.args.genesis = c.index-entries-0.is ∙ ap (λ (es : List Entry). get_or es 0 c.index-entries-0.result) (held ∙ one) in
    genesis_small c.args.genesis c.index-entries-0.result c.requires.fits c.requires.accepted first

pub returns-clause-bytes : goal.returns-clause-bytes
returns-clause-bytes c =
    let one : c.found.new.self.ledger ≡ genesis_entry c.args.genesis ∷ [] = ap (λ (h : Held). h.ledger) c.in_ok-found.ensures.founded in
    let held : c.entries.result.now ≡ c.found.new.self.ledger = c.entries.ensures.entries in
    let first : c.index-entries-0.result ≡ genesis_entry c.args.genesis = c.index-entries-0.is ∙ ap (λ (es : List Entry). get_or es 0 c.index-entries-0.result) (held ∙ one) in
    c.in_ok-bytes.ensures ∙ ap frame_bytes first

pub returns-clause-root : goal.returns-clause-root
returns-clause-root c =
    let one : c.found.new.self.ledger ≡ genesis_entry c.args.genesis ∷ [] = ap (λ (h : Held). h.ledger) c.in_ok-found.ensures.founded in
    c.root.ensures.root ∙ ap (λ (es : List Entry). root_of (leaves_of es)) one
