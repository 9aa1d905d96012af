use Rattle.std.proofs.Common.{◌≡◌, List, [], ◌∷◌, None, get_or, sym, ap, subst, ◌∙◌}
use Rattle.gl_audit.specs.Committed.{Held}
use Rattle.gl_entry.specs.declared.entry.Entry.{Entry}
use Rattle.gl_ledger.specs.Broken.{broken}
use Rattle.gl_ledger.specs.Ledger.{genesis_entry}
use Rattle.gl_ledger.specs.NodeKeys.{service_layers}
use Rattle.gl_ledger.proofs.OpeningLaws.{founding_unbroken}
use Rattle.gl_store.proofs.Tails.{if_ok}
use Rattle.gl_store_book.proofs.whole_ledger.entry_of_genesis.Goals as goal

first_is : (es : List Entry) (e x : Entry) → es ≡ e ∷ [] → x ≡ get_or es 0 x → x ≡ e
first_is es e x same is = is ∙ ap (λ (l : List Entry). get_or l 0 x) same

pub returns-clause-made : goal.returns-clause-made
returns-clause-made c =
    let held = c.entries.ensures.entries ∙ ap (λ (h : Held). h.ledger) c.in_ok-found.ensures.founded in
    let first = first_is c.entries.result.now (genesis_entry c.args.genesis) c.index-entries-0.result held c.index-entries-0.is in
    if_ok c.copy.result (λ e same. same ∙ first) c.copy.ensures

pub returns-clause-unbroken : goal.returns-clause-unbroken
returns-clause-unbroken c =
    let held = c.entries.ensures.entries ∙ ap (λ (h : Held). h.ledger) c.in_ok-found.ensures.founded in
    let first = first_is c.entries.result.now (genesis_entry c.args.genesis) c.index-entries-0.result held c.index-entries-0.is in
    let unbroken = founding_unbroken service_layers c.args.genesis c.requires.fits c.requires.accepted in
    if_ok c.copy.result (λ e same. subst (λ (x : Entry). broken service_layers [] x ≡ None) (sym (same ∙ first)) unbroken) c.copy.ensures
