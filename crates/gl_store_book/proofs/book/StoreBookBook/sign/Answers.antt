use Rattle.std.proofs.Common.{◌≡◌, ◌<◌, ◌^◌, Err, refl, sym, ap, subst, ◌∙◌, arith}
use Rattle.gl_hss.specs.Types.{height}
use Rattle.gl_hss.specs.declared.types.Types.{Types}
use Rattle.gl_ledger.specs.declared.response.Rejection.TheVariants.{NoEntry}
use Rattle.gl_hss.specs.Secrets.{PrivateKey}
use Rattle.gl_store_book.specs.BasedLedgers.{BasedLedger, IsAudited, broken_after}
use Rattle.gl_store_book.specs.Stands.{NodeStore}
use Rattle.gl_store_book.specs.Taken.{signed}
use Rattle.gl_store_book.proofs.AllLedgers.{book, held, reports, stands_with}
use Rattle.gl_store_book.proofs.BookTaken.{refuses_sign, refuses_signed, signs}
use Rattle.gl_store_book.proofs.FilesGrown.{at_hand_applied}
use Rattle.gl_store_book.proofs.book.StoreBookBook.sign.Goals as goal

-- the key has the leaf of whoever asks for a ledger that the store stands for
pub returns-then-leaf-from-clause-refused : goal.returns-then-leaf-from-clause-refused
returns-then-leaf-from-clause-refused c =
    let node = c.args.self.now in
    reports node (λ b h. b.sign h.me c.args.leaf h.log c.args.view c.args.commit ≡ Err NoEntry) (λ keys has log spelled holds.
    let low : c.args.leaf < 2 ^ height (keys.key_of node.me).types = c.requires.leaf (book keys) (held node log) (stands_with keys node log has spelled holds) in
    let key : 2 ^ height (keys.key_of node.me).types ≡ 2 ^ height node.key.types = ap (λ (k : PrivateKey). 2 ^ height k.types) has.key in
    let types : c.types.result ≡ node.key.types = c.types.ensures ∙ ap (λ (n : NodeStore). n.key.types) c.self.view_is in
    let count : c.leaf_count.result ≡ 2 ^ height node.key.types = c.leaf_count.ensures.value ∙ ap (λ (t : Types). 2 ^ height t) types in
    let same = c.from.ensures in
    let high = c.if-leaf-from.true in
    absurd (omega (arith, low, key, count, same, high)))

pub returns-in-Some-clause-refused : goal.returns-in-Some-clause-refused
returns-in-Some-clause-refused c =
    refuses_sign c.args.self.now c.args.self.now.ledger refl c.refusal_to_sign.ensures.valid c.in-Some.why c.args.leaf c.args.view c.args.commit c.requires.commit
    (λ keys. c.in-Some.ensures.refused keys c.args.leaf c.args.view c.args.commit)

pub returns-in-Err-clause-refused : goal.returns-in-Err-clause-refused
returns-in-Err-clause-refused c =
    let l = c.self.inside.ledger in
    let node = c.args.self.now in
    let same : l ≡ node.ledger = ap (λ (n : NodeStore). n.ledger) c.self.view_is in
    let valid : IsAudited l = subst (λ (x : BasedLedger). IsAudited x) (sym same) c.refusal_to_sign.ensures.valid in
    refuses_signed node l same valid c.by_rule.result c.args.leaf c.args.view c.args.commit c.in_ok-entry.entry c.requires.commit
    (λ keys has. ap (λ (x : BasedLedger). signed keys x node.me c.args.leaf c.args.view c.args.commit) same ∙ c.in_ok-entry.ensures.made keys has)
    (c.by_rule.ensures (broken_after l c.in_ok-entry.entry) c.in-Err.ensures.refused)

pub returns-clause-made : goal.returns-clause-made
returns-clause-made c =
    let l = c.self.inside.ledger in
    let node = c.args.self.now in
    let same : l ≡ node.ledger = ap (λ (n : NodeStore). n.ledger) c.self.view_is in
    let valid : IsAudited l = subst (λ (x : BasedLedger). IsAudited x) (sym same) c.refusal_to_sign.ensures.valid in
    signs node l same valid (record { me = c.self.inside.me; key = c.self.inside.key; ledger = c.apply.new.self }) c.apply.new.self c.args.leaf c.args.view c.args.commit c.in_ok-entry.entry
    (ap (λ (n : NodeStore). record n { ledger = c.apply.new.self }) c.self.view_is) c.requires.commit
    (λ keys has. ap (λ (x : BasedLedger). signed keys x node.me c.args.leaf c.args.view c.args.commit) same ∙ c.in_ok-entry.ensures.made keys has)
    c.in_ok-entry.ensures.view c.in_default-apply.ensures.unbroken c.in_default-apply.ensures.grown

pub returns-clause-snapshot : goal.returns-clause-snapshot
returns-clause-snapshot c = ap (λ (l : BasedLedger). l.snapshot) c.in_default-apply.ensures.grown ∙ ap (λ (n : NodeStore). n.ledger.snapshot) c.self.view_is

pub invariant_of-self-2 : goal.invariant_of-self-2
invariant_of-self-2 c = at_hand_applied c.self.inside.ledger c.apply.new.self c.in_ok-entry.entry c.self.inside.at_hand c.apply.result c.apply.ensures.grown c.apply.ensures.err c.self.invariant
