use Rattle.std.proofs.Common.{◌≡◌, ℕ, List, refl, sym, ap, subst, ◌∙◌}
use Rattle.sha2.specs.Sha256.{sha256}
use Rattle.gl_ledger.specs.LedgerBook.{ledger_book}
use Rattle.gl_ledger.specs.Makers.{opening_of}
use Rattle.gl_ledger.specs.NodeKeys.{service_layers}
use Rattle.gl_ledger.specs.OpeningLedger.{Founds}
use Rattle.gl_store_book.specs.Founding.{id_of_key, key_alone}
use Rattle.gl_store_book.specs.Stands.{NodeStore, Stands, whole, whole_store}
use Rattle.gl_store_book.proofs.WholeStands.{whole_stands}
use Rattle.gl_store_book.proofs.store_book.StoreBook.founded.Goals as goal

pub open-requires-clause-empty : goal.open-requires-clause-empty
open-requires-clause-empty c = ap (λ (n : NodeStore). n.ledger) c.in_ok-book.ensures.holds

pub open-requires-clause-founds : goal.open-requires-clause-founds
open-requires-clause-founds c =
    let key = c.args.key in
    let named : c.digest-me.result ≡ id_of_key key = c.digest-me.ensures ∙ ap sha256 c.public.ensures.bytes in
    let is = c.in_ok-book.ensures.holds in (
      key_alone key,
      record { key = sym (ap (λ (n : NodeStore). n.key) is) },
      subst (Founds service_layers (key_alone key) c.args.genesis) (sym (ap (λ (n : NodeStore). n.me) is ∙ named)) c.requires,
    )

pub returns-clause-holds : goal.returns-clause-holds
returns-clause-holds c =
    let key = c.args.key in
    let keys = key_alone key in
    let named : c.digest-me.result ≡ id_of_key key = c.digest-me.ensures ∙ ap sha256 c.public.ensures.bytes in
    let is = c.in_ok-book.ensures.holds in
    c.in_ok-open.ensures keys (record { key = sym (ap (λ (n : NodeStore). n.key) is) })
    ∙ ap (λ (n : NodeStore). whole_store n.me n.key (opening_of keys c.args.genesis n.me)) is
    ∙ ap (λ (x : List ℕ). whole_store x key (opening_of keys c.args.genesis x)) named

pub returns-clause-stands : goal.returns-clause-stands
returns-clause-stands c =
    let key = c.args.key in
    let keys = key_alone key in
    let named : c.digest-me.result ≡ id_of_key key = c.digest-me.ensures ∙ ap sha256 c.public.ensures.bytes in
    let begun = c.in_ok-book.ensures.holds in
    let is =
    c.in_ok-open.ensures keys (record { key = sym (ap (λ (n : NodeStore). n.key) begun) })
    ∙ ap (λ (n : NodeStore). whole_store n.me n.key (opening_of keys c.args.genesis n.me)) begun
    ∙ ap (λ (x : List ℕ). whole_store x key (opening_of keys c.args.genesis x)) named in
    subst (λ (n : NodeStore). Stands n (ledger_book service_layers keys) (whole (id_of_key key) (opening_of keys c.args.genesis (id_of_key key)))) (sym is)
    (whole_stands keys (id_of_key key) key (opening_of keys c.args.genesis (id_of_key key)) refl)
