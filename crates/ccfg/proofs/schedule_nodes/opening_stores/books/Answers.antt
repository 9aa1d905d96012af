use Rattle.std.proofs.Common.{◌≡◌, ◌+◌, ◌<◌, ℕ, zero, suc, [], Option, Some, None, Bool, false, nat_le, if◌then◌else◌, length, slice_set, refl, sym, ap, ap₂, subst, ◌∙◌, arith}
use Rattle.std.proofs.lemmas.Bool.Decides.{nat_tests}
use Rattle.std.proofs.lemmas.List.{length-set}
use Rattle.std.proofs.lemmas.Option.{slice_get_read}
use Rattle.gl_entry.specs.declared.entry.Entry.{Entry}
use Rattle.gl_receipt.specs.Made.{entry_at}
use Rattle.gl_ledger.specs.Makers.{opening_of}
use Rattle.gl_world.specs.Founding.{keys_of}
use Rattle.gl_world.specs.World.{start_of}
use Rattle.ccfg.specs.OpeningStores.{IsOfNode, HaveOpened}
use Rattle.gl_store_book.specs.AtHand.{IsAtHand}
use Rattle.gl_store_book.specs.BasedLedgers.{BasedLedger, whole_ledger}
use Rattle.gl_store_book.specs.declared.snapshot_file.SnapshotFile.{SnapshotFile}
use Rattle.gl_store_book.proofs.WholeHeld.{held_whole}
use Rattle.gl_store_book.specs.Stands.{NodeStore}
use Rattle.ccfg.proofs.Openings.{first_founds, has_key, one_opened, opened_one, stand_at_start}
use Rattle.ccfg.proofs.schedule_nodes.opening_stores.books.Goals as goal

no_entry : {P : Type 0} (n : ℕ) (e : Entry) → entry_at [] n ≡ Some e → P
no_entry zero e is = absurd (cc)
no_entry (suc n) e is = absurd (cc)

-- a store without entries has no snapshot at hand, so that any ledger may come in its place
none_at_hand : (l m : BasedLedger) (file : Option SnapshotFile) → l ≡ whole_ledger [] → IsAtHand l file → IsAtHand m file
none_at_hand l m None is at = tt
none_at_hand l m (Some file) is at =
    let with = subst (λ (x : BasedLedger). IsAtHand x (Some file)) is at [] (held_whole []) in
    no_entry file.evidence with.snapshot.entry with.entry

pub open-requires-clause-founds : goal.open-requires-clause-founds
open-requires-clause-founds c =
    let s = c.args.settings.now in
    let some : 0 < length c.in_ok-books.books.items = omega (arith, c.in_ok-books.ensures.len, c.in_ok-founding.ensures.keys.counted, c.requires.group.first) in
    let is = (c.in_ok-books.ensures.joining 0 c.index_mut.result.now (slice_get_read c.in_ok-books.books.items _ 0 _ refl some c.index_mut.ensures.value)).0 in (
      keys_of s,
      has_key s c.requires.group 1 (omega arith) (omega (arith, c.requires.group.first)) c.index_mut.result.now is,
      first_founds s c.requires.group _ _ c.in_ok-founding.ensures.genesis is.named,
    )

pub open-requires-clause-empty : goal.open-requires-clause-empty
open-requires-clause-empty c =
    let some : 0 < length c.in_ok-books.books.items = omega (arith, c.in_ok-books.ensures.len, c.in_ok-founding.ensures.keys.counted, c.requires.group.first) in
    (c.in_ok-books.ensures.joining 0 c.index_mut.result.now (slice_get_read c.in_ok-books.books.items _ 0 _ refl some c.index_mut.ensures.value)).1

pub loop-i-init : goal.loop-i-init
loop-i-init c =
    let s = c.args.settings.now in
    let some : 0 < length c.in_ok-books.books.items = omega (arith, c.in_ok-books.ensures.len, c.in_ok-founding.ensures.keys.counted, c.requires.group.first) in
    let is = (c.in_ok-books.ensures.joining 0 c.index_mut.result.now (slice_get_read c.in_ok-books.books.items _ 0 _ refl some c.index_mut.ensures.value)).0 in
    let opened = c.in_ok-open.ensures (keys_of s) (has_key s c.requires.group 1 (omega arith) (omega (arith, c.requires.group.first)) c.index_mut.result.now is) in (
      one_opened s 0 c.in_ok-books.books.items c.open.new.self c.in_ok-books.ensures.joining
          (record { named = ap (λ (n : NodeStore). n.me) opened ∙ is.named; key = ap (λ (n : NodeStore). n.key) opened ∙ is.key })
          (ap (λ (n : NodeStore). n.ledger) opened ∙ ap whole_ledger (ap₂ (opening_of (keys_of s)) c.in_ok-founding.ensures.genesis is.named)),
      length-set c.in_ok-books.books.items 0 c.open.new.self ∙ c.in_ok-books.ensures.len ∙ c.in_ok-founding.ensures.keys.counted,
      omega arith,
      c.requires.group.first,
    )

pub loop-i-preserved : goal.loop-i-preserved
loop-i-preserved c =
    let s = c.args.settings.now in
    let books = c.loop-i.books.items in
    let i = c.loop-i.i in
    let k = c.from.result in
    let same : k ≡ i = c.from.ensures in
    let inv = c.loop-i.invariant in
    let in_time = c.loop-i-test.true in
    let low : k < length books = omega (arith, same, inv.1, in_time) in
    let some : 0 < length books = omega (arith, inv.1, in_time) in
    let old = c.index_mut-in-loop-i.result.now in
    let is = (inv.0 k old (slice_get_read books _ k _ refl low c.index_mut-in-loop-i.ensures.value)).0 in
    let view = c.behind-books-in-loop-i.view_is in
    let node : NodeStore = record { me = c.behind-books-in-loop-i.inside.me; key = c.behind-books-in-loop-i.inside.key; ledger = c.in_ok-opened.opened } in
    let of_node : IsOfNode s (suc i) node = subst (λ (n : ℕ). IsOfNode s (suc n) node) same (record {
      named = ap (λ (n : NodeStore). n.me) view ∙ is.named;
      key = ap (λ (n : NodeStore). n.key) view ∙ is.key;
    }) in
    let first = (inv.0 0 c.index.result.now (slice_get_read books _ 0 _ refl some c.index.ensures)).1 in
    let held : c.in_ok-opened.opened ≡ whole_ledger (start_of s).opening = c.in_ok-opened.ensures ∙ ap (λ (n : NodeStore). n.ledger) c.behind-books.view_is ∙ first ∙ ap whole_ledger (opened_one s i inv.2) in
    let more = subst (λ (m : ℕ). HaveOpened s m (slice_set books i node)) (let next : suc i ≡ i + 1 = omega arith in next) (one_opened s i books node inv.0 of_node held) in (
      subst (λ (n : ℕ). HaveOpened s (i + 1) (slice_set books n node)) (sym same) more,
      length-set books k node ∙ inv.1,
      omega arith,
      omega (arith, in_time),
    )

pub returns-clause-books : goal.returns-clause-books
returns-clause-books c =
    let s = c.args.settings.now in
    let inv = c.loop-i.invariant in
    let over = c.loop-i-test.false in
    let all : c.loop-i.i ≡ s.starting = omega (arith, over, inv.3) in
    stand_at_start s c.requires.group c.loop-i.books.items inv.1 (subst (λ (n : ℕ). HaveOpened s n c.loop-i.books.items) all inv.0)

pub invariant_of-behind-books : goal.invariant_of-behind-books
invariant_of-behind-books c =
    let s = c.args.settings.now in
    let books = c.loop-i.books.items in
    let i = c.loop-i.i in
    let k = c.from.result in
    let same : k ≡ i = c.from.ensures in
    let inv = c.loop-i.invariant in
    let in_time = c.loop-i-test.true in
    let low : k < length books = omega (arith, same, inv.1, in_time) in
    let old = c.index_mut-in-loop-i.result.now in
    let ledger = (inv.0 k old (slice_get_read books _ k _ refl low c.index_mut-in-loop-i.ensures.value)).1 in
    let late : nat_le (suc k) i ≡ false = grind (arith, nat_tests, same) in
    none_at_hand c.behind-books-in-loop-i.inside.ledger c.in_ok-opened.opened c.behind-books-in-loop-i.inside.at_hand
    (ap (λ (n : NodeStore). n.ledger) c.behind-books-in-loop-i.view_is ∙ ledger ∙ ap (λ (t : Bool). whole_ledger (if t then (start_of s).opening else [])) late)
    c.behind-books-in-loop-i.invariant
