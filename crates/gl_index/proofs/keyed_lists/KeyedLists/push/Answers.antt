use Rattle.std.proofs.Common.{◌≡◌, ◌∙◌, ap, arith}
use Rattle.std.specs.Vec.{with_items}
use Rattle.std.proofs.lemmas.List.{with_items_is}
use Rattle.gl_index.specs.Lists.{lists_of, list_at}
use Rattle.gl_index.specs.KeyedLists.{place_of}
use Rattle.gl_index.proofs.ListsByNumber.{with_more_other}
use Rattle.gl_index.proofs.Places.{other_place}
use Rattle.gl_index.proofs.keyed_lists.KeyedLists.push.Goals as goal

pub returns-clause-others : goal.returns-clause-others
returns-clause-others g c = λ other differ.
    let old = c.args.self.now in
    let same : (with_items old.lists c.push_at.new.lists).items ≡ c.push_at.new.lists = with_items_is old.lists c.push_at.new.lists (omega (arith, c.push_at.auto.lists, old.lists.ok.0)) in
    let at : c.place_of-place.result ≡ place_of old.ids.items c.args.id.now = c.place_of-place.ensures ∙ ap (λ us. place_of us c.args.id.now) c.deref.ensures.value in
    ap (λ vs. list_at (lists_of vs) (place_of old.ids.items other)) same
    ∙ ap (λ ls. list_at ls (place_of old.ids.items other)) (rw c.deref_mut.ensures.value at c.push_at.ensures)
    ∙ with_more_other (lists_of old.lists.items) c.place_of-place.result (place_of old.ids.items other) c.args.item
    (λ e. other_place old.ids.items c.args.id.now other c.requires.known differ (e ∙ at))
