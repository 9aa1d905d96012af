use Rattle.std.proofs.Common.{◌≤◌, ◌≡◌, length, ◌∙◌, sym, ap, arith}
use Rattle.gl_index.specs.KeyedLists.{place_of}
use Rattle.gl_index.proofs.Places.{place_pushed, place_bound}
use Rattle.gl_index.proofs.keyed_lists.KeyedLists.place_for.Goals as goal

pub returns-clause-place : goal.returns-clause-place
returns-clause-place g c =
    let ids = c.args.self.now.ids.items in
    let at : c.place_of-place.result ≡ place_of ids c.args.id.now = c.place_of-place.ensures ∙ ap (λ us. place_of us c.args.id.now) c.deref.ensures.value in
    let high : length ids ≤ place_of ids c.args.id.now = omega (arith, c.args.self.now.ids.ok.0, at, c.len.ensures, c.if-place-len.false) in
    at ∙ sym (ap (λ us. place_of us c.args.id.now) c.in_ok-push.ensures.items ∙ place_pushed ids c.args.id.now high)

pub returns-clause-known : goal.returns-clause-known
returns-clause-known g c =
    let at : c.place_of-place.result ≡ place_of c.args.self.now.ids.items c.args.id.now = c.place_of-place.ensures ∙ ap (λ us. place_of us c.args.id.now) c.deref.ensures.value in
    omega (arith, c.args.self.now.ids.ok.0, at, c.in_ok-push.ensures.len, place_bound c.args.self.now.ids.items c.args.id.now)
