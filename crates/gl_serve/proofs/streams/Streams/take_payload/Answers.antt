use Rattle.std.proofs.Common.{◌≡◌, ℕ, [], Option, None, unwrap_or, sym, ap, ◌∙◌}
use Rattle.std.specs.Ordering.{nat_cmp}
use Rattle.std.specs.BTreeMap.{BTreeMap, get}
use Rattle.gl_serve.specs.declared.streams.Stream.{Stream}
use Rattle.gl_serve.specs.declared.streams.Stream.TheVariants.{Heard}
use Rattle.gl_serve.specs.Kept.{next_of, stream_at}
use Rattle.gl_serve.proofs.KeptStreams.{next_nil}
use Rattle.gl_serve.proofs.streams.Streams.take_payload.Goals as goal

pub returns-in-None-clause-taken : goal.returns-in-None-clause-taken
returns-in-None-clause-taken c =
    let nothing : stream_at c.args.self.now c.args.conn ≡ Heard [] = ap (λ (o : Option Stream). unwrap_or o (Heard [])) (sym c.in-None.ensures.value) in
    let same = ap (λ (m : BTreeMap ℕ Stream). unwrap_or (get nat_cmp m c.args.conn) (Heard [])) (sym c.get_mut.follows.holds-at-none) in
    ap next_of nothing ∙ next_nil ∙ ap (λ (s : Stream). (None, s)) (sym nothing ∙ same)
