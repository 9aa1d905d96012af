use Rattle.std.proofs.Common.{◌∷◌, [], List, ℕ, map, Bor, arith}
use Rattle.std.proofs.lemmas.List.{map-append}
use Rattle.gl_lines.proofs.PartLemmas.{end_step, other_step, last_step}
use Rattle.gl_lines.proofs.split.parts_of.Goals.{then-byte-end+in_ok-push, else-byte-end}
use Rattle.gl_lines.proofs.split.parts_of.Goals as goal

pub loop-i-preserved : goal.loop-i-preserved
loop-i-preserved c = elim c.if-byte-end.branch [
  | then-byte-end+in_ok-push w ↦
      let items = w.in_ok-push.ensures.items in
      let text = c.args.text.now in
      record {
        begun = omega (arith, w.start-is);
        parts = end_step _ _ (map (λ (part : Bor (List ℕ)). part.now) c.loop-i.parts.items) _ text c.loop-i.start _ c.loop-i.i c.loop-i-test.true w.if-byte-end.true w.start-is
            (cc (
              w.parts-is,
              items,
              w.split_at.ensures.front,
              w.split_at-then-byte-end.ensures.back,
              map-append (λ (part : Bor (List ℕ)). part.now) c.loop-i.parts.items (w.split_at-then-byte-end.result.1 ∷ []),
            ))
            c.loop-i.invariant.parts;
      }
  | else-byte-end w ↦
      rw (w.parts-is, w.start-is) (record {
        begun = omega (arith, c.loop-i.invariant.begun);
        parts = other_step _ _ (map (λ (part : Bor (List ℕ)). part.now) c.loop-i.parts.items) c.args.text.now c.loop-i.start c.loop-i.i c.loop-i-test.true w.if-byte-end.false
            c.loop-i.invariant.begun c.loop-i.invariant.parts;
      })
]

pub returns : goal.returns
returns c =
    rw c.split_at-2.ensures.back (last_step _ _ (map (λ (part : Bor (List ℕ)). part.now) c.loop-i.parts.items) c.args.text.now c.loop-i.start c.loop-i.i c.loop-i-test.false c.loop-i.invariant.parts)
