use Rattle.std.proofs.Common.{◌≡◌, ◌++◌, ◌∷◌, [], length, sym, ap, ◌∙◌, append_assoc}
use Rattle.gl_gov_rows.specs.Reading.{by_number}
use Rattle.gl_gov_rows.proofs.NodesByNumber.{put_back, length-by_number}
use Rattle.gl_gov_rows.proofs.numbered.places_of.Goals as goal

pub loop-node-preserved : goal.loop-node-preserved
loop-node-preserved c =
    let count = length c.args.nodes.items in
    let before : length c.loop-node.places.items ≡ count = ap length c.loop-node.invariant.places ∙ length-by_number c.loop-node.yielded count in
    let there : c.put.new.places ≡ by_number (c.loop-node.yielded ++ c.in-Some.node ∷ []) (length c.loop-node.places.items) =
    c.put.ensures c.loop-node.yielded
    (c.deref_mut.ensures.value ∙ c.loop-node.invariant.places ∙ ap (by_number c.loop-node.yielded) (sym (ap length c.deref_mut.ensures.value ∙ before)))
    ∙ ap (λ places. by_number (c.loop-node.yielded ++ c.in-Some.node ∷ []) (length places)) c.deref_mut.ensures.value in
    record {
      all = append_assoc c.loop-node.yielded (c.in-Some.node ∷ []) c.next.new.self.rest.items ∙ ap (λ ns. c.loop-node.yielded ++ ns) (sym c.in-Some.ensures.steps.0) ∙ c.loop-node.invariant.all;
      places =
          put_back c.put.new.places c.loop-node.places.items c.loop-node.places.len c.loop-node.places.ok.0 (ap length there ∙ length-by_number (c.loop-node.yielded ++ c.in-Some.node ∷ []) (length c.loop-node.places.items))
          ∙ there ∙ ap (by_number (c.loop-node.yielded ++ c.in-Some.node ∷ [])) before;
    }
