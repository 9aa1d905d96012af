use Rattle.std.proofs.Common.{◌≡◌, ℕ, List, ◌++◌, codes, Result, Ok, Err, OnOk, ap, ◌∙◌, append_assoc}
use Rattle.hex.specs.Hex.{encode_lower}
use Rattle.gl_commands.proofs.values.put_nodes.Goals as goal

-- what is put after what was put
put_after : {T E : Type 0} (r : Result T E) (old mid new first rest : List ℕ) → mid ≡ old ++ first → OnOk r (new ≡ mid ++ rest) → OnOk r (new ≡ old ++ (first ++ rest))
put_after (Ok t) old mid new first rest is put = put ∙ ap (λ (l : List ℕ). l ++ rest) is ∙ append_assoc old first rest
put_after (Err e) old mid new first rest is put = tt

pub returns : goal.returns
returns c =
    put_after c.put_digests.result c.args.out.now.items c.extend_from_slice.new.self.items c.put_digests.new.out.items (codes "NotFirstNode ")
    (encode_lower c.args.want.now ++ codes " " ++ encode_lower c.args.got.now) c.in_ok-extend_from_slice.ensures.items c.put_digests.ensures
