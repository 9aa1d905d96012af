use Rattle.std.proofs.Common.{◌≡◌, ℕ, ◌≤◌, List, length, take, get_or, ap, sym, subst, ◌∙◌, arith}
use Rattle.std.proofs.lemmas.List.{get_or_default}
use Rattle.gl_outside.specs.Record.{done_by, step_of, reads_after, piece_end, pieces_end, Leads}
use Rattle.gl_outside.specs.Tear.{left_by}
use Rattle.gl_outside.specs.declared.sure_disk.Call.{Call}
use Rattle.gl_outside.specs.declared.sure_disk.Call.TheVariants.{Wrote}
use Rattle.gl_outside.proofs.Recorded.{read_more, image_more, left_more, leads_left, reached}
use Rattle.gl_outside.proofs.sure_disk.SureDisk.image.Goals as goal

pub replay-requires : goal.replay-requires
replay-requires c =
    let done : c.split_at.result.0.now ≡ take c.args.calls c.args.self.now.calls.items = c.split_at.ensures.front ∙ ap (take c.args.calls) c.deref-3.ensures.value in
    let there : pieces_end c.args.self.now.calls.items ≤ length c.deref-in-loop-call.result.now = omega (arith, c.args.self.now.pieces_there, c.deref-in-loop-call.ensures.len) in
    reached c.deref-in-loop-call.result.now c.split_at.result.0.now c.args.self.now.calls.items c.args.calls c.loop-call.call-index (Wrote 0 0 0) done there c.loop-call-test.true

pub loop-call-preserved : goal.loop-call-preserved
loop-call-preserved c =
    let first : List ℕ = c.args.self.now.first.items in
    let pieces : List ℕ = c.args.self.now.pieces.items in
    let done : List Call = c.split_at.result.0.now in
    let i : ℕ = c.loop-call.call-index in
    let call : Call = get_or done i (Wrote 0 0 0) in
    let is : call ≡ get_or done i call = get_or_default done i (Wrote 0 0 0) call c.loop-call-test.true in
    let taken : done ≡ take c.args.calls c.args.self.now.calls.items = c.split_at.ensures.front ∙ ap (take c.args.calls) c.deref-3.ensures.value in
    let there : pieces_end c.args.self.now.calls.items ≤ length pieces = omega (arith, c.args.self.now.pieces_there) in
    let here : piece_end call ≤ length pieces = reached pieces done c.args.self.now.calls.items c.args.calls i (Wrote 0 0 0) taken there c.loop-call-test.true in
    let bytes : List ℕ = c.loop-call.bytes.items in
    let image : List ℕ = c.loop-call.image.items in
    let left : c.replay.new.image.items ≡ left_by pieces c.args.tear bytes image call =
    c.in_ok-replay.ensures.left ∙ ap (λ (l : List ℕ). left_by l c.args.tear bytes image call) c.deref-in-loop-call.ensures.value in
    let leads : Leads (step_of bytes call) image c.replay.new.image.items =
    subst (Leads (step_of bytes call) image) (sym left) (leads_left pieces c.args.tear bytes image call here) in
    record {
      reads = c.in_ok-replay.ensures.bytes
          ∙ ap (λ (l : List ℕ). done_by l bytes call) c.deref-in-loop-call.ensures.value
          ∙ ap (λ (b : List ℕ). done_by pieces b call) c.loop-call.invariant.reads
          ∙ sym (read_more first pieces done i call c.loop-call-test.true is);
      image = image_more first pieces done i call bytes image c.replay.new.image.items c.loop-call-test.true is
          c.loop-call.invariant.reads c.loop-call.invariant.image leads;
      left = left
          ∙ ap (λ (b : List ℕ). left_by pieces c.args.tear b image call) c.loop-call.invariant.reads
          ∙ ap (λ (l : List ℕ). left_by pieces c.args.tear (reads_after pieces first (take i done)) l call) c.loop-call.invariant.left
          ∙ sym (left_more first pieces c.args.tear done i call c.loop-call-test.true is);
    }
