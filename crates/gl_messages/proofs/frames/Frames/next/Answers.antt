use Rattle.std.proofs.Common.{◌≡◌, ◌+◌, ◌<◌, drop, length, refl, sym, ap, ap₂, ◌∙◌, arith}
use Rattle.std.proofs.lemmas.List.{drop-drop}
use Rattle.gl_messages.specs.Frames.{whole}
use Rattle.gl_messages.proofs.StreamLaws.{headed, headed_long, headed_short, headed_whole, prefix_short}
use Rattle.gl_messages.proofs.frames.Frames.next.Goals as goal

pub returns-in_default-clause-given : goal.returns-in_default-clause-given
returns-in_default-clause-given c =
    let few : length c.as_slice.result.now < 4 = c.in_default.ensures.cases in
    let long : length c.as_slice.result.now ≡ length c.args.self.now = ap length (c.as_slice.ensures ∙ c.self.view_is) in
    (prefix_short c.args.self.now (omega (arith, few, long)), refl)

pub returns-then-len-gt-FRAME_LIMIT-clause-given : goal.returns-then-len-gt-FRAME_LIMIT-clause-given
returns-then-len-gt-FRAME_LIMIT-clause-given c =
    let there = headed c.args.self.now c.as_slice.result.now c.in-Some.head.now c.in-Some.suffix.now c.from_be_bytes-len.result (c.as_slice.ensures ∙ c.self.view_is) c.in-Some.ensures.cases c.from_be_bytes-len.ensures in
    (headed_long c.args.self.now c.in-Some.suffix.now c.from_be_bytes-len.result there c.if-len-gt-FRAME_LIMIT.true, refl)

pub returns-then-suffix-len-clause-given : goal.returns-then-suffix-len-clause-given
returns-then-suffix-len-clause-given c =
    let there = headed c.args.self.now c.as_slice.result.now c.in-Some.head.now c.in-Some.suffix.now c.from_be_bytes-len.result (c.as_slice.ensures ∙ c.self.view_is) c.in-Some.ensures.cases c.from_be_bytes-len.ensures in
    (headed_short c.args.self.now c.in-Some.suffix.now c.from_be_bytes-len.result there (omega (arith, c.if-len-gt-FRAME_LIMIT.false)) (omega (arith, c.if-suffix-len.true)), refl)

pub returns-clause-given : goal.returns-clause-given
returns-clause-given c =
    let slice = c.as_slice.result.now in
    let len = c.from_be_bytes-len.result in
    let there = headed c.args.self.now slice c.in-Some.head.now c.in-Some.suffix.now len (c.as_slice.ensures ∙ c.self.view_is) c.in-Some.ensures.cases c.from_be_bytes-len.ensures in
    let left : drop len c.in-Some.suffix.now ≡ c.advance.new.self.items =
    ap (drop len) c.in-Some.ensures.cases.1 ∙ drop-drop len 4 slice ∙ ap (drop (4 + len)) c.as_slice.ensures ∙ sym c.advance.ensures.items in
    headed_whole c.args.self.now c.in-Some.suffix.now len there (omega (arith, c.if-len-gt-FRAME_LIMIT.false)) (omega (arith, c.if-suffix-len.false))
    ∙ ap₂ whole (sym c.in_ok-payload.ensures.items) left
