use Rattle.std.proofs.Common.{◌<◌, length, ap, ◌∙◌, arith}
use Rattle.std.proofs.lemmas.List.{drop_at}
use Rattle.sha2.specs.Sha256.{sha256}
use Rattle.gl_hss.specs.Bytes.{u8str}
use Rattle.gl_hss.specs.Ots.{step}
use Rattle.gl_hss.proofs.StepInputs.{numbered, prefix-kept}
use Rattle.gl_hss.proofs.ots.step.Goals as goal

pub returns-clause-prefix : goal.returns-clause-prefix
returns-clause-prefix c =
    prefix-kept c.args.input.now c.split_at_mut-end.result.0.now c.copy_from_slice.new.self c.args.j c.split_at_mut-end.ensures.front c.split_at_mut-end.ensures.front_len

pub returns-clause-value : goal.returns-clause-value
unfolding step u8str
returns-clause-value c =
    let room : 22 < length c.args.input.now = omega (arith, c.told-input) in
    drop_at c.split_at_mut-end.result.0.now c.copy_from_slice.new.self 23 c.split_at_mut-end.ensures.front_len
    ∙ c.copy_from_slice.ensures.after ∙ c.digest-value.ensures ∙ ap sha256 (c.as_slice.ensures ∙ numbered c.args.input.now c.args.j room)
