use Rattle.std.proofs.Common.{sym, ap, ◌∙◌}
use Rattle.gl_hss.specs.Tree.{key_bytes}
use Rattle.gl_hss.specs.Hss.{last_key}
use Rattle.gl_hss.proofs.Bounds.{bytes, last_key_valid, bytes_are}
use Rattle.gl_hss.proofs.verdict.last_key.Goals as goal

pub returns-clause-signer : goal.returns-clause-signer
returns-clause-signer c = λ message by valid.
    let key = c.args.key.now in
    let s = c.args.signature.now in (
      λ found. record { valid = valid; signer = bytes_are (key_bytes (last_key valid.top valid.upper)) by (sym (last_key_valid key message s valid) ∙ sym c.last_key_verdict.ensures ∙ found) },
      λ signed. c.last_key_verdict.ensures ∙ last_key_valid key message s signed.valid ∙ ap bytes signed.signer,
    )
