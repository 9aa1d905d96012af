use Rattle.std.proofs.Common.{List, length, ap, ◌∙◌, arith}
use Rattle.gl_gov_rules.proofs.FoundingAccepted.{accepted_parts}
use Rattle.gl_consortium.specs.ExpectedOutput.{first_endorsement}
use Rattle.gl_consortium.proofs.Openings.{first_short}
use Rattle.gl_consortium.proofs.opening_ledger.opening_bytes.Goals as goal

pub signature_frame-requires-clause-short : goal.signature_frame-requires-clause-short
signature_frame-requires-clause-short c =
    let short = first_short c.args.genesis.nodes (accepted_parts c.args.genesis c.requires.accepted).short in
    let same = ap (λ (bytes : List _). length bytes) (c.in_ok-endorsement.ensures ∙ ap first_endorsement c.as_slice.ensures) in
    omega (arith, short, same)
