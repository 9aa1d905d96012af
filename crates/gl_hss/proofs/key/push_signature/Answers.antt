use Rattle.std.proofs.Common.{◌≡◌, ◌++◌, ℕ, List, refl, ap, ◌∙◌}
use Rattle.gl_hss.specs.Types.{chain_count}
use Rattle.gl_hss.specs.Bytes.{u32str}
use Rattle.gl_hss.specs.Ots.{digits, message_digest}
use Rattle.gl_hss.specs.Tree.{signature_bytes}
use Rattle.gl_hss.specs.Secrets.{shown_chains, signature_with}
use Rattle.gl_hss.specs.Profile.{randomizer_of}
use Rattle.gl_hss.specs.Source.{private_of}
use Rattle.gl_hss.proofs.Appends.{push_next}
use Rattle.gl_hss.proofs.key.push_signature.Goals as goal

pub returns-clause-bytes : goal.returns-clause-bytes
unfolding signature_bytes signature_with
returns-clause-bytes c =
    let k = private_of c.args.source.now in
    let q = c.args.q in
    let leaf : c.extend_from_slice.new.self.items ≡ c.args.out.now.items ++ u32str q =
    c.in_ok-extend_from_slice.ensures.items ∙ ap (λ (l : List ℕ). c.args.out.now.items ++ l) c.u32str.ensures in
    let ots = push_next c.args.out.now.items _ leaf c.in_ok-extend_from_slice-2.ensures.items (c.u32str-2.ensures ∙ ap u32str c.ots_code.ensures) in
    let randomizer = push_next c.args.out.now.items _ ots c.in_ok-extend_from_slice-3.ensures.items c.secret-randomizer.ensures.value in
    let ds : c.digits-digits.result ≡ digits k.types (message_digest k.identifier q (randomizer_of k q) c.args.message.now) =
    c.digits-digits.ensures ∙ ap (digits k.types) (c.message_digest-digest.ensures ∙ ap (λ (r : List ℕ). message_digest k.identifier q r c.args.message.now) c.secret-randomizer.ensures.value) in
    let chains = push_next c.args.out.now.items _ randomizer c.in_ok-push_chains.ensures (ap (λ (d : List ℕ). shown_chains k q d (chain_count k.types)) ds) in
    let lms = push_next c.args.out.now.items _ chains c.in_ok-extend_from_slice-4.ensures.items (c.u32str-3.ensures ∙ ap u32str c.lms_code.ensures) in
    push_next c.args.out.now.items _ lms c.in_ok-push_path.ensures refl
