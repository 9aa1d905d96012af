use Rattle.std.proofs.Common.{◌≢◌, ℕ, List, map, All, AllPairs, sym, ◌∙◌, ap, ap₂, subst, arith}
use Rattle.sha2.specs.Sha256.{sha256}
use Rattle.gl_requests.specs.declared.genesis.Dealing.{Dealing}
use Rattle.gl_requests.specs.declared.genesis.ShareDigest.{ShareDigest}
use Rattle.gl_world.specs.Founding.{digest_of}
use Rattle.gl_world.proofs.Sharing.{all_numbers, numbers_apart, shares_dealt}
use Rattle.gl_world.proofs.dealing.dealing.Goals as goal

pub deal-requires-clause-distinct : goal.deal-requires-clause-distinct
deal-requires-clause-distinct c =
    subst (AllPairs ◌≢◌) (sym (c.deref.ensures.value ∙ c.in_ok-numbers.ensures)) (numbers_apart 1 c.args.settings.now.members)

pub deal-requires-clause-not_zero : goal.deal-requires-clause-not_zero
deal-requires-clause-not_zero c =
    subst (All (λ number. number ≢ 0)) (sym (c.deref.ensures.value ∙ c.in_ok-numbers.ensures))
    (all_numbers (λ number. number ≢ 0) 1 c.args.settings.now.members (λ k low. omega arith))

abbrev made : List ℕ → List ShareDigest → Dealing
made digest shares = record { threshold = 1; secret_digest = digest; shares = shares }

pub returns : goal.returns
returns c =
    ap₂ made (c.digest.ensures ∙ ap sha256 c.word_digest-secret.ensures)
    (c.from.ensures ∙ c.in_ok-share_digests.ensures ∙ ap (map digest_of) c.deref-2.ensures.value
    ∙ shares_dealt c.args.settings.now c.word_digest-secret.result c.word_digest-seed.result c.deref.result.now c.in_ok-shares.shares.items
    c.word_digest-secret.ensures c.word_digest-seed.ensures (c.deref.ensures.value ∙ c.in_ok-numbers.ensures) c.in_ok-shares.ensures)
