use Rattle.std.proofs.Common.{rules, ◌≡◌, ℕ, ◌%◌, ◌∷◌, [], ◌++◌, List, sym, ◌∙◌, ap, ap₂, zero-add}
use Rattle.std.proofs.lemmas.List.FromFn.{map-range_with_len_more}
use Rattle.rand_chacha.specs.ChaCha.{word_at, key_of}
use Rattle.gl_shares.specs.Dealing.{drawn}
use Rattle.gl_shares.proofs.dealing.draw.Goals as goal

pub loop-preserved : goal.loop-preserved
loop-preserved c =
    let said : c.next_word.result ≡ word_at 10 (key_of c.args.seed) 0 c.loop.counter = search rules in
    let word : c.next_word.result % 256 ≡ drawn c.args.seed c.loop.counter = ap (λ (x : ℕ). x % 256) said in (
      search rules,
      search rules,
      search rules,
      c.in_ok-push.ensures.items ∙ ap₂ (λ (xs : List ℕ) (x : ℕ). xs ++ x ∷ []) c.loop.invariant.3 word
          ∙ sym (map-range_with_len_more (drawn c.args.seed) 0 c.loop.counter c.loop.counter (zero-add c.loop.counter)),
    )
