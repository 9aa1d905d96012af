use Rattle.std.proofs.Common.{◌∷◌, [], List, ℕ, map, Bor, sym, ap, ◌∙◌}
use Rattle.std.proofs.lemmas.List.{map-append}
use Rattle.gl_lines.proofs.PartLemmas.{all_parts, words_are_parts}
use Rattle.gl_lines.proofs.split.words_of.Goals as goal

pub returns : goal.returns
returns c =
    let now = λ (word : Bor (List ℕ)). word.now in
    ap (map now) c.in_ok-push.ensures.items
    ∙ map-append now c.in_ok-words.words.items (c.in_ok-words.last ∷ [])
    ∙ sym (words_are_parts [] c.args.line.now ∙ ap all_parts c.in_ok-words.ensures)
