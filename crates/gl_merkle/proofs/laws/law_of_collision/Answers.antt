use Rattle.std.proofs.Common.{ℕ, length, ◌∙◌, sym, subst}
use Rattle.gl_merkle.specs.Path.{path_within, path_of}
use Rattle.gl_merkle.specs.Collision.{HaveSameSides}
use Rattle.gl_merkle.proofs.PathLemmas.{collide-climb, HaveSameSides-path}
use Rattle.gl_merkle.proofs.laws.law_of_collision.Goals as goal

pub returns-clause-sides : goal.returns-clause-sides
unfolding path_of
returns-clause-sides c = λ one other index same.
    let P : ℕ → Type 0 = λ h. HaveSameSides (path_within (length one) one index) (path_within h other index) in
    subst P same (HaveSameSides-path (length one) one other index same)

pub returns-clause-collide : goal.returns-clause-collide
returns-clause-collide c = λ a b s t one two ne same meet. collide-climb a s b t (one ∙ sym two) ne same meet
