use Rattle.gl_vmaps.specs.Versions.{is_to_map, is_to_row}
use Rattle.gl_vmaps.proofs.BaseLaws.{base-values, base-sizes, base-versions}
use Rattle.gl_vmaps.proofs.laws.law_of_base.Goals as goal

pub returns-clause-values : goal.returns-clause-values
returns-clause-values c = base-values

pub returns-clause-sizes : goal.returns-clause-sizes
returns-clause-sizes c = base-sizes

pub returns-clause-versions : goal.returns-clause-versions
returns-clause-versions c = λ rows base qs ps below over name key. base-versions (is_to_row name key) rows base qs ps below over

pub returns-clause-map_versions : goal.returns-clause-map_versions
returns-clause-map_versions c = λ rows base qs ps below over name. base-versions (is_to_map name) rows base qs ps below over
