use Rattle.gl_shares.proofs.Bilinear.{field_product-xor_right}
use Rattle.gl_shares.proofs.Division.{field_product-remainder}
use Rattle.gl_shares.proofs.FieldLaws.{product-comm, product-assoc, product-lt, product-one_right, product-inverse}
use Rattle.gl_shares.proofs.laws.law_of_field.Goals as goal

pub returns-clause-remainder : goal.returns-clause-remainder
returns-clause-remainder c = field_product-remainder

pub returns-clause-closed : goal.returns-clause-closed
returns-clause-closed c = product-lt

pub returns-clause-commutes : goal.returns-clause-commutes
returns-clause-commutes c = product-comm

pub returns-clause-associates : goal.returns-clause-associates
returns-clause-associates c = product-assoc

pub returns-clause-distributes : goal.returns-clause-distributes
returns-clause-distributes c = field_product-xor_right

pub returns-clause-one : goal.returns-clause-one
returns-clause-one c = product-one_right

pub returns-clause-inverse : goal.returns-clause-inverse
returns-clause-inverse c = product-inverse
