-- Where no keys matter, any will do.
use Rattle.std.proofs.Common.{[]}
use Rattle.gl_hss.specs.declared.types.Types.TheVariants.{H5W4}
use Rattle.gl_ledger.specs.NodeKeys.{NodeKeys}

pub any_keys : NodeKeys
any_keys = record { key_of = λ x. record { types = H5W4; identifier = []; seed = [] } }
