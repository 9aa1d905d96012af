-- What a key is made from, as the code holds it.
use Rattle.gl_hss.specs.declared.source.KeySource.{KeySource}
use Rattle.gl_hss.specs.Secrets.{PrivateKey}

abbrev pub private_of : KeySource → PrivateKey
private_of k = record { types = k.types; identifier = k.identifier; seed = k.seed }
