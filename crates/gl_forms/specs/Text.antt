-- A text in a form.
use Rattle.std.specs.Prelude.{ℕ, List, Result}
use Rattle.serde_json.specs.Data.{Data}
use Rattle.gl_base.specs.Steps.{◌>>=◌}
use Rattle.gl_base.specs.declared.json.FormsFault.{FormsFault}
pub use Rattle.gl_json.specs.Text.{tree_from}

-- What a text is whose tree has this form.
abbrev pub from_text : {X : Type 0} → (Data → Result X FormsFault) → List ℕ → Result X FormsFault
from_text form text = tree_from text >>= form
