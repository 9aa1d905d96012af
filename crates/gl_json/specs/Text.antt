-- The JSON tree of a text.
use Rattle.std.specs.Prelude.{ℕ, List, Option, Some, None, Result, Ok, Err, if◌then◌else◌}
use Rattle.std.specs.Str.{is_utf8}
use Rattle.serde_json.specs.Data.{Data}
use Rattle.serde_json.specs.Read.{read}
use Rattle.gl_base.specs.declared.json.FormsFault.{FormsFault}
use Rattle.gl_base.specs.declared.json.FormsFault.TheVariants as faults

abbrev pub json_from : Option Data → Result Data FormsFault
json_from None = Err faults.NotJson
json_from (Some tree) = Ok tree

-- The tree of a text. One that is not UTF-8, or nests deeper than 127, is no JSON.
unfoldable pub tree_from : List ℕ → Result Data FormsFault
tree_from text = if is_utf8 text then json_from (read text) else Err faults.NotJson
