-- Where a value stands in a JSON tree.
use Rattle.std.specs.Prelude.{ℕ, List, []}
use Rattle.gl_base.specs.Json.{member_of, item_of}
use Rattle.gl_forms.specs.declared.place.Place.{Place, Whole, Member', Item'}

-- The JSON pointer (RFC 6901) of a place.
abbrev pub pointer_of : Place → List ℕ
pointer_of Whole = []
pointer_of (Member' p object name) = member_of (pointer_of object) name.now
pointer_of (Item' p list index) = item_of (pointer_of list) index
