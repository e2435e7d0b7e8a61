-- The members of a JSON object, by name.
use Rattle.std.specs.Prelude.{ℕ, ◌&&◌, nat_le, nat_lt, List, [], ◌∷◌, length, Bool, if◌then◌else◌}
use Rattle.std.specs.Prelude.{Option, Some, None, option_map, option_and_then}
use Rattle.std.specs.List.{list_all}
use Rattle.std.specs.Str.Parse.{digits_value}
use Rattle.json.specs.Json.{Json, null, boolean, number, string, array, object, Items, no_items, item}
use Rattle.json.specs.Find.{get, as_number, as_str, as_array}
use Rattle.json.specs.Strict.{keys}

-- how many members an object has, each counted as often as it stands there; anything else has none
abbrev pub member_count : Json → ℕ
member_count null = 0
member_count (boolean b) = 0
member_count (number s) = 0
member_count (string s) = 0
member_count (array js) = 0
member_count (object ms) = length (keys ms)

abbrev pub is_digit : ℕ → Bool
is_digit b = nat_le 48 b && nat_le b 57

-- the text of a number that is whole: digits alone, so without a sign, a point or an exponent
abbrev pub is_whole : List ℕ → Bool
is_whole text = nat_lt 0 (length text) && list_all is_digit text

abbrev pub whole_of : List ℕ → Option ℕ
whole_of text = if is_whole text then Some (digits_value 10 text) else None

abbrev pub whole_in : Json → Option ℕ
whole_in j = option_and_then whole_of (as_number j)

-- the whole number, the text and the list that stand under a name
abbrev pub whole : List ℕ → Json → Option ℕ
whole name j = option_and_then whole_in (get name j)

abbrev pub text : List ℕ → Json → Option (List ℕ)
text name j = option_and_then as_str (get name j)

abbrev pub list_of : Items → List Json
list_of no_items = []
list_of (item j js) = j ∷ list_of js

abbrev pub list : List ℕ → Json → Option (List Json)
list name j = option_map list_of (option_and_then as_array (get name j))
