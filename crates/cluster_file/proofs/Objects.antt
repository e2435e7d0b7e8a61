-- What a value of JSON shows of its members and items.
use Rattle.std.proofs.Common.{◌≡◌, ℕ, suc, List, [], ◌∷◌, length, map, Option, Some, option_map, option_and_then, refl, sym}
use Rattle.std.proofs.Common.{ap, ◌∙◌, rules, Vec}
use Rattle.std.specs.Borrow.{Bor}
use Rattle.std.specs.declared.alloc.Global.{Global}
use Rattle.std.proofs.lemmas.List.{length-map}
use Rattle.json.specs.Json.{Json, array, object}
use Rattle.json.specs.Find.{get, as_array}
use Rattle.json.specs.Strict.{keys}
use Rattle.json.specs.Value.{value_view, items_view, members_view, items_of, members_of}
use Rattle.json.specs.declared.value.Value.{Value, Array, Object, the_lemmas}
use Rattle.cluster_file.specs.Members.{member_count, list_of, list}

view-Array : (v : Vec (Value Global) Global) → value_view (Array v) ≡ array (items_view v.items)
view-Array v = search (rules, the_lemmas)

view-Object : (v : Vec (Bor (List ℕ) × Value Global) Global) → value_view (Object v) ≡ object (members_view v.items)
view-Object v = search (rules, the_lemmas)

list_of-items_of : (js : List Json) → list_of (items_of js) ≡ js
list_of-items_of [] = refl
list_of-items_of (j ∷ js) = ap (λ rest. j ∷ rest) (list_of-items_of js)

length-keys : (ms : List (Bor (List ℕ) × Json)) → length (keys (members_of ms)) ≡ length ms
length-keys [] = refl
length-keys (m ∷ ms) = ap suc (length-keys ms)

pub counted : (v : Value Global) (members : Vec (Bor (List ℕ) × Value Global) Global) (n : ℕ) → v ≡ Object members
    → n ≡ length members.items
    → n ≡ member_count (value_view v)
counted v members n is len =
    len ∙ sym (length-map members.items _) ∙ sym (length-keys _) ∙ ap member_count (sym (ap value_view is ∙ view-Object members))

pub listed : (name : List ℕ) (j : Json) (v : Value Global) (items : Vec (Value Global) Global) → Some (value_view v) ≡ get name j
    → v ≡ Array items
    → Some (map value_view items.items) ≡ list name j
listed name j v items found is =
    ap Some (sym (list_of-items_of (map value_view items.items)))
    ∙ ap (λ (o : Option Json). option_map list_of (option_and_then as_array o)) (ap Some (sym (ap value_view is ∙ view-Array items))
    ∙ found)
