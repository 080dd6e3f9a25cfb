-- The selection ranges of positions.
use Rattle.std.proofs.Common.{◌≡◌, ◌∙◌, ℕ, ◌≤◌, List, [], ◌∷◌, ◌++◌, length, map, drop, ap, sym, refl, rules}
use Rattle.std.specs.Global.{Vec}
use Rattle.std.proofs.lemmas.List.{append-nil, drop_all}
use Rattle.serde_json.specs.Data.{Data, array, item}
use Rattle.serde_json.specs.declared.value.Value.{Array, Value, the_lemmas}
use Rattle.serde_json.specs.View.{items_of, view}
use Rattle.yf_positions.specs.declared.encoding.Encoding.{Encoding}
use Rattle.yf_server.specs.declared.analysis.Part.{Part}
use Rattle.yf_server.specs.Parameters.{position_of}
use Rattle.yf_server.specs.Selections.{selection_by, selections_of}

pub view_array : (values : Vec Value) → view (Array values) ≡ array (items_of (map view values.items))
view_array values = search (rules, the_lemmas)

selected : (e : Encoding) (text : List ℕ) (parts : List Part) (ds : List Data)
    → items_of (map (λ (d : Data). selection_by e text parts (position_of d)) ds)
    ≡ selections_of e text parts (items_of ds)
selected e text parts [] = refl
selected e text parts (d ∷ ds) = ap (item (selection_by e text parts (position_of d))) (selected e text parts ds)

-- no position is left
pub all_selected : (e : Encoding) (text : List ℕ) (parts : List Part) (values : List Data) (positions : List Value)
    (k : ℕ) → length positions ≤ k
    → values ++ map (λ (d : Data). selection_by e text parts (position_of d)) (map view (drop k positions))
    ≡ map (λ (d : Data). selection_by e text parts (position_of d)) (map view positions)
    → items_of values ≡ selections_of e text parts (items_of (map view positions))
all_selected e text parts values positions k past inv =
    ap items_of (sym (append-nil values)
    ∙ ap (λ vs. values ++ map (λ (d : Data). selection_by e text parts (position_of d)) (map view vs))
    (sym (drop_all k positions past)) ∙ inv)
    ∙ selected e text parts (map view positions)
