-- Selection ranges as JSON (`SelectionRange` of the Language Server Protocol 3.17), which
-- `textDocument/selectionRange` returns.
use Rattle.std.specs.Prelude.{◌≡◌, ℕ, ◌==◌, ◌&&◌, nat_le, Bool, List, [], ◌∷◌, codes, flat_map, Option, None, Some, if◌then◌else◌}
use Rattle.serde_json.specs.Data.{Data, Items, no_items, item, null, array, object, no_members, member}
use Rattle.yf_positions.specs.declared.encoding.Encoding.{Encoding}
use Rattle.yf_positions.specs.declared.position.LspPosition.{LspPosition}
use Rattle.yf_positions.specs.Offsets.{offset_of}
use Rattle.yf_server.specs.declared.analysis.Part.{Part}
use Rattle.yf_server.specs.declared.analysis.TextSpan.{TextSpan}
use Rattle.yf_server.specs.Analysis.{TextClaim}
use Rattle.yf_server.specs.Edits.{range_data}
use Rattle.yf_server.specs.Parameters.{position_of}
use Rattle.yf_server.specs.Symbols.{range_of}

-- a span has an offset, also its end
abbrev pub holds : ℕ → TextSpan → Bool
holds i s = nat_le s.start i && nat_le i s.end

abbrev pub same_span : TextSpan → TextSpan → Bool
same_span s r = s.start == r.start && s.end == r.end

abbrev pub other_than : TextSpan → TextSpan → List TextSpan
other_than s r = if same_span s r then [] else r ∷ []

-- the spans of a part that have an offset, the outer one first: the part, and its node or its name
abbrev pub inner_at : ℕ → Part → List TextSpan
inner_at i p = if holds i p.node then other_than p.whole p.node
    else (if holds i p.name then other_than p.whole p.name else [])

abbrev pub spans_at : ℕ → Part → List TextSpan
spans_at i p = if holds i p.whole then p.whole ∷ inner_at i p else []

-- `SelectionRange`
abbrev pub selection : Option Data → Data → Data
selection None range = object (member (codes "range") range no_members)
selection (Some parent) range = object (member (codes "parent") parent (member (codes "range") range no_members))

-- one in the other, the outer one first
abbrev pub chain : Encoding → List ℕ → Option Data → List TextSpan → Option Data
chain e text outer [] = outer
chain e text outer (s ∷ ss) = chain e text (Some (selection outer (range_data (range_of e text s)))) ss

abbrev pub chain_at : Encoding → List ℕ → List Part → ℕ → Option Data
chain_at e text ps i = chain e text None (flat_map (spans_at i) ps)

-- an empty range, if no part has the offset
abbrev pub here : ℕ → TextSpan
here i = record { start = i; end = i }

abbrev pub or_here : Encoding → List ℕ → ℕ → Option Data → Data
or_here e text i None = selection None (range_data (range_of e text (here i)))
or_here e text i (Some value) = value

abbrev pub selection_at : Encoding → List ℕ → List Part → ℕ → Data
selection_at e text ps i = or_here e text i (chain_at e text ps i)

-- the selection range of each position
abbrev pub selection_by : Encoding → List ℕ → List Part → Option LspPosition → Data
selection_by e text ps None = null
selection_by e text ps (Some p) = selection_at e text ps (offset_of e text p)

abbrev pub selections_of : Encoding → List ℕ → List Part → Items → Items
selections_of e text ps no_items = no_items
selections_of e text ps (item d rest) = item (selection_by e text ps (position_of d)) (selections_of e text ps rest)

-- null if the text is not read
abbrev pub selections_if : Encoding → List ℕ → Items → Option (List Part) → Data
selections_if e text positions None = null
selections_if e text positions (Some parts) = array (selections_of e text parts positions)

-- the result of `textDocument/selectionRange` for a text and positions
pub record AreSelectionsOf (claim : TextClaim) (e : Encoding) (positions : Items) (text : List ℕ) (value : Data) : Type 0
  where
    pub parts : Option (List Part)
    pub outlines : claim.Outlines text parts
    pub is : value ≡ selections_if e text positions parts
