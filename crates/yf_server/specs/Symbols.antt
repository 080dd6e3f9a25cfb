-- Symbols as JSON (`DocumentSymbol` of the Language Server Protocol 3.17), which `textDocument/documentSymbol` returns.
use Rattle.std.specs.Prelude.{◌≡◌, ℕ, nat_lt, List, [], ◌∷◌, map, codes, reverse, slice_range, Option, None, Some, if◌then◌else◌}
use Rattle.serde_json.specs.Data.{Data, null, number, string, array, object, no_members, member, unsigned}
use Rattle.serde_json.specs.View.{items_of, view}
use Rattle.yf_positions.specs.declared.encoding.Encoding.{Encoding}
use Rattle.yf_positions.specs.declared.position.LspRange.{LspRange}
use Rattle.yf_positions.specs.Offsets.{offset_of, position_of}
use Rattle.yf_server.specs.declared.analysis.Part.{Part}
use Rattle.yf_server.specs.declared.analysis.TextSpan.{TextSpan}
use Rattle.yf_server.specs.declared.symbols.Symbol.{Symbol}
use Rattle.yf_server.specs.Analysis.{TextClaim, kind_number}
use Rattle.yf_server.specs.Edits.{range_data}

-- the range of a span of a text, and the text of a range
abbrev pub range_of : Encoding → List ℕ → TextSpan → LspRange
range_of e text s = record { start = position_of e text s.start; end = position_of e text s.end }

abbrev pub text_in : Encoding → List ℕ → LspRange → List ℕ
text_in e text r = slice_range text (offset_of e text r.start) (offset_of e text r.end)

-- `DocumentSymbol`
abbrev pub symbol_of : Data → Data → List ℕ → ℕ → Data → Data
symbol_of range selection name kind children = object (member (codes "children") children
    (member (codes "kind") (number (unsigned kind)) (member (codes "name") (string name)
    (member (codes "range") range (member (codes "selectionRange") selection no_members)))))

-- the symbol of a part, with those of the parts in it: its name is the text that the client selects
abbrev pub symbol_data : Encoding → List ℕ → Part → List Data → Data
symbol_data e text p children = symbol_of (range_data (range_of e text p.whole)) (range_data (range_of e text p.name))
    (text_in e text (range_of e text p.name)) (kind_number p.kind) (array (items_of children))

-- a symbol, and the depth of its part
pub record DeepSymbol : Type 0 where
  pub depth : ℕ
  pub value : Data

-- the symbols at the start of a list that are deeper, and the list from the first one on that is not
abbrev pub deeper : ℕ → List DeepSymbol → List Data
deeper depth [] = []
deeper depth (s ∷ ss) = if nat_lt depth s.depth then s.value ∷ deeper depth ss else []

abbrev pub after_deeper : ℕ → List DeepSymbol → List DeepSymbol
after_deeper depth [] = []
after_deeper depth (s ∷ ss) = if nat_lt depth s.depth then after_deeper depth ss else s ∷ ss

-- a part before symbols takes those that are deeper
abbrev pub with_part : Encoding → List ℕ → Part → List DeepSymbol → List DeepSymbol
with_part e text p ss = record { depth = p.depth; value = symbol_data e text p (deeper p.depth ss) }
    ∷ after_deeper p.depth ss

-- The symbols of parts, one in the other: a part is in the last one before it that is less deep.
abbrev pub symbols_of : Encoding → List ℕ → List Part → List DeepSymbol
symbols_of e text [] = []
symbols_of e text (p ∷ ps) = with_part e text p (symbols_of e text ps)

abbrev pub symbols_data : Encoding → List ℕ → List Part → Data
symbols_data e text ps = array (items_of (map (λ (s : DeepSymbol). s.value) (symbols_of e text ps)))

-- null if the text is not read
abbrev pub symbols_if : Encoding → List ℕ → Option (List Part) → Data
symbols_if e text None = null
symbols_if e text (Some parts) = symbols_data e text parts

-- the result of `textDocument/documentSymbol` for a text
pub record AreSymbolsOf (claim : TextClaim) (e : Encoding) (text : List ℕ) (value : Data) : Type 0 where
  pub parts : Option (List Part)
  pub outlines : claim.Outlines text parts
  pub is : value ≡ symbols_if e text parts

-- ---- for private clauses: the symbols of a stack, the last one first

abbrev pub symbol_read : Symbol → DeepSymbol
symbol_read s = record { depth = s.depth; value = view s.value }

abbrev pub on_stack : List Symbol → List DeepSymbol
on_stack items = map symbol_read (reverse items)

abbrev pub first_if : ℕ → List DeepSymbol → Option Data
first_if depth [] = None
first_if depth (s ∷ ss) = if nat_lt depth s.depth then Some s.value else None

abbrev pub after_first : ℕ → List DeepSymbol → List DeepSymbol
after_first depth [] = []
after_first depth (s ∷ ss) = if nat_lt depth s.depth then ss else s ∷ ss
