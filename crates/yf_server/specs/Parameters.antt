-- The parameters of notifications on documents, as the Language Server Protocol 3.17 defines them, in JSON.
use Rattle.std.specs.Prelude.{ℕ, ℤ, List, [], ◌∷◌, codes, Option, None, Some, option_map, option_and_then}
use Rattle.serde_json.specs.Data.{Data, Items, no_items, item}
use Rattle.serde_json.specs.Find.{as_array, as_i64, as_number, as_str, as_u64, get}
use Rattle.yf_positions.specs.declared.position.LspPosition.{LspPosition}
use Rattle.yf_positions.specs.declared.position.LspRange.{LspRange}
use Rattle.yf_positions.specs.Changes.{TextChange}
use Rattle.yf_server.specs.Documents.{Event, change, close, open_text}

-- a member that is a text, an integer, or a number of lines or units
abbrev pub string_in : List ℕ → Data → Option (List ℕ)
string_in key d = option_and_then as_str (get key d)

abbrev pub integer_of : Data → Option ℤ
integer_of d = option_and_then as_i64 (as_number d)

abbrev pub integer_in : List ℕ → Data → Option ℤ
integer_in key d = option_and_then integer_of (get key d)

abbrev pub size_of : Data → Option ℕ
size_of d = option_and_then as_u64 (as_number d)

abbrev pub size_in : List ℕ → Data → Option ℕ
size_in key d = option_and_then size_of (get key d)

-- `Position`
abbrev pub position_by : Option ℕ → Option ℕ → Option LspPosition
position_by None character = None
position_by (Some line) None = None
position_by (Some line) (Some character) = Some (record { line = line; character = character })

abbrev pub position_of : Data → Option LspPosition
position_of d = position_by (size_in (codes "line") d) (size_in (codes "character") d)

abbrev pub position_in : List ℕ → Data → Option LspPosition
position_in key d = option_and_then position_of (get key d)

-- `Range`
abbrev pub range_by : Option LspPosition → Option LspPosition → Option LspRange
range_by None end = None
range_by (Some start) None = None
range_by (Some start) (Some end) = Some (record { start = start; end = end })

abbrev pub range_of : Data → Option LspRange
range_of d = range_by (position_in (codes "start") d) (position_in (codes "end") d)

-- `TextDocumentContentChangeEvent`: the first argument is the member `range`, if there is one
abbrev pub change_by : Option (Option LspRange) → Option (List ℕ) → Option TextChange
change_by range None = None
change_by None (Some text) = Some (record { range = None; text = text })
change_by (Some None) (Some text) = None
change_by (Some (Some range)) (Some text) = Some (record { range = Some range; text = text })

abbrev pub change_of : Data → Option TextChange
change_of d = change_by (option_map range_of (get (codes "range") d)) (string_in (codes "text") d)

-- all changes of an array, in order, or none if one of them is not a change
abbrev pub changes_by : Option TextChange → Option (List TextChange) → Option (List TextChange)
changes_by None rest = None
changes_by (Some x) None = None
changes_by (Some x) (Some rest) = Some (x ∷ rest)

abbrev pub changes_of : Items → Option (List TextChange)
changes_of no_items = Some []
changes_of (item d rest) = changes_by (change_of d) (changes_of rest)

-- `DidOpenTextDocumentParams`
abbrev pub opened_by : Option (List ℕ) → Option ℤ → Option (List ℕ) → Option Event
opened_by None version text = None
opened_by (Some uri) None text = None
opened_by (Some uri) (Some version) None = None
opened_by (Some uri) (Some version) (Some text) = Some (record { uri = uri; act = open_text version text })

abbrev pub opened_document : Data → Option Event
opened_document d =
    opened_by (string_in (codes "uri") d) (integer_in (codes "version") d) (string_in (codes "text") d)

abbrev pub opened : Data → Option Event
opened d = option_and_then opened_document (get (codes "textDocument") d)

-- `DidChangeTextDocumentParams`
abbrev pub changed_by : Option (List ℕ) → Option ℤ → Option (List TextChange) → Option Event
changed_by None version changes = None
changed_by (Some uri) None changes = None
changed_by (Some uri) (Some version) None = None
changed_by (Some uri) (Some version) (Some changes) = Some (record { uri = uri; act = change version changes })

abbrev pub changed_document : Option (List TextChange) → Data → Option Event
changed_document changes d = changed_by (string_in (codes "uri") d) (integer_in (codes "version") d) changes

abbrev pub content_changes : Data → Option (List TextChange)
content_changes d = option_and_then changes_of (option_and_then as_array (get (codes "contentChanges") d))

abbrev pub changed : Data → Option Event
changed d = option_and_then (changed_document (content_changes d)) (get (codes "textDocument") d)

-- `DidCloseTextDocumentParams`
abbrev pub closed_by : Option (List ℕ) → Option Event
closed_by None = None
closed_by (Some uri) = Some (record { uri = uri; act = close })

abbrev pub closed_document : Data → Option Event
closed_document d = closed_by (string_in (codes "uri") d)

abbrev pub closed : Data → Option Event
closed d = option_and_then closed_document (get (codes "textDocument") d)
