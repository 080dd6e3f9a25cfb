-- Small readings written out by hand, and how the definitions of the layout print them.
use Rattle.std.proofs.Common.{ℕ, ◌≤◌, Bool, true, false, List, [], ◌∷◌, map, Option, Some, None, arith}
use Rattle.yf_chars.specs.Class.{is_between, is_printable, is_break_char, is_nb_char, is_white}
use Rattle.yf_chars.specs.Escape.{upper_digit, short_name, is_by_two, is_by_four, two_digits, spelled_long, spelled_by, spelled}
use Rattle.yf_chars.specs.Text.{begins, code}
use Rattle.std.specs.Str.{chars}
use Rattle.yf_lines.specs.Steady.{is_steady, has_line_feed, ends_with_colon, is_only, is_marker_of}
use Rattle.yf_lines.specs.declared.invisible.Invisible.{Invisible}
use Rattle.yf_lines.specs.declared.quotes.Quotes.{Quotes}
use Rattle.yf_props.specs.Props.{PropsValue, TagValue, no_props}
use Rattle.yf_events.specs.declared.document.Doc.{Doc}
use Rattle.yf_events.specs.declared.event.Entry.{Entry}
use Rattle.yf_events.specs.declared.event.ScalarStyle.TheVariants.{Plain}
use Rattle.yf_events.specs.declared.lists.Lists.{Lists}
use Rattle.yf_forms.specs.declared.style.DocumentStart.{DocumentStart}
use Rattle.yf_forms.specs.declared.style.CommentColumns.{CommentColumns}
use Rattle.yf_forms.specs.declared.style.Style.{Style}
use Rattle.yf_forms.specs.Nodes.ContentStart.{property_len, gap_len, past_gap, past_second, content_start}
use Rattle.yf_laws.specs.Layouts.Layout.{Remark, layout}
use Rattle.yf_forms.specs.NormalForms.Normal.{setting_of, normal_document}
use Rattle.yf_events.specs.Tree.{NodeOffsets, Node, scalar, sequence, mapping, Items, no_items, item, Pairs, no_pairs, pair, DocumentTree}
use Rattle.yf_print.specs.Layouts.KeptColumns.{keeps_blocks}

-- settings

abbrev pub style_with : (indent : ℕ) → 2 ≤ indent → indent ≤ 8 → Quotes → Bool → Style
style_with indent from to quotes seq_indent =
    let a : 40 ≤ 100 = omega arith in
    let b : 100 ≤ 1000 = omega arith in
    record { indent = indent; max_line = 100; quotes = quotes; seq_indent = seq_indent; document_start = DocumentStart.Always; comments = CommentColumns.Next; invisible = Invisible.Plain; indent_from = from; indent_to = to; max_line_from = a; max_line_to = b }

abbrev pub house : Style
house = let a : 2 ≤ 2 = omega arith in let b : 2 ≤ 8 = omega arith in style_with 2 a b Quotes.Double true

abbrev pub four_columns : Style
four_columns = let a : 2 ≤ 4 = omega arith in let b : 4 ≤ 8 = omega arith in style_with 4 a b Quotes.Double true

abbrev pub single_quotes : Style
single_quotes = let a : 2 ≤ 2 = omega arith in let b : 2 ≤ 8 = omega arith in style_with 2 a b Quotes.Single true

abbrev pub sequences_at_keys : Style
sequences_at_keys = let a : 2 ≤ 2 = omega arith in let b : 2 ≤ 8 = omega arith in style_with 2 a b Quotes.Double false

-- 40 columns
abbrev pub short_lines : Style
short_lines = let a : 40 ≤ 40 = omega arith in let b : 40 ≤ 1000 = omega arith in record house { max_line = 40; max_line_from = a; max_line_to = b }

-- nodes: the span of each, and the entry that it begins

abbrev pub at : ℕ → ℕ → Option Entry → NodeOffsets
at start end entry = record { span = Some (record { start = start; end = end }); tag_offset = None; entry = entry }

abbrev pub entry : ℕ → Option Entry
entry start = Some (record { start = start; colon = None; blank_before = false })

abbrev pub entry_after_blank : ℕ → Option Entry
entry_after_blank start = Some (record { start = start; colon = None; blank_before = true })

abbrev pub key : ℕ → ℕ → Option Entry
key start colon = Some (record { start = start; colon = Some colon; blank_before = false })

abbrev pub key_after_blank : ℕ → ℕ → Option Entry
key_after_blank start colon = Some (record { start = start; colon = Some colon; blank_before = true })

abbrev pub word : NodeOffsets → List ℕ → Node
word standing text = scalar standing no_props Plain text []

abbrev pub nothing : Option Entry → Node
nothing entry = scalar (record { span = None; tag_offset = None; entry = entry }) no_props Plain [] []

abbrev pub items_of : List Node → Items
items_of [] = no_items
items_of (x ∷ xs) = item x (items_of xs)

abbrev pub pairs_of : List (Node × Node) → Pairs
pairs_of [] = no_pairs
pairs_of (p ∷ ps) = pair p.0 p.1 (pairs_of ps)

abbrev pub block_items : NodeOffsets → PropsValue → List Node → Node
block_items standing props xs = sequence standing false props (items_of xs)

abbrev pub flow_items : NodeOffsets → PropsValue → List Node → Node
flow_items standing props xs = sequence standing true props (items_of xs)

abbrev pub block_pairs : NodeOffsets → PropsValue → List (Node × Node) → Node
block_pairs standing props ps = mapping standing false props (pairs_of ps)

abbrev pub flow_pairs : NodeOffsets → PropsValue → List (Node × Node) → Node
flow_pairs standing props ps = mapping standing true props (pairs_of ps)

abbrev pub anchor : List ℕ → PropsValue
anchor name = record { anchor = Some name; tag = None }

abbrev pub tag : TagValue → PropsValue
tag value = record { anchor = None; tag = Some value }

-- documents and comments

abbrev pub one_document : ℕ → List Doc
one_document start = record { start = start; directives = [] } ∷ []

abbrev pub tree : Node → DocumentTree
tree node = record { marked = false; closed = false; root = node }

abbrev pub root : Node → List DocumentTree
root node = tree node ∷ []

-- the flag says whether it is on the line on which the leaf before it ends
abbrev pub remark : ℕ → List ℕ → Bool → Bool → Remark
remark offset text blank_before on_leaf_line = (record { text = text; offset = offset; blank_before = blank_before }, on_leaf_line)

abbrev pub lists_of : List Remark → List Doc → Lists
lists_of remarks docs = record {
  events = [];
  resolved = [];
  comments = map (λ r. r.0) remarks;
  on_leaf_line = map (λ r. r.1) remarks;
  documents = docs;
  escapes = [];
}

-- the layout of the normal form of a reading of the text t
unfoldable pub formatted : Style → List ℕ → List Remark → List Doc → List DocumentTree → List ℕ
unfolding is_steady has_line_feed ends_with_colon is_only is_marker_of is_between is_printable is_break_char is_nb_char is_white upper_digit short_name is_by_two is_by_four two_digits spelled_long spelled_by spelled begins code chars lib.Utf8.encode property_len gap_len past_gap past_second content_start keeps_blocks
formatted s t remarks docs trees =
    layout t (lists_of remarks docs) s (map (normal_document t (setting_of (lists_of remarks docs) s)) trees)
