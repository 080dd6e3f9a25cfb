-- The form of each node of a reading: whether it is a flow collection on one line, whether it is an implicit key, the
-- comment that trails its key, and the column of its entries. Columns are cut at the greatest `usize`.
use Rattle.std.specs.Prelude.{◌≡◌, ℕ, Bool, true, false, not, is_some, ◌&&◌, ◌||◌, nat_lt, if◌then◌else◌, List, [], ◌∷◌, ◌++◌, length, replicate, flat_map, option_map, suc, Option, Some, None}
use Rattle.std.specs.List.Sorted.{IsNonDecreasingBy}
use Rattle.yf_comments.specs.Comment.{CommentValue}
use Rattle.yf_props.specs.Props.{PropsValue}
use Rattle.yf_events.specs.declared.event.ScalarStyle.{ScalarStyle}
use Rattle.yf_events.specs.declared.event.ScalarStyle.TheVariants.{Plain, Single, Double, Literal, Folded}
use Rattle.yf_events.specs.declared.event.Span.{Span}
use Rattle.yf_events.specs.declared.lists.Lists.{Lists}
use Rattle.yf_forms.specs.declared.form.decide.Form.{Form}
use Rattle.yf_forms.specs.declared.form.measure.Measure.{Measure}
use Rattle.yf_forms.specs.declared.style.Style.{Style}
use Rattle.yf_forms.specs.NormalForms.Measures.{up_to_greatest, AreMeasures}
use Rattle.yf_forms.specs.NormalForms.Normal.{LayoutSetting, Margins, root_margins, inner_margins, key_margins, value_margins, is_implicit, key_start, fits, settled, styled, setting_of}
use Rattle.yf_forms.specs.Nodes.OneLine.{props_text}
use Rattle.yf_events.specs.Tree.{Node, scalar, alias, sequence, mapping, Items, no_items, item, Pairs, no_pairs, pair, DocumentTree, TreesOf, flat_items, flat_pairs, leaves, is_text, is_filled_flow}

-- The comment that trails a key, as an index.

-- the index of the first comment of that kind
abbrev pub first_index : (CommentValue → Bool) → List CommentValue → Option ℕ
first_index is_one [] = None
first_index is_one (c ∷ cs) = if is_one c then Some 0 else option_map suc (first_index is_one cs)

abbrev pub index_between : List CommentValue → ℕ → List Span → Option ℕ
index_between cs from [] = None
index_between cs from (s ∷ ss) = first_index (λ c. nat_lt from c.offset && nat_lt c.offset s.start) cs

-- the index of the comment that trails an implicit key before this value
abbrev pub key_comment_index : List CommentValue → Node → Node → Option ℕ
key_comment_index cs k v = if is_text v || is_filled_flow v then index_between cs (key_start k) (leaves v) else None

-- Sites: the margins and the role of each node.

-- the margins of a node, and its role
pub record Site : Type 0 where
  pub margins : Margins
  -- whether it is an implicit key
  pub is_implicit : Bool
  -- the index of the comment that trails the implicit key before it
  pub key_comment : Option ℕ

abbrev pub site_at : Margins → Site
site_at margins = record { margins = margins; is_implicit = false; key_comment = None }

abbrev pub key_site : Style → ℕ → Node → Site
key_site s column k = record { margins = key_margins s column k; is_implicit = is_implicit s column k; key_comment = None }

-- the index of the comment that trails the key k, if k is implicit; the form of the value v is settled before
abbrev pub value_comment : LayoutSetting → ℕ → Node → Node → Option ℕ
value_comment c column k v =
    if is_implicit c.style column k then key_comment_index c.comments k (settled c (value_margins c column k v) v) else None

abbrev pub value_site : LayoutSetting → ℕ → Node → Node → Site
value_site c column k v =
    record { margins = value_margins c column k v; is_implicit = false; key_comment = value_comment c column k v }

-- Forms.

-- the form of an event that begins no node, or a node within a collection on one line
abbrev pub no_form : Form
no_form = record { is_kept = false; is_implicit = false; key_comment = None; column = 0 }

abbrev pub is_kept_at : Style → Margins → Node → Bool
is_kept_at s margins x = is_filled_flow x && fits s margins.column x

-- the form of a node with the styles of its scalars, and with flow collections with entries for those that may be
-- kept
abbrev pub form_of : Style → Site → Node → Form
form_of s site x = record {
  is_kept = is_kept_at s site.margins x;
  is_implicit = site.is_implicit;
  key_comment = site.key_comment;
  column = up_to_greatest site.margins.entries;
}

-- the forms of the events within a collection: no forms if the flag says that it is kept on one line, else `inner`
abbrev pub forms_within : Bool → ℕ → List Form → List Form
forms_within true count inner = replicate count no_form
forms_within false count inner = inner

-- the forms of the events of a node
abbrev mutual
  pub forms : LayoutSetting → Site → Node → List Form
  forms c site (scalar at props style text lines) = form_of c.style site (scalar at props style text lines) ∷ []
  forms c site (alias at name) = form_of c.style site (alias at name) ∷ []
  forms c site (sequence at flow props items) =
      form_of c.style site (sequence at flow props items)
      ∷ (forms_within (is_kept_at c.style site.margins (sequence at flow props items)) (length (flat_items items))
      (forms_of_items c site.margins.entries items) ++ (no_form ∷ []))
  forms c site (mapping at flow props pairs) =
      form_of c.style site (mapping at flow props pairs)
      ∷ (forms_within (is_kept_at c.style site.margins (mapping at flow props pairs)) (length (flat_pairs pairs))
      (forms_of_pairs c site.margins.entries pairs) ++ (no_form ∷ []))

  -- the forms in a block collection with entries at that column
  pub forms_of_items : LayoutSetting → ℕ → Items → List Form
  forms_of_items c column no_items = []
  forms_of_items c column (item x xs) = forms c (site_at (inner_margins c.style column)) x ++ forms_of_items c column xs

  pub forms_of_pairs : LayoutSetting → ℕ → Pairs → List Form
  forms_of_pairs c column no_pairs = []
  forms_of_pairs c column (pair k v ps) =
      forms c (key_site c.style column k) k ++ (forms c (value_site c column k v) v ++ forms_of_pairs c column ps)

-- The forms of the events of a stream of these documents, with the scalars in the house style; m has the comments
-- with which the reading was measured, and t is the text.

abbrev pub document_forms : List ℕ → LayoutSetting → LayoutSetting → DocumentTree → List Form
document_forms t m c d = no_form ∷ (forms c (site_at (root_margins c.style)) (styled t m d.root) ++ (no_form ∷ []))

abbrev pub stream_forms : List ℕ → LayoutSetting → LayoutSetting → List DocumentTree → List Form
stream_forms t m c ds = no_form ∷ (flat_map (document_forms t m c) ds ++ (no_form ∷ []))

-- The property of the trees of texts: an alias and an empty collection have characters, and a scalar has none if and
-- only if it is an empty node, which is plain, empty and without properties.

abbrev pub is_nothing : List ℕ → Bool
is_nothing [] = true
is_nothing (b ∷ bs) = false

abbrev pub is_empty_node : PropsValue → ScalarStyle → List ℕ → Bool
is_empty_node props Plain text = is_nothing text && is_nothing (props_text props)
is_empty_node props Single text = false
is_empty_node props Double text = false
is_empty_node props Literal text = false
is_empty_node props Folded text = false

abbrev pub agree : Bool → Bool → Bool
agree true b = b
agree false b = not b

abbrev mutual
  pub is_placed : Node → Bool
  is_placed (scalar at props style text lines) = agree (is_some at.span) (not (is_empty_node props style text))
  is_placed (alias at name) = is_some at.span
  is_placed (sequence at flow props no_items) = is_some at.span
  is_placed (sequence at flow props (item x xs)) = is_placed x && items_are_placed xs
  is_placed (mapping at flow props no_pairs) = is_some at.span
  is_placed (mapping at flow props (pair k v ps)) = is_placed k && (is_placed v && pairs_are_placed ps)

  pub items_are_placed : Items → Bool
  items_are_placed no_items = true
  items_are_placed (item x xs) = is_placed x && items_are_placed xs

  pub pairs_are_placed : Pairs → Bool
  pairs_are_placed no_pairs = true
  pairs_are_placed (pair k v ps) = is_placed k && (is_placed v && pairs_are_placed ps)

abbrev pub documents_are_placed : List DocumentTree → Bool
documents_are_placed [] = true
documents_are_placed (d ∷ ds) = is_placed d.root && documents_are_placed ds

-- Decisions: fs are the forms of the events of the reading r in the house style s, if its comments ascend and its trees
-- are placed like those of texts, for any text t and comments cs that give the measures ms. These give the widths of
-- the scalars in that style.
pub record AreForms (r : Lists) (s : Style) (ms : List Measure) (fs : List Form) : Type 0 where
  pub are : IsNonDecreasingBy (λ c. c.offset) r.comments → (t : List ℕ) (cs : List CommentValue) (ds : List DocumentTree) → TreesOf r ds
      → documents_are_placed ds ≡ true → AreMeasures t (record { style = s; comments = cs }) r.events ms
      → fs ≡ stream_forms t (record { style = s; comments = cs }) (setting_of r s) ds
