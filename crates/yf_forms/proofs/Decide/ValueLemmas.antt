-- The pass finds the margins of an implicit key's value, and the comment that trails the key.
use Rattle.std.proofs.Common.{◌≡◌, ℕ, Bool, true, false, not, ◌&&◌, List, [], ◌∷◌, map, Option, Some, None, refl, sym, ap, ◌∙◌}
use Rattle.std.specs.Prelude.{◌||◌, is_some, codes, if◌then◌else◌, slice_get, nat_lt}
use Rattle.std.specs.Str.{chars}
use Rattle.yf_comments.specs.Comment.{CommentValue}
use Rattle.yf_events.specs.Event.{EventValue, EventInText, sequence_starts, mapping_starts, scalar_node, alias_node}
use Rattle.yf_events.specs.declared.event.Entry.{Entry}
use Rattle.yf_events.specs.declared.event.ScalarStyle.{ScalarStyle}
use Rattle.yf_events.specs.declared.event.ScalarStyle.TheVariants.{Plain, Single, Double, Literal, Folded}
use Rattle.yf_events.specs.declared.event.Span.{Span}
use Rattle.yf_lines.proofs.CoreSteady.{nothing_steady}
use Rattle.yf_props.specs.Props.{PropsValue}
use Rattle.yf_quoted.specs.Written.{quotes_in}
use Rattle.yf_forms.specs.Passes.DecidePass as Deciding
use Rattle.yf_forms.specs.Passes.DecidePass.{DecideInput, given, further, has_room, has_space, colon_width, is_leaf_at, leaf_start, start_or, start_of_entry, comment_between, comment_if, context_after, value_place}
use Rattle.yf_forms.specs.NormalForms.Forms.{index_between, key_comment_index, is_placed, is_empty_node, is_nothing, agree}
use Rattle.yf_forms.specs.Nodes.OneLineFlows.{may_be_kept}
use Rattle.yf_forms.specs.NormalForms.Measures.{measure_of, leaf_indices, first_of, last_of}
use Rattle.yf_forms.specs.NormalForms.Normal as Normal
use Rattle.yf_forms.specs.NormalForms.Normal.{LayoutSetting, Margins, styled, styled_items, styled_pairs, fits, settled, settled_items, settled_pairs, value_of_implicit, value_column, value_entries, key_comment, last_start, entry_or}
use Rattle.yf_forms.specs.Nodes.OneLine.{width, colon_after, colon_after_props, props_text}
use Rattle.yf_events.specs.Tree.{NodeOffsets, Node, scalar, alias, sequence, mapping, Items, no_items, item, Pairs, no_pairs, pair, flat, standing, leaves, leaves_of_items, leaves_of_pairs, is_text, is_filled_flow, is_sequence}
use Rattle.yf_forms.specs.Nodes.ScalarStyles.{lines_in, wanted, quoted_in}
use Rattle.yf_forms.proofs.Decide.AmongLemmas.{Among, first_at}
use Rattle.yf_forms.proofs.Decide.IndexLemmas.{same_first}
use Rattle.yf_forms.proofs.Decide.LeafLemmas.{node_starts, first_start, first_leaf, last_leaf, is_own_leaf}
use Rattle.yf_forms.proofs.Decide.SiteLemmas.{can_be_kept}
use Rattle.yf_forms.proofs.Texts.OneLineRuns.{quoted_colon}

-- the parts of a node that the house style doesn't change

abbrev pub event_of : Node → EventValue
event_of (scalar at props style text lines) = scalar_node props style text
event_of (alias at name) = alias_node name
event_of (sequence at flow props items) = sequence_starts flow props
event_of (mapping at flow props pairs) = mapping_starts flow props

mutual
  pub styled_leaves : (t : List ℕ) (m : LayoutSetting) (x : Node) → leaves (styled t m x) ≡ leaves x
  styled_leaves t m (scalar at props style text lines) = refl
  styled_leaves t m (alias at name) = refl
  styled_leaves t m (sequence at flow props no_items) = refl
  styled_leaves t m (sequence at flow props (item x xs)) = rw (styled_leaves t m x, styled_leaves_of_items t m xs) refl
  styled_leaves t m (mapping at flow props no_pairs) = refl
  styled_leaves t m (mapping at flow props (pair k v ps)) = rw (styled_leaves t m k, styled_leaves t m v, styled_leaves_of_pairs t m ps) refl

  pub styled_leaves_of_items : (t : List ℕ) (m : LayoutSetting) (xs : Items) → leaves_of_items (styled_items t m xs) ≡ leaves_of_items xs
  styled_leaves_of_items t m no_items = refl
  styled_leaves_of_items t m (item x xs) = rw (styled_leaves t m x, styled_leaves_of_items t m xs) refl

  pub styled_leaves_of_pairs : (t : List ℕ) (m : LayoutSetting) (ps : Pairs) → leaves_of_pairs (styled_pairs t m ps) ≡ leaves_of_pairs ps
  styled_leaves_of_pairs t m no_pairs = refl
  styled_leaves_of_pairs t m (pair k v ps) = rw (styled_leaves t m k, styled_leaves t m v, styled_leaves_of_pairs t m ps) refl

pub styled_text : (t : List ℕ) (m : LayoutSetting) (x : Node) → is_text (styled t m x) ≡ is_text x
styled_text t m (scalar at props style text lines) = refl
styled_text t m (alias at name) = refl
styled_text t m (sequence at flow props no_items) = refl
styled_text t m (sequence at flow props (item x xs)) = refl
styled_text t m (mapping at flow props no_pairs) = refl
styled_text t m (mapping at flow props (pair k v ps)) = refl

pub styled_standing : (t : List ℕ) (m : LayoutSetting) (x : Node) → standing (styled t m x) ≡ standing x
styled_standing t m (scalar at props style text lines) = refl
styled_standing t m (alias at name) = refl
styled_standing t m (sequence at flow props items) = refl
styled_standing t m (mapping at flow props pairs) = refl

pub styled_sequence : (t : List ℕ) (m : LayoutSetting) (x : Node) → Deciding.begins_sequence (event_of x) ≡ is_sequence (styled t m x)
styled_sequence t m (scalar at props style text lines) = refl
styled_sequence t m (alias at name) = refl
styled_sequence t m (sequence at flow props items) = refl
styled_sequence t m (mapping at flow props pairs) = refl

-- the colon after a key

colon_of_props : (p : List ℕ) → (if not (is_nothing p) then 2 else 1) ≡ width (colon_after_props p)
unfolding chars
colon_of_props [] = refl
colon_of_props (b ∷ p) = refl

colon_after_text : (at : NodeOffsets) (props : PropsValue) (b : ℕ) (text : List ℕ) (lines : List (List ℕ)) (style : ScalarStyle)
    → colon_after (scalar at props style (b ∷ text) lines) ≡ codes ":"
colon_after_text at props b text lines Plain = refl
colon_after_text at props b text lines Single = refl
colon_after_text at props b text lines Double = refl
colon_after_text at props b text lines Literal = refl
colon_after_text at props b text lines Folded = refl

pub agreed : (a b : Bool) → agree a b ≡ true → a ≡ b
agreed true true e = refl
agreed true false e = absurd cc
agreed false true e = absurd cc
agreed false false e = refl

one_colon : (text : List ℕ) → text ≡ codes ":" → 1 ≡ width text
unfolding chars
one_colon text e = sym (ap width e)

scalar_colon : (t : List ℕ) (m : LayoutSetting) (at : NodeOffsets) (props : PropsValue) (style : ScalarStyle) (text : List ℕ) (lines : List (List ℕ))
    → is_some at.span ≡ not (is_empty_node props style text)
    → colon_width (scalar_node props style text) (is_some at.span) ≡ width (colon_after (scalar at props (wanted style text m.style) text lines))
scalar_colon t m at props Plain [] lines h =
    ap (λ b. if b then 2 else 1) h ∙ colon_of_props (props_text props)
    ∙ ap (λ b. width (colon_after (scalar at props (if b then Plain else quoted_in [] m.style) [] lines))) (sym nothing_steady)
scalar_colon t m at props Single [] lines h = one_colon _ (quoted_colon (quotes_in m.style.invisible (chars []) m.style.quotes) at props [] lines)
scalar_colon t m at props Double [] lines h = one_colon _ (quoted_colon (quotes_in m.style.invisible (chars []) m.style.quotes) at props [] lines)
scalar_colon t m at props Literal [] lines h = one_colon _ (quoted_colon (quotes_in m.style.invisible (chars []) m.style.quotes) at props [] lines)
scalar_colon t m at props Folded [] lines h = one_colon _ (quoted_colon (quotes_in m.style.invisible (chars []) m.style.quotes) at props [] lines)
scalar_colon t m at props Plain (b ∷ text) lines h = one_colon _ (colon_after_text at props b text lines (wanted Plain (b ∷ text) m.style))
scalar_colon t m at props Single (b ∷ text) lines h = one_colon _ (colon_after_text at props b text lines (wanted Single (b ∷ text) m.style))
scalar_colon t m at props Double (b ∷ text) lines h = one_colon _ (colon_after_text at props b text lines (wanted Double (b ∷ text) m.style))
scalar_colon t m at props Literal (b ∷ text) lines h = one_colon _ (colon_after_text at props b text lines (wanted Literal (b ∷ text) m.style))
scalar_colon t m at props Folded (b ∷ text) lines h = one_colon _ (colon_after_text at props b text lines (wanted Folded (b ∷ text) m.style))

colon_of : (t : List ℕ) (m : LayoutSetting) (x : Node) → is_placed x ≡ true → colon_width (event_of x) (is_text x) ≡ width (colon_after (styled t m x))
unfolding chars
colon_of t m (scalar at props style text lines) h = scalar_colon t m at props style text (lines_in (wanted style text m.style) lines) (agreed _ _ h)
colon_of t m (alias at name) h = refl
colon_of t m (sequence at flow props no_items) h = refl
colon_of t m (sequence at flow props (item x xs)) h = refl
colon_of t m (mapping at flow props no_pairs) h = refl
colon_of t m (mapping at flow props (pair k v ps)) h = refl

pub colon_there : (t : List ℕ) (m : LayoutSetting) (i : ℕ) (x : Node) → is_placed x ≡ true
    → colon_width (event_of x) (is_leaf_at i (first_of (leaf_indices i x))) ≡ width (colon_after (styled t m x))
colon_there t m i x h = ap (colon_width (event_of x)) (is_own_leaf i x h) ∙ colon_of t m x h

-- the offset after which a comment trails a key

entry_there : (es : List EventInText) (i : ℕ) (x : Node) → Among es (flat x) i → slice_get (map (λ e. e.entry) es) i ≡ Some (standing x).entry
entry_there es i (scalar at props style text lines) a = first_at (λ e. e.entry) _ _ a
entry_there es i (alias at name) a = first_at (λ e. e.entry) _ _ a
entry_there es i (sequence at flow props items) a = first_at (λ e. e.entry) _ _ a
entry_there es i (mapping at flow props pairs) a = first_at (λ e. e.entry) _ _ a

start_of_some : (o : Option Entry) → start_of_entry (Some o) ≡ entry_or 0 o
start_of_some None = refl
start_of_some (Some e) = refl

pub key_start_there : (es : List EventInText) (t : List ℕ) (m : LayoutSetting) (i : ℕ) (x : Node) → is_placed x ≡ true → Among es (flat x) i
    → Deciding.key_start es i (last_of (leaf_indices i x)) ≡ Normal.key_start (styled t m x)
key_start_there es t m i x h a =
    ap (λ w. start_or (start_of_entry w) (leaf_start es (last_of (leaf_indices i x)))) (entry_there es i x a)
    ∙ ap (λ w. start_or w (leaf_start es (last_of (leaf_indices i x)))) (start_of_some (standing x).entry)
    ∙ last_leaf es (leaf_indices i x) (leaves x) (entry_or 0 (standing x).entry) (node_starts es i x h a)
    ∙ ap (λ w. last_start (entry_or 0 (standing x).entry) w) (sym (styled_leaves t m x))
    ∙ ap (λ w. last_start (entry_or 0 w.entry) (leaves (styled t m x))) (sym (styled_standing t m x))

-- the comment that trails a key

between_first : (cs : List CommentValue) (from : ℕ) (ss : List Span) → comment_between cs from (first_start ss) ≡ index_between cs from ss
between_first cs from [] = refl
between_first cs from (s ∷ ss) = refl

pub trailing_there : (cs : List CommentValue) (es : List EventInText) (t : List ℕ) (m : LayoutSetting) (k : Node) (i : ℕ) (x : Node) (start : ℕ) → is_placed x ≡ true
    → Among es (flat x) i → start ≡ Normal.key_start k
    → Deciding.trailing_comment cs es start i (measure_of t m i x) ≡ key_comment_index cs k (styled t m x)
trailing_there cs es t m k i x start h a e =
    let text : is_leaf_at i (first_of (leaf_indices i x)) ≡ is_text (styled t m x) = is_own_leaf i x h ∙ sym (styled_text t m x) in
    let first : leaf_start es (first_of (leaf_indices i x)) ≡ first_start (leaves (styled t m x)) =
    first_leaf es (leaf_indices i x) (leaves x) (node_starts es i x h a) ∙ ap first_start (sym (styled_leaves t m x)) in
    ap (λ b. if b || (is_filled_flow x && may_be_kept t m.comments x) then comment_between cs start (leaf_start es (first_of (leaf_indices i x))) else None) text
    ∙ ap (λ b. if is_text (styled t m x) || b then comment_between cs start (leaf_start es (first_of (leaf_indices i x))) else None) (can_be_kept t m x)
    ∙ ap (λ w. if is_text (styled t m x) || is_filled_flow (styled t m x) then comment_between cs start w else None) first
    ∙ ap (λ w. if is_text (styled t m x) || is_filled_flow (styled t m x) then w else None)
    (between_first cs start (leaves (styled t m x)) ∙ ap (λ n. index_between cs n (leaves (styled t m x))) e)

-- a comment is found as an index if and only if the comment itself is found
pub same_comment : (cs : List CommentValue) (k v : Node) → is_some (key_comment_index cs k v) ≡ is_some (key_comment cs k v)
same_comment cs k v = by (is_text v || is_filled_flow v) (leaves v) where
  by : (b : Bool) (ss : List Span)
      → is_some (if b then index_between cs (Normal.key_start k) ss else None) ≡ is_some (if b then Normal.first_between cs (Normal.key_start k) ss else None)
  by true [] = refl
  by true (s ∷ ss) = same_first (λ c. nat_lt (Normal.key_start k) c.offset && nat_lt c.offset s.start) cs
  by false ss = refl
