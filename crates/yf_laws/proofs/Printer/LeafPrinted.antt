-- A leaf, an empty node and a flow collection on one line are printed as their rows, with the `:` after a key.
use Rattle.std.proofs.Common.{◌≡◌, ℕ, ◌+◌, ◌-◌, Bool, true, false, not, List, [], ◌∷◌, ◌++◌, length, map, Option, Some, None, refl, sym, ap, ◌∙◌, subst, arith, append_assoc, append-nil, true≢false}
use Rattle.std.specs.Prelude.{is_some, if◌then◌else◌}
use Rattle.std.proofs.lemmas.Bool.{and_parts}
use Rattle.yf_props.specs.Props.{PropsValue}
use Rattle.yf_events.specs.Event.{EventInText, sequence_ends, mapping_ends, scalar_node}
use Rattle.yf_events.specs.Tree.{NodeOffsets, Node, scalar, alias, sequence, mapping, Items, no_items, item, Pairs, no_pairs, pair, flat, flat_items, flat_pairs, is_block_collection, is_collection, is_filled_flow, is_text, items_in, leaves, placed, props_of, spans_of_leaf, standing, unplaced}
use Rattle.yf_events.specs.declared.event.ScalarStyle.{ScalarStyle}
use Rattle.yf_events.specs.declared.event.ScalarStyle.TheVariants.{Plain, Single, Double, Literal, Folded}
use Rattle.yf_events.specs.declared.event.Span.{Span}
use Rattle.yf_forms.specs.declared.form.decide.Form.{Form}
use Rattle.yf_forms.specs.declared.form.measure.Measure.{Measure}
use Rattle.yf_print.specs.declared.printer.Role as Printer
use Rattle.yf_forms.specs.declared.style.Style.{Style}
use Rattle.yf_laws.proofs.OfTexts.KeyEntries.{keys_begin}
use Rattle.yf_forms.specs.Nodes.BlockLines.{block_lines, final_feeds, header_text, is_kept_tail}
use Rattle.yf_forms.specs.Passes.DecidePass.{has_space, is_leaf_at}
use Rattle.yf_print.specs.Passes.Drafts.{Draft, with_text}
use Rattle.yf_forms.specs.NormalForms.Forms.{is_empty_node, is_nothing, is_placed}
use Rattle.yf_forms.specs.Nodes.OneLineFlows.{may_be_kept, scalar_may_be_kept}
use Rattle.yf_forms.specs.Nodes.SingleNodes.{NodeAt}
use Rattle.yf_forms.specs.NormalForms.Measures.{first_of, leaf_indices, leaf_indices_of_items, leaf_indices_of_pairs, measure_of}
use Rattle.yf_forms.specs.Passes.MeasurePass.{setting}
use Rattle.yf_forms.specs.NormalForms.Normal.{LayoutSetting, Margins, setting_of}
use Rattle.yf_forms.specs.Nodes.OneLine.{bare, colon_after, colon_after_props, props_text, scalar_text, space_after, spaced, written}
use Rattle.yf_forms.specs.Passes.OneLinePass.{between, run}
use Rattle.yf_print.specs.Passes.PrintPass as Printing
use Rattle.yf_print.specs.Passes.PrintPass.{before_text, colon_if, colon_text, leaf_noted_if, lines_column, text_if, with_node, with_props_before, with_scalar}
use Rattle.yf_print.specs.Passes.PrintWork.{Work, remarks_of}
use Rattle.yf_print.specs.Layouts.Rows.{Row, block_scalar, one_line, one_line_row, plain_row, rows, tail_ending}
use Rattle.yf_forms.specs.Nodes.Lines.{is_empty_text}
use Rattle.yf_forms.proofs.Decide.AmongLemmas.{Among, after_first, front, node_at}
use Rattle.yf_laws.proofs.Printer.LeafFed.{ColumnAt, block_met, one_line_put, put, row_put, with_colon_of, within}
use Rattle.yf_forms.proofs.Decide.LeafLemmas.{is_own_leaf}
use Rattle.yf_laws.proofs.Printer.NotedLemmas.{Known, EventsPrinted, end_noted, items_noted, leaf_met, leaf_there, met, met_nothing, noted_none, noted_append, noted_same, pairs_noted}
use Rattle.yf_forms.proofs.Texts.OneLineRuns.{flat_filled, kept_items, kept_pairs, kept_run, spaced_filled}
use Rattle.yf_laws.proofs.NormalForms.StyledTwice.{House}
use Rattle.yf_forms.proofs.Decide.ValueLemmas.{agreed, event_of}

abbrev pub setting_in : Known → LayoutSetting
setting_in k = setting_of k.work.reading k.work.style

-- The content of a node.

abbrev pub tail_of : Node → List EventInText
tail_of (scalar at props style text lines) = []
tail_of (alias at name) = []
tail_of (sequence at flow props items) = flat_items items ++ (unplaced sequence_ends ∷ [])
tail_of (mapping at flow props pairs) = flat_pairs pairs ++ (unplaced mapping_ends ∷ [])

abbrev pub head_of : Node → EventInText
head_of (scalar at props style text lines) = placed at (scalar_node props style text) lines
head_of x = placed (standing x) (event_of x) []

pub flat_is : (x : Node) → flat x ≡ head_of x ∷ tail_of x
flat_is (scalar at props style text lines) = refl
flat_is (alias at name) = refl
flat_is (sequence at flow props items) = refl
flat_is (mapping at flow props pairs) = refl

-- of a leaf
leaf_within : (k : Known) (i last : ℕ) (x : Node) (e : EventInText) (tail : List EventInText) (d : Draft) → is_placed x ≡ true → Among k.work.reading.events (flat x) i
    → last + 1 ≡ i + length (flat x) → flat x ≡ e ∷ tail → e.span ≡ (standing x).span → is_text x ≡ is_some (standing x).span
    → items_in x ≡ map (λ s. s.start) (spans_of_leaf (standing x).span) → leaves x ≡ spans_of_leaf (standing x).span → EventsPrinted k (i + 1) tail [] []
    → Printing.node_noted k.work i last e d ≡ met k (items_in x) (leaves x) d
leaf_within k i last x e tail d h a l f s t is ss n =
    let o : Option Span = (standing x).span in
    let here : leaf_noted_if (Printing.is_leaf k.work i) k.work i e.span d ≡ met k (map (λ s. s.start) (spans_of_leaf o)) (spans_of_leaf o) d =
    ap (λ b. leaf_noted_if b k.work i e.span d) (leaf_there k i x h (node_at x a)) ∙ (ap (λ w. leaf_noted_if (is_text x) k.work i w d) s ∙ leaf_met k i x o d (node_at x a) refl t) in
    within k i last e tail (map (λ s. s.start) (spans_of_leaf o)) [] (spans_of_leaf o) [] d (subst (λ w. Among k.work.reading.events w i) f a) (l ∙ ap (λ w. i + length w) f) here n
    ∙ (ap (λ w. met k w (spans_of_leaf o ++ []) d) (append-nil (map (λ s. s.start) (spans_of_leaf o)) ∙ sym is)
    ∙ ap (λ w. met k (items_in x) w d) (append-nil (spans_of_leaf o) ∙ sym ss))

-- for a collection with entries
filled_within : (k : Known) (i last : ℕ) (x : Node) (e end : EventInText) (ys : List EventInText) (d : Draft) → is_placed x ≡ true → Among k.work.reading.events (flat x) i
    → last + 1 ≡ i + length (flat x) → flat x ≡ e ∷ (ys ++ (end ∷ [])) → is_text x ≡ false → end.span ≡ None → end.entry ≡ None → EventsPrinted k (i + 1) ys (items_in x) (leaves x)
    → Printing.node_noted k.work i last e d ≡ met k (items_in x) (leaves x) d
filled_within k i last x e end ys d h a l f t s q n =
    let here : leaf_noted_if (Printing.is_leaf k.work i) k.work i e.span d ≡ met k [] [] d =
    ap (λ b. leaf_noted_if b k.work i e.span d) (leaf_there k i x h (node_at x a) ∙ t) ∙ sym (met_nothing k d) in
    within k i last e (ys ++ (end ∷ [])) [] (items_in x) [] (leaves x) d (subst (λ w. Among k.work.reading.events w i) f a) (l ∙ ap (λ w. i + length w) f) here
    (noted_same k (i + 1) (ys ++ (end ∷ [])) (items_in x ++ []) (items_in x) (leaves x ++ []) (leaves x) (append-nil (items_in x)) (append-nil (leaves x))
    (noted_append k (i + 1) ys (end ∷ []) (items_in x) [] (leaves x) [] n (end_noted k (i + 1 + length ys) end s q)))

-- past the content of a node after its entry
pub node_within : (k : Known) (i last : ℕ) (x : Node) (d : Draft) → is_placed x ≡ true → keys_begin x ≡ true → Among k.work.reading.events (flat x) i
    → last + 1 ≡ i + length (flat x) → Printing.node_noted k.work i last (head_of x) d ≡ met k (items_in x) (leaves x) d
node_within k i last (scalar at props style text lines) d h b a l =
    leaf_within k i last (scalar at props style text lines) _ [] d h a l refl refl refl refl refl (noted_none k (i + 1))
node_within k i last (alias at name) d h b a l = leaf_within k i last (alias at name) _ [] d h a l refl refl refl refl refl (noted_none k (i + 1))
node_within k i last (sequence at flow props no_items) d h b a l =
    leaf_within k i last (sequence at flow props no_items) _ (unplaced sequence_ends ∷ []) d h a l refl refl refl refl refl (end_noted k (i + 1) (unplaced sequence_ends) refl refl)
node_within k i last (sequence at flow props (item x xs)) d h b a l =
    let ys : List EventInText = flat_items (item x xs) in
    filled_within k i last (sequence at flow props (item x xs)) _ (unplaced sequence_ends) ys d h a l refl refl refl refl
    (items_noted k (i + 1) (item x xs) h b (front ys (unplaced sequence_ends ∷ []) (after_first _ _ a)))
node_within k i last (mapping at flow props no_pairs) d h b a l =
    leaf_within k i last (mapping at flow props no_pairs) _ (unplaced mapping_ends ∷ []) d h a l refl refl refl refl refl (end_noted k (i + 1) (unplaced mapping_ends) refl refl)
node_within k i last (mapping at flow props (pair x y ps)) d h b a l =
    let ys : List EventInText = flat_pairs (pair x y ps) in
    filled_within k i last (mapping at flow props (pair x y ps)) _ (unplaced mapping_ends) ys d h a l refl refl refl refl
    (pairs_noted k (i + 1) (pair x y ps) h b (front ys (unplaced mapping_ends ∷ []) (after_first _ _ a)))

-- Texts.

scalar_added : (k : Known) (i last : ℕ) (sp : Printer.Role) (at : NodeOffsets) (props : PropsValue) (style : ScalarStyle) (text : List ℕ) (lines : List (List ℕ)) (d : Draft)
    → is_empty_text (scalar_text k.work.style style text) ≡ false → with_text (scalar_text k.work.style style text) (with_props_before props d) ≡ with_text (written k.work.style (scalar at props style text lines)) d
scalar_added k i last sp at props style text lines d e =
    ap (λ w. record d { line = w }) (append_assoc d.line (space_after (props_text props)) (scalar_text k.work.style style text)
    ∙ ap (λ w. d.line ++ w) (sym (spaced_filled (props_text props) (scalar_text k.work.style style text) e)))

collection_added : (k : Known) (i last : ℕ) (x : Node) (d : Draft) → House (setting_in k) x → is_collection x ≡ true → may_be_kept [] [] x ≡ true
    → is_empty_text (bare k.work.style x) ≡ false → NodeAt k.work.reading.events i x → last + 1 ≡ i + length (flat x)
    → Printing.with_kept k.work i last (props_of x) d ≡ with_text (written k.work.style x) d
collection_added k i last x d h c m e n l =
    let text : run k.work.style [] (between i last k.work.reading.events) ≡ bare k.work.style x =
    kept_run [] (setting k.work.style []) x k.work.reading.events i last n l c m ∙ ap (bare k.work.style) h in
    ap (λ w. with_text w (with_props_before (props_of x) d)) text
    ∙ ap (λ w. record d { line = w }) (append_assoc d.line (space_after (props_text (props_of x))) (bare k.work.style x)
    ∙ ap (λ w. d.line ++ w) (sym (spaced_filled (props_text (props_of x)) (bare k.work.style x) e)))

-- a flow collection of a normal form may be kept
pub same_flag : {at : NodeOffsets} {a b : Bool} {p q : PropsValue} {xs ys : Items} → sequence at a p xs ≡ sequence at b q ys → a ≡ b
same_flag e = cc

pub same_flag_of_map : {at : NodeOffsets} {a b : Bool} {p q : PropsValue} {xs ys : Pairs} → mapping at a p xs ≡ mapping at b q ys → a ≡ b
same_flag_of_map e = cc

-- such a collection has a leaf
some_first : (xs ys : List ℕ) → is_some (first_of xs) ≡ true → is_some (first_of (xs ++ ys)) ≡ true
some_first [] ys e = absurd (true≢false (sym e))
some_first (x ∷ xs) ys e = refl

scalar_placed : (props : PropsValue) (style : ScalarStyle) (text : List ℕ) → scalar_may_be_kept style text ≡ true → is_empty_node props style text ≡ false
scalar_placed props Plain [] k = absurd (true≢false (sym k))
scalar_placed props Plain (b ∷ text) k = refl
scalar_placed props Single text k = refl
scalar_placed props Double text k = refl
scalar_placed props Literal text k = refl
scalar_placed props Folded text k = refl

pub kept_leaf : (s : Style) (i : ℕ) (x : Node) → may_be_kept [] [] x ≡ true → is_placed x ≡ true → is_some (first_of (leaf_indices i x)) ≡ true
kept_leaf s i (scalar at props style text lines) k h =
    ap (λ b. is_some (first_of (if b then i ∷ [] else []))) (agreed _ _ h ∙ ap not (scalar_placed props style text k))
kept_leaf s i (alias at name) k h = refl
kept_leaf s i (sequence at flow props no_items) k h = refl
kept_leaf s i (sequence at flow props (item x xs)) k h =
    some_first (leaf_indices (i + 1) x) (leaf_indices_of_items (i + 1 + length (flat x)) xs)
    (kept_leaf s (i + 1) x (kept_items [] (setting s []) at flow props x xs k).0 (and_parts _ _ h).0)
kept_leaf s i (mapping at flow props no_pairs) k h = refl
kept_leaf s i (mapping at flow props (pair x y ps)) k h =
    some_first (leaf_indices (i + 1) x) (leaf_indices (i + 1 + length (flat x)) y ++ leaf_indices_of_pairs (i + 1 + length (flat x) + length (flat y)) ps)
    (kept_leaf s (i + 1) x (kept_pairs [] (setting s []) at flow props x y ps k).0 (and_parts _ _ h).0)

-- The `:` after a key.

colon_same : (x : Node) → is_placed x ≡ true → colon_text (has_space (event_of x) (is_text x)) ≡ colon_after x
colon_same (scalar at props Plain [] lines) h = ap colon_text (agreed _ _ h) ∙ by (props_text props) where
  by : (p : List ℕ) → colon_text (not (is_nothing p)) ≡ colon_after_props p
  by [] = refl
  by (b ∷ p) = refl
colon_same (scalar at props Plain (b ∷ text) lines) h = refl
colon_same (scalar at props Single text lines) h = refl
colon_same (scalar at props Double text lines) h = refl
colon_same (scalar at props Literal text lines) h = refl
colon_same (scalar at props Folded text lines) h = refl
colon_same (alias at name) h = refl
colon_same (sequence at flow props no_items) h = refl
colon_same (sequence at flow props (item x xs)) h = refl
colon_same (mapping at flow props no_pairs) h = refl
colon_same (mapping at flow props (pair k v ps)) h = refl

colon_part : (x : Node) (i : ℕ) (sp : Printer.Role) (d : Draft) → is_placed x ≡ true
    → colon_if sp (has_space (head_of x).event (is_leaf_at i (first_of (leaf_indices i x)))) d ≡ with_colon_of x sp d
colon_part x i Printer.Role.Root d h = refl
colon_part x i (Printer.Role.After column) d h = refl
colon_part x i (Printer.Role.Value column) d h = refl
colon_part x i Printer.Role.Key d h =
    ap (λ w. with_text w d) (ap (λ b. colon_text (has_space (head_of x).event b)) (is_own_leaf i x h)
    ∙ (ap (λ e. colon_text (has_space e (is_text x))) (head_event x) ∙ colon_same x h)) where
      head_event : (x : Node) → (head_of x).event ≡ event_of x
      head_event (scalar at props style text lines) = refl
      head_event (alias at name) = refl
      head_event (sequence at flow props items) = refl
      head_event (mapping at flow props pairs) = refl

-- Nodes.

-- a node of a normal form, with events that begin at an index
pub record Laid (k : Known) (i : ℕ) (x : Node) : Type 0 where
  pub placed : is_placed x ≡ true
  pub begins : keys_begin x ≡ true
  pub house : House (setting_in k) x
  pub among : Among k.work.reading.events (flat x) i

-- it is a block scalar
abbrev pub has_lines : Node → Bool
has_lines (scalar at props Literal text lines) = true
has_lines (scalar at props Folded text lines) = true
has_lines x = false

-- it is put where it is in the layout
pub record IsSited (k : Known) (key : Option ℕ) (sp : Printer.Role) (margins : Margins) (x : Node) : Type 0 where
  pub column : ColumnAt k.work.style.indent key sp margins.column
  pub lines : has_lines x ≡ true → lines_column k.work.style.indent sp ≡ margins.lines
  pub no_key : is_text x ≡ false → is_filled_flow x ≡ false → key ≡ None

abbrev pub measure : Known → ℕ → Node → Measure
measure k i x = measure_of [] (setting k.work.style []) i x

abbrev Printed : Known → ℕ → Form → Printer.Role → Margins → Node → Draft → Type 0
Printed k i f sp margins x d =
    text_if (is_some (first_of (leaf_indices i x))) k.work i (measure k i x) f (head_of x) sp d ≡ put k f.key_comment false sp (rows (setting_in k) margins x) d

last_of_node : (i : ℕ) (x : Node) → (i + length (flat x) - 1) + 1 ≡ i + length (flat x)
last_of_node i x = let l = flat_filled x in omega (arith, l)

-- a node with characters on one line
one_line_printed : (k : Known) (i : ℕ) (f : Form) (sp : Printer.Role) (margins : Margins) (x : Node) (d : Draft) → Laid k i x → IsSited k f.key_comment sp margins x
    → is_some (first_of (leaf_indices i x)) ≡ true → ((d : Draft) → with_node k.work i (measure k i x).last (head_of x) sp d ≡ with_text (written k.work.style x) d)
    → is_empty_text (written k.work.style x) ≡ false
    → text_if (is_some (first_of (leaf_indices i x))) k.work i (measure k i x) f (head_of x) sp d ≡ put k f.key_comment false sp (one_line k.work.style margins x) d
one_line_printed k i f sp margins x d l s e t w =
    ap (λ b. text_if b k.work i (measure k i x) f (head_of x) sp d) e
    ∙ one_line_put k f sp margins x i (measure k i x).last (head_of x) d t (λ d. node_within k i (measure k i x).last x d l.placed l.begins l.among (last_of_node i x)) w s.column

some_leaf : (i : ℕ) (b : Bool) → b ≡ true → is_some (first_of (if b then i ∷ [] else [])) ≡ true
some_leaf i b e = ap (λ b. is_some (first_of (if b then i ∷ [] else []))) e

pub written_filled : (p y : List ℕ) → is_empty_text y ≡ false → is_empty_text (spaced p y) ≡ false
written_filled [] y e = e
written_filled (b ∷ x) [] e = refl
written_filled (b ∷ x) (c ∷ y) e = refl

-- a scalar with a text
scalar_printed : (k : Known) (i : ℕ) (f : Form) (sp : Printer.Role) (margins : Margins) (at : NodeOffsets) (props : PropsValue) (style : ScalarStyle) (text : List ℕ) (lines : List (List ℕ)) (d : Draft)
    → Laid k i (scalar at props style text lines) → IsSited k f.key_comment sp margins (scalar at props style text lines) → is_empty_node props style text ≡ false
    → ((d : Draft) → with_scalar k.work.style sp props style text lines d ≡ with_text (scalar_text k.work.style style text) (with_props_before props d)) → is_empty_text (scalar_text k.work.style style text) ≡ false
    → text_if (is_some (first_of (leaf_indices i (scalar at props style text lines)))) k.work i (measure k i (scalar at props style text lines)) f (head_of (scalar at props style text lines)) sp d
    ≡ put k f.key_comment false sp (one_line k.work.style margins (scalar at props style text lines)) d
scalar_printed k i f sp margins at props style text lines d l s n t w =
    one_line_printed k i f sp margins (scalar at props style text lines) d l s (some_leaf i (is_some at.span) (agreed _ _ l.placed ∙ ap not n))
    (λ d. t d ∙ scalar_added k i i sp at props style text lines d w) (written_filled (props_text props) (scalar_text k.work.style style text) w)

block_printed : (k : Known) (i : ℕ) (f : Form) (sp : Printer.Role) (margins : Margins) (at : NodeOffsets) (props : PropsValue) (style : ScalarStyle) (text : List ℕ) (lines : List (List ℕ)) (d : Draft)
    → Laid k i (scalar at props style text lines) → IsSited k f.key_comment sp margins (scalar at props style text lines) → is_empty_node props style text ≡ false → has_lines (scalar at props style text lines) ≡ true
    → ((d : Draft) → with_scalar k.work.style sp props style text lines d ≡ Printing.with_block k.work.style sp style text lines (with_props_before props d))
    → is_empty_text (header_text style k.work.style.indent text) ≡ false
    → text_if (is_some (first_of (leaf_indices i (scalar at props style text lines)))) k.work i (measure k i (scalar at props style text lines)) f (head_of (scalar at props style text lines)) sp d
    ≡ put k f.key_comment false sp (block_scalar k.work.style margins (scalar at props style text lines) props style text lines) d
block_printed k i f sp margins at props style text lines d l s n b t w =
    let x : Node = scalar at props style text lines in
    let row : Row = record (plain_row margins.column (spaced (props_text props) (header_text style k.work.style.indent text))) {
      items = items_in x;
      leaves = leaves x;
      ending = tail_ending (is_kept_tail (final_feeds text));
      body = block_lines style margins.lines text lines;
      lines = margins.lines;
    } in
    let before : Draft = before_text k.work f sp d in
    ap (λ b. text_if b k.work i (measure k i x) f (head_of x) sp d) (some_leaf i (is_some at.span) (agreed _ _ l.placed ∙ ap not n))
    ∙ (ap (λ w. Printing.node_noted k.work i (measure k i x).last (head_of x) w) (t before)
    ∙ (node_within k i (measure k i x).last x _ l.placed l.begins l.among (last_of_node i x)
    ∙ (block_met k margins x props style text lines sp before w (s.lines b) ∙ row_put k f sp row d refl s.column)))

-- an empty node, and a plain one that has only properties
plain_printed : (k : Known) (i : ℕ) (f : Form) (sp : Printer.Role) (margins : Margins) (at : NodeOffsets) (props : PropsValue) (lines : List (List ℕ)) (d : Draft)
    → Laid k i (scalar at props Plain [] lines) → IsSited k f.key_comment sp margins (scalar at props Plain [] lines) → Printed k i f sp margins (scalar at props Plain [] lines) d
plain_printed k i f sp margins at props lines d l s = by (props_text props) refl where
  x : Node
  x = scalar at props Plain [] lines

  here : is_some at.span ≡ not (is_nothing (props_text props))
  here = agreed _ _ l.placed

  nothing : (key : Option ℕ) (sp : Printer.Role) → key ≡ None → put k key false sp [] d ≡ d
  nothing key Printer.Role.Root e = refl
  nothing key (Printer.Role.After column) e = refl
  nothing key Printer.Role.Key e = refl
  nothing None (Printer.Role.Value column) e = refl
  nothing (Some j) (Printer.Role.Value column) e = absurd cc

  by : (p : List ℕ) → props_text props ≡ p → Printed k i f sp margins (scalar at props Plain [] lines) d
  by [] e =
      let none : is_some at.span ≡ false = here ∙ ap (λ w. not (is_nothing w)) e in
      ap (λ b. text_if (is_some (first_of (if b then i ∷ [] else []))) k.work i (measure k i x) f (head_of x) sp d) none
      ∙ sym (ap (λ w. put k f.key_comment false sp (one_line_row margins.column x (spaced w [])) d) e ∙ nothing f.key_comment sp (s.no_key none refl))
  by (b ∷ p) e =
      one_line_printed k i f sp margins x d l s (some_leaf i (is_some at.span) (here ∙ ap (λ w. not (is_nothing w)) e))
      (λ d. ap (λ w. with_text w d) (e ∙ sym (ap (λ w. spaced w []) e))) (ap (λ w. is_empty_text (spaced w [])) e)

-- a flow collection
flow_printed : (k : Known) (i : ℕ) (f : Form) (sp : Printer.Role) (margins : Margins) (x : Node) (d : Draft) → Laid k i x → IsSited k f.key_comment sp margins x
    → is_collection x ≡ true → may_be_kept [] [] x ≡ true → is_empty_text (bare k.work.style x) ≡ false
    → ((d : Draft) → with_node k.work i (measure k i x).last (head_of x) sp d ≡ Printing.with_kept k.work i (measure k i x).last (props_of x) d)
    → text_if (is_some (first_of (leaf_indices i x))) k.work i (measure k i x) f (head_of x) sp d ≡ put k f.key_comment false sp (one_line k.work.style margins x) d
flow_printed k i f sp margins x d l s c m e t =
    one_line_printed k i f sp margins x d l s (kept_leaf k.work.style i x m l.placed)
    (λ d. t d ∙ collection_added k i (measure k i x).last x d l.house c m e (node_at x l.among) (last_of_node i x)) (written_filled (props_text (props_of x)) (bare k.work.style x) e)

pub header_filled : (style : ScalarStyle) (n : ℕ) (text : List ℕ) → is_empty_text (header_text style n text) ≡ false
header_filled Plain n text = refl
header_filled Single n text = refl
header_filled Double n text = refl
header_filled Literal n text = refl
header_filled Folded n text = refl

text_printed : (k : Known) (i : ℕ) (f : Form) (sp : Printer.Role) (margins : Margins) (x : Node) (d : Draft) → Laid k i x → IsSited k f.key_comment sp margins x
    → is_block_collection x ≡ false → Printed k i f sp margins x d
text_printed k i f sp margins (scalar at props Plain [] lines) d l s b = plain_printed k i f sp margins at props lines d l s
text_printed k i f sp margins (scalar at props Plain (c ∷ text) lines) d l s b = scalar_printed k i f sp margins at props Plain (c ∷ text) lines d l s refl (λ d. refl) refl
text_printed k i f sp margins (scalar at props Single text lines) d l s b = scalar_printed k i f sp margins at props Single text lines d l s refl (λ d. refl) refl
text_printed k i f sp margins (scalar at props Double text lines) d l s b = scalar_printed k i f sp margins at props Double text lines d l s refl (λ d. refl) refl
text_printed k i f sp margins (scalar at props Literal text lines) d l s b =
    block_printed k i f sp margins at props Literal text lines d l s refl refl (λ d. refl) (header_filled Literal k.work.style.indent text)
text_printed k i f sp margins (scalar at props Folded text lines) d l s b =
    block_printed k i f sp margins at props Folded text lines d l s refl refl (λ d. refl) (header_filled Folded k.work.style.indent text)
text_printed k i f sp margins (alias at name) d l s b = one_line_printed k i f sp margins (alias at name) d l s refl (λ d. refl) refl
text_printed k i f sp margins (sequence at true props no_items) d l s b = flow_printed k i f sp margins (sequence at true props no_items) d l s refl refl refl (λ d. refl)
text_printed k i f sp margins (sequence at true props (item x xs)) d l s b =
    flow_printed k i f sp margins (sequence at true props (item x xs)) d l s refl (same_flag l.house) refl (λ d. refl)
text_printed k i f sp margins (sequence at false props no_items) d l s b = absurd (true≢false (same_flag l.house))
text_printed k i f sp margins (sequence at false props (item x xs)) d l s b = absurd (true≢false b)
text_printed k i f sp margins (mapping at true props no_pairs) d l s b = flow_printed k i f sp margins (mapping at true props no_pairs) d l s refl refl refl (λ d. refl)
text_printed k i f sp margins (mapping at true props (pair x y ps)) d l s b =
    flow_printed k i f sp margins (mapping at true props (pair x y ps)) d l s refl (same_flag_of_map l.house) refl (λ d. refl)
text_printed k i f sp margins (mapping at false props no_pairs) d l s b = absurd (true≢false (same_flag_of_map l.house))
text_printed k i f sp margins (mapping at false props (pair x y ps)) d l s b = absurd (true≢false b)

-- the text printed for a node that isn't a block collection
pub leaf_printed : (k : Known) (i : ℕ) (f : Form) (sp : Printer.Role) (margins : Margins) (x : Node) (d : Draft) → Laid k i x → IsSited k f.key_comment sp margins x
    → is_block_collection x ≡ false
    → Printing.leaf k.work i (measure k i x) f (head_of x) sp d ≡ with_colon_of x sp (put k f.key_comment false sp (rows (setting_in k) margins x) d)
leaf_printed k i f sp margins x d l s b =
    colon_part x i sp (text_if (is_some (first_of (leaf_indices i x))) k.work i (measure k i x) f (head_of x) sp d) l.placed
    ∙ ap (with_colon_of x sp) (text_printed k i f sp margins x d l s b)
