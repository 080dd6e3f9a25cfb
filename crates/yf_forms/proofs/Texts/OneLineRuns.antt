-- The events of a flow collection that may be kept add its text on one line.
use Rattle.std.proofs.Common.{◌≡◌, ℕ, zero, suc, ◌+◌, ◌-◌, ◌≤◌, Bool, true, false, not, ◌&&◌, List, [], ◌∷◌, ◌++◌, chars, codes, Some, length, map, take, drop, refl, sym, ap, ◌∙◌, append_assoc, append-nil, arith, true≢false, take_at, drop_at}
use Rattle.std.specs.Prelude.{reverse, slice_get}
use Rattle.std.proofs.lemmas.Bool.{and_parts}
use Rattle.std.proofs.lemmas.List.{drop_all}
use Rattle.yf_lines.specs.declared.quotes.Quotes.{Quotes}
use Rattle.yf_props.specs.Props.{PropsValue}
use Rattle.yf_quoted.specs.Written.{quotes_in}
use Rattle.yf_events.specs.Event.{EventValue, EventInText, sequence_ends, mapping_ends}
use Rattle.yf_events.specs.declared.event.ScalarStyle.{ScalarStyle}
use Rattle.yf_events.specs.declared.event.ScalarStyle.TheVariants.{Plain, Single, Double, Literal, Folded}
use Rattle.yf_forms.specs.declared.form.kept.Expected.{Expected}
use Rattle.yf_forms.specs.declared.form.kept.Expected.TheVariants.{FirstItem, Item, FirstKey, Key}
use Rattle.yf_forms.specs.declared.style.Style.{Style}
use Rattle.yf_forms.specs.Nodes.SingleNodes.{AddsKept, NodeAt}
use Rattle.yf_forms.specs.Nodes.OneLineFlows.{may_be_kept, items_may_be_kept, pairs_may_be_kept, scalar_may_be_kept, has_comment}
use Rattle.yf_forms.specs.NormalForms.Normal.{LayoutSetting, styled, styled_items, styled_pairs}
use Rattle.yf_forms.specs.Nodes.OneLine.{bare, written, more_items, more_pairs, spaced, space_after, props_text, colon_after, scalar_text}
use Rattle.yf_forms.specs.Passes.OneLinePass.{separator, value_of, expected_after, added, next_open, run, between}
use Rattle.yf_forms.specs.Nodes.Lines.{is_empty_text}
use Rattle.yf_events.specs.Tree.{NodeOffsets, Node, scalar, alias, sequence, mapping, Items, no_items, item, Pairs, no_pairs, pair, is_collection, unplaced, flat, flat_items, flat_pairs, props_of}
use Rattle.yf_forms.specs.Nodes.ScalarStyles.{lines_in, wanted, style_in}
use Rattle.yf_forms.proofs.ListLemmas.{three_lists}

-- A node in a kept collection has a text

pub spaced_filled : (p y : List ℕ) → is_empty_text y ≡ false → spaced p y ≡ space_after p ++ y
spaced_filled [] y n = refl
spaced_filled (b ∷ x) [] n = absurd (true≢false n)
spaced_filled (b ∷ x) (c ∷ y) n = sym (append_assoc (b ∷ x) (32 ∷ []) (c ∷ y))

quoted_text : (house : Style) (q : Quotes) (s : List ℕ) → is_empty_text (scalar_text house (style_in q) s) ≡ false
quoted_text house Quotes.Single s = refl
quoted_text house Quotes.Double s = refl

pub scalar_filled : (style : ScalarStyle) (text : List ℕ) (q : Style) → scalar_may_be_kept style text ≡ true
    → is_empty_text (scalar_text q (wanted style text q) text) ≡ false
scalar_filled Plain [] q k = absurd (true≢false (sym k))
scalar_filled Plain (b ∷ text) q k = rw k refl
scalar_filled Single text q k = quoted_text q (quotes_in q.invisible (chars text) q.quotes) text
scalar_filled Double text q k = quoted_text q (quotes_in q.invisible (chars text) q.quotes) text
scalar_filled Literal text q k = absurd (true≢false (sym k))
scalar_filled Folded text q k = absurd (true≢false (sym k))

pub quoted_colon : (q : Quotes) (at : NodeOffsets) (props : PropsValue) (s : List ℕ) (lines : List (List ℕ))
    → colon_after (scalar at props (style_in q) s lines) ≡ codes ":"
quoted_colon Quotes.Single at props s lines = refl
quoted_colon Quotes.Double at props s lines = refl

scalar_colon : (at : NodeOffsets) (props : PropsValue) (style : ScalarStyle) (text : List ℕ) (lines : List (List ℕ)) (q : Style)
    → scalar_may_be_kept style text ≡ true → colon_after (scalar at props (wanted style text q) text lines) ≡ codes ":"
scalar_colon at props Plain [] lines q k = absurd (true≢false (sym k))
scalar_colon at props Plain (b ∷ text) lines q k = rw k refl
scalar_colon at props Single text lines q k = quoted_colon (quotes_in q.invisible (chars text) q.quotes) at props text lines
scalar_colon at props Double text lines q k = quoted_colon (quotes_in q.invisible (chars text) q.quotes) at props text lines
scalar_colon at props Literal text lines q k = absurd (true≢false (sym k))
scalar_colon at props Folded text lines q k = absurd (true≢false (sym k))

pub node_filled : (t : List ℕ) (c : LayoutSetting) (x : Node) → may_be_kept t c.comments x ≡ true → is_empty_text (bare c.style (styled t c x)) ≡ false
node_filled t c (scalar at props style text lines) k = scalar_filled style text c.style k
node_filled t c (alias at name) k = refl
node_filled t c (sequence at flow props no_items) k = refl
node_filled t c (sequence at flow props (item x xs)) k = refl
node_filled t c (mapping at flow props no_pairs) k = refl
node_filled t c (mapping at flow props (pair x y ps)) k = refl

pub same_props : (t : List ℕ) (c : LayoutSetting) (x : Node) → props_of (styled t c x) ≡ props_of x
same_props t c (scalar at props style text lines) = refl
same_props t c (alias at name) = refl
same_props t c (sequence at flow props xs) = refl
same_props t c (mapping at flow props ps) = refl

written_is : (t : List ℕ) (c : LayoutSetting) (x : Node) → may_be_kept t c.comments x ≡ true
    → written c.style (styled t c x) ≡ space_after (props_text (props_of x)) ++ bare c.style (styled t c x)
written_is t c x k =
    spaced_filled (props_text (props_of (styled t c x))) (bare c.style (styled t c x)) (node_filled t c x k)
    ∙ ap (λ p. space_after (props_text p) ++ bare c.style (styled t c x)) (same_props t c x)

-- and if it is a key, its `:` comes before its value

abbrev is_alias : Node → Bool
is_alias (scalar at props style text lines) = false
is_alias (alias at name) = true
is_alias (sequence at flow props xs) = false
is_alias (mapping at flow props ps) = false

colon_is : (t : List ℕ) (c : LayoutSetting) (x : Node) → may_be_kept t c.comments x ≡ true
    → separator (value_of (is_alias x)) ≡ colon_after (styled t c x) ++ codes " "
colon_is t c (scalar at props style text lines) k =
    ap (λ w. w ++ codes " ") (sym (scalar_colon at props style text (lines_in (wanted style text c.style) lines) c.style k))
colon_is t c (alias at name) k = refl
colon_is t c (sequence at flow props xs) k = refl
colon_is t c (mapping at flow props ps) k = refl

-- Runs over the events of a node, of entries after the first one, and of a key and its value

abbrev Runs : List ℕ → LayoutSetting → Node → Type 0
Runs t c x = (f : Expected) (stack : List Expected) (es : List EventInText)
    → run c.style (f ∷ stack) (flat x ++ es) ≡ separator f ++ (written c.style (styled t c x) ++ run c.style (expected_after (is_alias x) f ∷ stack) es)

abbrev RunsItems : List ℕ → LayoutSetting → Items → Type 0
RunsItems t c xs = (stack : List Expected) (es : List EventInText)
    → run c.style (Item ∷ stack) (flat_items xs ++ es) ≡ more_items c.style (styled_items t c xs) ++ run c.style (Item ∷ stack) es

abbrev RunsPairs : List ℕ → LayoutSetting → Pairs → Type 0
RunsPairs t c ps = (stack : List Expected) (es : List EventInText)
    → run c.style (Key ∷ stack) (flat_pairs ps ++ es) ≡ more_pairs c.style (styled_pairs t c ps) ++ run c.style (Key ∷ stack) es

key_after : (a b : Bool) → expected_after a (value_of b) ≡ Key
key_after a true = refl
key_after a false = refl

pair_run : (t : List ℕ) (c : LayoutSetting) (x y : Node) → may_be_kept t c.comments x ≡ true → Runs t c x → Runs t c y → (f : Expected)
    → ((b : Bool) → expected_after b f ≡ value_of b) → (stack : List Expected) (es : List EventInText)
    → run c.style (f ∷ stack) (flat x ++ (flat y ++ es)) ≡ separator f ++ (written c.style (styled t c x) ++ (colon_after (styled t c x)
    ++ (codes " " ++ (written c.style (styled t c y) ++ run c.style (Key ∷ stack) es))))
pair_run t c x y k r s f h stack es =
    r f stack (flat y ++ es)
    ∙ ap (λ w. separator f ++ (written c.style (styled t c x) ++ w))
    (ap (λ g. run c.style (g ∷ stack) (flat y ++ es)) (h (is_alias x))
    ∙ s (value_of (is_alias x)) stack es
    ∙ ap (λ g. separator (value_of (is_alias x)) ++ (written c.style (styled t c y) ++ run c.style (g ∷ stack) es)) (key_after (is_alias y) (is_alias x))
    ∙ ap (λ w. w ++ (written c.style (styled t c y) ++ run c.style (Key ∷ stack) es)) (colon_is t c x k)
    ∙ append_assoc (colon_after (styled t c x)) (codes " ") (written c.style (styled t c y) ++ run c.style (Key ∷ stack) es))

-- Groups

leaf_group : (a b d r w : List ℕ) → w ≡ b ++ d → ((a ++ b) ++ d) ++ r ≡ a ++ (w ++ r)
leaf_group a b d r w e = rw e (simp append_assoc)

bracket_group : (a b d r w y s : List ℕ) → w ≡ b ++ y → d ++ r ≡ y ++ s → ((a ++ b) ++ d) ++ r ≡ a ++ (w ++ s)
bracket_group a b d r w y s e h =
    append_assoc (a ++ b) d r ∙ (ap (λ z. (a ++ b) ++ z) h ∙ rw e (simp append_assoc))

pairs_group : (x v y z r : List EventInText) → ((x ++ (v ++ y)) ++ z) ++ r ≡ x ++ (v ++ (y ++ (z ++ r)))
pairs_group x v y z r = simp append_assoc

items_close : (a w m e r : List ℕ) → a ++ (w ++ (m ++ (e ++ r))) ≡ (a ++ (w ++ (m ++ e))) ++ r
items_close a w m e r = simp append_assoc

pairs_close : (a w p b v m e r : List ℕ) → a ++ (w ++ (p ++ (b ++ (v ++ (m ++ (e ++ r)))))) ≡ (a ++ (w ++ (p ++ (b ++ (v ++ (m ++ e)))))) ++ r
pairs_close a w p b v m e r = simp append_assoc

more_group : (a w m r : List ℕ) → a ++ (w ++ (m ++ r)) ≡ (a ++ (w ++ m)) ++ r
more_group a w m r = simp append_assoc

more_pairs_group : (a w p b v m r : List ℕ) → a ++ (w ++ (p ++ (b ++ (v ++ (m ++ r))))) ≡ (a ++ (w ++ (p ++ (b ++ (v ++ m))))) ++ r
more_pairs_group a w p b v m r = simp append_assoc

-- Between the brackets of a collection

items_inside : (t : List ℕ) (c : LayoutSetting) (at : NodeOffsets) (flow : Bool) (props : PropsValue) (x : Node) (xs : Items) → Runs t c x → RunsItems t c xs
    → (stack : List Expected) (es : List EventInText)
    → codes "[" ++ run c.style (FirstItem ∷ stack) (((flat x ++ flat_items xs) ++ (unplaced sequence_ends ∷ [])) ++ es)
    ≡ bare c.style (styled t c (sequence at flow props (item x xs))) ++ run c.style stack es
unfolding run
items_inside t c at flow props x xs r s stack es =
    ap (λ w. codes "[" ++ run c.style (FirstItem ∷ stack) w) (three_lists (flat x) (flat_items xs) (unplaced sequence_ends ∷ []) es)
    ∙ ap (λ w. codes "[" ++ w) (r FirstItem stack (flat_items xs ++ (unplaced sequence_ends ∷ es)))
    ∙ ap (λ w. codes "[" ++ (written c.style (styled t c x) ++ w)) (s stack (unplaced sequence_ends ∷ es))
    ∙ items_close (codes "[") (written c.style (styled t c x)) (more_items c.style (styled_items t c xs)) (codes "]") (run c.style stack es)

pairs_inside : (t : List ℕ) (c : LayoutSetting) (at : NodeOffsets) (flow : Bool) (props : PropsValue) (x y : Node) (ps : Pairs)
    → may_be_kept t c.comments x ≡ true → Runs t c x → Runs t c y → RunsPairs t c ps → (stack : List Expected) (es : List EventInText)
    → codes "{" ++ run c.style (FirstKey ∷ stack) (((flat x ++ (flat y ++ flat_pairs ps)) ++ (unplaced mapping_ends ∷ [])) ++ es)
    ≡ bare c.style (styled t c (mapping at flow props (pair x y ps))) ++ run c.style stack es
unfolding run
pairs_inside t c at flow props x y ps k r s u stack es =
    ap (λ w. codes "{" ++ run c.style (FirstKey ∷ stack) w) (pairs_group (flat x) (flat y) (flat_pairs ps) (unplaced mapping_ends ∷ []) es)
    ∙ ap (λ w. codes "{" ++ w) (pair_run t c x y k r s FirstKey (λ b. refl) stack (flat_pairs ps ++ (unplaced mapping_ends ∷ es)))
    ∙ ap (λ w. codes "{" ++ (written c.style (styled t c x) ++ (colon_after (styled t c x) ++ (codes " " ++ (written c.style (styled t c y) ++ w))))) (u stack (unplaced mapping_ends ∷ es))
    ∙ pairs_close (codes "{") (written c.style (styled t c x)) (colon_after (styled t c x)) (codes " ") (written c.style (styled t c y)) (more_pairs c.style (styled_pairs t c ps)) (codes "}")
    (run c.style stack es)

-- a collection that may be kept holds nodes that may be kept

pub kept_items : (t : List ℕ) (c : LayoutSetting) (at : NodeOffsets) (flow : Bool) (props : PropsValue) (x : Node) (xs : Items)
    → may_be_kept t c.comments (sequence at flow props (item x xs)) ≡ true → (may_be_kept t c.comments x ≡ true) × (items_may_be_kept t c.comments xs ≡ true)
kept_items t c at flow props x xs k =
    let last = and_parts (flow && not (has_comment t c.comments at.span props) && may_be_kept t c.comments x) (items_may_be_kept t c.comments xs) k in
    let first = and_parts (flow && not (has_comment t c.comments at.span props)) (may_be_kept t c.comments x) last.0 in
    (first.1, last.1)

pub kept_pairs : (t : List ℕ) (c : LayoutSetting) (at : NodeOffsets) (flow : Bool) (props : PropsValue) (x y : Node) (ps : Pairs)
    → may_be_kept t c.comments (mapping at flow props (pair x y ps)) ≡ true
    → (may_be_kept t c.comments x ≡ true) × (may_be_kept t c.comments y ≡ true) × (pairs_may_be_kept t c.comments ps ≡ true)
kept_pairs t c at flow props x y ps k =
    let last = and_parts (flow && not (has_comment t c.comments at.span props) && may_be_kept t c.comments x && may_be_kept t c.comments y) (pairs_may_be_kept t c.comments ps) k in
    let value = and_parts (flow && not (has_comment t c.comments at.span props) && may_be_kept t c.comments x) (may_be_kept t c.comments y) last.0 in
    let key = and_parts (flow && not (has_comment t c.comments at.span props)) (may_be_kept t c.comments x) value.0 in
    (key.1, value.1, last.1)

pub kept_more_pairs : (t : List ℕ) (c : LayoutSetting) (x y : Node) (ps : Pairs) → pairs_may_be_kept t c.comments (pair x y ps) ≡ true
    → (may_be_kept t c.comments x ≡ true) × (may_be_kept t c.comments y ≡ true) × (pairs_may_be_kept t c.comments ps ≡ true)
kept_more_pairs t c x y ps k =
    let last = and_parts (may_be_kept t c.comments x && may_be_kept t c.comments y) (pairs_may_be_kept t c.comments ps) k in
    let both = and_parts (may_be_kept t c.comments x) (may_be_kept t c.comments y) last.0 in
    (both.0, both.1, last.1)

mutual
  unfolding run

  node_run : (t : List ℕ) (c : LayoutSetting) (x : Node) → may_be_kept t c.comments x ≡ true → Runs t c x
  node_run t c (scalar at props style text lines) k = λ f stack es.
      leaf_group (separator f) (space_after (props_text props)) (scalar_text c.style (wanted style text c.style) text)
      (run c.style (expected_after false f ∷ stack) es) _ (written_is t c (scalar at props style text lines) k)
  node_run t c (alias at name) k = λ f stack es.
      append_assoc (separator f) (42 ∷ name) (run c.style (expected_after true f ∷ stack) es)
  node_run t c (sequence at flow props no_items) k = λ f stack es.
      bracket_group (separator f) (space_after (props_text props)) (codes "[")
      (run c.style (FirstItem ∷ (expected_after false f ∷ stack)) (unplaced sequence_ends ∷ es)) _
      (bare c.style (styled t c (sequence at flow props no_items))) (run c.style (expected_after false f ∷ stack) es)
      (written_is t c (sequence at flow props no_items) k) refl
  node_run t c (sequence at flow props (item x xs)) k = λ f stack es.
      let parts = kept_items t c at flow props x xs k in
      bracket_group (separator f) (space_after (props_text props)) (codes "[")
      (run c.style (FirstItem ∷ (expected_after false f ∷ stack)) (((flat x ++ flat_items xs) ++ (unplaced sequence_ends ∷ [])) ++ es)) _
      (bare c.style (styled t c (sequence at flow props (item x xs)))) (run c.style (expected_after false f ∷ stack) es)
      (written_is t c (sequence at flow props (item x xs)) k)
      (items_inside t c at flow props x xs (node_run t c x parts.0) (items_run t c xs parts.1) (expected_after false f ∷ stack) es)
  node_run t c (mapping at flow props no_pairs) k = λ f stack es.
      bracket_group (separator f) (space_after (props_text props)) (codes "{")
      (run c.style (FirstKey ∷ (expected_after false f ∷ stack)) (unplaced mapping_ends ∷ es)) _
      (bare c.style (styled t c (mapping at flow props no_pairs))) (run c.style (expected_after false f ∷ stack) es)
      (written_is t c (mapping at flow props no_pairs) k) refl
  node_run t c (mapping at flow props (pair x y ps)) k = λ f stack es.
      let parts = kept_pairs t c at flow props x y ps k in
      bracket_group (separator f) (space_after (props_text props)) (codes "{")
      (run c.style (FirstKey ∷ (expected_after false f ∷ stack)) (((flat x ++ (flat y ++ flat_pairs ps)) ++ (unplaced mapping_ends ∷ [])) ++ es)) _
      (bare c.style (styled t c (mapping at flow props (pair x y ps)))) (run c.style (expected_after false f ∷ stack) es)
      (written_is t c (mapping at flow props (pair x y ps)) k)
      (pairs_inside t c at flow props x y ps parts.0 (node_run t c x parts.0) (node_run t c y parts.1) (pairs_run t c ps parts.2) (expected_after false f ∷ stack) es)

  items_run : (t : List ℕ) (c : LayoutSetting) (xs : Items) → items_may_be_kept t c.comments xs ≡ true → RunsItems t c xs
  items_run t c no_items k = λ stack es. refl
  items_run t c (item x xs) k = λ stack es.
      let parts = and_parts (may_be_kept t c.comments x) (items_may_be_kept t c.comments xs) k in
      ap (λ w. run c.style (Item ∷ stack) w) (append_assoc (flat x) (flat_items xs) es)
      ∙ node_run t c x parts.0 Item stack (flat_items xs ++ es)
      ∙ ap (λ w. codes ", " ++ (written c.style (styled t c x) ++ w)) (items_run t c xs parts.1 stack es)
      ∙ more_group (codes ", ") (written c.style (styled t c x)) (more_items c.style (styled_items t c xs)) (run c.style (Item ∷ stack) es)

  pairs_run : (t : List ℕ) (c : LayoutSetting) (ps : Pairs) → pairs_may_be_kept t c.comments ps ≡ true → RunsPairs t c ps
  pairs_run t c no_pairs k = λ stack es. refl
  pairs_run t c (pair x y ps) k = λ stack es.
      let parts = kept_more_pairs t c x y ps k in
      ap (λ w. run c.style (Key ∷ stack) w) (append_assoc (flat x) (flat y ++ flat_pairs ps) es ∙ ap (λ w. flat x ++ w) (append_assoc (flat y) (flat_pairs ps) es))
      ∙ pair_run t c x y parts.0 (node_run t c x parts.0) (node_run t c y parts.1) Key (λ b. refl) stack (flat_pairs ps ++ es)
      ∙ ap (λ w. codes ", " ++ (written c.style (styled t c x) ++ (colon_after (styled t c x) ++ (codes " " ++ (written c.style (styled t c y) ++ w))))) (pairs_run t c ps parts.2 stack es)
      ∙ more_pairs_group (codes ", ") (written c.style (styled t c x)) (colon_after (styled t c x)) (codes " ") (written c.style (styled t c y)) (more_pairs c.style (styled_pairs t c ps))
      (run c.style (Key ∷ stack) es)

-- a collection from bracket to bracket, outside of all others

collection_run : (t : List ℕ) (c : LayoutSetting) (x : Node) → is_collection x ≡ true → may_be_kept t c.comments x ≡ true → (es : List EventInText)
    → run c.style [] (flat x ++ es) ≡ bare c.style (styled t c x) ++ run c.style [] es
unfolding run
collection_run t c (scalar at props style text lines) b k es = absurd (true≢false (sym b))
collection_run t c (alias at name) b k es = absurd (true≢false (sym b))
collection_run t c (sequence at flow props no_items) b k es = refl
collection_run t c (sequence at flow props (item x xs)) b k es =
    let parts = kept_items t c at flow props x xs k in
    items_inside t c at flow props x xs (node_run t c x parts.0) (items_run t c xs parts.1) [] es
collection_run t c (mapping at flow props no_pairs) b k es = refl
collection_run t c (mapping at flow props (pair x y ps)) b k es =
    let parts = kept_pairs t c at flow props x y ps k in
    pairs_inside t c at flow props x y ps parts.0 (node_run t c x parts.0) (node_run t c y parts.1) (pairs_run t c ps parts.2) [] es

whole_run : (t : List ℕ) (c : LayoutSetting) (x : Node) → is_collection x ≡ true → may_be_kept t c.comments x ≡ true
    → run c.style [] (flat x) ≡ bare c.style (styled t c x)
unfolding run
whole_run t c x b k =
    ap (run c.style []) (sym (append-nil (flat x))) ∙ collection_run t c x b k [] ∙ append-nil (bare c.style (styled t c x))

between_node : (es : List EventInText) (first last : ℕ) (x : Node) → NodeAt es first x → last + 1 ≡ first + length (flat x)
    → between first last es ≡ flat x
between_node es first last x n e =
    let count : last + 1 - first ≡ length (flat x) = omega arith in
    ap (λ m. take m (drop first es)) count
    ∙ ap (take (length (flat x))) (ap (drop first) n.is ∙ drop_at n.before (flat x ++ n.after) first n.index)
    ∙ take_at (flat x) n.after (length (flat x)) refl

-- so the events of a collection that may be kept add its text
pub kept_run : (t : List ℕ) (c : LayoutSetting) (x : Node) (es : List EventInText) (first last : ℕ) → NodeAt es first x
    → last + 1 ≡ first + length (flat x) → is_collection x ≡ true → may_be_kept t c.comments x ≡ true → run c.style [] (between first last es) ≡ bare c.style (styled t c x)
kept_run t c x es first last n e b k =
    ap (run c.style []) (between_node es first last x n e) ∙ whole_run t c x b k

-- One event of the pass over the events from one index to another

event_here : (k : ℕ) (es : List EventInText) (v : EventValue) → slice_get (map (λ e. e.event) es) k ≡ Some v
    → (e : EventInText) × (drop k es ≡ e ∷ drop (suc k) es) × (e.event ≡ v)
event_here k [] v h = absurd cc
event_here zero (e ∷ es) v h = (e, refl, cc)
event_here (suc k) (e ∷ es) v h = event_here k es v h

one_event : (k last : ℕ) (es : List EventInText) (v : EventValue) → slice_get (map (λ e. e.event) es) k ≡ Some v → k ≤ last
    → (e : EventInText) × (between k last es ≡ e ∷ between (k + 1) last es) × (e.event ≡ v)
one_event k last es v h l =
    let here = event_here k es v h in
    let count : last + 1 - k ≡ suc (last + 1 - (k + 1)) = omega arith in
    let later : suc k ≡ k + 1 = omega arith in
    (here.0, ap (λ m. take m (drop k es)) count ∙ ap (take (suc (last + 1 - (k + 1)))) here.1 ∙ ap (λ m. here.0 ∷ take (last + 1 - (k + 1)) (drop m es)) later, here.2)

pub run_step : (q : Style) (stack next : List Expected) (k last : ℕ) (es : List EventInText) (v : EventValue) (old new all : List ℕ)
    → slice_get (map (λ e. e.event) es) k ≡ Some v → k ≤ last → new ≡ old ++ added q stack v → next ≡ next_open stack v
    → old ++ run q stack (between k last es) ≡ all → new ++ run q next (between (k + 1) last es) ≡ all
unfolding run
run_step q stack next k last es v old new all h l a n i =
    let one = one_event k last es v h l in
    let e1 : new ≡ old ++ added q stack one.0.event = a ∙ ap (λ w. old ++ added q stack w) (sym one.2) in
    let e2 : next ≡ next_open stack one.0.event = n ∙ ap (next_open stack) (sym one.2) in
    rw (e1, e2) (append_assoc old (added q stack one.0.event) (run q (next_open stack one.0.event) (between (k + 1) last es))
    ∙ ap (λ w. old ++ run q stack w) (sym one.1) ∙ i)

-- nothing is left after the last one or past the end
pub run_end : (q : Style) (stack : List Expected) (k last : ℕ) (es : List EventInText) (old all : List ℕ) → last + 1 ≤ k
    → old ++ run q stack (between k last es) ≡ all → old ≡ all
unfolding run
run_end q stack k last es old all l i =
    let none : last + 1 - k ≡ 0 = omega arith in
    sym (append-nil old) ∙ ap (λ m. old ++ run q stack (take m (drop k es))) (sym none) ∙ i

nothing_taken : (m : ℕ) (es : List EventInText) → es ≡ [] → take m es ≡ []
nothing_taken zero es e = refl
nothing_taken (suc m) es e = rw e refl

pub run_past : (q : Style) (stack : List Expected) (k last : ℕ) (es : List EventInText) (old all : List ℕ) → length es ≤ k
    → old ++ run q stack (between k last es) ≡ all → old ≡ all
unfolding run
run_past q stack k last es old all l i =
    sym (append-nil old) ∙ ap (λ w. old ++ run q stack w) (sym (nothing_taken (last + 1 - k) (drop k es) (drop_all k es l))) ∙ i

pub flat_filled : (x : Node) → 1 ≤ length (flat x)
flat_filled (scalar at props style text lines) = omega arith
flat_filled (alias at name) = omega arith
flat_filled (sequence at flow props xs) = omega arith
flat_filled (mapping at flow props ps) = omega arith

pub kept_adds : (es : List EventInText) (s : Style) (first last : ℕ) (stack : List Expected) (old new : List ℕ) → stack ≡ []
    → (first ≤ last → new ≡ old ++ run s (reverse stack) (between first last es)) → AddsKept es s first last old new
kept_adds es s first last stack old new e h = record {
  adds = λ t c x same n l b k.
      let filled : 1 ≤ length (flat x) = flat_filled x in
      let order : first ≤ last = omega arith in
      h order ∙ ap (λ w. old ++ run s (reverse w) (between first last es)) e
      ∙ ap (λ w. old ++ w) (ap (λ w. run w [] (between first last es)) (sym same) ∙ kept_run t c x es first last n l b k);
}
