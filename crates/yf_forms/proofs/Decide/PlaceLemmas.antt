-- The pass gives each node the margins of its site.
use Rattle.std.proofs.Common.{◌≡◌, ℕ, ◌+◌, Bool, true, false, not, ◌&&◌, List, Option, Some, None, refl, sym, ap, ◌∙◌, arith}
use Rattle.std.specs.Prelude.{◌||◌, is_some, if◌then◌else◌}
use Rattle.std.proofs.lemmas.Bool.{and_parts}
use Rattle.yf_comments.specs.Comment.{CommentValue}
use Rattle.yf_events.specs.Event.{EventInText}
use Rattle.yf_events.specs.declared.event.ScalarStyle.TheVariants.{Plain, Single, Double, Literal, Folded}
use Rattle.yf_forms.specs.declared.form.keys.PendingKey.{PendingKey}
use Rattle.yf_forms.specs.declared.form.layout_context.LayoutContext.{LayoutContext}
use Rattle.yf_forms.specs.declared.style.Style.{Style}
use Rattle.yf_forms.specs.Passes.DecidePass as Deciding
use Rattle.yf_forms.specs.Passes.MeasurePass.{setting}
use Rattle.yf_forms.specs.Passes.DecidePass.{DecideInput, given, further, has_room, colon_width, is_leaf_at, comment_if, context_after, value_place, key_place, place_in_map, key_width, key_of, key_after, may_be_implicit}
use Rattle.yf_forms.specs.NormalForms.Forms.{Site, site_at, key_site, value_site, key_comment_index, index_between, is_placed}
use Rattle.yf_forms.specs.NormalForms.Measures.{up_to_greatest, width_if, is_one_line, measure_of, leaf_indices, first_of}
use Rattle.yf_forms.specs.NormalForms.Normal as Normal
use Rattle.yf_forms.specs.NormalForms.Normal.{LayoutSetting, Margins, inner_margins, key_margins, value_margins, is_implicit, styled, fits, settled, key_comment}
use Rattle.yf_forms.specs.Nodes.OneLine.{width, written, colon_after}
use Rattle.yf_events.specs.Tree.{Node, scalar, alias, sequence, mapping, no_items, item, no_pairs, pair, flat, leaves, is_text, is_filled_flow}
use Rattle.yf_forms.proofs.Decide.AmongLemmas.{Among}
use Rattle.yf_forms.proofs.Decide.LeafLemmas.{is_own_leaf}
use Rattle.yf_forms.proofs.Decide.SiteLemmas.{filled_room, cut_twice, is_implicit_there}
use Rattle.yf_forms.proofs.Decide.ValueLemmas.{event_of, styled_text, styled_sequence, colon_there, key_start_there, trailing_there, same_comment}

-- a site in cut numbers
abbrev pub place_of : Site → LayoutContext
place_of site = record {
  column = up_to_greatest site.margins.column;
  entries = up_to_greatest site.margins.entries;
  is_implicit = site.is_implicit;
  key_comment = site.key_comment;
}

-- the comment still trails the key with the value's form settled

as_it_is : (cs : List CommentValue) (k v : Node) (r : Bool) (j : ℕ) → is_filled_flow v ≡ false → key_comment_index cs k v ≡ Some j
    → comment_if (is_text v || r) j ≡ key_comment_index cs k v
as_it_is cs k v r j f e = by (is_text v) (is_filled_flow v) f e where
  by : (b c : Bool) → c ≡ false → (if b || c then index_between cs (Normal.key_start k) (leaves v) else None) ≡ Some j
      → comment_if (b || r) j ≡ (if b || c then index_between cs (Normal.key_start k) (leaves v) else None)
  by true c f e = sym e
  by false true f e = absurd cc
  by false false f e = absurd cc

where_it_fits : (cs : List CommentValue) (k v w : Node) (r f : Bool) (j : ℕ) → r ≡ f → key_comment_index cs k w ≡ None → key_comment_index cs k v ≡ Some j
    → comment_if r j ≡ key_comment_index cs k (if f then v else w)
where_it_fits cs k v w true true j e n s = sym s
where_it_fits cs k v w false false j e n s = sym n
where_it_fits cs k v w true false j e n s = absurd cc
where_it_fits cs k v w false true j e n s = absurd cc

pub settled_comment : (c : LayoutSetting) (k v : Node) (margins : Margins) (j : ℕ) → key_comment_index c.comments k v ≡ Some j
    → comment_if (is_text v || has_room c.style (up_to_greatest margins.column) (width_if (is_one_line v) (written c.style v))) j
    ≡ key_comment_index c.comments k (settled c margins v)
settled_comment c k (scalar at props style text lines) margins j e = as_it_is c.comments k (scalar at props style text lines) _ j refl e
settled_comment c k (alias at name) margins j e = as_it_is c.comments k (alias at name) _ j refl e
settled_comment c k (sequence at flow props no_items) margins j e = as_it_is c.comments k (sequence at flow props no_items) _ j refl e
settled_comment c k (sequence at true props (item x xs)) margins j e =
    where_it_fits c.comments k (sequence at true props (item x xs)) _ _ (fits c.style margins.column (sequence at true props (item x xs))) j
    (filled_room c.style margins.column (sequence at true props (item x xs)) refl) refl e
settled_comment c k (sequence at false props (item x xs)) margins j e = absurd cc
settled_comment c k (mapping at flow props no_pairs) margins j e = as_it_is c.comments k (mapping at flow props no_pairs) _ j refl e
settled_comment c k (mapping at true props (pair x y ps)) margins j e =
    where_it_fits c.comments k (mapping at true props (pair x y ps)) _ _ (fits c.style margins.column (mapping at true props (pair x y ps))) j
    (filled_room c.style margins.column (mapping at true props (pair x y ps)) refl) refl e
settled_comment c k (mapping at false props (pair x y ps)) margins j e = absurd cc

none_where_it_fits : (cs : List CommentValue) (k v w : Node) (f : Bool) → key_comment_index cs k w ≡ None → key_comment_index cs k v ≡ None
    → None ≡ key_comment_index cs k (if f then v else w)
none_where_it_fits cs k v w true n e = sym e
none_where_it_fits cs k v w false n e = sym n

pub settled_no_comment : (c : LayoutSetting) (k v : Node) (margins : Margins) → key_comment_index c.comments k v ≡ None
    → None ≡ key_comment_index c.comments k (settled c margins v)
settled_no_comment c k (scalar at props style text lines) margins e = sym e
settled_no_comment c k (alias at name) margins e = sym e
settled_no_comment c k (sequence at flow props no_items) margins e = sym e
settled_no_comment c k (sequence at flow props (item x xs)) margins e =
    none_where_it_fits c.comments k (sequence at flow props (item x xs)) _ (flow && fits c.style margins.column (sequence at flow props (item x xs))) refl e
settled_no_comment c k (mapping at flow props no_pairs) margins e = sym e
settled_no_comment c k (mapping at flow props (pair x y ps)) margins e =
    none_where_it_fits c.comments k (mapping at flow props (pair x y ps)) _ (flow && fits c.style margins.column (mapping at flow props (pair x y ps))) refl e

-- the value of an implicit key

one_line_of_key : (s : Style) (column : ℕ) (x : Node) → is_implicit s column x ≡ true → is_one_line x ≡ true
one_line_of_key s column (scalar at props Plain text lines) e = refl
one_line_of_key s column (scalar at props Single text lines) e = refl
one_line_of_key s column (scalar at props Double text lines) e = refl
one_line_of_key s column (scalar at props Literal text lines) e = e
one_line_of_key s column (scalar at props Folded text lines) e = e
one_line_of_key s column (alias at name) e = refl
one_line_of_key s column (sequence at flow props no_items) e = refl
one_line_of_key s column (sequence at flow props (item x xs)) e = (and_parts flow _ (and_parts _ _ e).0).0
one_line_of_key s column (mapping at flow props no_pairs) e = refl
one_line_of_key s column (mapping at flow props (pair k v ps)) e = (and_parts flow _ (and_parts _ _ e).0).0

entries_there : (s : Style) (column : ℕ) (b c : Bool) → b ≡ c
    → (if b && not s.seq_indent then up_to_greatest column else further (up_to_greatest column) s.indent)
    ≡ up_to_greatest (if c && not s.seq_indent then column else column + s.indent)
entries_there s column b c e = ap (λ b. if b && not s.seq_indent then up_to_greatest column else further (up_to_greatest column) s.indent) e ∙ by (c && not s.seq_indent) where
  by : (b : Bool) → (if b then up_to_greatest column else further (up_to_greatest column) s.indent) ≡ up_to_greatest (if b then column else column + s.indent)
  by true = refl
  by false = cut_twice column s.indent

cut_sum : (a b c : ℕ) → further (further (up_to_greatest a) (further (up_to_greatest b) c)) 1 ≡ up_to_greatest (a + b + c + 1)
cut_sum a b c = omega arith

abbrev implicit_site : LayoutSetting → ℕ → Node → Node → Site
implicit_site c column k v = record {
  margins = Normal.value_of_implicit c column k v;
  is_implicit = false;
  key_comment = key_comment_index c.comments k (settled c (Normal.value_of_implicit c column k v) v);
}

column_there : (c : LayoutSetting) (column : ℕ) (k v : Node) (o : Option ℕ) → key_comment_index c.comments k v ≡ o
    → Normal.value_column c column k v ≡ (if is_some o then column + c.style.indent else column + width (written c.style k) + width (colon_after k) + 1)
column_there c column k v o e =
    ap (λ b. if b then column + c.style.indent else column + width (written c.style k) + width (colon_after k) + 1)
    (sym (same_comment c.comments k v) ∙ ap (λ (w : Option ℕ). is_some w) e)

abbrev node_place : ℕ → ℕ → Bool → Option ℕ → LayoutContext
node_place column entries implicit comment =
    record { column = column; entries = entries; is_implicit = implicit; key_comment = comment }

same_place : {a b e f : ℕ} {x y : Bool} {o p : Option ℕ} → a ≡ b → e ≡ f → x ≡ y → o ≡ p → node_place a e x o ≡ node_place b f y p
same_place u v w z i = node_place (u i) (v i) (w i) (z i)

-- a key that waits for its value
pub record Waits (s : Style) (column : ℕ) (k : Node) (key : PendingKey) : Type 0 where
  pub implicit : key.is_implicit ≡ is_implicit s column k
  pub width : is_implicit s column k ≡ true → key.width ≡ further (up_to_greatest (width (written s k))) (width (colon_after k))
  pub start : key.start ≡ Normal.key_start k

implicit_value : (c : LayoutSetting) (es : List EventInText) (t : List ℕ) (cs : List CommentValue) (column : ℕ) (k v : Node) (i : ℕ) (key : PendingKey) → is_placed v ≡ true
    → Among es (flat v) i → key.width ≡ further (up_to_greatest (width (written c.style k))) (width (colon_after k)) → key.start ≡ Normal.key_start k
    → value_place (given c.style c.comments es) (event_of v) i (measure_of t (setting c.style cs) i v) key (up_to_greatest column)
    ≡ place_of (implicit_site c column k (styled t (setting c.style cs) v))
implicit_value c es t cs column k v i key h a wide start =
    ap (context_after c.style i (measure_of t (setting c.style cs) i v) key.width (up_to_greatest column) (Deciding.value_entries c.style (event_of v) (up_to_greatest column)))
    (trailing_there c.comments es t (setting c.style cs) k i v key.start h a start) ∙ by (key_comment_index c.comments k (styled t (setting c.style cs) v)) refl where
      leaf : is_leaf_at i (first_of (leaf_indices i v)) ≡ is_text (styled t (setting c.style cs) v)
      leaf = is_own_leaf i v h ∙ sym (styled_text t (setting c.style cs) v)

      entries : Deciding.value_entries c.style (event_of v) (up_to_greatest column) ≡ up_to_greatest (Normal.value_entries c.style column (styled t (setting c.style cs) v))
      entries = entries_there c.style column _ _ (styled_sequence t (setting c.style cs) v)

      by : (o : Option ℕ) → key_comment_index c.comments k (styled t (setting c.style cs) v) ≡ o
          → context_after c.style i (measure_of t (setting c.style cs) i v) key.width (up_to_greatest column) (Deciding.value_entries c.style (event_of v) (up_to_greatest column)) o
          ≡ place_of (implicit_site c column k (styled t (setting c.style cs) v))
      by None e =
          same_place (ap (λ w. further (further (up_to_greatest column) w) 1) wide ∙ cut_sum column (width (written c.style k)) (width (colon_after k))
          ∙ sym (ap up_to_greatest (column_there c column k (styled t (setting c.style cs) v) None e))) entries refl
          (settled_no_comment c k (styled t (setting c.style cs) v) (Normal.value_of_implicit c column k (styled t (setting c.style cs) v)) e)
      by (Some j) e =
          let there : further (up_to_greatest column) c.style.indent ≡ up_to_greatest (Normal.value_column c column k (styled t (setting c.style cs) v)) =
          cut_twice column c.style.indent ∙ sym (ap up_to_greatest (column_there c column k (styled t (setting c.style cs) v) (Some j) e)) in
          same_place there entries refl
          (ap (λ b. comment_if (b || has_room c.style (further (up_to_greatest column) c.style.indent) (measure_of t (setting c.style cs) i v).width) j) leaf
          ∙ ap (λ n. comment_if (is_text (styled t (setting c.style cs) v) || has_room c.style n (measure_of t (setting c.style cs) i v).width) j) there
          ∙ settled_comment c k (styled t (setting c.style cs) v) (Normal.value_of_implicit c column k (styled t (setting c.style cs) v)) j e)

-- keys and values at their sites

key_at : (s : Style) (column : ℕ) (b : Bool)
    → key_place s (up_to_greatest column) b
    ≡ node_place (up_to_greatest (if b then column else column + s.indent)) (up_to_greatest (column + s.indent)) b None
key_at s column true = same_place refl (cut_twice column s.indent) refl refl
key_at s column false = same_place (cut_twice column s.indent) (cut_twice column s.indent) refl refl

pub key_there : (c : LayoutSetting) (es : List EventInText) (t : List ℕ) (cs : List CommentValue) (column : ℕ) (k : Node) (i : ℕ)
    → place_in_map (given c.style c.comments es) (event_of k) i (measure_of t (setting c.style cs) i k) (up_to_greatest column) None
    ≡ place_of (key_site c.style column (styled t (setting c.style cs) k))
key_there c es t cs column k i =
    ap (key_place c.style (up_to_greatest column)) (is_implicit_there t (setting c.style cs) column i k)
    ∙ key_at c.style column (is_implicit c.style column (styled t (setting c.style cs) k))

pub key_waits : (c : LayoutSetting) (es : List EventInText) (t : List ℕ) (cs : List CommentValue) (column : ℕ) (k : Node) (i : ℕ) → is_placed k ≡ true → Among es (flat k) i
    → Waits c.style column (styled t (setting c.style cs) k) (key_of es (event_of k) i (measure_of t (setting c.style cs) i k)
    (may_be_implicit c.style (up_to_greatest column) (measure_of t (setting c.style cs) i k).can_be_kept (measure_of t (setting c.style cs) i k).width))
key_waits c es t cs column k i h a = record {
  implicit = is_implicit_there t (setting c.style cs) column i k;
  width = λ e. ap (λ b. key_width (width_if b (written c.style (styled t (setting c.style cs) k))) (colon_width (event_of k) (is_leaf_at i (first_of (leaf_indices i k)))))
      (one_line_of_key c.style column (styled t (setting c.style cs) k) e)
      ∙ ap (further (up_to_greatest (width (written c.style (styled t (setting c.style cs) k))))) (colon_there t (setting c.style cs) i k h);
  start = key_start_there es t (setting c.style cs) i k h a;
}

site_if : LayoutSetting → ℕ → Node → Node → Bool → Site
site_if c column k v b = record {
  margins = if b then Normal.value_of_implicit c column k v else inner_margins c.style column;
  is_implicit = false;
  key_comment = if b then key_comment_index c.comments k (settled c (if b then Normal.value_of_implicit c column k v else inner_margins c.style column) v) else None;
}

pub value_there : (c : LayoutSetting) (es : List EventInText) (t : List ℕ) (cs : List CommentValue) (column : ℕ) (k v : Node) (i : ℕ) (key : PendingKey) → is_placed v ≡ true
    → Among es (flat v) i → Waits c.style column k key
    → place_in_map (given c.style c.comments es) (event_of v) i (measure_of t (setting c.style cs) i v) (up_to_greatest column) (Some key)
    ≡ place_of (value_site c column k (styled t (setting c.style cs) v))
unfolding site_if
value_there c es t cs column k v i key h a w =
    ap (λ b. if b then value_place (given c.style c.comments es) (event_of v) i (measure_of t (setting c.style cs) i v) key (up_to_greatest column)
    else Deciding.place_at (further (up_to_greatest column) c.style.indent)) w.implicit
    ∙ by (is_implicit c.style column k) refl where
      by : (b : Bool) → is_implicit c.style column k ≡ b
          → (if b then value_place (given c.style c.comments es) (event_of v) i (measure_of t (setting c.style cs) i v) key (up_to_greatest column)
          else Deciding.place_at (further (up_to_greatest column) c.style.indent)) ≡ place_of (site_if c column k (styled t (setting c.style cs) v) b)
      by true e = implicit_value c es t cs column k v i key h a (w.width e) w.start
      by false e = same_place (cut_twice column c.style.indent) (cut_twice column c.style.indent) refl refl

pub item_there : (s : Style) (column : ℕ) → Deciding.place_at (further (up_to_greatest column) s.indent) ≡ place_of (site_at (inner_margins s column))
item_there s column = same_place (cut_twice column s.indent) (cut_twice column s.indent) refl refl
