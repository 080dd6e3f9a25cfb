-- Laws of flow collections that are not written as the house style writes them.
use Rattle.std.proofs.Common.{◌≡◌, ◌≢◌, ℕ, ◌+◌, ◌-◌, ◌<◌, ◌≤◌, Bool, true, false, List, [], ◌∷◌, ◌++◌, Option, Some, None, length, drop, take, min, refl, sym, ap, subst, ◌∙◌, ⊎_elim, arith, true≢false}
use Rattle.std.specs.Str.{IsCharBoundary, IsUtf8}
use Rattle.std.specs.Prelude.{◌==◌, MatchBool, if◌then◌else◌, slice_get, slice_range}
use Rattle.std.proofs.lemmas.Bool.{cases_Bool, cases_lt}
use Rattle.std.proofs.lemmas.List.{length-append, length-drop, length-map, take_all}
use Rattle.std.proofs.lemmas.Option.{same_Some, slice_get_within}
use Rattle.yf_forms.specs.Nodes.SingleNodes.{NodeAt, kept_text_of}
use Rattle.yf_forms.specs.NormalForms.Normal.{LayoutSetting, setting_of}
use Rattle.yf_forms.specs.Nodes.OneLine.{bare}
use Rattle.yf_forms.specs.declared.style.Style.{Style}
use Rattle.yf_forms.proofs.Decide.ValueLemmas.{event_of}
use Rattle.yf_events.specs.Event.{EventValue, stream_starts, stream_ends, document_starts, document_ends, sequence_starts, sequence_ends, mapping_starts, mapping_ends, scalar_node, alias_node}
use Rattle.yf_events.specs.Reading.{events_of, spans_of}
use Rattle.yf_events.specs.Tree.{Node, scalar, alias, sequence, mapping, no_items, item, no_pairs, pair, DocumentTree, TreesOf, flat, flat_items, flat_pairs, is_filled_flow, props_of, standing, unplaced}
use Rattle.yf_events.specs.declared.event.Span.{Span}
use Rattle.yf_events.specs.declared.lists.Lists.{Lists}
use Rattle.yf_events.proofs.Advances.{not_zero}
use Rattle.yf_lines.specs.Lines.{PlaceOf, Table}
use Rattle.yf_lines.specs.declared.place.Position.{Position}
use Rattle.yf_rule_sets.specs.RuleSets.Exact.{Sole}
use Rattle.yf_rule_sets.specs.RuleSets.Layouts.{LayoutFault, EndsPastLimit, IsDisplaced, follows, wanted_text, displaced, other_text, too_wide}
use Rattle.yf_rule_sets.specs.Passes.OuterFlow.{FlowsDone, IsOutsideFlow, bracketed, brackets, empty_text, is_flow, starts_flow}
use Rattle.yf_rule_sets.proofs.Texts.ColumnLemmas.{column_one}
use Rattle.yf_rule_sets.proofs.Texts.FlowLemmas.{event_there, flow_begun, is_inside, item_at, span_there}
use Rattle.yf_rule_sets.proofs.Texts.NodeLemmas.{none_first, same_node}
use Rattle.yf_chars.proofs.Tests.{none_some, some_none, no_cons}
use Rattle.yf_forms.proofs.Texts.OneLineRuns.{flat_filled as node_size}

-- the number of events of a flow collection

pub empty_size : (x : Node) → is_flow x ≡ true → is_filled_flow x ≡ false → length (flat x) ≡ 2
empty_size (scalar at props style text lines) h f = absurd (true≢false (sym h))
empty_size (alias at name) h f = absurd (true≢false (sym h))
empty_size (sequence at flow props no_items) h f = refl
empty_size (sequence at flow props (item x xs)) h f = absurd (true≢false (sym h ∙ f))
empty_size (mapping at flow props no_pairs) h f = refl
empty_size (mapping at flow props (pair k v ps)) h f = absurd (true≢false (sym h ∙ f))

pub filled_size : (x : Node) → is_filled_flow x ≡ true → 3 ≤ length (flat x)
filled_size (scalar at props style text lines) f = absurd (true≢false (sym f))
filled_size (alias at name) f = absurd (true≢false (sym f))
filled_size (sequence at flow props no_items) f = absurd (true≢false (sym f))
filled_size (sequence at flow props (item x xs)) f =
    let n = node_size x in
    let a = length-append (flat x) (flat_items xs) in
    let b = length-append (flat x ++ flat_items xs) (unplaced sequence_ends ∷ []) in
    omega (arith, n, a, b)
filled_size (mapping at flow props no_pairs) f = absurd (true≢false (sym f))
filled_size (mapping at flow props (pair k v ps)) f =
    let n = node_size k in
    let a = length-append (flat k) (flat v ++ flat_pairs ps) in
    let b = length-append (flat k ++ (flat v ++ flat_pairs ps)) (unplaced mapping_ends ∷ []) in
    omega (arith, n, a, b)

pub is_empty_by : (x : Node) (i last : ℕ) → last + 1 ≡ i + length (flat x) → is_flow x ≡ true → last - i ≤ 1 → is_filled_flow x ≡ false
is_empty_by x i last e h l = ⊎_elim (λ (f : is_filled_flow x ≡ true). let n = filled_size x f in absurd (omega (arith, n, e, l))) (λ (f : is_filled_flow x ≡ false). f) (cases_Bool (is_filled_flow x))

pub is_filled_by : (x : Node) (i last : ℕ) → last + 1 ≡ i + length (flat x) → is_flow x ≡ true → 1 < last - i → is_filled_flow x ≡ true
is_filled_by x i last e h l = ⊎_elim (λ (f : is_filled_flow x ≡ true). f) (λ (f : is_filled_flow x ≡ false). let n = empty_size x h f in absurd (omega (arith, n, e, l))) (cases_Bool (is_filled_flow x))

-- the text of an empty flow collection
pub empty_bare : (house : Style) (x : Node) → is_flow x ≡ true → is_filled_flow x ≡ false → empty_text (event_of x) ≡ bare house x
empty_bare house (scalar at props style text lines) h f = absurd (true≢false (sym h))
empty_bare house (alias at name) h f = absurd (true≢false (sym h))
empty_bare house (sequence at flow props no_items) h f = refl
empty_bare house (sequence at flow props (item x xs)) h f = absurd (true≢false (sym h ∙ f))
empty_bare house (mapping at flow props no_pairs) h f = refl
empty_bare house (mapping at flow props (pair k v ps)) h f = absurd (true≢false (sym h ∙ f))

-- a span

slice_cut : (t : List ℕ) (a b e : ℕ) → e ≡ min b (length t) → take (e - a) (drop a t) ≡ slice_range t a b
slice_cut t a b e m = ⊎_elim
    (λ (h : b < length t). ap (λ n. take (n - a) (drop a t)) (let q : e ≡ b = omega (arith, m, h) in q))
    (λ (h : length t ≤ b).
    let n = length-drop a t in
    take_all (e - a) (drop a t) (omega (arith, m, h, n)) ∙ sym (take_all (b - a) (drop a t) (omega (arith, h, n))))
    (cases_lt b (length t))

slice_past : (t : List ℕ) (a b : ℕ) → min b (length t) < a → slice_range t a b ≡ []
slice_past t a b l = sym (slice_cut t a b (min b (length t)) refl) ∙ ap (λ n. take n (drop a t)) (let q : min b (length t) - a ≡ 0 = omega (arith, l) in q)

pub no_text : (t bytes other : List ℕ) (a b e : ℕ) (is_empty : Bool) → bytes ≡ t → e ≡ min b (length bytes) → e < a → is_empty ≡ (length other == 0)
    → MatchBool is_empty (slice_range t a b ≡ other) (slice_range t a b ≢ other)
no_text t bytes other a b e is_empty p m l q = by other is_empty q where
  nothing : slice_range t a b ≡ []
  nothing = sym (ap (λ w. slice_range w a b) p) ∙ slice_past bytes a b (omega (arith, m, l))

  by : (other : List ℕ) (is_empty : Bool) → is_empty ≡ (length other == 0) → MatchBool is_empty (slice_range t a b ≡ other) (slice_range t a b ≢ other)
  by [] true q = nothing
  by [] false q = absurd (true≢false (sym q))
  by (o ∷ os) true q = absurd (true≢false (q ∙ not_zero (length os)))
  by (o ∷ os) false q = λ h. no_cons {A = ℕ} (sym nothing ∙ h)

module _ (t bytes other others : List ℕ) (a b e : ℕ) (p : bytes ≡ t) (q : others ≡ other) (m : e ≡ min b (length bytes)) where
  cut : take (e - a) (drop a bytes) ≡ slice_range t a b
  cut = slice_cut bytes a b e m ∙ ap (λ w. slice_range w a b) p

  pub text_is : take (e - a) (drop a bytes) ≡ others → slice_range t a b ≡ other
  text_is h = sym cut ∙ h ∙ q

  pub text_is_not : take (e - a) (drop a bytes) ≢ others → slice_range t a b ≢ other
  text_is_not n h = n (cut ∙ h ∙ sym q)

-- a collection is at fault

module _ (src : Table) (c : LayoutSetting) (x : Node) (inside : Span) where
  wanted_empty : is_filled_flow x ≡ false → wanted_text src.text c x ≡ Some (bare c.style x)
  wanted_empty f = ap (λ b. if b then kept_text_of src.text c x else Some (bare c.style x)) f

  wanted_filled : is_filled_flow x ≡ true → wanted_text src.text c x ≡ kept_text_of src.text c x
  wanted_filled f = ap (λ b. if b then kept_text_of src.text c x else Some (bare c.style x)) f

  pub empty_same : is_filled_flow x ≡ false → slice_range src.text inside.start inside.end ≡ bare c.style x → IsDisplaced src c x inside → ⊥
  empty_same f e (other_text n) = n (wanted_empty f ∙ ap (λ w. Some w) (sym e))
  empty_same f e (too_wide g b) = true≢false (sym g ∙ f)

  pub empty_other : is_filled_flow x ≡ false → slice_range src.text inside.start inside.end ≢ bare c.style x → IsDisplaced src c x inside
  empty_other f n = other_text (λ e. n (same_Some _ _ (sym e ∙ wanted_empty f)))

  pub kept_same : (text : List ℕ) (b : Bool) → is_filled_flow x ≡ true → Some text ≡ kept_text_of src.text c x → slice_range src.text inside.start inside.end ≡ text
      → MatchBool b (EndsPastLimit src c.style.max_line inside.end) (EndsPastLimit src c.style.max_line inside.end → ⊥)
      → MatchBool b (IsDisplaced src c x inside) (IsDisplaced src c x inside → ⊥)
  kept_same text true f k e m = too_wide f m
  kept_same text false f k e m = by where
    by : IsDisplaced src c x inside → ⊥
    by (other_text n) = n (wanted_filled f ∙ sym k ∙ ap (λ w. Some w) (sym e))
    by (too_wide g b) = m b

  pub kept_other : (text : List ℕ) → is_filled_flow x ≡ true → Some text ≡ kept_text_of src.text c x → slice_range src.text inside.start inside.end ≢ text → IsDisplaced src c x inside
  kept_other text f k n = other_text (λ e. n (same_Some _ _ (sym e ∙ wanted_filled f ∙ sym k)))

  pub not_kept : is_filled_flow x ≡ true → None ≡ kept_text_of src.text c x → IsDisplaced src c x inside
  not_kept f k = other_text (λ e. some_none (sym e ∙ wanted_filled f ∙ sym k))

-- brackets

brackets_there : (t : List ℕ) (x : Node) (s : Span) → is_flow x ≡ true → brackets t (event_of x) (Some s) ≡ Some (bracketed t (props_of x) s)
brackets_there t (scalar at props style text lines) s h = absurd (true≢false (sym h))
brackets_there t (alias at name) s h = absurd (true≢false (sym h))
brackets_there t (sequence at true props items) s h = refl
brackets_there t (sequence at false props items) s h = absurd (true≢false (sym h))
brackets_there t (mapping at true props pairs) s h = refl
brackets_there t (mapping at false props pairs) s h = absurd (true≢false (sym h))

brackets_begin : (t : List ℕ) (e : EventValue) (o : Option Span) (inside : Span) → brackets t e o ≡ Some inside → (starts_flow e ≡ true) × (s : Span) × (o ≡ Some s)
brackets_begin t (sequence_starts true props) (Some s) inside h = (refl, s, refl)
brackets_begin t (sequence_starts true props) None inside h = absurd (none_some h)
brackets_begin t (sequence_starts false props) o inside h = absurd (none_some h)
brackets_begin t (mapping_starts true props) (Some s) inside h = (refl, s, refl)
brackets_begin t (mapping_starts true props) None inside h = absurd (none_some h)
brackets_begin t (mapping_starts false props) o inside h = absurd (none_some h)
brackets_begin t stream_starts o inside h = absurd (none_some h)
brackets_begin t stream_ends o inside h = absurd (none_some h)
brackets_begin t (document_starts marked) o inside h = absurd (none_some h)
brackets_begin t (document_ends closed) o inside h = absurd (none_some h)
brackets_begin t sequence_ends o inside h = absurd (none_some h)
brackets_begin t mapping_ends o inside h = absurd (none_some h)
brackets_begin t (scalar_node props style text) o inside h = absurd (none_some h)
brackets_begin t (alias_node name) o inside h = absurd (none_some h)

-- the flow collection with that span, which the event of the index i begins
pub record Bracketed (src : Table) (r : Lists) (i : ℕ) (inside : Span) : Type 0 where
  pub x : Node
  pub s : Span
  pub node : NodeAt r.events i x
  pub flow : is_flow x ≡ true
  pub span : (standing x).span ≡ Some s
  pub is : inside ≡ bracketed src.text (props_of x) s

pub begins_no_flow : (t : List ℕ) (e : EventValue) (span : Option Span) → starts_flow e ≡ false → None ≡ brackets t e span
begins_no_flow t stream_starts span f = refl
begins_no_flow t stream_ends span f = refl
begins_no_flow t (document_starts marked) span f = refl
begins_no_flow t (document_ends closed) span f = refl
begins_no_flow t (sequence_starts true props) span f = absurd (true≢false f)
begins_no_flow t (sequence_starts false props) span f = refl
begins_no_flow t sequence_ends span f = refl
begins_no_flow t (mapping_starts true props) span f = absurd (true≢false f)
begins_no_flow t (mapping_starts false props) span f = refl
begins_no_flow t mapping_ends span f = refl
begins_no_flow t (scalar_node props style text) span f = refl
begins_no_flow t (alias_node name) span f = refl

pub no_brackets : (src : Table) (r : Lists) (i : ℕ)
    → ((e : EventValue) (o : Option Span) → slice_get (events_of r) i ≡ Some e → slice_get (spans_of r) i ≡ Some o → None ≡ brackets src.text e o)
    → (house : Style) (offset : ℕ) → LayoutFault src r house i offset → ⊥
no_brackets src r i f house offset (displaced {x = x} {s = s} outer span d) =
    some_none (sym (brackets_there src.text x s outer.flow) ∙ ap (λ z. brackets src.text (event_of x) z) (sym span)
    ∙ sym (f (event_of x) (standing x).span (event_there outer.node) (span_there outer.node)))

pub displaced_within : {src : Table} {r : Lists} {house : Style} {i o : ℕ} → LayoutFault src r house i o → i < length r.events
displaced_within {r = r} {i = i} (displaced {x = x} outer span d) =
    let w = slice_get_within (events_of r) i (event_of x) (event_there outer.node) in omega (arith, w, length-map r.events (λ e. e.event))

module _ (src : Table) (r : Lists) (house : Style) (i : ℕ) where
  module _ (e : EventValue) (o : Option Span) (v : slice_get (events_of r) i ≡ Some e) (p : slice_get (spans_of r) i ≡ Some o) where
    bracketed_at : (trees : List DocumentTree) (inside : Span) → TreesOf r trees → brackets src.text e o ≡ Some inside → Bracketed src r i inside
    bracketed_at trees inside t n =
        let b = brackets_begin src.text e o inside n in
        let f = flow_begun r trees i e t v b.0 in
        let same : e ≡ event_of f.0 = same_Some _ _ (sym v ∙ event_there f.1) in
        record {
          x = f.0;
          s = b.1;
          node = f.1;
          flow = f.2;
          span = same_Some _ _ (sym (span_there f.1) ∙ p) ∙ b.2;
          is = same_Some _ _ (sym n ∙ ap (λ z. brackets src.text z o) same ∙ ap (λ z. brackets src.text (event_of f.0) z) b.2 ∙ brackets_there src.text f.0 b.1 f.2);
        }

  pub brackets_begun : (trees : List DocumentTree) (inside : Span) → TreesOf r trees → i < length r.events
      → ((e : EventValue) (o : Option Span) → slice_get (events_of r) i ≡ Some e → slice_get (spans_of r) i ≡ Some o → Some inside ≡ brackets src.text e o)
      → Bracketed src r i inside
  brackets_begun trees inside t l f =
      let v = item_at (events_of r) i (omega (arith, l, length-map r.events (λ e. e.event))) in
      let p = item_at (spans_of r) i (omega (arith, l, length-map r.events (λ e. e.span))) in
      bracketed_at v.0 p.0 v.1 p.1 trees inside t (sym (f v.0 p.0 v.1 p.1))

  module _ (inside : Span) (b : Bracketed src r i inside) where
    same_place : {x : Node} {s : Span} → NodeAt r.events i x → (standing x).span ≡ Some s → bracketed src.text (props_of x) s ≡ inside
    same_place {x} {s} n q =
        let node : x ≡ b.x = same_node n b.node in
        let span : s ≡ b.s = same_Some _ _ (sym q ∙ ap (λ z. (standing z).span) node ∙ b.span) in
        ap (λ z. bracketed src.text (props_of z) s) node ∙ ap (λ z. bracketed src.text (props_of b.x) z) span ∙ sym b.is

    pub displaced_here : IsOutsideFlow r.events i → IsDisplaced src (setting_of r house) b.x inside → Sole (LayoutFault src r house i) inside.start
    displaced_here o d = record {
      holds = subst (λ z. LayoutFault src r house i z.start) (sym b.is)
          (displaced (record { node = b.node; flow = b.flow; outer = o }) b.span (subst (λ z. IsDisplaced src (setting_of r house) b.x z) b.is d));
      only = λ offset q. only offset q;
    } where
      only : (offset : ℕ) → LayoutFault src r house i offset → offset ≡ inside.start
      only offset (displaced outer span w) = ap (λ (z : Span). z.start) (same_place outer.node span)

    pub not_displaced : (IsDisplaced src (setting_of r house) b.x inside → ⊥) → (offset : ℕ) → LayoutFault src r house i offset → ⊥
    not_displaced n offset (displaced {x = x} outer span w) =
        n (subst (λ z. IsDisplaced src (setting_of r house) z inside) (same_node outer.node b.node)
        (subst (λ z. IsDisplaced src (setting_of r house) x z) (same_place outer.node span) w))

  pub not_outside : (trees : List DocumentTree) (done : ℕ) → TreesOf r trees → FlowsDone r.events i done → i ≤ done → (offset : ℕ) → LayoutFault src r house i offset → ⊥
  not_outside trees done t f l offset (displaced {x = x} outer span w) =
      ⊎_elim (λ (z : 0 < i). is_inside f z l outer.outer)
      (λ (z : i ≤ 0). none_first r trees x t (subst (λ k. NodeAt r.events k x) (let q : i ≡ 0 = omega (arith, z) in q) outer.node))
      (cases_lt 0 i)

-- the column of the closing bracket

pub in_time : (src : Table) (max_line end : ℕ) (place : Position) {at : ℕ} → at ≡ end - 1
    → ((line column : ℕ) → PlaceOf src.text at line column → (line ≡ place.line) × (column ≡ place.column)) → place.column ≤ max_line → EndsPastLimit src max_line end → ⊥
in_time src max_line end place e only l (follows {line = line} {column = column} p h) =
    let q = (only line column (subst (λ o. PlaceOf src.text o line column) (sym e) p)).1 in
    omega (arith, q, l, h)

pub no_place : (src : Table) (max_line end : ℕ) (t : List ℕ) {at : ℕ} → t ≡ src.text → IsUtf8 t → (IsCharBoundary t at → ⊥) → at ≡ end - 1 → 40 ≤ max_line
    → EndsPastLimit src max_line end → ⊥
no_place src max_line end t {at} same u n e l (follows {line = line} {column = column} p h) =
    ⊎_elim (λ (q : column ≡ 1). omega (arith, q, l, h)) n
    (column_one u (subst (λ w. PlaceOf w at line column) (sym same) (subst (λ o. PlaceOf src.text o line column) (sym e) p)))
