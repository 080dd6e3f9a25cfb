-- The normal form of a tree that is in a text: its items rise, and no comment is among those of a node on one line,
-- from its first leaf on.
use Rattle.std.proofs.Common.{◌≡◌, ◌≢◌, ℕ, ◌≤◌, Bool, true, false, true≢false, not, ◌&&◌, List, [], ◌∷◌, ◌++◌, Option, Some, None, refl, sym, ap, ◌∙◌, subst, arith}
use Rattle.std.specs.Prelude.{nat_le, nat_lt, if◌then◌else◌}
use Rattle.std.specs.List.{list_any}
use Rattle.std.specs.Str.{IsUtf8}
use Rattle.std.proofs.lemmas.Bool.Decides.{nat_tests}
use Rattle.std.proofs.lemmas.Bool.{or_parts}
use Rattle.yf_chars.specs.Text.{code}
use Rattle.yf_comments.specs.Comment.{CommentValue}
use Rattle.yf_props.specs.Props.{PropsValue}
use Rattle.yf_events.specs.declared.event.Entry.{Entry}
use Rattle.yf_events.specs.declared.event.ScalarStyle.{ScalarStyle}
use Rattle.yf_events.specs.declared.event.Span.{Span}
use Rattle.yf_events.specs.Tree.{NodeOffsets, Node, scalar, alias, sequence, mapping, Items, no_items, item, Pairs, no_pairs, pair, items_in, leaves, leaves_of_items, leaves_of_pairs, standing}
use Rattle.yf_grammar.specs.Productions.Meaning.{from_to}
use Rattle.yf_grammar.proofs.Ends.GapLemmas.{Visible}
use Rattle.yf_grammar.proofs.NodesInText.NodePlaces.{Opens, NodeIsAt, is_at_nowhere, scalar_is_at, alias_is_at, sequence_is_at, mapping_is_at, ItemsStand, no_items_stand, item_is_at, PairsStand, no_pairs_stand, pair_is_at}
use Rattle.yf_forms.specs.Nodes.ContentStart.{content_start}
use Rattle.yf_forms.specs.Nodes.OneLineFlows.{has_comment, is_within, items_may_be_kept, may_be_kept, pairs_may_be_kept}
use Rattle.yf_forms.specs.NormalForms.Normal.{LayoutSetting, Margins, fits, inner_margins, key_margins, settled, settled_items, settled_pairs, styled, styled_items, styled_pairs, value_margins}
use Rattle.yf_print.specs.Layouts.Rows.{colon_offset}
use Rattle.yf_laws.proofs.SameReading.CommentsCut.{In, in_first, in_rest}
use Rattle.yf_laws.proofs.Writable.ContentFound.{content_found}
use Rattle.yf_laws.proofs.SameReading.FoundAgain.{Unsigned}
use Rattle.yf_laws.proofs.SameReading.ItemsOrder.{items_items, pairs_items, items_unsigned, pairs_unsigned, unsigned_at, leaves_among, styled_items_in}
use Rattle.yf_laws.proofs.OfTexts.MarksOrder.{Rises, colon_rises}
use Rattle.yf_laws.proofs.NormalForms.NormalSame.{settled_same, styled_same}
use Rattle.yf_laws.proofs.SameReading.RowFlow.{Sub}
use Rattle.yf_laws.proofs.Derived.StepsInText.{starts_of}
use Rattle.yf_laws.proofs.Trails.StillHolds.{first_two, first_of_three}

-- no comment begins there
abbrev pub Free : List CommentValue → ℕ → Type 0
Free cs o = (d : CommentValue) → In d cs → d.offset ≢ o

-- a leaf with characters
pub record LeafSits (cs : List CommentValue) (i j : ℕ) (at : NodeOffsets) : Type 0 where
  pub span : Span
  pub is : at.span ≡ Some span
  pub from : i ≤ span.start
  pub to : span.start ≤ j
  pub free : Free cs span.start

-- a flow collection on one line: no comment is between the start of its content and its end
pub record LineSits (cs : List CommentValue) (k b : ℕ) (x : Node) : Type 0 where
  pub rises : Rises k (items_in x) b
  pub among : Sub (starts_of (leaves x)) (items_in x)
  pub none : (d : CommentValue) → In d cs → k ≤ d.offset → b ≤ d.offset
  pub free : (o : ℕ) → Sub (o ∷ []) (starts_of (leaves x)) → Free cs o
  pub first : Span
  pub others : List Span
  pub some : leaves x ≡ first ∷ others

mutual
  -- between two offsets
  pub data NodeSits (cs : List CommentValue) : ℕ → ℕ → Node → Type 0 where
    nothing_sits : {i j : ℕ} {at : NodeOffsets} {props : PropsValue} {style : ScalarStyle} {text : List ℕ} {lines : List (List ℕ)} → i ≤ j → at.span ≡ None → NodeSits cs i j (scalar at props style text lines)
    scalar_sits : {i j : ℕ} {at : NodeOffsets} {props : PropsValue} {style : ScalarStyle} {text : List ℕ} {lines : List (List ℕ)} → LeafSits cs i j at → NodeSits cs i j (scalar at props style text lines)
    alias_sits : {i j : ℕ} {at : NodeOffsets} {name : List ℕ} → LeafSits cs i j at → NodeSits cs i j (alias at name)
    empty_sequence_sits : {i j : ℕ} {at : NodeOffsets} {flow : Bool} {props : PropsValue} → LeafSits cs i j at → NodeSits cs i j (sequence at flow props no_items)
    empty_mapping_sits : {i j : ℕ} {at : NodeOffsets} {flow : Bool} {props : PropsValue} → LeafSits cs i j at → NodeSits cs i j (mapping at flow props no_pairs)
    sequence_on_line : {i k b j : ℕ} {at : NodeOffsets} {props : PropsValue} {x : Node} {xs : Items} → i ≤ k → LineSits cs k b (sequence at true props (item x xs)) → b ≤ j
        → NodeSits cs i j (sequence at true props (item x xs))
    mapping_on_line : {i k b j : ℕ} {at : NodeOffsets} {props : PropsValue} {x v : Node} {ps : Pairs} → i ≤ k → LineSits cs k b (mapping at true props (pair x v ps)) → b ≤ j
        → NodeSits cs i j (mapping at true props (pair x v ps))
    sequence_in_block : {i k b j : ℕ} {at : NodeOffsets} {props : PropsValue} {x : Node} {xs : Items} → i ≤ k → ItemsSit cs k b (item x xs) → b ≤ j
        → NodeSits cs i j (sequence at false props (item x xs))
    mapping_in_block : {i k b j : ℕ} {at : NodeOffsets} {props : PropsValue} {x v : Node} {ps : Pairs} → i ≤ k → PairsSit cs k b (pair x v ps) → b ≤ j
        → NodeSits cs i j (mapping at false props (pair x v ps))

  pub data ItemsSit (cs : List CommentValue) : ℕ → ℕ → Items → Type 0 where
    no_items_sit : {i j : ℕ} → i ≤ j → ItemsSit cs i j no_items
    item_sits : {i k j : ℕ} {x : Node} {xs : Items} (e : Entry) → (standing x).entry ≡ Some e → i ≤ e.start → NodeSits cs e.start k x → ItemsSit cs k j xs → ItemsSit cs i j (item x xs)

  pub data PairsSit (cs : List CommentValue) : ℕ → ℕ → Pairs → Type 0 where
    no_pairs_sit : {i j : ℕ} → i ≤ j → PairsSit cs i j no_pairs
    pair_sits : {i l m n j : ℕ} {k v : Node} {ps : Pairs} (e : Entry) → (standing k).entry ≡ Some e → i ≤ e.start → Free cs e.start → NodeSits cs e.start l k
        → Rises l (colon_offset (standing k).entry) m → NodeSits cs m n v → PairsSit cs n j ps → PairsSit cs i j (pair k v ps)

-- A flow collection that may be kept on one line has a leaf.

record HasLeaf (x : Node) : Type 0 where
  first : Span
  others : List Span
  is : leaves x ≡ first ∷ others

third : (f n a b : Bool) → (f && not n && a && b) ≡ true → a ≡ true
third true false true b e = refl
third true false false b e = absurd (true≢false (sym e))
third true true a b e = absurd (true≢false (sym e))
third false n a b e = absurd (true≢false (sym e))

third_of_five : (f n a b c : Bool) → (f && not n && a && b && c) ≡ true → a ≡ true
third_of_five true false true b c e = refl
third_of_five true false false b c e = absurd (true≢false (sym e))
third_of_five true true a b c e = absurd (true≢false (sym e))
third_of_five false n a b c e = absurd (true≢false (sym e))

kept_leaf : {t : List ℕ} {i j : ℕ} (cs : List CommentValue) {x : Node} → NodeIsAt t i j x → may_be_kept t cs x ≡ true → HasLeaf x
unfolding from_to
kept_leaf cs (is_at_nowhere m e) k = absurd (true≢false (sym k))
kept_leaf cs (scalar_is_at {a = a} {b = b} {at = at} {props = props} {style = style} {text = text} {lines = lines} e g l m w s) k =
    record { first = record { start = a; end = b }; others = []; is = rw e refl }
kept_leaf cs (alias_is_at {a = a} {b = b} e g l m s) k = record { first = record { start = a; end = b }; others = []; is = rw e refl }
kept_leaf cs (sequence_is_at {a = a} {b = b} e g (no_items_stand l) m s) k = record { first = record { start = a; end = b }; others = []; is = rw e refl }
kept_leaf {t} cs (sequence_is_at {at = at} {flow = flow} {props = props} e g (item_is_at {x = x} {xs = xs} f q l a r) m s) k =
    let w = kept_leaf cs a (third flow (has_comment t cs at.span props) (may_be_kept t cs x) (items_may_be_kept t cs xs) k) in
    record { first = w.first; others = w.others ++ leaves_of_items xs; is = ap (λ z. z ++ leaves_of_items xs) w.is }
kept_leaf cs (mapping_is_at {a = a} {b = b} e g (no_pairs_stand l) m s) k = record { first = record { start = a; end = b }; others = []; is = rw e refl }
kept_leaf {t} cs (mapping_is_at {at = at} {flow = flow} {props = props} e g (pair_is_at {k = x} {v = v} {ps = ps} f q l a d h r) m s) k =
    let w = kept_leaf cs a (third_of_five flow (has_comment t cs at.span props) (may_be_kept t cs x) (may_be_kept t cs v) (pairs_may_be_kept t cs ps) k) in
    record { first = w.first; others = w.others ++ (leaves v ++ leaves_of_pairs ps); is = ap (λ z. z ++ (leaves v ++ leaves_of_pairs ps)) w.is }

-- It has no comment in it.

not_there : (k b n : ℕ) → (nat_le k n && nat_lt n b) ≡ false → k ≤ n → b ≤ n
not_there k b n e l = grind (arith, nat_tests)

none_within : (d : CommentValue) {cs : List CommentValue} (k b : ℕ) → list_any (is_within k b) cs ≡ false → In d cs → k ≤ d.offset → b ≤ d.offset
none_within d k b e (in_first {cs = cs}) = not_there k b d.offset (or_parts (is_within k b d) (list_any (is_within k b) cs) e).0
none_within d k b e (in_rest {c = c} {cs = cs} i) = none_within d k b (or_parts (is_within k b c) (list_any (is_within k b) cs) e).1 i

module _ {t : List ℕ} (u : IsUtf8 t) (cs : List CommentValue) (sign : (d : CommentValue) → In d cs → code t d.offset ≡ 35) where
  pub free_at : {o : ℕ} → code t o ≢ 35 → Free cs o
  free_at v d i e = v (sym (ap (code t) e) ∙ sign d i)

  leaf_sits : {i j : ℕ} {at : NodeOffsets} (a b : ℕ) → at.span ≡ from_to a b → i ≤ a → a ≤ j → Visible t a → LeafSits cs i j at
  unfolding from_to
  leaf_sits a b e l m v = record { span = record { start = a; end = b }; is = e; from = l; to = m; free = free_at v.no_hash }

  -- x is the collection in the house style, y as it was read
  line_sits : {flow : Bool} {props : PropsValue} {i a k b : ℕ} {o : Option Span} (x y : Node) → o ≡ from_to a b → Opens t flow props i a k b → flow ≡ true → has_comment t cs o props ≡ false
      → Rises k (items_in y) b → Unsigned t (starts_of (leaves y)) → HasLeaf y → items_in x ≡ items_in y → leaves x ≡ leaves y → LineSits cs k b x
  unfolding from_to
  line_sits {props = props} {a = a} {k = k} {b = b} x y e opens q n r w h same_items same_leaves =
      let there : content_start t (record { start = a; end = b }) props ≡ k = content_found u b (opens.content q) opens.wide in
      let none : list_any (is_within k b) cs ≡ false = ap (λ z. list_any (is_within z b) cs) (sym there) ∙ (ap (λ v. has_comment t cs v props) (sym e) ∙ n) in
      record {
        rises = subst (λ z. Rises k z b) (sym same_items) r;
        among = leaves_among x;
        none = λ d i. none_within d k b none i;
        free = λ o s. free_at (unsigned_at w (subst (λ z. Sub (o ∷ []) (starts_of z)) same_leaves s));
        first = h.first;
        others = h.others;
        some = same_leaves ∙ h.is;
      }

-- Collections with entries: on one line, or not.

record OnLine (cs : List CommentValue) (i j : ℕ) (x : Node) : Type 0 where
  from : ℕ
  to : ℕ
  low : i ≤ from
  line : LineSits cs from to x
  high : to ≤ j

sequence_sits : (c : LayoutSetting) (margins : Margins) (at : NodeOffsets) (k : Bool) (props : PropsValue) (x : Node) (xs : Items) {i n m j : ℕ}
    → (k ≡ true → OnLine c.comments i j (sequence at true props (item x xs))) → i ≤ n → ItemsSit c.comments n m (settled_items c margins.entries (item x xs)) → m ≤ j
    → NodeSits c.comments i j (settled c margins (sequence at k props (item x xs)))
sequence_sits c margins at false props x xs f l g m = sequence_in_block l g m
sequence_sits c margins at true props x xs {i} {n} {m} {j} f l g h = by (fits c.style margins.column (sequence at true props (item x xs))) where
  by : (p : Bool) → NodeSits c.comments i j (if p then sequence at true props (item x xs)
      else sequence at false props (item (settled c (inner_margins c.style margins.entries) x) (settled_items c margins.entries xs)))
  by true = let w = f refl in sequence_on_line w.low w.line w.high
  by false = sequence_in_block l g h

mapping_sits : (c : LayoutSetting) (margins : Margins) (at : NodeOffsets) (q : Bool) (props : PropsValue) (k v : Node) (ps : Pairs) {i n m j : ℕ}
    → (q ≡ true → OnLine c.comments i j (mapping at true props (pair k v ps))) → i ≤ n → PairsSit c.comments n m (settled_pairs c margins.entries (pair k v ps)) → m ≤ j
    → NodeSits c.comments i j (settled c margins (mapping at q props (pair k v ps)))
mapping_sits c margins at false props k v ps f l g m = mapping_in_block l g m
mapping_sits c margins at true props k v ps {i} {n} {m} {j} f l g h = by (fits c.style margins.column (mapping at true props (pair k v ps))) where
  by : (p : Bool) → NodeSits c.comments i j (if p then mapping at true props (pair k v ps)
      else mapping at false props (pair (settled c (key_margins c.style margins.entries k) k) (settled c (value_margins c margins.entries k v) v) (settled_pairs c margins.entries ps)))
  by true = let w = f refl in mapping_on_line w.low w.line w.high
  by false = mapping_in_block l g h

-- Normal forms.

module _ {t : List ℕ} (u : IsUtf8 t) (c : LayoutSetting) (sign : (d : CommentValue) → In d c.comments → code t d.offset ≡ 35) where
  settled_standing : (margins : Margins) (x : Node) → standing (settled c margins (styled t c x)) ≡ standing x
  settled_standing margins x = (settled_same c margins (styled t c x)).standing ∙ (styled_same t c x).standing

  mutual
    pub node_sits : {i j : ℕ} {x : Node} (margins : Margins) → NodeIsAt t i j x → NodeSits c.comments i j (settled c margins (styled t c x))
    node_sits margins (is_at_nowhere m e) = nothing_sits m e
    node_sits margins (scalar_is_at e b l m w s) = scalar_sits (leaf_sits u c.comments sign _ _ e b.order (omega (arith, l, m)) b.visible)
    node_sits margins (alias_is_at e b l m s) = alias_sits (leaf_sits u c.comments sign _ _ e b.order (omega (arith, l, m)) b.visible)
    node_sits margins (sequence_is_at e b (no_items_stand l) m s) = empty_sequence_sits (leaf_sits u c.comments sign _ _ e b.order (let n = b.inner in omega (arith, l, m, n)) b.visible)
    node_sits margins (sequence_is_at {at = at} {flow = flow} {props = props} e b (item_is_at {x = x} {xs = xs} f q l a r) m s) =
        let whole : Node = sequence at flow props (item x xs) in
        let start = b.order in
        let inner = b.inner in
        sequence_sits c margins at (may_be_kept t c.comments whole) props (styled t c x) (styled_items t c xs)
        (λ z.
        let parts = first_two flow (has_comment t c.comments at.span props) (may_be_kept t c.comments x) (items_may_be_kept t c.comments xs) z in
        record {
          from = _;
          to = _;
          low = omega (arith, start, inner);
          line = line_sits u c.comments sign (sequence at true props (item (styled t c x) (styled_items t c xs))) whole e b parts.0 parts.1 (items_items (item_is_at f q l a r))
              (items_unsigned (item_is_at f q l a r)) (kept_leaf c.comments (sequence_is_at e b (item_is_at f q l a r) m s) z) (styled_items_in t c whole) (styled_same t c whole).leaves;
          high = m;
        })
        (omega (arith, start, inner)) (items_sit margins.entries (item_is_at f q l a r)) m
    node_sits margins (mapping_is_at e b (no_pairs_stand l) m s) = empty_mapping_sits (leaf_sits u c.comments sign _ _ e b.order (let n = b.inner in omega (arith, l, m, n)) b.visible)
    node_sits margins (mapping_is_at {at = at} {flow = flow} {props = props} e b (pair_is_at {k = k} {v = v} {ps = ps} f q l a d g r) m s) =
        let whole : Node = mapping at flow props (pair k v ps) in
        let start = b.order in
        let inner = b.inner in
        mapping_sits c margins at (may_be_kept t c.comments whole) props (styled t c k) (styled t c v) (styled_pairs t c ps)
        (λ z.
        let parts = first_of_three flow (has_comment t c.comments at.span props) (may_be_kept t c.comments k) (may_be_kept t c.comments v)
        (pairs_may_be_kept t c.comments ps) z in
        record {
          from = _;
          to = _;
          low = omega (arith, start, inner);
          line = line_sits u c.comments sign (mapping at true props (pair (styled t c k) (styled t c v) (styled_pairs t c ps))) whole e b parts.0 parts.1 (pairs_items (pair_is_at f q l a d g r))
              (pairs_unsigned (pair_is_at f q l a d g r)) (kept_leaf c.comments (mapping_is_at e b (pair_is_at f q l a d g r) m s) z) (styled_items_in t c whole) (styled_same t c whole).leaves;
          high = m;
        })
        (omega (arith, start, inner)) (pairs_sit margins.entries (pair_is_at f q l a d g r)) m

    items_sit : {i j : ℕ} {xs : Items} (column : ℕ) → ItemsStand t i j xs → ItemsSit c.comments i j (settled_items c column (styled_items t c xs))
    items_sit column (no_items_stand l) = no_items_sit l
    items_sit column (item_is_at {x = x} e q l a r) =
        item_sits e (ap (λ (w : NodeOffsets). w.entry) (settled_standing (inner_margins c.style column) x) ∙ q) l.order (node_sits (inner_margins c.style column) a) (items_sit column r)

    pairs_sit : {i j : ℕ} {ps : Pairs} (column : ℕ) → PairsStand t i j ps → PairsSit c.comments i j (settled_pairs c column (styled_pairs t c ps))
    pairs_sit column (no_pairs_stand l) = no_pairs_sit l
    pairs_sit column (pair_is_at {k = k} {v = v} e q l a d g r) =
        let margins : Margins = key_margins c.style column (styled t c k) in
        let key = ap (λ (w : NodeOffsets). w.entry) (settled_standing margins k) ∙ q.key in
        pair_sits e key l.order (free_at u c.comments sign l.visible.no_hash) (node_sits margins a) (colon_rises e key d)
        (node_sits (value_margins c column (styled t c k) (styled t c v)) g) (pairs_sit column r)
