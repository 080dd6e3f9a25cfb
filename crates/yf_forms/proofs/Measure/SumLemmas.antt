-- The width of a collection's text, node by node.
use Rattle.std.proofs.Common.{◌≡◌, ℕ, ◌+◌, Bool, true, false, not, ◌&&◌, if◌then◌else◌, List, [], ◌∷◌, ◌++◌, length, Option, Some, None, refl, sym, ap, ◌∙◌, append_assoc, append-nil}
use Rattle.std.specs.Str.{chars, IsUtf8}
use Rattle.std.proofs.lemmas.Bool.{and_parts}
use Rattle.std.proofs.lemmas.Str.{IsUtf8-append, IsUtf8-nil}
use Rattle.yf_events.specs.declared.event.ScalarStyle.{ScalarStyle}
use Rattle.yf_events.specs.declared.event.ScalarStyle.TheVariants.{Plain, Single, Double, Literal, Folded}
use Rattle.yf_props.specs.Props.{PropsValue}
use Rattle.yf_lines.specs.declared.quotes.Quotes.{Quotes}
use Rattle.yf_quoted.specs.Written.{quotes_in}
use Rattle.yf_forms.specs.declared.form.ended.Ended.{Ended}
use Rattle.yf_forms.specs.declared.form.collection.Open.{Open}
use Rattle.yf_forms.specs.Nodes.OneLineFlows.{may_be_kept, items_may_be_kept, pairs_may_be_kept}
use Rattle.yf_forms.specs.NormalForms.Measures.{up_to_greatest, width_if, leaf_indices, leaf_indices_of_items, leaf_indices_of_pairs, first_of, last_of, measure_of}
use Rattle.yf_forms.specs.Passes.MeasurePass.{or_else, sum_of, with_node, zero_if, have_texts}
use Rattle.yf_forms.specs.NormalForms.Normal.{LayoutSetting, styled, styled_items, styled_pairs}
use Rattle.yf_forms.specs.Nodes.OneLine.{width, written, more_items, more_pairs, colon_after}
use Rattle.yf_events.specs.Tree.{NodeOffsets, Node, scalar, alias, sequence, mapping, Items, no_items, item, Pairs, no_pairs, pair, flat, flat_items, flat_pairs}
use Rattle.yf_forms.specs.Nodes.ScalarStyles.{lines_in, wanted, quoted_in, style_in}
use Rattle.yf_forms.proofs.Texts.WidthLemmas.{cut_both, width_join, utf8_head}
use Rattle.yf_forms.proofs.Texts.TreeTexts.{written_utf8, colon_utf8, texts_join, pair_texts}
use Rattle.yf_forms.proofs.ListLemmas.{three_lists}

-- a node as seen by the collection around it

abbrev pub is_alias : Node → Bool
is_alias (scalar at props style text lines) = false
is_alias (alias at name) = true
is_alias (sequence at flow props items) = false
is_alias (mapping at flow props pairs) = false

abbrev pub ended_of : List ℕ → LayoutSetting → ℕ → Node → Ended
ended_of t c i x = record {
  measure = measure_of t c i x;
  inside = width_if (may_be_kept t c.comments x) (written c.style (styled t c x));
  is_alias = is_alias x;
}

-- leaves one after another

pub first_join : (is js : List ℕ) → or_else (first_of is) (first_of js) ≡ first_of (is ++ js)
first_join [] js = refl
first_join (i ∷ is) js = refl

pub last_join : (is js : List ℕ) → or_else (last_of js) (last_of is) ≡ last_of (is ++ js)
last_join [] js = nothing (last_of js) where
  nothing : (o : Option ℕ) → or_else o None ≡ o
  nothing None = refl
  nothing (Some i) = refl
last_join (i ∷ []) [] = refl
last_join (i ∷ []) (j ∷ js) = some j js where
  some : (j : ℕ) (js : List ℕ) → or_else (last_of (j ∷ js)) (Some i) ≡ last_of (j ∷ js)
  some j [] = refl
  some j (k ∷ ks) = some k ks
last_join (i ∷ k ∷ is) js = last_join (k ∷ is) js

-- sums of widths

pub sum_join : (a b : Bool) (x y : List ℕ) → IsUtf8 x → sum_of (width_if a x) (width_if b y) ≡ width_if (a && b) (x ++ y)
sum_join true true x y u = ap Some (cut_both (width x) (width y) ∙ ap (λ n. up_to_greatest n) (sym (width_join x y u)))
sum_join true false x y u = refl
sum_join false b x y u = refl

pub nothing_if : width_if true [] ≡ Some 0
unfolding chars
nothing_if = refl

pub comma_if : width_if true (44 ∷ 32 ∷ []) ≡ Some 2
unfolding chars
comma_if = refl

pub colon_if : width_if true (58 ∷ 32 ∷ []) ≡ Some 2
unfolding chars
colon_if = refl

pub space_if : width_if true (32 ∷ []) ≡ Some 1
unfolding chars
space_if = refl

pub same_if : (b : Bool) {x y : List ℕ} → (b ≡ true → x ≡ y) → width_if b x ≡ width_if b y
same_if true e = ap (λ w. width_if true w) (e refl)
same_if false e = refl

pub true_right : (b : Bool) → (b && true) ≡ b
true_right true = refl
true_right false = refl

pub and_assoc : (a b c : Bool) → ((a && b) && c) ≡ (a && (b && c))
and_assoc true b c = refl
and_assoc false b c = refl

-- one more node: the text before it, the node, and the text after it
pub one_more : (b k : Bool) (y before w follows : List ℕ) → IsUtf8 y → IsUtf8 before → IsUtf8 w
    → sum_of (width_if b y) (sum_of (width_if true before) (sum_of (width_if k w) (width_if true follows)))
    ≡ width_if (b && k) (y ++ (before ++ (w ++ follows)))
one_more b k y before w follows u v z =
    let e1 : sum_of (width_if k w) (width_if true follows) ≡ width_if k (w ++ follows) =
    sum_join k true w follows z ∙ ap (λ a. width_if a (w ++ follows)) (true_right k) in
    let e2 : sum_of (width_if true before) (sum_of (width_if k w) (width_if true follows)) ≡ width_if k (before ++ (w ++ follows)) =
    ap (λ s. sum_of (width_if true before) s) e1 ∙ sum_join true k before (w ++ follows) v in
    ap (λ s. sum_of (width_if b y) s) e2 ∙ sum_join b k y (before ++ (w ++ follows)) u

-- collections with a node or more: the text so far, if they may be kept, and the leaves so far
abbrev pub filled : ℕ → Bool → ℕ → Bool → Bool → List ℕ → List ℕ → Open
filled i is_map props_width is_key b y ls = record {
  start = i;
  is_map = is_map;
  props_width = props_width;
  sum = width_if b y;
  is_empty = false;
  is_key = is_key;
  first_leaf = first_of ls;
  last_leaf = last_of ls;
}

same_collection : (i : ℕ) (is_map : Bool) (w : ℕ) (is_key : Bool) {s r : Option ℕ} {f g : Option ℕ} {l m : Option ℕ} → s ≡ r → f ≡ g → l ≡ m
    → ◌≡◌ {A = Open} (record { start = i; is_map = is_map; props_width = w; sum = s; is_empty = false; is_key = is_key; first_leaf = f; last_leaf = l })
    (record { start = i; is_map = is_map; props_width = w; sum = r; is_empty = false; is_key = is_key; first_leaf = g; last_leaf = m })
same_collection i is_map w is_key a b c =
    λ j. record { start = i; is_map = is_map; props_width = w; sum = a j; is_empty = false; is_key = is_key; first_leaf = b j; last_leaf = c j }

pub same_filled : (i : ℕ) (m : Bool) (w : ℕ) (q : Bool) {a b : Bool} {y z ls ms : List ℕ} → a ≡ b → (b ≡ true → y ≡ z) → ls ≡ ms
    → filled i m w q a y ls ≡ filled i m w q b z ms
same_filled i m w q {a} {b} {y} {z} e f g =
    same_collection i m w q (ap (λ k. width_if k y) e ∙ same_if b f) (ap first_of g) (ap last_of g)

-- the space after an alias that is a key
abbrev pub space : Bool → List ℕ
space true = 32 ∷ []
space false = []

space_count : (b : Bool) → Some (if b then 1 else 0) ≡ width_if true (space b)
space_count true = sym space_if
space_count false = sym nothing_if

pub first_node_in : (t : List ℕ) (c : LayoutSetting) (i start w : ℕ) (m q f : Bool) (x : Node) → IsUtf8 (written c.style (styled t c x))
    → with_node (record { start = start; is_map = m; props_width = w; sum = zero_if f; is_empty = true; is_key = q; first_leaf = None; last_leaf = None })
    (ended_of t c i x)
    ≡ filled start m w (m && not q) (f && may_be_kept t c.comments x) (written c.style (styled t c x) ++ space (q && is_alias x)) (leaf_indices i x)
first_node_in t c i start w m q f x u = same_collection start m w (m && not q) (sums f) refl (lasts (last_of (leaf_indices i x))) where
  lasts : (o : Option ℕ) → or_else o None ≡ o
  lasts None = refl
  lasts (Some i) = refl

  sums : (f : Bool) → sum_of (zero_if f) (sum_of (Some 0) (sum_of (width_if (may_be_kept t c.comments x) (written c.style (styled t c x))) (Some (if q && is_alias x then 1 else 0))))
      ≡ width_if (f && may_be_kept t c.comments x) (written c.style (styled t c x) ++ space (q && is_alias x))
  sums false = refl
  sums true =
      ap (λ s. sum_of (Some 0) (sum_of (Some 0) (sum_of (width_if (may_be_kept t c.comments x) (written c.style (styled t c x))) s))) (space_count (q && is_alias x))
      ∙ ap (λ s. sum_of s (sum_of s (sum_of (width_if (may_be_kept t c.comments x) (written c.style (styled t c x))) (width_if true (space (q && is_alias x)))))) (sym nothing_if)
      ∙ one_more true (may_be_kept t c.comments x) [] [] (written c.style (styled t c x)) (space (q && is_alias x)) IsUtf8-nil IsUtf8-nil u

pub next_node_in : (t : List ℕ) (c : LayoutSetting) (i start w : ℕ) (m q b : Bool) (y before ls : List ℕ) (x : Node) → IsUtf8 y → IsUtf8 before
    → width_if true before ≡ Some 2 → IsUtf8 (written c.style (styled t c x))
    → with_node (filled start m w q b y ls) (ended_of t c i x)
    ≡ filled start m w (m && not q) (b && may_be_kept t c.comments x) (y ++ (before ++ (written c.style (styled t c x) ++ space (q && is_alias x))))
    (ls ++ leaf_indices i x)
next_node_in t c i start w m q b y before ls x v z two u =
    same_collection start m w (m && not q) sums (first_join ls (leaf_indices i x)) (last_join ls (leaf_indices i x)) where
      sums : sum_of (width_if b y) (sum_of (Some 2) (sum_of (width_if (may_be_kept t c.comments x) (written c.style (styled t c x))) (Some (if q && is_alias x then 1 else 0))))
          ≡ width_if (b && may_be_kept t c.comments x) (y ++ (before ++ (written c.style (styled t c x) ++ space (q && is_alias x))))
      sums =
          ap (λ s. sum_of (width_if b y) (sum_of s (sum_of (width_if (may_be_kept t c.comments x) (written c.style (styled t c x))) (Some (if q && is_alias x then 1 else 0))))) (sym two)
          ∙ ap (λ s. sum_of (width_if b y) (sum_of (width_if true before) (sum_of (width_if (may_be_kept t c.comments x) (written c.style (styled t c x))) s))) (space_count (q && is_alias x))
          ∙ one_more b (may_be_kept t c.comments x) y before (written c.style (styled t c x)) (space (q && is_alias x)) v z u

comma_utf8 : IsUtf8 (44 ∷ 32 ∷ [])
comma_utf8 = utf8_head 44 _ refl (utf8_head 32 _ refl IsUtf8-nil)

colon_sign_utf8 : IsUtf8 (58 ∷ 32 ∷ [])
colon_sign_utf8 = utf8_head 58 _ refl (utf8_head 32 _ refl IsUtf8-nil)

-- items

pub first_item_in : (t : List ℕ) (c : LayoutSetting) (i start w : ℕ) (f : Bool) (x : Node) → IsUtf8 (written c.style (styled t c x))
    → with_node (record { start = start; is_map = false; props_width = w; sum = zero_if f; is_empty = true; is_key = false; first_leaf = None; last_leaf = None })
    (ended_of t c i x)
    ≡ filled start false w false (f && may_be_kept t c.comments x) (written c.style (styled t c x)) (leaf_indices i x)
first_item_in t c i start w f x u =
    first_node_in t c i start w false false f x u ∙ same_filled start false w false refl (λ e. append-nil (written c.style (styled t c x))) refl

pub next_item_in : (t : List ℕ) (c : LayoutSetting) (i start w : ℕ) (b : Bool) (y ls : List ℕ) (x : Node) → IsUtf8 y → IsUtf8 (written c.style (styled t c x))
    → with_node (filled start false w false b y ls) (ended_of t c i x)
    ≡ filled start false w false (b && may_be_kept t c.comments x) (y ++ (44 ∷ 32 ∷ written c.style (styled t c x))) (ls ++ leaf_indices i x)
next_item_in t c i start w b y ls x v u =
    next_node_in t c i start w false false b y (44 ∷ 32 ∷ []) ls x v comma_utf8 comma_if u
    ∙ same_filled start false w false refl (λ e. ap (λ z. y ++ (44 ∷ 32 ∷ z)) (append-nil (written c.style (styled t c x)))) refl

abbrev pub with_items : List ℕ → LayoutSetting → ℕ → Items → Open → Open
with_items t c i no_items o = o
with_items t c i (item x xs) o = with_items t c (i + length (flat x)) xs (with_node o (ended_of t c i x))

pub items_in : (t : List ℕ) (c : LayoutSetting) (i start w : ℕ) (b : Bool) (y ls : List ℕ) (xs : Items) → IsUtf8 y → have_texts (flat_items xs) ≡ true
    → with_items t c i xs (filled start false w false b y ls)
    ≡ filled start false w false (b && items_may_be_kept t c.comments xs) (y ++ more_items c.style (styled_items t c xs)) (ls ++ leaf_indices_of_items i xs)
items_in t c i start w b y ls no_items u e = rw (true_right b, append-nil y, append-nil ls) refl
items_in t c i start w b y ls (item x xs) u e =
    let h = texts_join (flat x) (flat_items xs) e in
    let v = written_utf8 t c x h.0 in
    let z : IsUtf8 (y ++ (44 ∷ 32 ∷ written c.style (styled t c x))) = IsUtf8-append y _ u (utf8_head 44 _ refl (utf8_head 32 _ refl v)) in
    ap (with_items t c (i + length (flat x)) xs) (next_item_in t c i start w b y ls x u v)
    ∙ items_in t c (i + length (flat x)) start w (b && may_be_kept t c.comments x) (y ++ (44 ∷ 32 ∷ written c.style (styled t c x))) (ls ++ leaf_indices i x) xs z h.1
    ∙ same_filled start false w false (and_assoc b _ _) (λ e. append_assoc y _ _) (append_assoc ls _ _)

-- pairs

colon_quoted : (at : NodeOffsets) (props : PropsValue) (q : Quotes) (text : List ℕ) (lines : List (List ℕ))
    → colon_after (scalar at props (style_in q) text lines) ≡ 58 ∷ []
colon_quoted at props Quotes.Single text lines = refl
colon_quoted at props Quotes.Double text lines = refl

colon_filled : (at : NodeOffsets) (props : PropsValue) (s : ScalarStyle) (b : ℕ) (text : List ℕ) (lines : List (List ℕ))
    → colon_after (scalar at props s (b ∷ text) lines) ≡ 58 ∷ []
colon_filled at props Plain b text lines = refl
colon_filled at props Single b text lines = refl
colon_filled at props Double b text lines = refl
colon_filled at props Literal b text lines = refl
colon_filled at props Folded b text lines = refl

-- a key that may be kept is not an empty node, so a space comes before its `:` only if it is an alias
pub kept_colon : (t : List ℕ) (c : LayoutSetting) (k : Node) → may_be_kept t c.comments k ≡ true → colon_after (styled t c k) ≡ space (is_alias k) ++ (58 ∷ [])
kept_colon t c (scalar at props Plain [] lines) e = absurd cc
kept_colon t c (scalar at props Plain (b ∷ text) lines) e = colon_filled at props (wanted Plain (b ∷ text) c.style) b text (lines_in (wanted Plain (b ∷ text) c.style) lines)
kept_colon t c (scalar at props Single text lines) e =
    colon_quoted at props (quotes_in c.style.invisible (chars text) c.style.quotes) text (lines_in (quoted_in text c.style) lines)
kept_colon t c (scalar at props Double text lines) e =
    colon_quoted at props (quotes_in c.style.invisible (chars text) c.style.quotes) text (lines_in (quoted_in text c.style) lines)
kept_colon t c (scalar at props Literal text lines) e = absurd cc
kept_colon t c (scalar at props Folded text lines) e = absurd cc
kept_colon t c (alias at name) e = refl
kept_colon t c (sequence at flow props items) e = refl
kept_colon t c (mapping at flow props pairs) e = refl

-- a key and its value, one after the other
key_value : (w gap v : List ℕ) → (w ++ gap) ++ (58 ∷ 32 ∷ (v ++ [])) ≡ w ++ ((gap ++ (58 ∷ [])) ++ (32 ∷ v))
key_value w gap v =
    append_assoc w gap _ ∙ ap (λ z. w ++ z) (ap (λ z. gap ++ (58 ∷ 32 ∷ z)) (append-nil v) ∙ sym (append_assoc gap (58 ∷ []) (32 ∷ v)))

abbrev pub pair_text : List ℕ → LayoutSetting → Node → Node → List ℕ
pair_text t c k v = written c.style (styled t c k) ++ (colon_after (styled t c k) ++ (32 ∷ written c.style (styled t c v)))

kept_key_value : (t : List ℕ) (c : LayoutSetting) (k v : Node) → may_be_kept t c.comments k ≡ true
    → (written c.style (styled t c k) ++ space (is_alias k)) ++ (58 ∷ 32 ∷ (written c.style (styled t c v) ++ [])) ≡ pair_text t c k v
kept_key_value t c k v e =
    key_value (written c.style (styled t c k)) (space (is_alias k)) (written c.style (styled t c v))
    ∙ ap (λ z. written c.style (styled t c k) ++ (z ++ (32 ∷ written c.style (styled t c v)))) (sym (kept_colon t c k e))

space_utf8 : (b : Bool) → IsUtf8 (space b)
space_utf8 true = utf8_head 32 _ refl IsUtf8-nil
space_utf8 false = IsUtf8-nil

pub pair_utf8 : (t : List ℕ) (c : LayoutSetting) (k v : Node) → IsUtf8 (written c.style (styled t c k)) → IsUtf8 (written c.style (styled t c v)) → IsUtf8 (pair_text t c k v)
pair_utf8 t c k v a b = IsUtf8-append _ _ a (IsUtf8-append _ _ (colon_utf8 (styled t c k)) (utf8_head 32 _ refl b))

first_part : (a b c : Bool) → ((a && b) && c) ≡ true → b ≡ true
first_part a b c e = (and_parts a b (and_parts (a && b) c e).0).1

pub first_pair_in : (t : List ℕ) (c : LayoutSetting) (i j start w : ℕ) (f : Bool) (k v : Node) → IsUtf8 (written c.style (styled t c k)) → IsUtf8 (written c.style (styled t c v))
    → with_node (with_node (record { start = start; is_map = true; props_width = w; sum = zero_if f; is_empty = true; is_key = true; first_leaf = None; last_leaf = None })
    (ended_of t c i k)) (ended_of t c j v)
    ≡ filled start true w true ((f && may_be_kept t c.comments k) && may_be_kept t c.comments v) (pair_text t c k v) (leaf_indices i k ++ leaf_indices j v)
first_pair_in t c i j start w f k v a b =
    ap (λ o. with_node o (ended_of t c j v)) (first_node_in t c i start w true true f k a)
    ∙ next_node_in t c j start w true false (f && may_be_kept t c.comments k) (written c.style (styled t c k) ++ space (is_alias k)) (58 ∷ 32 ∷ []) (leaf_indices i k) v
    (IsUtf8-append _ _ a (space_utf8 (is_alias k))) colon_sign_utf8 colon_if b
    ∙ same_filled start true w true refl (λ e. kept_key_value t c k v (first_part f _ _ e)) refl

pub next_pair_in : (t : List ℕ) (c : LayoutSetting) (i j start w : ℕ) (b : Bool) (y ls : List ℕ) (k v : Node) → IsUtf8 y → IsUtf8 (written c.style (styled t c k))
    → IsUtf8 (written c.style (styled t c v))
    → with_node (with_node (filled start true w true b y ls) (ended_of t c i k)) (ended_of t c j v)
    ≡ filled start true w true ((b && may_be_kept t c.comments k) && may_be_kept t c.comments v) (y ++ (44 ∷ 32 ∷ pair_text t c k v))
    ((ls ++ leaf_indices i k) ++ leaf_indices j v)
next_pair_in t c i j start w b y ls k v u a z =
    let key : IsUtf8 (written c.style (styled t c k) ++ space (is_alias k)) = IsUtf8-append _ _ a (space_utf8 (is_alias k)) in
    let front : IsUtf8 (y ++ (44 ∷ 32 ∷ (written c.style (styled t c k) ++ space (is_alias k)))) = IsUtf8-append y _ u (utf8_head 44 _ refl (utf8_head 32 _ refl key)) in
    ap (λ o. with_node o (ended_of t c j v)) (next_node_in t c i start w true true b y (44 ∷ 32 ∷ []) ls k u comma_utf8 comma_if a)
    ∙ next_node_in t c j start w true false (b && may_be_kept t c.comments k) (y ++ (44 ∷ 32 ∷ (written c.style (styled t c k) ++ space (is_alias k)))) (58 ∷ 32 ∷ [])
    (ls ++ leaf_indices i k) v front colon_sign_utf8 colon_if z
    ∙ same_filled start true w true refl (λ e. append_assoc y _ _ ∙ ap (λ x. y ++ (44 ∷ 32 ∷ x)) (kept_key_value t c k v (first_part b _ _ e))) refl

abbrev pub with_pairs : List ℕ → LayoutSetting → ℕ → Pairs → Open → Open
with_pairs t c i no_pairs o = o
with_pairs t c i (pair k v ps) o =
    with_pairs t c (i + length (flat k) + length (flat v)) ps (with_node (with_node o (ended_of t c i k)) (ended_of t c (i + length (flat k)) v))

four : (a b c d : Bool) → (((a && b) && c) && d) ≡ (a && ((b && c) && d))
four true b c d = refl
four false b c d = refl

in_a_row : (y w s v r : List ℕ) → (y ++ (44 ∷ 32 ∷ (w ++ (s ++ (32 ∷ v))))) ++ r ≡ y ++ (44 ∷ 32 ∷ (w ++ (s ++ (32 ∷ (v ++ r)))))
in_a_row y w s v r = simp append_assoc

pub pairs_in : (t : List ℕ) (c : LayoutSetting) (i start w : ℕ) (b : Bool) (y ls : List ℕ) (ps : Pairs) → IsUtf8 y → have_texts (flat_pairs ps) ≡ true
    → with_pairs t c i ps (filled start true w true b y ls)
    ≡ filled start true w true (b && pairs_may_be_kept t c.comments ps) (y ++ more_pairs c.style (styled_pairs t c ps)) (ls ++ leaf_indices_of_pairs i ps)
pairs_in t c i start w b y ls no_pairs u e = rw (true_right b, append-nil y, append-nil ls) refl
pairs_in t c i start w b y ls (pair k v ps) u e =
    let h = pair_texts k v ps e in
    let a = written_utf8 t c k h.key in
    let z = written_utf8 t c v h.value in
    let more : IsUtf8 (y ++ (44 ∷ 32 ∷ pair_text t c k v)) = IsUtf8-append y _ u (utf8_head 44 _ refl (utf8_head 32 _ refl (pair_utf8 t c k v a z))) in
    ap (with_pairs t c (i + length (flat k) + length (flat v)) ps) (next_pair_in t c i (i + length (flat k)) start w b y ls k v u a z)
    ∙ pairs_in t c (i + length (flat k) + length (flat v)) start w ((b && may_be_kept t c.comments k) && may_be_kept t c.comments v)
    (y ++ (44 ∷ 32 ∷ pair_text t c k v)) ((ls ++ leaf_indices i k) ++ leaf_indices (i + length (flat k)) v) ps more h.others
    ∙ same_filled start true w true (four b _ _ _)
    (λ q. in_a_row y (written c.style (styled t c k)) (colon_after (styled t c k)) (written c.style (styled t c v)) (more_pairs c.style (styled_pairs t c ps)))
    (three_lists ls _ _ _)
