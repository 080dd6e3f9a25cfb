-- The texts of a node are UTF-8 if those of its events are.
use Rattle.std.proofs.Common.{◌≡◌, ℕ, true, ◌&&◌, List, [], ◌∷◌, ◌++◌, refl}
use Rattle.std.specs.Str.{IsUtf8, is_utf8}
use Rattle.std.proofs.lemmas.Bool.{and_parts}
use Rattle.std.proofs.lemmas.Str.{IsUtf8-append, IsUtf8-from_is_utf8, IsUtf8-nil}
use Rattle.yf_events.specs.Event.{EventInText}
use Rattle.yf_events.specs.declared.event.ScalarStyle.{ScalarStyle}
use Rattle.yf_events.specs.declared.event.ScalarStyle.TheVariants.{Plain, Single, Double, Literal, Folded}
use Rattle.yf_forms.specs.declared.style.Style.{Style}
use Rattle.yf_forms.specs.Passes.MeasurePass.{has_text, have_texts}
use Rattle.yf_forms.specs.NormalForms.Normal.{LayoutSetting, styled, styled_items, styled_pairs}
use Rattle.yf_forms.specs.Nodes.OneLine.{props_text, scalar_text, bare, written, more_items, more_pairs, colon_after, colon_after_props}
use Rattle.yf_events.specs.Tree.{Node, scalar, alias, sequence, mapping, Items, no_items, item, Pairs, no_pairs, pair, flat, flat_items, flat_pairs, props_of}
use Rattle.yf_forms.specs.Nodes.ScalarStyles.{wanted}
use Rattle.yf_forms.proofs.Texts.WidthLemmas.{utf8_head, utf8_spaced, single_utf8, double_utf8}

-- events one after another
pub texts_join : (xs ys : List EventInText) → have_texts (xs ++ ys) ≡ true → (have_texts xs ≡ true) × (have_texts ys ≡ true)
texts_join [] ys e = (refl, e)
texts_join (x ∷ xs) ys e =
    let p = and_parts (has_text x.event) (have_texts (xs ++ ys)) e in
    let q = texts_join xs ys p.1 in
    (rw (p.0, q.0) refl, q.1)

pub scalar_utf8 : (house : Style) (style : ScalarStyle) (text : List ℕ) → IsUtf8 text → IsUtf8 (scalar_text house style text)
scalar_utf8 house Plain text u = u
scalar_utf8 house Single text u = single_utf8 text u
scalar_utf8 house Double text u = double_utf8 house.invisible text u
scalar_utf8 house Literal text u = IsUtf8-nil
scalar_utf8 house Folded text u = IsUtf8-nil

pub colon_utf8 : (x : Node) → IsUtf8 (colon_after x)
colon_utf8 (scalar at props Plain [] lines) = by_props (props_text props) where
  by_props : (p : List ℕ) → IsUtf8 (colon_after_props p)
  by_props [] = utf8_head 58 [] refl IsUtf8-nil
  by_props (b ∷ p) = utf8_head 32 (58 ∷ []) refl (utf8_head 58 [] refl IsUtf8-nil)
colon_utf8 (scalar at props Plain (b ∷ text) lines) = utf8_head 58 [] refl IsUtf8-nil
colon_utf8 (scalar at props Single text lines) = utf8_head 58 [] refl IsUtf8-nil
colon_utf8 (scalar at props Double text lines) = utf8_head 58 [] refl IsUtf8-nil
colon_utf8 (scalar at props Literal text lines) = utf8_head 58 [] refl IsUtf8-nil
colon_utf8 (scalar at props Folded text lines) = utf8_head 58 [] refl IsUtf8-nil
colon_utf8 (alias at name) = utf8_head 32 (58 ∷ []) refl (utf8_head 58 [] refl IsUtf8-nil)
colon_utf8 (sequence at flow props items) = utf8_head 58 [] refl IsUtf8-nil
colon_utf8 (mapping at flow props pairs) = utf8_head 58 [] refl IsUtf8-nil

pub props_utf8 : (t : List ℕ) (c : LayoutSetting) (x : Node) → have_texts (flat x) ≡ true → IsUtf8 (props_text (props_of (styled t c x)))
props_utf8 t c (scalar at props style text lines) e =
    let p = and_parts (is_utf8 (props_text props) && is_utf8 text) true e in
    IsUtf8-from_is_utf8 _ (and_parts (is_utf8 (props_text props)) (is_utf8 text) p.0).0
props_utf8 t c (alias at name) e = IsUtf8-nil
props_utf8 t c (sequence at flow props items) e = IsUtf8-from_is_utf8 _ (and_parts (is_utf8 (props_text props)) _ e).0
props_utf8 t c (mapping at flow props pairs) e = IsUtf8-from_is_utf8 _ (and_parts (is_utf8 (props_text props)) _ e).0

-- the nodes of a collection
pub first_item : (x : Node) (xs : Items) (r : List EventInText) → have_texts ((flat x ++ flat_items xs) ++ r) ≡ true
    → (have_texts (flat x) ≡ true) × (have_texts (flat_items xs) ≡ true)
first_item x xs r e = texts_join (flat x) (flat_items xs) (texts_join (flat x ++ flat_items xs) r e).0

pub record PairTexts (k v : Node) (ps : Pairs) : Type 0 where
  pub key : have_texts (flat k) ≡ true
  pub value : have_texts (flat v) ≡ true
  pub others : have_texts (flat_pairs ps) ≡ true

pub pair_texts : (k v : Node) (ps : Pairs) → have_texts (flat_pairs (pair k v ps)) ≡ true → PairTexts k v ps
pair_texts k v ps e =
    let a = texts_join (flat k) (flat v ++ flat_pairs ps) e in
    let b = texts_join (flat v) (flat_pairs ps) a.1 in
    record { key = a.0; value = b.0; others = b.1 }

spaced_utf8 : (t : List ℕ) (c : LayoutSetting) (x : Node) → have_texts (flat x) ≡ true → IsUtf8 (bare c.style (styled t c x)) → IsUtf8 (written c.style (styled t c x))
spaced_utf8 t c x e u = utf8_spaced _ _ (props_utf8 t c x e) u

mutual
  pub bare_utf8 : (t : List ℕ) (c : LayoutSetting) (x : Node) → have_texts (flat x) ≡ true → IsUtf8 (bare c.style (styled t c x))
  bare_utf8 t c (scalar at props style text lines) e =
      let p = and_parts (is_utf8 (props_text props) && is_utf8 text) true e in
      scalar_utf8 c.style (wanted style text c.style) text (IsUtf8-from_is_utf8 _ (and_parts (is_utf8 (props_text props)) (is_utf8 text) p.0).1)
  bare_utf8 t c (alias at name) e = utf8_head 42 name refl (IsUtf8-from_is_utf8 _ (and_parts (is_utf8 name) true e).0)
  bare_utf8 t c (sequence at flow props no_items) e = utf8_head 91 (93 ∷ []) refl (utf8_head 93 [] refl IsUtf8-nil)
  bare_utf8 t c (sequence at flow props (item x xs)) e =
      let h = first_item x xs _ (and_parts (is_utf8 (props_text props)) _ e).1 in
      utf8_head 91 _ refl (IsUtf8-append _ _ (spaced_utf8 t c x h.0 (bare_utf8 t c x h.0)) (IsUtf8-append _ _ (items_utf8 t c xs h.1) (utf8_head 93 [] refl IsUtf8-nil)))
  bare_utf8 t c (mapping at flow props no_pairs) e = utf8_head 123 (125 ∷ []) refl (utf8_head 125 [] refl IsUtf8-nil)
  bare_utf8 t c (mapping at flow props (pair k v ps)) e =
      let h = pair_texts k v ps (texts_join (flat_pairs (pair k v ps)) _ (and_parts (is_utf8 (props_text props)) _ e).1).0 in
      utf8_head 123 _ refl (IsUtf8-append _ _ (spaced_utf8 t c k h.key (bare_utf8 t c k h.key)) (IsUtf8-append _ _ (colon_utf8 (styled t c k)) (utf8_head 32 _ refl
      (IsUtf8-append _ _ (spaced_utf8 t c v h.value (bare_utf8 t c v h.value)) (IsUtf8-append _ _ (pairs_utf8 t c ps h.others) (utf8_head 125 [] refl IsUtf8-nil))))))

  pub items_utf8 : (t : List ℕ) (c : LayoutSetting) (xs : Items) → have_texts (flat_items xs) ≡ true → IsUtf8 (more_items c.style (styled_items t c xs))
  items_utf8 t c no_items e = IsUtf8-nil
  items_utf8 t c (item x xs) e =
      let h = texts_join (flat x) (flat_items xs) e in
      utf8_head 44 _ refl (utf8_head 32 _ refl (IsUtf8-append _ _ (spaced_utf8 t c x h.0 (bare_utf8 t c x h.0)) (items_utf8 t c xs h.1)))

  pub pairs_utf8 : (t : List ℕ) (c : LayoutSetting) (ps : Pairs) → have_texts (flat_pairs ps) ≡ true → IsUtf8 (more_pairs c.style (styled_pairs t c ps))
  pairs_utf8 t c no_pairs e = IsUtf8-nil
  pairs_utf8 t c (pair k v ps) e =
      let h = pair_texts k v ps e in
      utf8_head 44 _ refl (utf8_head 32 _ refl (IsUtf8-append _ _ (spaced_utf8 t c k h.key (bare_utf8 t c k h.key)) (IsUtf8-append _ _ (colon_utf8 (styled t c k)) (utf8_head 32 _ refl
      (IsUtf8-append _ _ (spaced_utf8 t c v h.value (bare_utf8 t c v h.value)) (pairs_utf8 t c ps h.others))))))

pub written_utf8 : (t : List ℕ) (c : LayoutSetting) (x : Node) → have_texts (flat x) ≡ true → IsUtf8 (written c.style (styled t c x))
written_utf8 t c x e = spaced_utf8 t c x e (bare_utf8 t c x e)
