-- A node of a normal form is in the house style already, with any text.
use Rattle.std.proofs.Common.{◌≡◌, ℕ, Bool, true, false, not, ◌&&◌, List, [], ◌∷◌, chars, Option, Some, None, refl, sym, ap, ◌∙◌, true≢false}
use Rattle.std.specs.Prelude.{if◌then◌else◌}
use Rattle.std.proofs.lemmas.Bool.{and_parts}
use Rattle.yf_lines.specs.declared.quotes.Quotes.{Quotes}
use Rattle.yf_props.specs.Props.{PropsValue}
use Rattle.yf_quoted.specs.Written.{quotes_in}
use Rattle.yf_events.specs.declared.event.ScalarStyle.{ScalarStyle}
use Rattle.yf_events.specs.declared.event.ScalarStyle.TheVariants.{Plain, Single, Double, Literal, Folded}
use Rattle.yf_events.specs.declared.event.Span.{Span}
use Rattle.yf_events.specs.Tree.{Node, NodeOffsets, scalar, alias, sequence, mapping, Items, no_items, item, Pairs, no_pairs, pair}
use Rattle.yf_forms.specs.declared.style.Style.{Style}
use Rattle.yf_forms.specs.Nodes.OneLineFlows.{has_comment, items_may_be_kept, may_be_kept, pairs_may_be_kept, scalar_may_be_kept}
use Rattle.yf_forms.specs.Passes.MeasurePass.{setting}
use Rattle.yf_forms.specs.NormalForms.Normal.{LayoutSetting, Margins, fits, inner_margins, key_margins, settled, settled_items, settled_pairs, styled, styled_items, styled_pairs, value_margins}
use Rattle.yf_forms.specs.Nodes.ScalarStyles.{lines_in, style_in, wanted}
use Rattle.yf_forms.proofs.Texts.OneLineRuns.{kept_items, kept_more_pairs, kept_pairs}
use Rattle.yf_laws.proofs.Texts.WantedLemmas.{lines_stay, wanted_stays}

no_comment : (t : List ℕ) (o : Option Span) (props : PropsValue) → has_comment t [] o props ≡ false
no_comment t None props = refl
no_comment t (Some span) props = refl

-- the node x is in the house style, and if the flag says so it may be kept
abbrev pub House : LayoutSetting → Node → Type 0
House c x = styled [] (setting c.style []) x ≡ x

quoted_kept : (q : Quotes) (text : List ℕ) → scalar_may_be_kept (style_in q) text ≡ true
quoted_kept Quotes.Single text = refl
quoted_kept Quotes.Double text = refl

scalar_kept : (style : ScalarStyle) (text : List ℕ) (q : Style) → scalar_may_be_kept style text ≡ true → scalar_may_be_kept (wanted style text q) text ≡ true
scalar_kept Plain [] q k = absurd (true≢false (sym k))
scalar_kept Plain (b ∷ text) q k = rw k k
scalar_kept Single text q k = quoted_kept (quotes_in q.invisible (chars text) q.quotes) text
scalar_kept Double text q k = quoted_kept (quotes_in q.invisible (chars text) q.quotes) text
scalar_kept Literal text q k = absurd (true≢false (sym k))
scalar_kept Folded text q k = absurd (true≢false (sym k))

pub all_true : (a b c d : Bool) → a ≡ true → b ≡ false → c ≡ true → d ≡ true → (a && not b && c && d) ≡ true
all_true a b c d e f g h = rw (e, f, g, h) refl

pub all_five : (a b c d e : Bool) → a ≡ true → b ≡ false → c ≡ true → d ≡ true → e ≡ true → (a && not b && c && d && e) ≡ true
all_five a b c d e h i j k l = rw (h, i, j, k, l) refl

-- A node that may be kept may also be kept once it is in the house style.

mutual
  pub still_kept : (t : List ℕ) (c : LayoutSetting) (x : Node) → may_be_kept t c.comments x ≡ true → may_be_kept [] [] (styled t c x) ≡ true
  still_kept t c (scalar at props style text lines) k = scalar_kept style text c.style k
  still_kept t c (alias at name) k = refl
  still_kept t c (sequence at flow props no_items) k = refl
  still_kept t c (sequence at flow props (item x xs)) k =
      let parts = kept_items t c at flow props x xs k in
      all_true _ _ _ _ k (no_comment [] at.span props) (still_kept t c x parts.0) (items_still_kept t c xs parts.1)
  still_kept t c (mapping at flow props no_pairs) k = refl
  still_kept t c (mapping at flow props (pair x y ps)) k =
      let parts = kept_pairs t c at flow props x y ps k in
      all_five _ _ _ _ _ k (no_comment [] at.span props) (still_kept t c x parts.0) (still_kept t c y parts.1) (pairs_still_kept t c ps parts.2)

  items_still_kept : (t : List ℕ) (c : LayoutSetting) (xs : Items) → items_may_be_kept t c.comments xs ≡ true → items_may_be_kept [] [] (styled_items t c xs) ≡ true
  items_still_kept t c no_items k = refl
  items_still_kept t c (item x xs) k =
      let parts = and_parts (may_be_kept t c.comments x) (items_may_be_kept t c.comments xs) k in
      rw (still_kept t c x parts.0, items_still_kept t c xs parts.1) refl

  pairs_still_kept : (t : List ℕ) (c : LayoutSetting) (ps : Pairs) → pairs_may_be_kept t c.comments ps ≡ true → pairs_may_be_kept [] [] (styled_pairs t c ps) ≡ true
  pairs_still_kept t c no_pairs k = refl
  pairs_still_kept t c (pair x y ps) k =
      let parts = kept_more_pairs t c x y ps k in
      rw (still_kept t c x parts.0, still_kept t c y parts.1, pairs_still_kept t c ps parts.2) refl

scalar_house : (t : List ℕ) (c : LayoutSetting) (at : NodeOffsets) (props : PropsValue) (style : ScalarStyle) (text : List ℕ) (lines : List (List ℕ))
    → House c (styled t c (scalar at props style text lines))
scalar_house t c at props style text lines =
    let w : ScalarStyle = wanted style text c.style in
    ap (λ s. scalar at props s text (lines_in s (lines_in w lines))) (wanted_stays style text c.style)
    ∙ ap (λ l. scalar at props w text l) (lines_stay w lines)

mutual
  pub kept_house : (t : List ℕ) (c : LayoutSetting) (x : Node) → may_be_kept t c.comments x ≡ true → House c (styled t c x)
  kept_house t c (scalar at props style text lines) k = scalar_house t c at props style text lines
  kept_house t c (alias at name) k = refl
  kept_house t c (sequence at flow props no_items) k = refl
  kept_house t c (sequence at flow props (item x xs)) k =
      let parts = kept_items t c at flow props x xs k in
      ap (λ b. sequence at b props (styled_items [] (setting c.style []) (styled_items t c (item x xs)))) (still_kept t c (sequence at flow props (item x xs)) k ∙ sym k)
      ∙ ap (λ w. sequence at (may_be_kept t c.comments (sequence at flow props (item x xs))) props (item w (styled_items [] (setting c.style []) (styled_items t c xs)))) (kept_house t c x parts.0)
      ∙ ap (λ w. sequence at (may_be_kept t c.comments (sequence at flow props (item x xs))) props (item (styled t c x) w)) (kept_items_house t c xs parts.1)
  kept_house t c (mapping at flow props no_pairs) k = refl
  kept_house t c (mapping at flow props (pair x y ps)) k =
      let parts = kept_pairs t c at flow props x y ps k in
      let b : Bool = may_be_kept t c.comments (mapping at flow props (pair x y ps)) in
      ap (λ b. mapping at b props (styled_pairs [] (setting c.style []) (styled_pairs t c (pair x y ps)))) (still_kept t c (mapping at flow props (pair x y ps)) k ∙ sym k)
      ∙ ap (λ w. mapping at b props (pair w (styled [] (setting c.style []) (styled t c y)) (styled_pairs [] (setting c.style []) (styled_pairs t c ps)))) (kept_house t c x parts.0)
      ∙ ap (λ w. mapping at b props (pair (styled t c x) w (styled_pairs [] (setting c.style []) (styled_pairs t c ps)))) (kept_house t c y parts.1)
      ∙ ap (λ w. mapping at b props (pair (styled t c x) (styled t c y) w)) (kept_pairs_house t c ps parts.2)

  kept_items_house : (t : List ℕ) (c : LayoutSetting) (xs : Items) → items_may_be_kept t c.comments xs ≡ true
      → styled_items [] (setting c.style []) (styled_items t c xs) ≡ styled_items t c xs
  kept_items_house t c no_items k = refl
  kept_items_house t c (item x xs) k =
      let parts = and_parts (may_be_kept t c.comments x) (items_may_be_kept t c.comments xs) k in
      rw (kept_house t c x parts.0, kept_items_house t c xs parts.1) refl

  kept_pairs_house : (t : List ℕ) (c : LayoutSetting) (ps : Pairs) → pairs_may_be_kept t c.comments ps ≡ true
      → styled_pairs [] (setting c.style []) (styled_pairs t c ps) ≡ styled_pairs t c ps
  kept_pairs_house t c no_pairs k = refl
  kept_pairs_house t c (pair x y ps) k =
      let parts = kept_more_pairs t c x y ps k in
      rw (kept_house t c x parts.0, kept_house t c y parts.1, kept_pairs_house t c ps parts.2) refl

-- A normal form is in the house style.

either : (c : LayoutSetting) (b f : Bool) (x y : Node) → (b ≡ true → House c x) → House c y → House c (if b && f then x else y)
either c true true x y h k = h refl
either c true false x y h k = k
either c false f x y h k = k

mutual
  pub normal_house : (t : List ℕ) (c : LayoutSetting) (margins : Margins) (x : Node) → House c (settled c margins (styled t c x))
  normal_house t c margins (scalar at props style text lines) = scalar_house t c at props style text lines
  normal_house t c margins (alias at name) = refl
  normal_house t c margins (sequence at flow props no_items) = refl
  normal_house t c margins (sequence at flow props (item x xs)) =
      let whole : Node = styled t c (sequence at flow props (item x xs)) in
      either c (may_be_kept t c.comments (sequence at flow props (item x xs))) (fits c.style margins.column whole) whole _
      (λ k. kept_house t c (sequence at flow props (item x xs)) k)
      (ap (λ w. sequence at false props w) (items_house t c margins.entries (item x xs)))
  normal_house t c margins (mapping at flow props no_pairs) = refl
  normal_house t c margins (mapping at flow props (pair k v ps)) =
      let whole : Node = styled t c (mapping at flow props (pair k v ps)) in
      either c (may_be_kept t c.comments (mapping at flow props (pair k v ps))) (fits c.style margins.column whole) whole _
      (λ e. kept_house t c (mapping at flow props (pair k v ps)) e)
      (ap (λ w. mapping at false props w) (pairs_house t c margins.entries (pair k v ps)))

  pub items_house : (t : List ℕ) (c : LayoutSetting) (column : ℕ) (xs : Items)
      → styled_items [] (setting c.style []) (settled_items c column (styled_items t c xs)) ≡ settled_items c column (styled_items t c xs)
  items_house t c column no_items = refl
  items_house t c column (item x xs) = rw (normal_house t c (inner_margins c.style column) x, items_house t c column xs) refl

  pub pairs_house : (t : List ℕ) (c : LayoutSetting) (column : ℕ) (ps : Pairs)
      → styled_pairs [] (setting c.style []) (settled_pairs c column (styled_pairs t c ps)) ≡ settled_pairs c column (styled_pairs t c ps)
  pairs_house t c column no_pairs = refl
  pairs_house t c column (pair k v ps) =
      rw (normal_house t c (key_margins c.style column (styled t c k)) k, normal_house t c (value_margins c column (styled t c k) (styled t c v)) v, pairs_house t c column ps) refl
