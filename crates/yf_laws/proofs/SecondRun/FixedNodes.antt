-- A node that differs from one of a normal form only in offsets is in the house style as it is.
use Rattle.std.proofs.Common.{◌≡◌, ℕ, Bool, true, false, not, ◌&&◌, List, [], refl, sym, ap, ◌∙◌, true≢false}
use Rattle.std.specs.Prelude.{is_some}
use Rattle.yf_comments.specs.Comment.{CommentValue}
use Rattle.yf_props.specs.Props.{PropsValue}
use Rattle.yf_events.specs.Alike.{Alike, alike_scalars, alike_aliases, alike_sequences, alike_mappings, AlikeItems, alike_nothing, alike_item, AlikePairs, alike_no_pairs, alike_pair}
use Rattle.yf_events.specs.Tree.{NodeOffsets, Node, scalar, alias, sequence, mapping, Items, no_items, item, Pairs, no_pairs, pair}
use Rattle.yf_forms.specs.Nodes.OneLineFlows.{has_comment, items_may_be_kept, may_be_kept, pairs_may_be_kept}
use Rattle.yf_forms.specs.NormalForms.Normal.{LayoutSetting, styled, styled_items, styled_pairs}
use Rattle.yf_laws.specs.Nodes.FlowsWithoutComments.{Undisturbed, undisturbed_sequence, undisturbed_mapping, UndisturbedItems, undisturbed_item, UndisturbedPairs, undisturbed_pair}
use Rattle.yf_laws.proofs.SecondRun.AlikeLemmas.{setting}
use Rattle.yf_laws.proofs.NormalForms.StyledTwice.{House, all_five, all_true}
use Rattle.yf_lines.proofs.CoreSteady.{both_parts}

-- Parts of nodes.

abbrev restood : NodeOffsets → Node → Node
restood bt (scalar at props style text lines) = scalar bt props style text lines
restood bt (alias at name) = alias bt name
restood bt (sequence at flow props xs) = sequence bt flow props xs
restood bt (mapping at flow props ps) = mapping bt flow props ps

abbrev pub flow_of : Node → Bool
flow_of (scalar at props style text lines) = false
flow_of (alias at name) = false
flow_of (sequence at flow props xs) = flow
flow_of (mapping at flow props ps) = flow

abbrev pub items_of : Node → Items
items_of (scalar at props style text lines) = no_items
items_of (alias at name) = no_items
items_of (sequence at flow props xs) = xs
items_of (mapping at flow props ps) = no_items

abbrev pub pairs_of : Node → Pairs
pairs_of (scalar at props style text lines) = no_pairs
pairs_of (alias at name) = no_pairs
pairs_of (sequence at flow props xs) = no_pairs
pairs_of (mapping at flow props ps) = ps

abbrev pub first_item : Node → Items → Node
first_item other no_items = other
first_item other (item x xs) = x

abbrev pub more_items : Items → Items
more_items no_items = no_items
more_items (item x xs) = xs

abbrev pub first_key : Node → Pairs → Node
first_key other no_pairs = other
first_key other (pair k v ps) = k

abbrev pub first_value : Node → Pairs → Node
first_value other no_pairs = other
first_value other (pair k v ps) = v

abbrev pub more_pairs : Pairs → Pairs
more_pairs no_pairs = no_pairs
more_pairs (pair k v ps) = ps

-- Tests.

of_four : (a b c d : Bool) → (a && not b && c && d) ≡ true → (a ≡ true) × (c ≡ true) × (d ≡ true)
of_four true false true true e = (refl, refl, refl)
of_four true false true false e = absurd (true≢false (sym e))
of_four true false false d e = absurd (true≢false (sym e))
of_four true true c d e = absurd (true≢false (sym e))
of_four false b c d e = absurd (true≢false (sym e))

of_five : (a b c d e : Bool) → (a && not b && c && d && e) ≡ true → (a ≡ true) × (c ≡ true) × (d ≡ true) × (e ≡ true)
of_five true false true true true e = (refl, refl, refl, refl)
of_five true false true true false e = absurd (true≢false (sym e))
of_five true false true false f e = absurd (true≢false (sym e))
of_five true false false d f e = absurd (true≢false (sym e))
of_five true true c d f e = absurd (true≢false (sym e))
of_five false b c d f e = absurd (true≢false (sym e))

of_three : (a b c : Bool) → (a && b && c) ≡ true → (a ≡ true) × (b ≡ true) × (c ≡ true)
of_three true true true e = (refl, refl, refl)
of_three true true false e = absurd (true≢false (sym e))
of_three true false c e = absurd (true≢false (sym e))
of_three false b c e = absurd (true≢false (sym e))

-- A node that may be kept without its comments may be kept if no comment is within it.

mutual
  pub kept_alike : {K : Node → Node → Node → Node → Type 0} {x y : Node} (u : List ℕ) (cs : List CommentValue) → Alike K x y → may_be_kept [] [] x ≡ true → Undisturbed u cs y
      → may_be_kept u cs y ≡ true
  kept_alike u cs (alike_scalars e) k f = k
  kept_alike u cs (alike_aliases e) k f = refl
  kept_alike u cs (alike_sequences e alike_nothing) k f = refl
  kept_alike u cs (alike_sequences {at = at} {flow = flow} {props = props} e (alike_item {x = x} {xs = xs} a more)) k (undisturbed_sequence n (undisturbed_item f fs)) =
      let parts = of_four flow (has_comment [] [] at.span props) (may_be_kept [] [] x) (items_may_be_kept [] [] xs) k in
      all_true _ _ _ _ parts.0 (n parts.0) (kept_alike u cs a parts.1 f) (items_kept_alike u cs more parts.2 fs)
  kept_alike u cs (alike_mappings e alike_no_pairs) k f = refl
  kept_alike u cs (alike_mappings {at = at} {flow = flow} {props = props} e (alike_pair {k = k} {v = v} {ps = ps} a b g more)) h (undisturbed_mapping n (undisturbed_pair f o fs)) =
      let parts = of_five flow (has_comment [] [] at.span props) (may_be_kept [] [] k) (may_be_kept [] [] v) (pairs_may_be_kept [] [] ps) h in
      all_five _ _ _ _ _ parts.0 (n parts.0) (kept_alike u cs a parts.1 f) (kept_alike u cs b parts.2 o) (pairs_kept_alike u cs more parts.3 fs)

  items_kept_alike : {K : Node → Node → Node → Node → Type 0} {xs ys : Items} (u : List ℕ) (cs : List CommentValue) → AlikeItems K xs ys → items_may_be_kept [] [] xs ≡ true
      → UndisturbedItems u cs ys → items_may_be_kept u cs ys ≡ true
  items_kept_alike u cs alike_nothing k f = refl
  items_kept_alike u cs (alike_item {x = x} {xs = xs} a more) k (undisturbed_item f fs) =
      let parts = both_parts (may_be_kept [] [] x) (items_may_be_kept [] [] xs) k in
      rw (kept_alike u cs a parts.0 f, items_kept_alike u cs more parts.1 fs) refl

  pairs_kept_alike : {K : Node → Node → Node → Node → Type 0} {ps qs : Pairs} (u : List ℕ) (cs : List CommentValue) → AlikePairs K ps qs → pairs_may_be_kept [] [] ps ≡ true
      → UndisturbedPairs u cs qs → pairs_may_be_kept u cs qs ≡ true
  pairs_kept_alike u cs alike_no_pairs k f = refl
  pairs_kept_alike u cs (alike_pair {k = k} {v = v} {ps = ps} a b g more) h (undisturbed_pair f o fs) =
      let parts = of_three (may_be_kept [] [] k) (may_be_kept [] [] v) (pairs_may_be_kept [] [] ps) h in
      rw (kept_alike u cs a parts.0 f, kept_alike u cs b parts.1 o, pairs_kept_alike u cs more parts.2 fs) refl

-- a collection with the flag of the one that it is alike to
sequence_flag : {K : Node → Node → Node → Node → Type 0} (at bt : NodeOffsets) (props : PropsValue) {xs ys : Items} (u : List ℕ) (cs : List CommentValue) (flow : Bool)
    → is_some at.span ≡ is_some bt.span → AlikeItems K xs ys → may_be_kept [] [] (sequence at flow props xs) ≡ flow → Undisturbed u cs (sequence bt flow props ys)
    → may_be_kept u cs (sequence bt flow props ys) ≡ flow
sequence_flag {K} at bt props {xs = xs} {ys = ys} u cs true e a k f =
    kept_alike {K = K} {x = sequence at true props xs} {y = sequence bt true props ys} u cs (alike_sequences e a) k f
sequence_flag at bt props u cs false e alike_nothing k f = absurd (true≢false k)
sequence_flag at bt props u cs false e (alike_item a more) k f = refl

mapping_flag : {K : Node → Node → Node → Node → Type 0} (at bt : NodeOffsets) (props : PropsValue) {ps qs : Pairs} (u : List ℕ) (cs : List CommentValue) (flow : Bool)
    → is_some at.span ≡ is_some bt.span → AlikePairs K ps qs → may_be_kept [] [] (mapping at flow props ps) ≡ flow → Undisturbed u cs (mapping bt flow props qs)
    → may_be_kept u cs (mapping bt flow props qs) ≡ flow
mapping_flag {K} at bt props {ps = ps} {qs = qs} u cs true e a k f =
    kept_alike {K = K} {x = mapping at true props ps} {y = mapping bt true props qs} u cs (alike_mappings e a) k f
mapping_flag at bt props u cs false e alike_no_pairs k f = absurd (true≢false k)
mapping_flag at bt props u cs false e (alike_pair a b g more) k f = refl

mutual
  pub styled_alike : {K : Node → Node → Node → Node → Type 0} {x y : Node} (u : List ℕ) (c : LayoutSetting) → Alike K x y → House c x → Undisturbed u c.comments y → styled u c y ≡ y
  styled_alike u c (alike_scalars {bt = bt} e) h f = ap (restood bt) h
  styled_alike u c (alike_aliases e) h f = refl
  styled_alike {K} u c (alike_sequences {at = at} {bt = bt} {flow = flow} {props = props} {xs = xs} {ys = ys} e a) h (undisturbed_sequence n fs) =
      let flag : may_be_kept u c.comments (sequence bt flow props ys) ≡ flow =
      sequence_flag {K = K} at bt props {xs = xs} u c.comments flow e a (ap flow_of h) (undisturbed_sequence n fs) in
      ap (λ b. sequence bt b props (styled_items u c ys)) flag ∙ ap (λ w. sequence bt flow props w) (styled_items_alike u c a (ap items_of h) fs)
  styled_alike {K} u c (alike_mappings {at = at} {bt = bt} {flow = flow} {props = props} {ps = ps} {qs = qs} e a) h (undisturbed_mapping n fs) =
      let flag : may_be_kept u c.comments (mapping bt flow props qs) ≡ flow =
      mapping_flag {K = K} at bt props {ps = ps} u c.comments flow e a (ap flow_of h) (undisturbed_mapping n fs) in
      ap (λ b. mapping bt b props (styled_pairs u c qs)) flag ∙ ap (λ w. mapping bt flow props w) (styled_pairs_alike u c a (ap pairs_of h) fs)

  styled_items_alike : {K : Node → Node → Node → Node → Type 0} {xs ys : Items} (u : List ℕ) (c : LayoutSetting) → AlikeItems K xs ys → styled_items [] (setting c.style []) xs ≡ xs
      → UndisturbedItems u c.comments ys → styled_items u c ys ≡ ys
  styled_items_alike u c alike_nothing h f = refl
  styled_items_alike u c (alike_item {x = x} {y = y} {ys = ys} a more) h (undisturbed_item f fs) =
      ap (λ w. item w (styled_items u c ys)) (styled_alike u c a (ap (first_item x) h) f) ∙ ap (λ w. item y w) (styled_items_alike u c more (ap more_items h) fs)

  styled_pairs_alike : {K : Node → Node → Node → Node → Type 0} {ps qs : Pairs} (u : List ℕ) (c : LayoutSetting) → AlikePairs K ps qs → styled_pairs [] (setting c.style []) ps ≡ ps
      → UndisturbedPairs u c.comments qs → styled_pairs u c qs ≡ qs
  styled_pairs_alike u c alike_no_pairs h f = refl
  styled_pairs_alike u c (alike_pair {k = k} {l = l} {v = v} {w = w} {qs = qs} a b g more) h (undisturbed_pair f o fs) =
      ap (λ z. pair z (styled u c w) (styled_pairs u c qs)) (styled_alike u c a (ap (first_key k) h) f)
      ∙ (ap (λ z. pair l z (styled_pairs u c qs)) (styled_alike u c b (ap (first_value v) h) o) ∙ ap (λ z. pair l w z) (styled_pairs_alike u c more (ap more_pairs h) fs))
