-- The results of an ended collection.
use Rattle.std.proofs.Common.{◌≡◌, ℕ, suc, ◌+◌, ◌-◌, Bool, true, false, not, ◌&&◌, List, [], ◌∷◌, ◌++◌, length, Option, Some, None, refl, sym, ap, ◌∙◌, arith, append_assoc}
use Rattle.std.specs.Prelude.{if◌then◌else◌, is_some, nat_lt}
use Rattle.std.specs.Str.{chars, IsUtf8}
use Rattle.std.proofs.lemmas.Bool.{and_parts}
use Rattle.std.proofs.lemmas.Str.{IsUtf8-append, IsUtf8-nil, IsUtf8-from_is_utf8}
use Rattle.std.specs.Str.{is_utf8}
use Rattle.yf_props.specs.Props.{PropsValue}
use Rattle.yf_events.specs.declared.event.ScalarStyle.{ScalarStyle}
use Rattle.yf_events.specs.declared.event.Span.{Span}
use Rattle.yf_forms.specs.declared.form.ended.Ended.{Ended}
use Rattle.yf_forms.specs.Nodes.OneLineFlows.{has_comment, may_be_kept, items_may_be_kept, pairs_may_be_kept}
use Rattle.yf_forms.specs.NormalForms.Measures.{up_to_greatest, width_if, joined_width, leaf_indices, first_of, last_of}
use Rattle.yf_forms.specs.Passes.MeasurePass.{joined_sum, opened, closed, have_texts, ended_scalar, ended_alias, leaf_if}
use Rattle.yf_forms.specs.NormalForms.Normal.{LayoutSetting, styled, styled_items, styled_pairs}
use Rattle.yf_forms.specs.Nodes.OneLine.{width, spaced, written, more_items, more_pairs, props_text}
use Rattle.yf_events.specs.Tree.{NodeOffsets, scalar, alias, sequence, mapping, Items, no_items, item, Pairs, no_pairs, pair, flat, flat_items, flat_pairs}
use Rattle.yf_forms.proofs.Texts.WidthLemmas.{cut_first, width_join, width_head, width_nil, utf8_head, joined_spaced}
use Rattle.yf_forms.proofs.Texts.TreeTexts.{written_utf8, texts_join, pair_texts, items_utf8, pairs_utf8}
use Rattle.yf_forms.proofs.Measure.SumLemmas.{ended_of, filled, first_item_in, first_pair_in, items_in, pairs_in, pair_text, pair_utf8, with_items, with_pairs}

pub same_ended : (b : Bool) {l m : ℕ} {w v : Option ℕ} {a d : Bool} {f g h k : Option ℕ} {r s : Option ℕ} → l ≡ m → w ≡ v → a ≡ d → f ≡ g → h ≡ k → r ≡ s
    → ◌≡◌ {A = Ended} (record { measure = record { last = l; width = w; can_be_kept = a; first_leaf = f; last_leaf = h }; inside = r; is_alias = b })
    (record { measure = record { last = m; width = v; can_be_kept = d; first_leaf = g; last_leaf = k }; inside = s; is_alias = b })
same_ended b p q r s t u =
    λ j. record { measure = record { last = p j; width = q j; can_be_kept = r j; first_leaf = s j; last_leaf = t j }; inside = u j; is_alias = b }

-- the width from bracket to bracket, with the properties
pub in_brackets : (p : List ℕ) (first last : ℕ) (b : Bool) (y : List ℕ) → nat_lt first 128 ≡ true → nat_lt last 128 ≡ true → IsUtf8 p → IsUtf8 y
    → joined_sum (up_to_greatest (width p)) (width_if b y) ≡ width_if b (spaced p (first ∷ (y ++ (last ∷ []))))
in_brackets p first last false y f l u v = refl
in_brackets p first last true y f l u v =
    let e1 : width (first ∷ (y ++ (last ∷ []))) ≡ suc (width (y ++ (last ∷ []))) = width_head first _ f in
    let e2 : width (y ++ (last ∷ [])) ≡ width y + width (last ∷ []) = width_join y (last ∷ []) v in
    let e3 : width (last ∷ []) ≡ 1 = width_head last [] l ∙ ap suc width_nil in
    let e4 : width y + 2 ≡ width (first ∷ (y ++ (last ∷ []))) = omega arith in
    let whole : IsUtf8 (first ∷ (y ++ (last ∷ []))) = utf8_head first _ f (IsUtf8-append y _ v (utf8_head last [] l IsUtf8-nil)) in
    ap Some (ap (joined_width (up_to_greatest (width p))) (cut_first (width y) 2 ∙ ap (λ n. up_to_greatest n) e4) ∙ joined_spaced p _ u whole)

is_some_if : (b : Bool) (y : List ℕ) → is_some (width_if b y) ≡ b
is_some_if true y = refl
is_some_if false y = refl

pub closed_as : (p : List ℕ) (first last : ℕ) (i end : ℕ) (m q b : Bool) (y ls : List ℕ) → nat_lt first 128 ≡ true → nat_lt last 128 ≡ true → IsUtf8 p → IsUtf8 y
    → closed (filled i m (up_to_greatest (width p)) q b y ls) end
    ≡ record {
      measure = record {
        last = end;
        width = width_if b (spaced p (first ∷ (y ++ (last ∷ []))));
        can_be_kept = b;
        first_leaf = first_of ls;
        last_leaf = last_of ls;
      };
      inside = width_if b (spaced p (first ∷ (y ++ (last ∷ []))));
      is_alias = false;
    }
closed_as p first last i end m q b y ls f l u v =
    same_ended false refl (in_brackets p first last b y f l u v) (is_some_if b y) refl refl (in_brackets p first last b y f l u v)

-- a collection that is kept is a flow collection
kept_flow : (flow a b c : Bool) → (((flow && a) && b) && c) ≡ (flow && (((flow && a) && b) && c))
kept_flow true a b c = refl
kept_flow false a b c = refl

kept_flow_pair : (flow a b c d : Bool) → ((((flow && a) && b) && c) && d) ≡ (flow && ((((flow && a) && b) && c) && d))
kept_flow_pair true a b c d = refl
kept_flow_pair false a b c d = refl

props_part : (props : PropsValue) (r : Bool) → (is_utf8 (props_text props) && r) ≡ true → IsUtf8 (props_text props)
props_part props r e = IsUtf8-from_is_utf8 _ (and_parts (is_utf8 (props_text props)) r e).0

two_wide : up_to_greatest (width (91 ∷ 93 ∷ [])) ≡ 2
unfolding chars
two_wide = refl

two_wide_map : up_to_greatest (width (123 ∷ 125 ∷ [])) ≡ 2
unfolding chars
two_wide_map = refl

pub ended_items : (t : List ℕ) (c : LayoutSetting) (i end : ℕ) (at : NodeOffsets) (flow : Bool) (props : PropsValue) (xs : Items)
    → have_texts (flat (sequence at flow props xs)) ≡ true → end ≡ i + length (flat (sequence at flow props xs)) - 1
    → closed (with_items t c (i + 1) xs (opened t c.comments i at.span props flow false)) end ≡ ended_of t c i (sequence at flow props xs)
ended_items t c i end at flow props no_items e l =
    let u = props_part props _ e in
    let w : joined_width (up_to_greatest (width (props_text props))) 2 ≡ up_to_greatest (width (spaced (props_text props) (91 ∷ 93 ∷ []))) =
    ap (joined_width (up_to_greatest (width (props_text props)))) (sym two_wide) ∙ joined_spaced (props_text props) (91 ∷ 93 ∷ []) u (utf8_head 91 _ refl (utf8_head 93 _ refl IsUtf8-nil)) in
    same_ended false l (ap Some w) refl refl refl (ap Some w)
ended_items t c i end at flow props (item x xs) e l =
    let u = props_part props _ e in
    let h = texts_join (flat x) (flat_items xs) (texts_join (flat x ++ flat_items xs) _ (and_parts (is_utf8 (props_text props)) _ e).1).0 in
    let v = written_utf8 t c x h.0 in
    let f : Bool = flow && not (has_comment t c.comments at.span props) in
    let b : Bool = (f && may_be_kept t c.comments x) && items_may_be_kept t c.comments xs in
    let y : List ℕ = written c.style (styled t c x) ++ more_items c.style (styled_items t c xs) in
    let text : spaced (props_text props) (91 ∷ (y ++ (93 ∷ []))) ≡ written c.style (styled t c (sequence at flow props (item x xs))) =
    ap (λ z. spaced (props_text props) (91 ∷ z)) (append_assoc (written c.style (styled t c x)) (more_items c.style (styled_items t c xs)) (93 ∷ [])) in
    ap (λ o. closed o end) (ap (with_items t c (i + 1 + length (flat x)) xs) (first_item_in t c (i + 1) i (up_to_greatest (width (props_text props))) f x v)
    ∙ items_in t c (i + 1 + length (flat x)) i _ (f && may_be_kept t c.comments x) (written c.style (styled t c x)) (leaf_indices (i + 1) x) xs v h.1)
    ∙ closed_as (props_text props) 91 93 i end false false b y _ refl refl u (IsUtf8-append _ _ v (items_utf8 t c xs h.1))
    ∙ same_ended false l (ap (width_if b) text) (kept_flow flow _ _ _) refl refl (ap (width_if b) text)

pub ended_pairs : (t : List ℕ) (c : LayoutSetting) (i end : ℕ) (at : NodeOffsets) (flow : Bool) (props : PropsValue) (ps : Pairs)
    → have_texts (flat (mapping at flow props ps)) ≡ true → end ≡ i + length (flat (mapping at flow props ps)) - 1
    → closed (with_pairs t c (i + 1) ps (opened t c.comments i at.span props flow true)) end ≡ ended_of t c i (mapping at flow props ps)
ended_pairs t c i end at flow props no_pairs e l =
    let u = props_part props _ e in
    let w : joined_width (up_to_greatest (width (props_text props))) 2 ≡ up_to_greatest (width (spaced (props_text props) (123 ∷ 125 ∷ []))) =
    ap (joined_width (up_to_greatest (width (props_text props)))) (sym two_wide_map) ∙ joined_spaced (props_text props) (123 ∷ 125 ∷ []) u (utf8_head 123 _ refl (utf8_head 125 _ refl IsUtf8-nil)) in
    same_ended false l (ap Some w) refl refl refl (ap Some w)
ended_pairs t c i end at flow props (pair k v ps) e l =
    let u = props_part props _ e in
    let h = pair_texts k v ps (texts_join (flat_pairs (pair k v ps)) _ (and_parts (is_utf8 (props_text props)) _ e).1).0 in
    let a = written_utf8 t c k h.key in
    let z = written_utf8 t c v h.value in
    let j : ℕ = i + 1 + length (flat k) in
    let f : Bool = flow && not (has_comment t c.comments at.span props) in
    let b : Bool = ((f && may_be_kept t c.comments k) && may_be_kept t c.comments v) && pairs_may_be_kept t c.comments ps in
    let y : List ℕ = pair_text t c k v ++ more_pairs c.style (styled_pairs t c ps) in
    let text : spaced (props_text props) (123 ∷ (y ++ (125 ∷ []))) ≡ written c.style (styled t c (mapping at flow props (pair k v ps))) =
    ap (λ w. spaced (props_text props) (123 ∷ w)) (simp append_assoc) in
    let whole : IsUtf8 (pair_text t c k v) = pair_utf8 t c k v a z in
    ap (λ o. closed o end) (ap (with_pairs t c (j + length (flat v)) ps) (first_pair_in t c (i + 1) j i (up_to_greatest (width (props_text props))) f k v a z)
    ∙ pairs_in t c (j + length (flat v)) i _ ((f && may_be_kept t c.comments k) && may_be_kept t c.comments v) (pair_text t c k v)
    (leaf_indices (i + 1) k ++ leaf_indices j v) ps whole h.others)
    ∙ closed_as (props_text props) 123 125 i end true true b y _ refl refl u (IsUtf8-append _ _ whole (pairs_utf8 t c ps h.others))
    ∙ same_ended false l (ap (width_if b) text) (kept_flow_pair flow _ _ _ _) (ap first_of (append_assoc (leaf_indices (i + 1) k) _ _))
    (ap last_of (append_assoc (leaf_indices (i + 1) k) _ _)) (ap (width_if b) text)

pub ended_as_scalar : (t : List ℕ) (c : LayoutSetting) (i : ℕ) (at : NodeOffsets) (props : PropsValue) (style : ScalarStyle) (text : List ℕ) (lines : List (List ℕ))
    → ended_scalar c.style i at.span props style text ≡ ended_of t c i (scalar at props style text lines)
ended_as_scalar t c i at props style text lines =
    let l : i ≡ i + 1 - 1 = omega arith in
    same_ended false l refl refl (first at.span) (last at.span) refl where
      first : (s : Option Span) → leaf_if s i ≡ first_of (if is_some s then i ∷ [] else [])
      first None = refl
      first (Some s) = refl

      last : (s : Option Span) → leaf_if s i ≡ last_of (if is_some s then i ∷ [] else [])
      last None = refl
      last (Some s) = refl

pub ended_as_alias : (t : List ℕ) (c : LayoutSetting) (i : ℕ) (at : NodeOffsets) (name : List ℕ) → ended_alias i name ≡ ended_of t c i (alias at name)
ended_as_alias t c i at name = let l : i ≡ i + 1 - 1 = omega arith in same_ended true l refl refl refl refl refl
