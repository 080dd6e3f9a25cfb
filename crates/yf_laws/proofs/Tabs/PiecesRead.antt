-- The pieces of a tree that is read have tabs only in its plain and single-quoted scalars.
use Rattle.std.proofs.Common.{◌≡◌, ℕ, ◌⊎◌, inl, inr, ⊎_elim, Bool, List, [], ◌∷◌, ◌++◌, refl, sym, subst}
use Rattle.std.specs.Prelude.{chars}
use Rattle.std.proofs.lemmas.Grind.{flat_map-append}
use Rattle.yf_props.specs.Props.{PropsValue}
use Rattle.yf_events.specs.Event.{EventValue, EventInText, mapping_ends, sequence_ends}
use Rattle.yf_events.specs.declared.event.ScalarStyle.{ScalarStyle}
use Rattle.yf_events.specs.declared.event.ScalarStyle.TheVariants.{Plain, Single, Double, Literal, Folded}
use Rattle.yf_events.specs.Tree.{NodeOffsets, Node, scalar, Items, Pairs, flat, flat_items, flat_pairs, unplaced}
use Rattle.yf_forms.specs.declared.style.Style.{Style}
use Rattle.yf_laws.specs.Layouts.ReadableTrees.{FitProps, no_fit_props, some_fit_props}
use Rattle.yf_forms.specs.Nodes.OneLine.{props_text, scalar_text}
use Rattle.yf_laws.proofs.Writable.ReadTrees.{ReadNode, read_nothing, read_props, read_scalar, read_alias, read_sequence, read_mapping, ReadItems, read_no_items, read_item, ReadPairs, read_no_pairs, read_pair}
use Rattle.yf_laws.specs.Preservation.Tokens.{HasText, first_text, later_text, TabsWithin, at_end, tokens_in, tokens_of_event}
use Rattle.yf_laws.proofs.Derived.CollectionsMade.{same_props}
use Rattle.yf_laws.proofs.Tabs.RowTokens.{pieces_append, pieces_in, text_left, text_right}
use Rattle.yf_laws.proofs.Tabs.TokenTabs.{double_tabs, name_tabs, one_token, props_tabless}

pub either_text : {w : List ℕ} (xs ys : List (List ℕ)) → HasText w (xs ++ ys) → HasText w xs ⊎ HasText w ys
either_text [] ys a = inr a
either_text (x ∷ xs) ys (first_text e) = inl (first_text e)
either_text (x ∷ xs) ys (later_text a) = ⊎_elim (λ h. inl (later_text h)) (λ h. inr h) (either_text xs ys a)

pub none_text : {X : Type 0} {w : List ℕ} → HasText w [] → X
none_text a = elim a [ ]

tokens_append : (es fs : List EventInText) → tokens_in (es ++ fs) ≡ tokens_in es ++ tokens_in fs
tokens_append es fs = flat_map-append (λ (e : EventInText). tokens_of_event e.event) es fs

module _ (Token : List ℕ → Type 0) (house : Style) where
  abbrev Tabs : List ℕ → Type 0
  Tabs x = TabsWithin Token x

  -- the plain and single-quoted scalars of events are tokens
  abbrev pub AreTokens : List EventInText → Type 0
  AreTokens es = (w : List ℕ) → HasText w (tokens_in es) → Token w

  -- and no tab is elsewhere in their pieces
  abbrev pub PiecesTabless : List EventInText → Type 0
  PiecesTabless es = (w : List ℕ) → HasText w (pieces_in house es) → Tabs w

  pub left_tokens : (es fs : List EventInText) → AreTokens (es ++ fs) → AreTokens es
  left_tokens es fs h = λ w a. h w (subst (λ z. HasText w z) (sym (tokens_append es fs)) (text_left (tokens_in fs) a))

  pub right_tokens : (es fs : List EventInText) → AreTokens (es ++ fs) → AreTokens fs
  right_tokens es fs h = λ w a. h w (subst (λ z. HasText w z) (sym (tokens_append es fs)) (text_right (tokens_in es) a))

  pub pieces_joined : (es fs : List EventInText) → PiecesTabless es → PiecesTabless fs → PiecesTabless (es ++ fs)
  pieces_joined es fs a b = λ w h. ⊎_elim (λ (k : HasText w (pieces_in house es)). a w k) (λ (k : HasText w (pieces_in house fs)). b w k) (either_text (pieces_in house es) (pieces_in house fs) (subst (λ z. HasText w z) (pieces_append house es fs) h))

  props_read : {p : PropsValue} → FitProps p → Tabs (props_text p)
  props_read no_fit_props = at_end
  props_read (some_fit_props k n) = subst (λ z. Tabs z) (sym (same_props k)) (props_tabless Token k)

  one_piece : {w v : List ℕ} → Tabs v → HasText w (v ∷ []) → Tabs w
  one_piece a (first_text e) = subst (λ z. Tabs z) (sym e) a
  one_piece a (later_text b) = none_text b

  two_pieces : {w u v : List ℕ} → Tabs u → Tabs v → HasText w (u ∷ v ∷ []) → Tabs w
  two_pieces a b (first_text e) = subst (λ z. Tabs z) (sym e) a
  two_pieces a b (later_text c) = one_piece b c

  more_pieces : {w v : List ℕ} {ws : List (List ℕ)} → Tabs v → (HasText w ws → Tabs w) → HasText w (v ∷ ws) → Tabs w
  more_pieces a f (first_text e) = subst (λ z. Tabs z) (sym e) a
  more_pieces a f (later_text b) = f b

  scalar_read : (at : NodeOffsets) (props : PropsValue) (style : ScalarStyle) (text : List ℕ) (lines : List (List ℕ)) → AreTokens (flat (scalar at props style text lines)) → Tabs (scalar_text house style text)
  scalar_read at props Plain text lines h = one_token Token (h text (first_text refl))
  scalar_read at props Single text lines h = one_token Token (h (scalar_text house Single text) (first_text refl))
  scalar_read at props Double text lines h = double_tabs Token house.invisible (chars text)
  scalar_read at props Literal text lines h = at_end
  scalar_read at props Folded text lines h = at_end

  -- before the event that ends a collection, which has no piece
  pub ended : (es : List EventInText) (e : EventValue) → pieces_in house (unplaced e ∷ []) ≡ [] → PiecesTabless es → PiecesTabless (es ++ (unplaced e ∷ []))
  ended es e none a = pieces_joined es (unplaced e ∷ []) a (λ w h. none_text (subst (λ z. HasText w z) none h))

  mutual
    pub node_read : {b : Bool} {x : Node} → ReadNode b x → AreTokens (flat x) → PiecesTabless (flat x)
    node_read (read_nothing s) h = λ w a. two_pieces at_end at_end a
    node_read (read_props s p n) h = λ w a. two_pieces (subst (λ z. Tabs z) (sym (same_props p)) (props_tabless Token p)) at_end a
    node_read (read_scalar {at = at} {p = p} {style = style} {text = text} {lines = lines} s f u r) h = λ w a. two_pieces (props_read f) (scalar_read at p style text lines h) a
    node_read (read_alias s n) h = λ w a. one_piece (name_tabs Token n) a
    node_read (read_sequence {xs = xs} s f r) h =
        λ w a. more_pieces (props_read f) (ended (flat_items xs) sequence_ends refl (items_read r (left_tokens (flat_items xs) (unplaced sequence_ends ∷ []) h)) w) a
    node_read (read_mapping {ps = ps} s f r) h =
        λ w a. more_pieces (props_read f) (ended (flat_pairs ps) mapping_ends refl (pairs_read r (left_tokens (flat_pairs ps) (unplaced mapping_ends ∷ []) h)) w) a

    items_read : {b : Bool} {xs : Items} → ReadItems b xs → AreTokens (flat_items xs) → PiecesTabless (flat_items xs)
    items_read read_no_items h = λ w a. none_text a
    items_read (read_item {x = x} {xs = xs} r rs) h =
        pieces_joined (flat x) (flat_items xs) (node_read r (left_tokens (flat x) (flat_items xs) h)) (items_read rs (right_tokens (flat x) (flat_items xs) h))

    pairs_read : {b : Bool} {ps : Pairs} → ReadPairs b ps → AreTokens (flat_pairs ps) → PiecesTabless (flat_pairs ps)
    pairs_read read_no_pairs h = λ w a. none_text a
    pairs_read (read_pair {k = k} {v = v} {ps = ps} r q rs) h =
        let others = right_tokens (flat k) (flat v ++ flat_pairs ps) h in
        pieces_joined (flat k) (flat v ++ flat_pairs ps) (node_read r (left_tokens (flat k) (flat v ++ flat_pairs ps) h))
        (pieces_joined (flat v) (flat_pairs ps) (node_read q (left_tokens (flat v) (flat_pairs ps) others)) (pairs_read rs (right_tokens (flat v) (flat_pairs ps) others)))
