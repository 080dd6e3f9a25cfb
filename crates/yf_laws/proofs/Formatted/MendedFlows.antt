-- In trees that are their own normal form, and whose outer flow collections are as they are written, no flow collection
-- is displaced.
use Rattle.std.proofs.Common.{◌≡◌, ℕ, ◌+◌, ◌<◌, ◌≤◌, ⊎_elim, Bool, true, false, true≢false, List, [], ◌∷◌, ◌++◌, Some, length, map, flat_map, refl, sym, ap, ◌∙◌, subst, arith, append-nil, length-append}
use Rattle.std.specs.Prelude.{◌&&◌, if◌then◌else◌, slice_get}
use Rattle.std.proofs.lemmas.Bool.{and_parts, cases_lt}
use Rattle.yf_events.specs.Event.{EventInText, document_starts, document_ends, sequence_ends, mapping_ends, stream_starts, stream_ends}
use Rattle.yf_events.specs.Tree.{NodeOffsets, Node, scalar, alias, sequence, mapping, Items, no_items, item, Pairs, no_pairs, pair, DocumentTree, TreesOf, flat, flat_document, flat_items, flat_pairs, is_filled_flow, unplaced}
use Rattle.yf_events.specs.declared.lists.Lists.{Lists}
use Rattle.yf_props.specs.Props.{PropsValue}
use Rattle.yf_forms.specs.Nodes.OneLineFlows.{may_be_kept}
use Rattle.yf_forms.specs.Nodes.SingleNodes.{NodeAt}
use Rattle.yf_forms.specs.NormalForms.Normal.{LayoutSetting, Margins, fits, inner_margins, key_margins, normal_document, root_margins, settled, settled_items, settled_pairs, styled, styled_items, styled_pairs, value_margins}
use Rattle.yf_forms.proofs.Decide.AmongLemmas.{Among, back, after_first, first_at, front, node_at}
use Rattle.yf_laws.proofs.NormalForms.SettledTwice.{settled_twice}
use Rattle.yf_rule_sets.specs.Passes.OuterFlow.{IsOutsideFlow, is_flow, starts_flow}
use Rattle.yf_rule_sets.proofs.Texts.FlowLemmas.{no_flow_begun}
use Rattle.yf_rule_sets.proofs.Texts.NodeLemmas.{same_node}
use Rattle.yf_laws.proofs.Columns.WrittenNodes.{WrittenAt, WrittenNode, sequence_on_line, mapping_on_line, written_sequence, written_mapping, WrittenItems, no_written_items, written_item, WrittenPairs, no_written_pairs, written_pair, WrittenDocuments, written_document}

-- Parts of equations.

same_items : {at bt : NodeOffsets} {props : PropsValue} {xs ys : Items} → sequence at false props xs ≡ sequence bt false props ys → xs ≡ ys
same_items e = cc

same_pairs : {at bt : NodeOffsets} {props : PropsValue} {xs ys : Pairs} → mapping at false props xs ≡ mapping bt false props ys → xs ≡ ys
same_pairs e = cc

first_item : {x y : Node} {xs ys : Items} → item x xs ≡ item y ys → x ≡ y
first_item e = cc

more_items : {x y : Node} {xs ys : Items} → item x xs ≡ item y ys → xs ≡ ys
more_items e = cc

first_key : {k v l w : Node} {xs ys : Pairs} → pair k v xs ≡ pair l w ys → k ≡ l
first_key e = cc

first_value : {k v l w : Node} {xs ys : Pairs} → pair k v xs ≡ pair l w ys → v ≡ w
first_value e = cc

more_pairs : {k v l w : Node} {xs ys : Pairs} → pair k v xs ≡ pair l w ys → xs ≡ ys
more_pairs e = cc

-- a flow collection that is the result of a choice was kept
chosen : (x y z : Node) (b : Bool) → is_flow y ≡ false → is_flow z ≡ true → (if b then x else y) ≡ z → (b ≡ true) × (x ≡ z)
chosen x y z true f g e = (refl, e)
chosen x y z false f g e = absurd (true≢false (sym g ∙ sym (ap is_flow e) ∙ f))

-- The facts about an outer flow collection.

pub record Fine (t : List ℕ) (c : LayoutSetting) (x : Node) : Type 0 where
  pub column : ℕ
  pub written : WrittenAt c.style t column x
  pub may : is_filled_flow x ≡ true → may_be_kept t c.comments x ≡ true
  pub same : is_filled_flow x ≡ true → styled t c x ≡ x
  pub fit : is_filled_flow x ≡ true → fits c.style column x ≡ true

-- One event, or the events between two, and none of them begins a flow collection.

module _ {es : List EventInText} {i : ℕ} {x : Node} (there : NodeAt es i x) (flow : is_flow x ≡ true) where
  not_begun : (e : EventInText) (ys : List EventInText) {k : ℕ} → starts_flow e.event ≡ false → Among es (e ∷ ys) k → k ≡ i → ⊥
  not_begun e ys f a q = no_flow_begun es i e.event (subst (λ n. slice_get (map (λ d. d.event) es) n ≡ Some e.event) q (first_at (λ (d : EventInText). d.event) e ys a)) f x there flow

  framed : (s e : EventInText) (ys : List EventInText) {k : ℕ} → starts_flow s.event ≡ false → starts_flow e.event ≡ false → Among es (s ∷ (ys ++ (e ∷ []))) k → k ≤ i
      → i < k + length (s ∷ (ys ++ (e ∷ []))) → (k + 1 ≤ i) × (i < k + 1 + length ys)
  framed s e ys {k} f g a l m =
      let long : length (ys ++ (e ∷ [])) ≡ length ys + 1 = length-append ys (e ∷ []) in
      let last = back ys (e ∷ []) (after_first s (ys ++ (e ∷ [])) a) in (
        ⊎_elim (λ (n : k < i). omega (arith, n)) (λ (n : i ≤ k). absurd (not_begun s (ys ++ (e ∷ [])) f a (omega (arith, n, l)))) (cases_lt k i),
        ⊎_elim (λ (n : i < k + 1 + length ys). n) (λ (n : k + 1 + length ys ≤ i). absurd (not_begun e [] g last (omega (arith, n, m, long)))) (cases_lt i (k + 1 + length ys)),
      )

-- A flow collection among the nodes.

module _ (t : List ℕ) (c : LayoutSetting) where
  fine_node : {margins : Margins} (other : Margins) (z : Node) → WrittenNode t c margins z → settled c margins z ≡ z → settled c other (styled t c z) ≡ z → is_flow z ≡ true → Fine t c z
  fine_node {margins} other (sequence at true props no_items) (sequence_on_line w) e f g =
      record { column = margins.column; written = w; may = λ q. absurd (true≢false (sym q)); same = λ q. absurd (true≢false (sym q)); fit = λ q. absurd (true≢false (sym q)) }
  fine_node {margins} other (sequence at true props (item x xs)) (sequence_on_line w) e f g =
      let z : Node = sequence at true props (item x xs) in
      let fit = chosen z (sequence at false props (settled_items c margins.entries (item x xs))) z (fits c.style margins.column z) refl refl e in
      let kept = chosen (styled t c z) (sequence at false props (settled_items c other.entries (styled_items t c (item x xs)))) z
      (may_be_kept t c.comments z && fits c.style other.column (styled t c z)) refl refl f in
      record { column = margins.column; written = w; may = λ q. (and_parts (may_be_kept t c.comments z) (fits c.style other.column (styled t c z)) kept.0).0; same = λ q. kept.1; fit = λ q. fit.0 }
  fine_node {margins} other (mapping at true props no_pairs) (mapping_on_line w) e f g =
      record { column = margins.column; written = w; may = λ q. absurd (true≢false (sym q)); same = λ q. absurd (true≢false (sym q)); fit = λ q. absurd (true≢false (sym q)) }
  fine_node {margins} other (mapping at true props (pair k v ps)) (mapping_on_line w) e f g =
      let z : Node = mapping at true props (pair k v ps) in
      let fit = chosen z (mapping at false props (settled_pairs c margins.entries (pair k v ps))) z (fits c.style margins.column z) refl refl e in
      let kept = chosen (styled t c z) (mapping at false props (settled_pairs c other.entries (styled_pairs t c (pair k v ps)))) z
      (may_be_kept t c.comments z && fits c.style other.column (styled t c z)) refl refl f in
      record { column = margins.column; written = w; may = λ q. (and_parts (may_be_kept t c.comments z) (fits c.style other.column (styled t c z)) kept.0).0; same = λ q. kept.1; fit = λ q. fit.0 }
  fine_node other (scalar at props style text lines) w e f g = absurd (true≢false (sym g))
  fine_node other (alias at name) w e f g = absurd (true≢false (sym g))
  fine_node other (sequence at false props xs) w e f g = absurd (true≢false (sym g))
  fine_node other (mapping at false props ps) w e f g = absurd (true≢false (sym g))

  -- the entries of a block collection are settled and styled as themselves
  items_settled : (at : NodeOffsets) (props : PropsValue) (margins : Margins) (xs : Items) → settled c margins (sequence at false props xs) ≡ sequence at false props xs → settled_items c margins.entries xs ≡ xs
  items_settled at props margins no_items e = refl
  items_settled at props margins (item x xs) e = same_items e

  items_styled : (at : NodeOffsets) (props : PropsValue) (margins : Margins) (xs : Items) → settled c margins (styled t c (sequence at false props xs)) ≡ sequence at false props xs
      → settled_items c margins.entries (styled_items t c xs) ≡ xs
  items_styled at props margins no_items e = refl
  items_styled at props margins (item x xs) e = same_items e

  pairs_settled : (at : NodeOffsets) (props : PropsValue) (margins : Margins) (ps : Pairs) → settled c margins (mapping at false props ps) ≡ mapping at false props ps → settled_pairs c margins.entries ps ≡ ps
  pairs_settled at props margins no_pairs e = refl
  pairs_settled at props margins (pair k v ps) e = same_pairs e

  pairs_styled : (at : NodeOffsets) (props : PropsValue) (margins : Margins) (ps : Pairs) → settled c margins (styled t c (mapping at false props ps)) ≡ mapping at false props ps
      → settled_pairs c margins.entries (styled_pairs t c ps) ≡ ps
  pairs_styled at props margins no_pairs e = refl
  pairs_styled at props margins (pair k v ps) e = same_pairs e

  module _ {es : List EventInText} {i : ℕ} {x : Node} (there : NodeAt es i x) (flow : is_flow x ≡ true) (outer : IsOutsideFlow es i) where
    -- the only flow collection that holds the event is the one that it begins
    on_line : (k : ℕ) (z : Node) {margins : Margins} (other : Margins) → WrittenNode t c margins z → settled c margins z ≡ z → settled c other (styled t c z) ≡ z → is_flow z ≡ true → Among es (flat z) k
        → k ≤ i → i < k + length (flat z) → Fine t c x
    on_line k z other w e f g a l m =
        let n : NodeAt es k z = node_at z a in
        ⊎_elim (λ (h : k < i). let far = outer.outside k z n g h in absurd (omega (arith, far, m)))
        (λ (h : i ≤ k). let q : k ≡ i = omega (arith, h, l) in subst (λ y. Fine t c y) (same_node (subst (λ b. NodeAt es b z) q n) there) (fine_node other z w e f g)) (cases_lt k i)

    mutual
      in_node : (k : ℕ) (z : Node) (margins other : Margins) → WrittenNode t c margins z → settled c margins z ≡ z → settled c other (styled t c z) ≡ z → Among es (flat z) k → k ≤ i
          → i < k + length (flat z) → Fine t c x
      in_node k (scalar at props style text lines) margins other w e f a l m = absurd (not_begun there flow _ [] refl a (omega (arith, l, m)))
      in_node k (alias at name) margins other w e f a l m = absurd (not_begun there flow _ [] refl a (omega (arith, l, m)))
      in_node k (sequence at true props xs) margins other w e f a l m = on_line k (sequence at true props xs) other w e f refl a l m
      in_node k (mapping at true props ps) margins other w e f a l m = on_line k (mapping at true props ps) other w e f refl a l m
      in_node k (sequence at false props xs) margins other (written_sequence w) e f a l m =
          let end : EventInText = unplaced sequence_ends in
          let b = framed there flow _ end (flat_items xs) refl refl a l m in
          in_items (k + 1) margins.entries other.entries xs w (items_settled at props margins xs e) (items_styled at props other xs f)
          (front (flat_items xs) (end ∷ []) (after_first _ (flat_items xs ++ (end ∷ [])) a)) b.0 b.1
      in_node k (mapping at false props ps) margins other (written_mapping w) e f a l m =
          let end : EventInText = unplaced mapping_ends in
          let b = framed there flow _ end (flat_pairs ps) refl refl a l m in
          in_pairs (k + 1) margins.entries other.entries ps w (pairs_settled at props margins ps e) (pairs_styled at props other ps f)
          (front (flat_pairs ps) (end ∷ []) (after_first _ (flat_pairs ps ++ (end ∷ [])) a)) b.0 b.1

      in_items : (k m n : ℕ) (xs : Items) → WrittenItems t c m xs → settled_items c m xs ≡ xs → settled_items c n (styled_items t c xs) ≡ xs → Among es (flat_items xs) k → k ≤ i
          → i < k + length (flat_items xs) → Fine t c x
      in_items k m n no_items no_written_items e f a l q = absurd (omega (arith, l, q))
      in_items k m n (item z zs) (written_item w ws) e f a l q =
          let both : length (flat z ++ flat_items zs) ≡ length (flat z) + length (flat_items zs) = length-append (flat z) (flat_items zs) in
          ⊎_elim
          (λ (h : i < k + length (flat z)). in_node k z (inner_margins c.style m) (inner_margins c.style n) w (first_item e) (first_item f) (front (flat z) (flat_items zs) a) l h)
          (λ (h : k + length (flat z) ≤ i). in_items (k + length (flat z)) m n zs ws (more_items e) (more_items f) (back (flat z) (flat_items zs) a) h (omega (arith, q, both)))
          (cases_lt i (k + length (flat z)))

      in_pairs : (k m n : ℕ) (ps : Pairs) → WrittenPairs t c m ps → settled_pairs c m ps ≡ ps → settled_pairs c n (styled_pairs t c ps) ≡ ps → Among es (flat_pairs ps) k → k ≤ i
          → i < k + length (flat_pairs ps) → Fine t c x
      in_pairs k m n no_pairs no_written_pairs e f a l q = absurd (omega (arith, l, q))
      in_pairs k m n (pair y z ps) (written_pair w v ws) e f a l q =
          let rest : List EventInText = flat z ++ flat_pairs ps in
          let one : length (flat y ++ rest) ≡ length (flat y) + length rest = length-append (flat y) rest in
          let two : length rest ≡ length (flat z) + length (flat_pairs ps) = length-append (flat z) (flat_pairs ps) in
          let b = back (flat y) rest a in
          let j : ℕ = k + length (flat y) in
          ⊎_elim
          (λ (h : i < j). in_node k y (key_margins c.style m y) (key_margins c.style n (styled t c y)) w (first_key e) (first_key f) (front (flat y) rest a) l h)
          (λ (h : j ≤ i). ⊎_elim
          (λ (g : i < j + length (flat z)). in_node j z (value_margins c m y z) (value_margins c n (styled t c y) (styled t c z)) v (first_value e) (first_value f) (front (flat z) (flat_pairs ps) b) h g)
          (λ (g : j + length (flat z) ≤ i). in_pairs (j + length (flat z)) m n ps ws (more_pairs e) (more_pairs f) (back (flat z) (flat_pairs ps) b) g (omega (arith, q, one, two)))
          (cases_lt i (j + length (flat z))))
          (cases_lt i j)

    -- documents

    first_root : {d : DocumentTree} {ds : List DocumentTree} → map (normal_document t c) (d ∷ ds) ≡ d ∷ ds → settled c (root_margins c.style) (styled t c d.root) ≡ d.root
    first_root {d} {ds} e = ap (root_or d) e where
      root_or : DocumentTree → List DocumentTree → Node
      root_or other [] = other.root
      root_or other (y ∷ ys) = y.root

    more_documents : {d : DocumentTree} {ds : List DocumentTree} → map (normal_document t c) (d ∷ ds) ≡ d ∷ ds → map (normal_document t c) ds ≡ ds
    more_documents e = cc

    in_document : (k : ℕ) (d : DocumentTree) → WrittenNode t c (root_margins c.style) d.root → settled c (root_margins c.style) (styled t c d.root) ≡ d.root → Among es (flat_document d) k → k ≤ i
        → i < k + length (flat_document d) → Fine t c x
    in_document k d w e a l m =
        let end : EventInText = unplaced (document_ends d.closed) in
        let b = framed there flow (unplaced (document_starts d.marked)) end (flat d.root) refl refl a l m in
        let margins : Margins = root_margins c.style in
        let stays : settled c margins d.root ≡ d.root = ap (λ y. settled c margins y) (sym e) ∙ (settled_twice c margins margins (styled t c d.root) (record { entries = refl; column = λ q. refl }) ∙ e) in
        in_node (k + 1) d.root margins margins w stays e (front (flat d.root) (end ∷ []) (after_first _ (flat d.root ++ (end ∷ [])) a)) b.0 b.1

    in_documents : (k : ℕ) (ds : List DocumentTree) → WrittenDocuments t c ds → map (normal_document t c) ds ≡ ds → Among es (flat_map flat_document ds) k → k ≤ i
        → i < k + length (flat_map flat_document ds) → Fine t c x
    in_documents k [] w e a l m = absurd (omega (arith, l, m))
    in_documents k (d ∷ ds) (written_document w ws) e a l m =
        let rest : List EventInText = flat_map flat_document ds in
        let both : length (flat_document d ++ rest) ≡ length (flat_document d) + length rest = length-append (flat_document d) rest in
        ⊎_elim
        (λ (h : i < k + length (flat_document d)). in_document k d w (first_root e) (front (flat_document d) rest a) l h)
        (λ (h : k + length (flat_document d) ≤ i). in_documents (k + length (flat_document d)) ds ws (more_documents e) (back (flat_document d) rest a) h (omega (arith, m, both)))
        (cases_lt i (k + length (flat_document d)))

-- in a reading with these trees
pub fine_outer : {t : List ℕ} {c : LayoutSetting} {r : Lists} {i : ℕ} {x : Node} (trees : List DocumentTree) → TreesOf r trees → WrittenDocuments t c trees → map (normal_document t c) trees ≡ trees
    → NodeAt r.events i x → is_flow x ≡ true → IsOutsideFlow r.events i → Fine t c x
fine_outer {t} {c} {r} {i} {x} trees of_reading w e there flow outer =
    let docs : List EventInText = flat_map flat_document trees in
    let start : EventInText = unplaced stream_starts in
    let end : EventInText = unplaced stream_ends in
    let all : Among r.events (start ∷ (docs ++ (end ∷ []))) 0 = record { before = []; after = []; is = of_reading.events ∙ sym (append-nil (start ∷ (docs ++ (end ∷ [])))); index = refl } in
    let size : length r.events ≡ length (start ∷ (docs ++ (end ∷ []))) = ap length of_reading.events in
    let within : i < length r.events = index_within there in
    let b = framed there flow start end docs refl refl all (omega arith) (omega (arith, within, size)) in
    in_documents t c there flow outer 1 trees w e (front docs (end ∷ []) (after_first start (docs ++ (end ∷ [])) all)) b.0 b.1 where
      filled : (y : Node) → 0 < length (flat y)
      filled (scalar at props style text lines) = omega arith
      filled (alias at name) = omega arith
      filled (sequence at flow props xs) = omega arith
      filled (mapping at flow props ps) = omega arith

      index_within : NodeAt r.events i x → i < length r.events
      index_within n =
          let one : length r.events ≡ length n.before + length (flat x ++ n.after) = ap length n.is ∙ length-append n.before (flat x ++ n.after) in
          let two : length (flat x ++ n.after) ≡ length (flat x) + length n.after = length-append (flat x) n.after in
          let some = filled x in
          let at = n.index in
          omega (arith, one, two, some, at)
