-- The trees of a reading, its documents and its comments have at most one byte more than the text; and the cost of its
-- normal form from these.
use Rattle.std.proofs.Common.{◌≡◌, ℕ, suc, ◌+◌, ◌≤◌, Bool, false, List, [], ◌∷◌, ◌++◌, length, map, Option, refl, ap, ◌∙◌, subst, arith, append_assoc, flat_map}
use Rattle.std.proofs.Math.Nat.{max-le}
use Rattle.std.proofs.lemmas.Str.{IsUtf8-nil}
use Rattle.std.specs.Str.{IsUtf8}
use Rattle.yf_comments.specs.Comment.{CommentValue}
use Rattle.yf_props.specs.Props.{no_props}
use Rattle.yf_events.specs.Event.{EventInText, document_ends, document_starts, stream_ends, stream_starts}
use Rattle.yf_events.specs.Tree.{DocumentTree, Node, Items, Pairs, flat, flat_document, flat_stream, unplaced}
use Rattle.yf_events.specs.declared.document.Doc.{Doc}
use Rattle.yf_events.specs.declared.event.ScalarStyle.TheVariants.{Plain}
use Rattle.yf_events.specs.declared.lists.Lists.{Lists}
use Rattle.yf_grammar.specs.Productions.ReadParts.{Noting, no_event, without_entry, with_entry}
use Rattle.yf_grammar.specs.Productions.TreesOfMeaning.{tall}
use Rattle.yf_stream.specs.ReadingOf.{DocumentEvents, no_document, one_document, NotedComments, no_comment, one_comment, ReadingOf, doc_of}
use Rattle.yf_stream.specs.Stream.{Document}
use Rattle.yf_stream.proofs.Offsets.ReadingTrees.{TreesMeant, no_trees_meant, tree_meant, TreesStand, no_trees_stand, tree_is_at, reading_is_at}
use Rattle.yf_stream.proofs.Uniqueness.StreamDocuments.{DocumentsDerived, no_documents_derived, document_derived}
use Rattle.yf_laws.specs.Layouts.FitDocuments.{tall_documents}
use Rattle.yf_forms.specs.NormalForms.Normal.{LayoutSetting, normal_document, root_margins, styled, styled_items, styled_pairs}
use Rattle.yf_laws.proofs.Derived.FormatsRead.{alike_tall}
use Rattle.yf_laws.proofs.Size.DocumentRows.{TreesCost, no_tree_costs, one_tree_costs, documents_weight}
use Rattle.yf_laws.proofs.Size.LeafBytes.{leaf_cost}
use Rattle.yf_laws.proofs.Size.NodeCosts.{Costs, scalar_costs, alias_costs, no_items_cost, items_cost, no_pairs_cost, pairs_cost, ItemsCost, no_more_items, more_items_cost, PairsCost, no_more_pairs, more_pairs_cost, settled_costs}
use Rattle.yf_laws.proofs.Size.StreamBytes.{DocumentsWeigh, none_weigh, one_weighs, stream_fills}
use Rattle.yf_laws.proofs.Size.TreeBytes.{bulk, items_bulk, pairs_bulk, tree_heavy}
use Rattle.yf_laws.proofs.Size.Weights.{closing, entry_weight, opens, remark_weight, remarks_weight, value_weight, weigh}
use Rattle.yf_laws.proofs.Writable.ReadTrees.{ReadNode, read_nothing, read_props, read_scalar, read_alias, read_sequence, read_mapping, ReadItems, read_no_items, read_item, ReadPairs, read_no_pairs, read_pair}
use Rattle.yf_laws.proofs.Writable.TreesRead.{document_read, read_alike, same_node}

-- Notes on blank lines don't count.

noted_weight : {t : List ℕ} {floor : ℕ} {xs ys : List EventInText} → Noting t floor xs ys → (after : Bool) → weigh after xs ≡ weigh after ys
noted_weight no_event after = refl
noted_weight (without_entry {e = e} q n) after = ap (λ k. (value_weight e.event e.folded + entry_weight e.entry) + (closing e.event after + k)) (noted_weight n (opens e.event))
noted_weight (with_entry {e = e} {y = ys} entry q s n) after =
    ap (λ k. (value_weight e.event e.folded + entry_weight e.entry) + (closing e.event after + k)) (noted_weight n (opens e.event))
    ∙ ap (λ o. (value_weight e.event e.folded + entry_weight o) + (closing e.event after + weigh (opens e.event) ys)) q

noted_remarks : {t : List ℕ} {es : List EventInText} {cs noted : List CommentValue} → NotedComments t es cs noted → remarks_weight cs ≡ remarks_weight noted
noted_remarks no_comment = refl
noted_remarks (one_comment {c = c} b more) = ap (λ k. remark_weight c.text + k) (noted_remarks more)

-- Documents.

-- the weight of the events of documents
documents_weigh : {t : List ℕ} {ds : List Document} {x : List EventInText} {tags : List (Option (List ℕ))} {n : ℕ} → DocumentEvents t ds x tags → DocumentsWeigh n ds
    → (rest : List EventInText) → weigh false (x ++ rest) + documents_weight (map doc_of ds) ≤ n + weigh false rest
documents_weigh no_document none_weigh rest = omega arith
documents_weigh (one_document {d = d} {x = x} {closed = closed} tags ends marked others) (one_weighs a more) rest =
    let end : EventInText = unplaced (document_ends closed) in
    let one = a.adds false (end ∷ (x ++ rest)) in
    let follows = documents_weigh others more rest in
    let same : weigh false ((d.events ++ (end ∷ x)) ++ rest) ≡ weigh false (d.events ++ (end ∷ (x ++ rest))) = ap (weigh false) (append_assoc d.events (end ∷ x) rest) in
    omega (arith, one, follows, same)

abbrev pub trees_bulk : List DocumentTree → ℕ
trees_bulk [] = 0
trees_bulk (x ∷ xs) = bulk x.root + trees_bulk xs

trees_heavy : {t : List ℕ} {i : ℕ} {ds : List Doc} {trees : List DocumentTree} → TreesStand t i ds trees → (rest : List EventInText) → trees_bulk trees + weigh false rest ≤ weigh false (flat_map flat_document trees ++ rest)
trees_heavy (no_trees_stand l) rest = omega arith
trees_heavy (tree_is_at {tree = tree} {trees = trees} d a b z) rest =
    let start : EventInText = unplaced (document_starts tree.marked) in
    let end : EventInText = unplaced (document_ends tree.closed) in
    let others : List EventInText = flat_map flat_document trees in
    let one = tree_heavy a (end ∷ (others ++ rest)) in
    let more = trees_heavy b rest in
    let same : weigh false ((flat_document tree ++ others) ++ rest) ≡ weigh false (start ∷ (flat tree.root ++ (end ∷ (others ++ rest)))) =
    ap (weigh false) (append_assoc (flat_document tree) others rest ∙ ap (λ z. start ∷ z) (append_assoc (flat tree.root) (end ∷ []) (others ++ rest))) in
    omega (arith, one, more, same)

pub reading_bytes : {t : List ℕ} {r : Lists} (u : IsUtf8 t) (a : ReadingOf t r) → trees_bulk (reading_is_at u a).trees + (documents_weight r.documents + remarks_weight r.comments) ≤ suc (length t)
reading_bytes {t} {r} u a =
    let w = reading_is_at u a in
    let filled = stream_fills a.reads.shapes.derived in
    let room = filled.room in
    let end : EventInText = unplaced stream_ends in
    let start : EventInText = unplaced stream_starts in
    let derived = documents_weigh a.events filled.weigh (end ∷ []) in
    let noted : weigh false (start ∷ (a.derived_events ++ (end ∷ []))) ≡ weigh false r.events = noted_weight a.noted false in
    let events : weigh false r.events ≡ weigh false (flat_stream w.trees) = ap (weigh false) w.of_reading.events in
    let heavy = trees_heavy w.stand (end ∷ []) in
    let documents : documents_weight r.documents ≡ documents_weight (map doc_of a.derived.documents) = ap documents_weight a.documents in
    omega (arith, room, derived, noted, events, heavy, documents, noted_remarks a.comments)

-- Normal forms.

module _ (t : List ℕ) (c : LayoutSetting) where
  mutual
    styled_costs : {b : Bool} {x : Node} → ReadNode b x → Costs c.style (bulk x) (styled t c x)
    styled_costs (read_nothing e) = scalar_costs (leaf_cost c.style no_props Plain [] [] IsUtf8-nil)
    styled_costs (read_props {p = p} e i n) = scalar_costs (leaf_cost c.style p Plain [] [] IsUtf8-nil)
    styled_costs (read_scalar {p = p} {style = style} {text = text} {lines = lines} e i u r) = scalar_costs (leaf_cost c.style p style text lines u)
    styled_costs (read_alias e n) = alias_costs (omega arith)
    styled_costs (read_sequence e f read_no_items) = no_items_cost (omega arith)
    styled_costs (read_sequence e f (read_item a more)) = items_cost (items_costs (read_item a more)) (omega arith)
    styled_costs (read_mapping e f read_no_pairs) = no_pairs_cost (omega arith)
    styled_costs (read_mapping e f (read_pair a b more)) = pairs_cost (pairs_costs (read_pair a b more)) (omega arith)

    items_costs : {b : Bool} {xs : Items} → ReadItems b xs → ItemsCost c.style (items_bulk xs) (styled_items t c xs)
    items_costs read_no_items = no_more_items
    items_costs (read_item a more) = more_items_cost (styled_costs a) (items_costs more)

    pairs_costs : {b : Bool} {ps : Pairs} → ReadPairs b ps → PairsCost c.style (pairs_bulk ps) (styled_pairs t c ps)
    pairs_costs read_no_pairs = no_more_pairs
    pairs_costs (read_pair a b more) = more_pairs_cost (styled_costs a) (styled_costs b) (pairs_costs more)

  -- and at most as many collections are open in it as the limit allows
  pub record DocumentsCost (h : ℕ) (trees : List DocumentTree) : Type 0 where
    pub costs : TreesCost c.style (trees_bulk trees) (map (normal_document t c) trees)
    pub low : tall_documents trees ≤ h

  pub documents_cost : {v : List ℕ} {h : ℕ} {ds : List Document} {trees : List DocumentTree} → IsUtf8 v → DocumentsDerived v h ds → TreesMeant ds trees → DocumentsCost h trees
  documents_cost u no_documents_derived no_trees_meant = record { costs = no_tree_costs; low = omega arith }
  documents_cost {h = h} u (document_derived a l more) (tree_meant {x = x} {tree = tree} e b others) =
      let d = document_read u a in
      let same : d.node ≡ x = same_node d.events e in
      let read : ReadNode false tree.root = read_alike b (subst (λ w. ReadNode false w) same d.read) in
      let follows = documents_cost u more others in
      let first : tall tree.root ≤ h = (let low = d.low in let height = alike_tall b in let one = ap tall same in omega (arith, low, height, one, l)) in
      record { costs = one_tree_costs (settled_costs c (root_margins c.style) (styled_costs read)) follows.costs; low = max-le first follows.low }
