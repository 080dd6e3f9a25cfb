-- Notes on blank lines change only the notes of a tree; bare trees have none.
use Rattle.std.proofs.Common.{◌≡◌, ℕ, false, ◌||◌, List, [], ◌∷◌, ◌++◌, map, Option, Some, None, refl, sym, ap, ◌∙◌}
use Rattle.std.specs.Prelude.{if◌then◌else◌}
use Rattle.std.proofs.lemmas.List.{map-append}
use Rattle.yf_comments.specs.Comment.{CommentValue}
use Rattle.yf_events.specs.Event.{EventInText, sequence_ends, mapping_ends}
use Rattle.yf_events.specs.declared.event.Entry.{Entry}
use Rattle.yf_events.specs.Tree.{NodeOffsets, Node, scalar, alias, sequence, mapping, Items, no_items, item, Pairs, no_pairs, pair, DocumentTree, flat, flat_items, flat_pairs, leaves, leaves_of_items, leaves_of_pairs, is_text, is_filled_flow, standing, unplaced}
use Rattle.yf_grammar.specs.Productions.ReadParts.{Noting, no_event, without_entry, with_entry}
use Rattle.yf_forms.specs.NormalForms.Normal.{entry_or, first_between, key_comment, key_start, last_start}

abbrev pub bare_entry : Option Entry → Option Entry
bare_entry None = None
bare_entry (Some e) = Some (record e { blank_before = false })

abbrev pub bare_standing : NodeOffsets → NodeOffsets
bare_standing at = record { span = at.span; tag_offset = at.tag_offset; entry = bare_entry at.entry }

abbrev mutual
  pub bare : Node → Node
  bare (scalar at props style text lines) = scalar (bare_standing at) props style text lines
  bare (alias at name) = alias (bare_standing at) name
  bare (sequence at flow props xs) = sequence (bare_standing at) flow props (bare_items xs)
  bare (mapping at flow props ps) = mapping (bare_standing at) flow props (bare_pairs ps)

  pub bare_items : Items → Items
  bare_items no_items = no_items
  bare_items (item x xs) = item (bare x) (bare_items xs)

  pub bare_pairs : Pairs → Pairs
  bare_pairs no_pairs = no_pairs
  bare_pairs (pair k v ps) = pair (bare k) (bare v) (bare_pairs ps)

abbrev pub bare_tree : DocumentTree → DocumentTree
bare_tree d = record d { root = bare d.root }

-- Events.

abbrev pub bare_event : EventInText → EventInText
bare_event e = record { event = e.event; span = e.span; tag_offset = e.tag_offset; entry = bare_entry e.entry; folded = e.folded }

abbrev pub bared : List EventInText → List EventInText
bared es = map bare_event es

pub noting_bare : {t : List ℕ} {floor : ℕ} {xs ys : List EventInText} → Noting t floor xs ys → bared ys ≡ bared xs
noting_bare no_event = refl
noting_bare (without_entry {e = e} q a) = ap (λ z. bare_event e ∷ z) (noting_bare a)
noting_bare (with_entry {e = e} {x = x} {y = y} entry q n a) =
    ap (λ o. record { event = e.event; span = e.span; tag_offset = e.tag_offset; entry = bare_entry o; folded = e.folded } ∷ bared y) (sym q)
    ∙ ap (λ z. bare_event e ∷ z) (noting_bare a)

pub bared_append : (xs ys : List EventInText) → bared (xs ++ ys) ≡ bared xs ++ bared ys
bared_append xs ys = map-append bare_event xs ys

mutual
  pub flat_bare : (x : Node) → flat (bare x) ≡ bared (flat x)
  flat_bare (scalar at props style text lines) = refl
  flat_bare (alias at name) = refl
  flat_bare (sequence at flow props xs) =
      ap (λ z. first_of (flat (bare (sequence at flow props xs))) ∷ (z ++ (unplaced sequence_ends ∷ []))) (flat_bare_items xs)
      ∙ ap (λ z. first_of (flat (bare (sequence at flow props xs))) ∷ z) (sym (bared_append (flat_items xs) (unplaced sequence_ends ∷ []))) where
        first_of : List EventInText → EventInText
        first_of [] = unplaced sequence_ends
        first_of (e ∷ es) = e
  flat_bare (mapping at flow props ps) =
      ap (λ z. first_of (flat (bare (mapping at flow props ps))) ∷ (z ++ (unplaced mapping_ends ∷ []))) (flat_bare_pairs ps)
      ∙ ap (λ z. first_of (flat (bare (mapping at flow props ps))) ∷ z) (sym (bared_append (flat_pairs ps) (unplaced mapping_ends ∷ []))) where
        first_of : List EventInText → EventInText
        first_of [] = unplaced mapping_ends
        first_of (e ∷ es) = e

  flat_bare_items : (xs : Items) → flat_items (bare_items xs) ≡ bared (flat_items xs)
  flat_bare_items no_items = refl
  flat_bare_items (item x xs) =
      ap (λ z. z ++ flat_items (bare_items xs)) (flat_bare x) ∙ (ap (λ z. bared (flat x) ++ z) (flat_bare_items xs) ∙ sym (bared_append (flat x) (flat_items xs)))

  flat_bare_pairs : (ps : Pairs) → flat_pairs (bare_pairs ps) ≡ bared (flat_pairs ps)
  flat_bare_pairs no_pairs = refl
  flat_bare_pairs (pair k v ps) =
      ap (λ z. z ++ (flat (bare v) ++ flat_pairs (bare_pairs ps))) (flat_bare k)
      ∙ (ap (λ z. bared (flat k) ++ (z ++ flat_pairs (bare_pairs ps))) (flat_bare v)
      ∙ (ap (λ z. bared (flat k) ++ (bared (flat v) ++ z)) (flat_bare_pairs ps)
      ∙ (ap (λ z. bared (flat k) ++ z) (sym (bared_append (flat v) (flat_pairs ps))) ∙ sym (bared_append (flat k) (flat v ++ flat_pairs ps)))))

-- What bare nodes have in common.

mutual
  bare_leaves : (x : Node) → leaves (bare x) ≡ leaves x
  bare_leaves (scalar at props style text lines) = refl
  bare_leaves (alias at name) = refl
  bare_leaves (sequence at flow props no_items) = refl
  bare_leaves (sequence at flow props (item x xs)) = ap (λ z. z ++ leaves_of_items (bare_items xs)) (bare_leaves x) ∙ ap (λ z. leaves x ++ z) (bare_items_leaves xs)
  bare_leaves (mapping at flow props no_pairs) = refl
  bare_leaves (mapping at flow props (pair k v ps)) =
      ap (λ z. z ++ (leaves (bare v) ++ leaves_of_pairs (bare_pairs ps))) (bare_leaves k)
      ∙ (ap (λ z. leaves k ++ (z ++ leaves_of_pairs (bare_pairs ps))) (bare_leaves v) ∙ ap (λ z. leaves k ++ (leaves v ++ z)) (bare_pairs_leaves ps))

  bare_items_leaves : (xs : Items) → leaves_of_items (bare_items xs) ≡ leaves_of_items xs
  bare_items_leaves no_items = refl
  bare_items_leaves (item x xs) = ap (λ z. z ++ leaves_of_items (bare_items xs)) (bare_leaves x) ∙ ap (λ z. leaves x ++ z) (bare_items_leaves xs)

  bare_pairs_leaves : (ps : Pairs) → leaves_of_pairs (bare_pairs ps) ≡ leaves_of_pairs ps
  bare_pairs_leaves no_pairs = refl
  bare_pairs_leaves (pair k v ps) =
      ap (λ z. z ++ (leaves (bare v) ++ leaves_of_pairs (bare_pairs ps))) (bare_leaves k)
      ∙ (ap (λ z. leaves k ++ (z ++ leaves_of_pairs (bare_pairs ps))) (bare_leaves v) ∙ ap (λ z. leaves k ++ (leaves v ++ z)) (bare_pairs_leaves ps))

bare_value : (w : Node) → (is_text (bare w) || is_filled_flow (bare w)) ≡ (is_text w || is_filled_flow w)
bare_value (scalar at props style text lines) = refl
bare_value (alias at name) = refl
bare_value (sequence at flow props no_items) = refl
bare_value (sequence at flow props (item x xs)) = refl
bare_value (mapping at flow props no_pairs) = refl
bare_value (mapping at flow props (pair k v ps)) = refl

bare_or : (o : Option Entry) → entry_or 0 (bare_entry o) ≡ entry_or 0 o
bare_or None = refl
bare_or (Some e) = refl

bare_begins : (l : Node) → entry_or 0 (standing (bare l)).entry ≡ entry_or 0 (standing l).entry
bare_begins (scalar at props style text lines) = bare_or at.entry
bare_begins (alias at name) = bare_or at.entry
bare_begins (sequence at flow props xs) = bare_or at.entry
bare_begins (mapping at flow props ps) = bare_or at.entry

pub bare_comment : (ds : List CommentValue) (l w : Node) → key_comment ds (bare l) (bare w) ≡ key_comment ds l w
bare_comment ds l w =
    ap (λ b. if b then first_between ds (key_start (bare l)) (leaves (bare w)) else None) (bare_value w)
    ∙ (ap (λ z. if is_text w || is_filled_flow w then first_between ds (last_start z (leaves (bare l))) (leaves (bare w)) else None) (bare_begins l)
    ∙ (ap (λ z. if is_text w || is_filled_flow w then first_between ds (last_start (entry_or 0 (standing l).entry) z) (leaves (bare w)) else None) (bare_leaves l)
    ∙ ap (λ z. if is_text w || is_filled_flow w then first_between ds (key_start l) z else None) (bare_leaves w)))
