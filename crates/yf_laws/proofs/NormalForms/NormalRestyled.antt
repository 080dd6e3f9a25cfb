-- A normal form is the reading with other styles of scalars and other brackets of collections, and no other change.
use Rattle.std.proofs.Common.{◌≡◌, ℕ, Bool, true, false, List, [], ◌∷◌, ◌++◌, map, flat_map, sym, ap, ◌∙◌, subst}
use Rattle.std.specs.Prelude.{◌&&◌, if◌then◌else◌}
use Rattle.yf_events.specs.Event.{EventInText}
use Rattle.yf_events.specs.declared.lists.Lists.{Lists}
use Rattle.yf_events.specs.Tree.{Node, scalar, alias, sequence, mapping, Items, no_items, item, Pairs, no_pairs, pair, DocumentTree, flat, flat_items, flat_pairs, flat_document, flat_stream}
use Rattle.yf_forms.specs.declared.style.Style.{Style}
use Rattle.yf_forms.specs.Nodes.OneLineFlows.{may_be_kept}
use Rattle.yf_forms.specs.NormalForms.Normal.{LayoutSetting, Margins, Normal, fits, settled, settled_items, settled_pairs, styled, styled_items, styled_pairs, inner_margins, key_margins, value_margins, root_margins, normal_document, setting_of}
use Rattle.yf_forms.specs.NormalForms.Restyled.{SameButStyles, none_left, one_more, IsRestyled}

module _ {q : Style} where
  restyled_append : {xs ys zs ws : List EventInText} → SameButStyles q xs ys → SameButStyles q zs ws → SameButStyles q (xs ++ zs) (ys ++ ws)
  restyled_append none_left b = b
  restyled_append (one_more flow a) b = one_more flow (restyled_append a b)

-- scalars in their styles
mutual
  styled_restyled : (t : List ℕ) (c : LayoutSetting) (x : Node) → SameButStyles c.style (flat x) (flat (styled t c x))
  styled_restyled t c (scalar at props style text lines) = one_more false none_left
  styled_restyled t c (alias at name) = one_more false none_left
  styled_restyled t c (sequence at flow props xs) =
      one_more (may_be_kept t c.comments (sequence at flow props xs)) (restyled_append (styled_items_restyled t c xs) (one_more false none_left))
  styled_restyled t c (mapping at flow props ps) =
      one_more (may_be_kept t c.comments (mapping at flow props ps)) (restyled_append (styled_pairs_restyled t c ps) (one_more false none_left))

  styled_items_restyled : (t : List ℕ) (c : LayoutSetting) (xs : Items) → SameButStyles c.style (flat_items xs) (flat_items (styled_items t c xs))
  styled_items_restyled t c no_items = none_left
  styled_items_restyled t c (item x xs) = restyled_append (styled_restyled t c x) (styled_items_restyled t c xs)

  styled_pairs_restyled : (t : List ℕ) (c : LayoutSetting) (ps : Pairs) → SameButStyles c.style (flat_pairs ps) (flat_pairs (styled_pairs t c ps))
  styled_pairs_restyled t c no_pairs = none_left
  styled_pairs_restyled t c (pair k v ps) = restyled_append (styled_restyled t c k) (restyled_append (styled_restyled t c v) (styled_pairs_restyled t c ps))

either : {q : Style} {es : List EventInText} (x y : Node) (b : Bool) → SameButStyles q es (flat x) → SameButStyles q es (flat y) → SameButStyles q es (flat (if b then x else y))
either x y true a d = a
either x y false a d = d

-- and with the kept brackets
mutual
  settled_restyled : (t : List ℕ) (c : LayoutSetting) (margins : Margins) (x : Node) → SameButStyles c.style (flat x) (flat (settled c margins (styled t c x)))
  settled_restyled t c margins (scalar at props style text lines) = one_more false none_left
  settled_restyled t c margins (alias at name) = one_more false none_left
  settled_restyled t c margins (sequence at flow props no_items) = one_more true (one_more false none_left)
  settled_restyled t c margins (sequence at flow props (item x xs)) =
      either (styled t c (sequence at flow props (item x xs)))
      (sequence at false props (item (settled c (inner_margins c.style margins.entries) (styled t c x)) (settled_items c margins.entries (styled_items t c xs))))
      (may_be_kept t c.comments (sequence at flow props (item x xs)) && fits c.style margins.column (styled t c (sequence at flow props (item x xs))))
      (one_more (may_be_kept t c.comments (sequence at flow props (item x xs))) (restyled_append (restyled_append (styled_restyled t c x) (styled_items_restyled t c xs)) (one_more false none_left)))
      (one_more false (restyled_append (restyled_append (settled_restyled t c (inner_margins c.style margins.entries) x) (settled_items_restyled t c margins.entries xs)) (one_more false none_left)))
  settled_restyled t c margins (mapping at flow props no_pairs) = one_more true (one_more false none_left)
  settled_restyled t c margins (mapping at flow props (pair k v ps)) =
      either (styled t c (mapping at flow props (pair k v ps)))
      (mapping at false props (pair (settled c (key_margins c.style margins.entries (styled t c k)) (styled t c k))
      (settled c (value_margins c margins.entries (styled t c k) (styled t c v)) (styled t c v)) (settled_pairs c margins.entries (styled_pairs t c ps))))
      (may_be_kept t c.comments (mapping at flow props (pair k v ps)) && fits c.style margins.column (styled t c (mapping at flow props (pair k v ps))))
      (one_more (may_be_kept t c.comments (mapping at flow props (pair k v ps)))
      (restyled_append (restyled_append (styled_restyled t c k) (restyled_append (styled_restyled t c v) (styled_pairs_restyled t c ps))) (one_more false none_left)))
      (one_more false (restyled_append (restyled_append (settled_restyled t c (key_margins c.style margins.entries (styled t c k)) k)
      (restyled_append (settled_restyled t c (value_margins c margins.entries (styled t c k) (styled t c v)) v) (settled_pairs_restyled t c margins.entries ps))) (one_more false none_left)))

  settled_items_restyled : (t : List ℕ) (c : LayoutSetting) (column : ℕ) (xs : Items) → SameButStyles c.style (flat_items xs) (flat_items (settled_items c column (styled_items t c xs)))
  settled_items_restyled t c column no_items = none_left
  settled_items_restyled t c column (item x xs) = restyled_append (settled_restyled t c (inner_margins c.style column) x) (settled_items_restyled t c column xs)

  settled_pairs_restyled : (t : List ℕ) (c : LayoutSetting) (column : ℕ) (ps : Pairs) → SameButStyles c.style (flat_pairs ps) (flat_pairs (settled_pairs c column (styled_pairs t c ps)))
  settled_pairs_restyled t c column no_pairs = none_left
  settled_pairs_restyled t c column (pair k v ps) =
      restyled_append (settled_restyled t c (key_margins c.style column (styled t c k)) k)
      (restyled_append (settled_restyled t c (value_margins c column (styled t c k) (styled t c v)) v) (settled_pairs_restyled t c column ps))

-- for a document's root
pub root_restyled : (t : List ℕ) (c : LayoutSetting) (d : DocumentTree) → SameButStyles c.style (flat d.root) (flat (normal_document t c d).root)
root_restyled t c d = settled_restyled t c (root_margins c.style) d.root

documents_restyled : (t : List ℕ) (c : LayoutSetting) (ds : List DocumentTree)
    → SameButStyles c.style (flat_map flat_document ds) (flat_map flat_document (map (normal_document t c) ds))
documents_restyled t c [] = none_left
documents_restyled t c (d ∷ ds) = restyled_append (one_more false (restyled_append (root_restyled t c d) (one_more false none_left))) (documents_restyled t c ds)

pub normal_restyled : {t : List ℕ} {r m : Lists} {s : Style} → Normal t r s m → IsRestyled s r m
normal_restyled {t} {r} {m} {s} a =
    let c = setting_of r s in
    let all : SameButStyles s (flat_stream a.trees) (flat_stream (map (normal_document t c) a.trees)) =
    one_more false (restyled_append (documents_restyled t c a.trees) (one_more false none_left)) in
    let events : m.events ≡ flat_stream (map (normal_document t c) a.trees) = ap (λ (w : Lists). w.events) a.is in
    record {
      events = subst (λ z. SameButStyles s z m.events) (sym a.of_reading.events) (subst (λ z. SameButStyles s (flat_stream a.trees) z) (sym events) all);
      rest = a.is ∙ ap (λ z. record r { events = z }) (sym events);
    }
