-- The number of events of a node, and of its forms.
use Rattle.std.proofs.Common.{◌≡◌, ℕ, suc, ◌+◌, Bool, true, false, List, [], ◌∷◌, ◌++◌, length, refl, sym, ap, ◌∙◌}
use Rattle.std.proofs.lemmas.List.{length-append, length-replicate}
use Rattle.yf_events.specs.Event.{EventInText, sequence_starts, sequence_ends, mapping_starts, mapping_ends}
use Rattle.yf_forms.specs.declared.form.decide.Form.{Form}
use Rattle.yf_forms.specs.NormalForms.Forms.{Site, site_at, key_site, value_site, forms, forms_of_items, forms_of_pairs, forms_within, no_form, form_of, is_kept_at}
use Rattle.yf_forms.specs.NormalForms.Normal.{LayoutSetting, styled, styled_items, styled_pairs, inner_margins}
use Rattle.yf_events.specs.Tree.{Node, scalar, alias, sequence, mapping, Items, no_items, item, Pairs, no_pairs, pair, flat, flat_items, flat_pairs, placed, unplaced}

pub two_counts : {X Y : Type 0} (vs bs : List X) (xs ys : List Y) → length vs ≡ length xs → length bs ≡ length ys → length (vs ++ bs) ≡ length (xs ++ ys)
two_counts vs bs xs ys a b =
    length-append vs bs ∙ ap (λ n. n + length bs) a ∙ ap (λ n. length xs + n) b ∙ sym (length-append xs ys)

mutual
  pub styled_count : (t : List ℕ) (m : LayoutSetting) (x : Node) → length (flat (styled t m x)) ≡ length (flat x)
  styled_count t m (scalar at props style text lines) = refl
  styled_count t m (alias at name) = refl
  styled_count t m (sequence at flow props xs) = ap suc (two_counts (flat_items (styled_items t m xs)) _ (flat_items xs) _ (items_count t m xs) refl)
  styled_count t m (mapping at flow props ps) = ap suc (two_counts (flat_pairs (styled_pairs t m ps)) _ (flat_pairs ps) _ (pairs_count t m ps) refl)

  pub items_count : (t : List ℕ) (m : LayoutSetting) (xs : Items) → length (flat_items (styled_items t m xs)) ≡ length (flat_items xs)
  items_count t m no_items = refl
  items_count t m (item x xs) = two_counts (flat (styled t m x)) _ (flat x) _ (styled_count t m x) (items_count t m xs)

  pub pairs_count : (t : List ℕ) (m : LayoutSetting) (ps : Pairs) → length (flat_pairs (styled_pairs t m ps)) ≡ length (flat_pairs ps)
  pairs_count t m no_pairs = refl
  pairs_count t m (pair k v ps) =
      two_counts (flat (styled t m k)) _ (flat k) _ (styled_count t m k)
      (two_counts (flat (styled t m v)) _ (flat v) _ (styled_count t m v) (pairs_count t m ps))

within_count : (b : Bool) (n : ℕ) (fs : List Form) → length fs ≡ n → length (forms_within b n fs) ≡ n
within_count true n fs e = length-replicate n no_form
within_count false n fs e = e

enclosed_count : (f : Form) (fs : List Form) (d e : EventInText) (es : List EventInText) → length fs ≡ length es
    → length (f ∷ (fs ++ (no_form ∷ []))) ≡ length (d ∷ (es ++ (e ∷ [])))
enclosed_count f fs d e es q = ap suc (two_counts fs (no_form ∷ []) es (e ∷ []) q refl)

mutual
  pub forms_count : (c : LayoutSetting) (site : Site) (x : Node) → length (forms c site x) ≡ length (flat x)
  forms_count c site (scalar at props style text lines) = refl
  forms_count c site (alias at name) = refl
  forms_count c site (sequence at flow props xs) =
      enclosed_count (form_of c.style site (sequence at flow props xs)) _ (placed at (sequence_starts flow props) []) (unplaced sequence_ends) (flat_items xs) (within_count (is_kept_at c.style site.margins (sequence at flow props xs)) (length (flat_items xs)) _ (items_forms c site.margins.entries xs))
  forms_count c site (mapping at flow props ps) =
      enclosed_count (form_of c.style site (mapping at flow props ps)) _ (placed at (mapping_starts flow props) []) (unplaced mapping_ends) (flat_pairs ps) (within_count (is_kept_at c.style site.margins (mapping at flow props ps)) (length (flat_pairs ps)) _ (pairs_forms c site.margins.entries ps))

  pub items_forms : (c : LayoutSetting) (column : ℕ) (xs : Items) → length (forms_of_items c column xs) ≡ length (flat_items xs)
  items_forms c column no_items = refl
  items_forms c column (item x xs) =
      two_counts (forms c (site_at (inner_margins c.style column)) x) _ (flat x) _ (forms_count c (site_at (inner_margins c.style column)) x) (items_forms c column xs)

  pub pairs_forms : (c : LayoutSetting) (column : ℕ) (ps : Pairs) → length (forms_of_pairs c column ps) ≡ length (flat_pairs ps)
  pairs_forms c column no_pairs = refl
  pairs_forms c column (pair k v ps) =
      two_counts (forms c (key_site c.style column k) k) _ (flat k) _ (forms_count c (key_site c.style column k) k)
      (two_counts (forms c (value_site c column k v) v) _ (flat v) _ (forms_count c (value_site c column k v) v) (pairs_forms c column ps))

-- the counts for a node in the house style
pub node_forms : (c : LayoutSetting) (site : Site) (t : List ℕ) (m : LayoutSetting) (x : Node) → length (forms c site (styled t m x)) ≡ length (flat x)
node_forms c site t m x = forms_count c site (styled t m x) ∙ styled_count t m x
