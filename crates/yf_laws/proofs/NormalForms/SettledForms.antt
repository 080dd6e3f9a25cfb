-- A settled node keeps its forms, if its margins agree in what its forms depend on; so the pass over a normal reading
-- gives the forms that the pass over the reading gave.
use Rattle.std.proofs.Common.{◌≡◌, ℕ, Bool, true, false, ◌&&◌, ◌++◌, List, [], ◌∷◌, Option, None, map, flat_map, length, refl, sym, ap, ◌∙◌}
use Rattle.std.specs.Prelude.{if◌then◌else◌}
use Rattle.std.proofs.lemmas.Bool.{and_parts}
use Rattle.yf_events.specs.Tree.{DocumentTree, Node, scalar, alias, sequence, mapping, Items, no_items, item, Pairs, no_pairs, pair, flat_items, flat_pairs, is_filled_flow}
use Rattle.yf_forms.specs.declared.form.decide.Form.{Form}
use Rattle.yf_forms.specs.NormalForms.Forms.{Site, document_forms, forms, forms_of_items, forms_of_pairs, forms_within, key_comment_index, key_site, no_form, site_at, stream_forms, value_comment, value_site}
use Rattle.yf_forms.specs.NormalForms.Measures.{up_to_greatest}
use Rattle.yf_forms.specs.Passes.MeasurePass.{setting}
use Rattle.yf_forms.specs.NormalForms.Normal.{LayoutSetting, fits, inner_margins, is_implicit, key_margins, normal_document, root_margins, settled, settled_items, settled_pairs, styled, value_margins}
use Rattle.yf_forms.proofs.Decide.SettledLemmas.{settled_key}
use Rattle.yf_laws.proofs.NormalForms.SettledTwice.{SameMargins, key_stays, same_key_margins, same_value_margins, settled_twice}
use Rattle.yf_laws.proofs.NormalForms.StyledTwice.{normal_house}

-- the two sites are alike for a node
pub record SameSite (x : Node) (one other : Site) : Type 0 where
  pub margins : SameMargins x one.margins other.margins
  pub implicit : one.is_implicit ≡ other.is_implicit
  pub comment : one.key_comment ≡ other.key_comment

either : (c : LayoutSetting) (other : Site) (fs : List Form) (b : Bool) (x y : Node) → (b ≡ true → forms c other x ≡ fs) → (b ≡ false → forms c other y ≡ fs)
    → forms c other (if b then x else y) ≡ fs
either c other fs true x y h k = h refl
either c other fs false x y h k = k refl

-- a collection with entries, and whether its entries are on lines of their own

abbrev collection : Site → Bool → ℕ → List Form → List Form
collection site kept count inner =
    record { is_kept = kept; is_implicit = site.is_implicit; key_comment = site.key_comment; column = up_to_greatest site.margins.entries }
    ∷ (forms_within kept count inner ++ (no_form ∷ []))

opened : (one other : Site) (kept : Bool) (n m : ℕ) (gs fs : List Form) → one.margins.entries ≡ other.margins.entries → one.is_implicit ≡ other.is_implicit
    → one.key_comment ≡ other.key_comment → kept ≡ false → gs ≡ fs → collection other false m gs ≡ collection one kept n fs
opened one other kept n m gs fs p q r e h = rw (p, q, r, e, h) refl

-- the comment that trails a key is unchanged
comment_stays : (c : LayoutSetting) (column : ℕ) (k v : Node)
    → value_comment c column k v ≡ value_comment c column (settled c (key_margins c.style column k) k) (settled c (value_margins c column k v) v)
comment_stays c column k v = sym (ap (λ w. comment_by K w) twice ∙ by (is_implicit c.style column k) refl) where
  K : Node
  K = settled c (key_margins c.style column k) k

  V : Node
  V = settled c (value_margins c column k v) v

  comment_by : Node → Node → Option ℕ
  comment_by x w = if is_implicit c.style column x then key_comment_index c.comments x w else None

  twice : settled c (value_margins c column K V) V ≡ V
  twice = settled_twice c (value_margins c column k v) (value_margins c column K V) v (same_value_margins c column k v)

  by : (b : Bool) → is_implicit c.style column k ≡ b → comment_by K V ≡ comment_by k V
  by true e = ap (λ w. comment_by w V) (key_stays c column k e)
  by false e =
      ap (λ b. if b then key_comment_index c.comments K V else None) (settled_key c column k ∙ e)
      ∙ sym (ap (λ b. if b then key_comment_index c.comments k V else None) e)

mutual
  pub settled_forms : (c : LayoutSetting) (one other : Site) (x : Node) → SameSite (settled c one.margins x) one other
      → forms c other (settled c one.margins x) ≡ forms c one x
  settled_forms c one other (scalar at props style text lines) s = rw (s.margins.entries, s.implicit, s.comment) refl
  settled_forms c one other (alias at name) s = rw (s.margins.entries, s.implicit, s.comment) refl
  settled_forms c one other (sequence at flow props no_items) s = rw (s.margins.entries, s.implicit, s.comment) refl
  settled_forms c one other (sequence at flow props (item x xs)) s =
      let whole : Node = sequence at flow props (item x xs) in
      let block : Node = sequence at false props (settled_items c one.margins.entries (item x xs)) in
      either c other (forms c one whole) (flow && fits c.style one.margins.column whole) whole block
      (λ e. let here : flow ≡ true = (and_parts flow (fits c.style one.margins.column whole) e).0 in
      let column : one.margins.column ≡ other.margins.column = s.margins.column (ap (λ b. is_filled_flow (if b then whole else block)) e ∙ here) in
      rw (column, s.margins.entries, s.implicit, s.comment) refl)
      (λ e. opened one other (flow && fits c.style one.margins.column whole) (length (flat_items (item x xs))) (length (flat_items (settled_items c one.margins.entries (item x xs))))
      (forms_of_items c other.margins.entries (settled_items c one.margins.entries (item x xs))) (forms_of_items c one.margins.entries (item x xs))
      s.margins.entries s.implicit s.comment e
      (ap (λ n. forms_of_items c n (settled_items c one.margins.entries (item x xs))) (sym s.margins.entries) ∙ items_stay c one.margins.entries (item x xs)))
  settled_forms c one other (mapping at flow props no_pairs) s = rw (s.margins.entries, s.implicit, s.comment) refl
  settled_forms c one other (mapping at flow props (pair k v ps)) s =
      let whole : Node = mapping at flow props (pair k v ps) in
      let block : Node = mapping at false props (settled_pairs c one.margins.entries (pair k v ps)) in
      either c other (forms c one whole) (flow && fits c.style one.margins.column whole) whole block
      (λ e. let here : flow ≡ true = (and_parts flow (fits c.style one.margins.column whole) e).0 in
      let column : one.margins.column ≡ other.margins.column = s.margins.column (ap (λ b. is_filled_flow (if b then whole else block)) e ∙ here) in
      rw (column, s.margins.entries, s.implicit, s.comment) refl)
      (λ e. opened one other (flow && fits c.style one.margins.column whole) (length (flat_pairs (pair k v ps))) (length (flat_pairs (settled_pairs c one.margins.entries (pair k v ps))))
      (forms_of_pairs c other.margins.entries (settled_pairs c one.margins.entries (pair k v ps))) (forms_of_pairs c one.margins.entries (pair k v ps))
      s.margins.entries s.implicit s.comment e
      (ap (λ n. forms_of_pairs c n (settled_pairs c one.margins.entries (pair k v ps))) (sym s.margins.entries) ∙ pairs_stay c one.margins.entries (pair k v ps)))

  pub items_stay : (c : LayoutSetting) (column : ℕ) (xs : Items) → forms_of_items c column (settled_items c column xs) ≡ forms_of_items c column xs
  items_stay c column no_items = refl
  items_stay c column (item x xs) =
      let site : Site = site_at (inner_margins c.style column) in
      ap (λ w. w ++ forms_of_items c column (settled_items c column xs))
      (settled_forms c site site x (record { margins = record { entries = refl; column = λ e. refl }; implicit = refl; comment = refl }))
      ∙ ap (λ w. forms c site x ++ w) (items_stay c column xs)

  pub pairs_stay : (c : LayoutSetting) (column : ℕ) (ps : Pairs) → forms_of_pairs c column (settled_pairs c column ps) ≡ forms_of_pairs c column ps
  pairs_stay c column no_pairs = refl
  pairs_stay c column (pair k v ps) =
      let K : Node = settled c (key_margins c.style column k) k in
      let V : Node = settled c (value_margins c column k v) v in
      let key : forms c (key_site c.style column K) K ≡ forms c (key_site c.style column k) k =
      settled_forms c (key_site c.style column k) (key_site c.style column K) k
      (record {
        margins = record { entries = refl; column = λ e. ap (λ w. w.column) (same_key_margins c column k) };
        implicit = sym (settled_key c column k);
        comment = refl;
      }) in
      let value : forms c (value_site c column K V) V ≡ forms c (value_site c column k v) v =
      settled_forms c (value_site c column k v) (value_site c column K V) v
      (record { margins = same_value_margins c column k v; implicit = refl; comment = comment_stays c column k v }) in
      let others : forms_of_pairs c column (settled_pairs c column ps) ≡ forms_of_pairs c column ps = pairs_stay c column ps in
      ap (λ w. w ++ (forms c (value_site c column K V) V ++ forms_of_pairs c column (settled_pairs c column ps))) key
      ∙ (ap (λ w. forms c (key_site c.style column k) k ++ (w ++ forms_of_pairs c column (settled_pairs c column ps))) value
      ∙ ap (λ w. forms c (key_site c.style column k) k ++ (forms c (value_site c column k v) v ++ w)) others)

-- for the normal form of a document, with any text
document_stays : (t : List ℕ) (c : LayoutSetting) (d : DocumentTree) → document_forms [] (setting c.style []) c (normal_document t c d) ≡ document_forms t c c d
document_stays t c d =
    let site : Site = site_at (root_margins c.style) in
    ap (λ w. no_form ∷ (w ++ (no_form ∷ [])))
    (ap (λ x. forms c site x) (normal_house t c (root_margins c.style) d.root)
    ∙ settled_forms c site site (styled t c d.root) (record { margins = record { entries = refl; column = λ e. refl }; implicit = refl; comment = refl }))

documents_stay : (t : List ℕ) (c : LayoutSetting) (ds : List DocumentTree)
    → flat_map (document_forms [] (setting c.style []) c) (map (normal_document t c) ds) ≡ flat_map (document_forms t c c) ds
documents_stay t c [] = refl
documents_stay t c (d ∷ ds) =
    ap (λ w. w ++ flat_map (document_forms [] (setting c.style []) c) (map (normal_document t c) ds)) (document_stays t c d)
    ∙ ap (λ w. document_forms t c c d ++ w) (documents_stay t c ds)

pub stream_stays : (t : List ℕ) (c : LayoutSetting) (ds : List DocumentTree)
    → stream_forms [] (setting c.style []) c (map (normal_document t c) ds) ≡ stream_forms t c c ds
stream_stays t c ds = ap (λ w. no_form ∷ (w ++ (no_form ∷ []))) (documents_stay t c ds)
