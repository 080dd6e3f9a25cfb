-- The forms of implicit keys are those of the implicit keys of the block mappings in a normal form.
use Rattle.std.proofs.Common.{◌≡◌, ℕ, zero, suc, ◌+◌, ◌<◌, Bool, true, false, ◌&&◌, List, [], ◌∷◌, ◌++◌, length, get_or, flat_map, map, refl, sym, ap, ◌∙◌, ⊎_elim, arith}
use Rattle.std.specs.Prelude.{◌||◌, ◌==◌, replicate, if◌then◌else◌}
use Rattle.std.proofs.lemmas.Bool.{and_parts, cases_Bool}
use Rattle.std.proofs.lemmas.Bool.Decides.{nat_tests}
use Rattle.std.proofs.Math.Bool.{or-false}
use Rattle.yf_props.specs.Props.{PropsValue}
use Rattle.yf_events.specs.Event.{document_ends}
use Rattle.yf_events.specs.declared.lists.Lists.{Lists}
use Rattle.yf_forms.specs.declared.form.decide.Form.{Form}
use Rattle.yf_forms.specs.declared.style.Style.{Style}
use Rattle.yf_forms.specs.NormalForms.Forms.{Site, site_at, key_site, value_site, forms, forms_of_items, forms_of_pairs, forms_within, no_form, document_forms, stream_forms}
use Rattle.yf_forms.specs.Nodes.ImplicitKeys.{begins_implicit}
use Rattle.yf_forms.specs.Nodes.SingleNodes.{keys, keys_of_items, keys_of_pairs, keys_of_documents, block_keys}
use Rattle.yf_forms.specs.NormalForms.Normal.{LayoutSetting, Margins, root_margins, inner_margins, key_margins, value_margins, is_implicit, fits, settled, settled_items, settled_pairs, styled, normal_document, setting_of}
use Rattle.yf_events.specs.Tree.{NodeOffsets, Node, scalar, alias, sequence, mapping, Items, no_items, item, Pairs, no_pairs, pair, DocumentTree, flat, flat_items, flat_pairs, flat_document, unplaced}
use Rattle.yf_forms.proofs.Decide.CountLemmas.{two_counts, forms_count}
use Rattle.yf_forms.proofs.Decide.SettledLemmas.{settled_count, settled_key, settled_value_entries, keys_by_entries}

-- the index of each form, and whether it is an implicit key's
abbrev flags : ℕ → List Form → List (ℕ × Bool)
flags i [] = []
flags i (f ∷ fs) = (i, f.is_implicit) ∷ flags (i + 1) fs

-- one of these forms is an implicit key's, and has that index
abbrev any_at : ℕ → ℕ → List Form → Bool
any_at j i fs = begins_implicit (flags i fs) j

pub or_assoc : (a b c : Bool) → ((a || b) || c) ≡ (a || (b || c))
or_assoc true b c = refl
or_assoc false b c = refl

pub and_false : (a : Bool) → (a && false) ≡ false
and_false true = refl
and_false false = refl

joined : (xs ys : List (ℕ × Bool)) (j : ℕ) → begins_implicit (xs ++ ys) j ≡ (begins_implicit xs j || begins_implicit ys j)
joined [] ys j = refl
joined (x ∷ xs) ys j =
    ap (λ w. ((x.0 == j) && x.1) || w) (joined xs ys j) ∙ sym (or_assoc ((x.0 == j) && x.1) (begins_implicit xs j) (begins_implicit ys j))

any_join : (j i : ℕ) (xs ys : List Form) → any_at j i (xs ++ ys) ≡ (any_at j i xs || any_at j (i + length xs) ys)
any_join j i [] ys = let e : i ≡ i + 0 = omega arith in ap (λ n. any_at j n ys) e
any_join j i (x ∷ xs) ys =
    let e : i + 1 + length xs ≡ i + suc (length xs) = omega arith in
    ap (λ w. ((i == j) && x.is_implicit) || w) (any_join j (i + 1) xs ys ∙ ap (λ n. any_at j (i + 1) xs || any_at j n ys) e)
    ∙ sym (or_assoc ((i == j) && x.is_implicit) (any_at j (i + 1) xs) (any_at j (i + suc (length xs)) ys))

none_of : (j i : ℕ) → any_at j i (no_form ∷ []) ≡ false
none_of j i = ap (λ w. w || false) (and_false (i == j))

none_in : (j i n : ℕ) → any_at j i (replicate n no_form) ≡ false
none_in j i zero = refl
none_in j i (suc n) = ap (λ w. w || any_at j (i + 1) (replicate n no_form)) (and_false (i == j)) ∙ none_in j (i + 1) n

-- the form at an index

not_same : (i j : ℕ) → j < i → (i == j) ≡ false
not_same i j l = grind (arith, nat_tests)

pub same : (i j : ℕ) → i ≡ j → (i == j) ≡ true
same i j e = grind (arith, nat_tests)

other : (i n : ℕ) → (i == i + suc n) ≡ false
other i n = grind (arith, nat_tests)

none_after : (j i : ℕ) (fs : List Form) → j < i → any_at j i fs ≡ false
none_after j i [] l = refl
none_after j i (f ∷ fs) l = ap (λ b. (b && f.is_implicit) || any_at j (i + 1) fs) (not_same i j l) ∙ none_after j (i + 1) fs (omega (arith, l))

at_index : (i n : ℕ) (fs : List Form) → any_at (i + n) i fs ≡ (get_or fs n no_form).is_implicit
at_index i n [] = refl
at_index i zero (f ∷ fs) =
    let e : i ≡ i + 0 = omega arith in
    ap (λ b. (b && f.is_implicit) || any_at (i + 0) (i + 1) fs) (same i (i + 0) e) ∙ ap (λ b. f.is_implicit || b) (none_after (i + 0) (i + 1) fs (omega arith))
    ∙ or-false f.is_implicit
at_index i (suc n) (f ∷ fs) =
    let e : i + suc n ≡ i + 1 + n = omega arith in
    ap (λ b. (b && f.is_implicit) || any_at (i + suc n) (i + 1) fs) (other i n) ∙ ap (λ w. any_at w (i + 1) fs) e ∙ at_index (i + 1) n fs

-- a collection with entries

kept_flags : (j i n : ℕ) (b imp : Bool) (inner : List Form) (own : List (ℕ × Bool)) → b ≡ true → own ≡ []
    → (((i == j) && imp) || any_at j (i + 1) (forms_within b n inner ++ (no_form ∷ []))) ≡ (((i == j) && imp) || begins_implicit own j)
kept_flags j i n true imp inner own e o =
    ap (λ w. ((i == j) && imp) || w) (any_join j (i + 1) (replicate n no_form) (no_form ∷ []) ∙ ap (λ w. w || any_at j (i + 1 + length (replicate n no_form)) (no_form ∷ [])) (none_in j (i + 1) n)
    ∙ none_of j (i + 1 + length (replicate n no_form)) ∙ sym (ap (λ w. begins_implicit w j) o))
kept_flags j i n false imp inner own e o = absurd cc

open_flags : (j i n : ℕ) (b imp : Bool) (inner : List Form) (own : List (ℕ × Bool)) → b ≡ false → any_at j (i + 1) inner ≡ begins_implicit own j
    → (((i == j) && imp) || any_at j (i + 1) (forms_within b n inner ++ (no_form ∷ []))) ≡ (((i == j) && imp) || begins_implicit own j)
open_flags j i n true imp inner own e o = absurd cc
open_flags j i n false imp inner own e o =
    ap (λ w. ((i == j) && imp) || w) (any_join j (i + 1) inner (no_form ∷ []) ∙ ap (λ w. any_at j (i + 1) inner || w) (none_of j (i + 1 + length inner))
    ∙ or-false (any_at j (i + 1) inner) ∙ o)

-- the flow collection of this flag and form, kept or not: its keys

keys_if : (c : LayoutSetting) (i : ℕ) (margins : Margins) (b : Bool) (x y : Node) → b ≡ true → keys c i margins (if b then x else y) ≡ keys c i margins x
keys_if c i margins true x y e = refl
keys_if c i margins false x y e = absurd cc

keys_if_not : (c : LayoutSetting) (i : ℕ) (margins : Margins) (b : Bool) (x y : Node) → b ≡ false → keys c i margins (if b then x else y) ≡ keys c i margins y
keys_if_not c i margins true x y e = absurd cc
keys_if_not c i margins false x y e = refl

no_keys_in_sequence : (c : LayoutSetting) (i : ℕ) (margins : Margins) (at : NodeOffsets) (flow : Bool) (props : PropsValue) (xs : Items) → flow ≡ true
    → keys c i margins (sequence at flow props xs) ≡ []
no_keys_in_sequence c i margins at true props xs e = refl
no_keys_in_sequence c i margins at false props xs e = absurd cc

no_keys_in_mapping : (c : LayoutSetting) (i : ℕ) (margins : Margins) (at : NodeOffsets) (flow : Bool) (props : PropsValue) (ps : Pairs) → flow ≡ true
    → keys c i margins (mapping at flow props ps) ≡ []
no_keys_in_mapping c i margins at true props ps e = refl
no_keys_in_mapping c i margins at false props ps e = absurd cc

no_keys_in_empty_sequence : (c : LayoutSetting) (i : ℕ) (margins : Margins) (at : NodeOffsets) (flow : Bool) (props : PropsValue) → keys c i margins (sequence at flow props no_items) ≡ []
no_keys_in_empty_sequence c i margins at true props = refl
no_keys_in_empty_sequence c i margins at false props = refl

no_keys_in_empty_mapping : (c : LayoutSetting) (i : ℕ) (margins : Margins) (at : NodeOffsets) (flow : Bool) (props : PropsValue) → keys c i margins (mapping at flow props no_pairs) ≡ []
no_keys_in_empty_mapping c i margins at true props = refl
no_keys_in_empty_mapping c i margins at false props = refl

leaf_flags : (i j : ℕ) (imp : Bool) (own : List (ℕ × Bool)) → own ≡ [] → (((i == j) && imp) || false) ≡ (((i == j) && imp) || begins_implicit own j)
leaf_flags i j imp own e = ap (λ w. ((i == j) && imp) || begins_implicit w j) (sym e)

same_parts : {a b c d : Bool} → a ≡ c → b ≡ d → (a || b) ≡ (c || d)
same_parts e f i = e i || f i

moved_keys : {m n : ℕ} (i j : ℕ) (f : ℕ → List (ℕ × Bool)) → m ≡ n → begins_implicit (f (i + m)) j ≡ begins_implicit (f (i + n)) j
moved_keys i j f e = ap (λ n. begins_implicit (f (i + n)) j) e

mutual
  pub node_flags : (c : LayoutSetting) (j i : ℕ) (site : Site) (x : Node)
      → any_at j i (forms c site x) ≡ (((i == j) && site.is_implicit) || begins_implicit (keys c i site.margins (settled c site.margins x)) j)
  node_flags c j i site (scalar at props style text lines) = refl
  node_flags c j i site (alias at name) = refl
  node_flags c j i site (sequence at flow props no_items) =
      ap (λ w. ((i == j) && site.is_implicit) || w) (none_of j (i + 1)) ∙ leaf_flags i j site.is_implicit _ (no_keys_in_empty_sequence c i site.margins at flow props)
  node_flags c j i site (sequence at flow props (item x xs)) =
      let v : Node = sequence at flow props (item x xs) in
      let w : Node = sequence at false props (settled_items c site.margins.entries (item x xs)) in
      let b : Bool = flow && fits c.style site.margins.column v in
      let n : ℕ = length (flat_items (item x xs)) in
      let inner : List Form = forms_of_items c site.margins.entries (item x xs) in
      let own : List (ℕ × Bool) = keys c i site.margins (settled c site.margins v) in
      let items : any_at j (i + 1) inner ≡ begins_implicit (keys_of_items c (i + 1) site.margins.entries (settled_items c site.margins.entries (item x xs))) j =
      items_flags c j (i + 1) site.margins.entries (item x xs) in
      ⊎_elim (λ (e : b ≡ true). kept_flags j i n b site.is_implicit inner own e
      (keys_if c i site.margins b v w e ∙ no_keys_in_sequence c i site.margins at flow props (item x xs) (and_parts flow (fits c.style site.margins.column v) e).0))
      (λ (e : b ≡ false). open_flags j i n b site.is_implicit inner own e (items ∙ ap (λ w. begins_implicit w j) (sym (keys_if_not c i site.margins b v w e)))) (cases_Bool b)
  node_flags c j i site (mapping at flow props no_pairs) =
      ap (λ w. ((i == j) && site.is_implicit) || w) (none_of j (i + 1)) ∙ leaf_flags i j site.is_implicit _ (no_keys_in_empty_mapping c i site.margins at flow props)
  node_flags c j i site (mapping at flow props (pair k x ps)) =
      let v : Node = mapping at flow props (pair k x ps) in
      let w : Node = mapping at false props (settled_pairs c site.margins.entries (pair k x ps)) in
      let b : Bool = flow && fits c.style site.margins.column v in
      let n : ℕ = length (flat_pairs (pair k x ps)) in
      let inner : List Form = forms_of_pairs c site.margins.entries (pair k x ps) in
      let own : List (ℕ × Bool) = keys c i site.margins (settled c site.margins v) in
      let pairs : any_at j (i + 1) inner ≡ begins_implicit (keys_of_pairs c (i + 1) site.margins.entries (settled_pairs c site.margins.entries (pair k x ps))) j =
      pairs_flags c j (i + 1) site.margins.entries (pair k x ps) in
      ⊎_elim (λ (e : b ≡ true). kept_flags j i n b site.is_implicit inner own e
      (keys_if c i site.margins b v w e ∙ no_keys_in_mapping c i site.margins at flow props (pair k x ps) (and_parts flow (fits c.style site.margins.column v) e).0))
      (λ (e : b ≡ false). open_flags j i n b site.is_implicit inner own e (pairs ∙ ap (λ w. begins_implicit w j) (sym (keys_if_not c i site.margins b v w e)))) (cases_Bool b)

  items_flags : (c : LayoutSetting) (j i column : ℕ) (xs : Items)
      → any_at j i (forms_of_items c column xs) ≡ begins_implicit (keys_of_items c i column (settled_items c column xs)) j
  items_flags c j i column no_items = refl
  items_flags c j i column (item x xs) =
      let site : Site = site_at (inner_margins c.style column) in
      let y : Node = settled c (inner_margins c.style column) x in
      let ys : Items = settled_items c column xs in
      let fs : List Form = forms c site x in
      let long : length fs ≡ length (flat y) = forms_count c site x ∙ sym (settled_count c (inner_margins c.style column) x) in
      any_join j i fs (forms_of_items c column xs)
      ∙ same_parts (node_flags c j i site x ∙ ap (λ b. b || begins_implicit (keys c i (inner_margins c.style column) y) j) (and_false (i == j)))
      (items_flags c j (i + length fs) column xs ∙ moved_keys i j (λ n. keys_of_items c n column ys) long)
      ∙ sym (joined (keys c i (inner_margins c.style column) y) (keys_of_items c (i + length (flat y)) column ys) j)

  pairs_flags : (c : LayoutSetting) (j i column : ℕ) (ps : Pairs)
      → any_at j i (forms_of_pairs c column ps) ≡ begins_implicit (keys_of_pairs c i column (settled_pairs c column ps)) j
  pairs_flags c j i column no_pairs = refl
  pairs_flags c j i column (pair k v ps) =
      let at_key : Site = key_site c.style column k in
      let at_value : Site = value_site c column k v in
      let l : Node = settled c (key_margins c.style column k) k in
      let w : Node = settled c (value_margins c column k v) v in
      let qs : Pairs = settled_pairs c column ps in
      let fk : List Form = forms c at_key k in
      let fv : List Form = forms c at_value v in
      let gs : List Form = forms_of_pairs c column ps in
      let nk : length fk ≡ length (flat l) = forms_count c at_key k ∙ sym (settled_count c (key_margins c.style column k) k) in
      let nv : length fv ≡ length (flat w) = forms_count c at_value v ∙ sym (settled_count c (value_margins c column k v) v) in
      let of_key : List (ℕ × Bool) = keys c i (key_margins c.style column l) l in
      let of_value : List (ℕ × Bool) = keys c (i + length (flat l)) (value_margins c column l w) w in
      let others : List (ℕ × Bool) = keys_of_pairs c (i + length (flat l) + length (flat w)) column qs in
      let a : any_at j i fk ≡ (((i == j) && is_implicit c.style column l) || begins_implicit of_key j) =
      node_flags c j i at_key k ∙ ap (λ b. ((i == j) && b) || begins_implicit (keys c i (key_margins c.style column k) l) j) (sym (settled_key c column k))
      ∙ ap (λ w. ((i == j) && is_implicit c.style column l) || begins_implicit w j) (keys_by_entries c i (key_margins c.style column k) (key_margins c.style column l) l refl) in
      let b : any_at j (i + length fk) fv ≡ begins_implicit of_value j =
      node_flags c j (i + length fk) at_value v
      ∙ ap (λ b. b || begins_implicit (keys c (i + length fk) (value_margins c column k v) w) j) (and_false (i + length fk == j))
      ∙ moved_keys i j (λ n. keys c n (value_margins c column k v) w) nk
      ∙ ap (λ w. begins_implicit w j) (keys_by_entries c (i + length (flat l)) (value_margins c column k v) (value_margins c column l w) w (sym (settled_value_entries c column k v))) in
      let d : any_at j (i + length fk + length fv) gs ≡ begins_implicit others j =
      pairs_flags c j (i + length fk + length fv) column ps ∙ ap (λ n. begins_implicit (keys_of_pairs c (i + n + length fv) column qs) j) nk
      ∙ moved_keys (i + length (flat l)) j (λ n. keys_of_pairs c n column qs) nv in
      any_join j i fk (fv ++ gs)
      ∙ ap (λ w. any_at j i fk || w) (any_join j (i + length fk) fv gs)
      ∙ same_parts a (same_parts b d)
      ∙ ap (λ w. (((i == j) && is_implicit c.style column l) || begins_implicit of_key j) || w) (sym (joined of_value others j))
      ∙ or_assoc ((i == j) && is_implicit c.style column l) (begins_implicit of_key j) (begins_implicit (of_value ++ others) j)
      ∙ ap (λ w. ((i == j) && is_implicit c.style column l) || w) (sym (joined of_key (of_value ++ others) j))

-- documents

document_flags : (t : List ℕ) (c : LayoutSetting) (j i : ℕ) (d : DocumentTree)
    → any_at j i (document_forms t c c d) ≡ begins_implicit (keys c (i + 1) (root_margins c.style) (normal_document t c d).root) j
document_flags t c j i d =
    let site : Site = site_at (root_margins c.style) in
    let fs : List Form = forms c site (styled t c d.root) in
    let own : List (ℕ × Bool) = keys c (i + 1) (root_margins c.style) (settled c (root_margins c.style) (styled t c d.root)) in
    ap (λ w. w || any_at j (i + 1) (fs ++ (no_form ∷ []))) (and_false (i == j))
    ∙ any_join j (i + 1) fs (no_form ∷ []) ∙ ap (λ w. any_at j (i + 1) fs || w) (none_of j (i + 1 + length fs)) ∙ or-false (any_at j (i + 1) fs)
    ∙ node_flags c j (i + 1) site (styled t c d.root) ∙ ap (λ w. w || begins_implicit own j) (and_false (i + 1 == j))

document_long : (t : List ℕ) (c : LayoutSetting) (d : DocumentTree) → length (document_forms t c c d) ≡ length (flat_document (normal_document t c d))
document_long t c d =
    let site : Site = site_at (root_margins c.style) in
    let a = forms_count c site (styled t c d.root) ∙ sym (settled_count c (root_margins c.style) (styled t c d.root)) in
    ap suc (two_counts (forms c site (styled t c d.root)) (no_form ∷ []) (flat (settled c (root_margins c.style) (styled t c d.root))) (unplaced (document_ends d.closed) ∷ []) a refl)

documents_flags : (t : List ℕ) (c : LayoutSetting) (j i : ℕ) (ds : List DocumentTree)
    → any_at j i (flat_map (document_forms t c c) ds) ≡ begins_implicit (keys_of_documents c i (map (normal_document t c) ds)) j
documents_flags t c j i [] = refl
documents_flags t c j i (d ∷ ds) =
    let fs : List Form = document_forms t c c d in
    let n : DocumentTree = normal_document t c d in
    any_join j i fs (flat_map (document_forms t c c) ds)
    ∙ same_parts (document_flags t c j i d)
    (documents_flags t c j (i + length fs) ds ∙ moved_keys i j (λ n. keys_of_documents c n (map (normal_document t c) ds)) (document_long t c d))
    ∙ sym (joined (keys c (i + 1) (root_margins c.style) n.root) (keys_of_documents c (i + length (flat_document n)) (map (normal_document t c) ds)) j)

-- the form at an index is an implicit key's if and only if the normal form has an implicit key there
pub implicit_there : (t : List ℕ) (r : Lists) (s : Style) (ds : List DocumentTree) (i : ℕ)
    → (get_or (stream_forms t (setting_of r s) (setting_of r s) ds) i no_form).is_implicit ≡ begins_implicit (block_keys t r s ds) i
implicit_there t r s ds i =
    let c : LayoutSetting = setting_of r s in
    let fs : List Form = flat_map (document_forms t c c) ds in
    let zero_is : 0 + i ≡ i = omega arith in
    sym (at_index 0 i (stream_forms t c c ds)) ∙ ap (λ n. any_at n 0 (stream_forms t c c ds)) zero_is
    ∙ ap (λ w. w || any_at i 1 (fs ++ (no_form ∷ []))) (and_false (0 == i))
    ∙ any_join i 1 fs (no_form ∷ []) ∙ ap (λ w. any_at i 1 fs || w) (none_of i (1 + length fs)) ∙ or-false (any_at i 1 fs)
    ∙ documents_flags t c i 1 ds
