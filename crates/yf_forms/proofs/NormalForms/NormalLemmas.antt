-- The pass that writes the events of the normal form: for a node outside of collections on one line it gives the
-- events of the node with its forms settled, and within one those of the node with its styles.
use Rattle.std.proofs.Common.{◌≡◌, ℕ, zero, suc, ◌+◌, ◌-◌, ◌<◌, ◌≤◌, Bool, true, false, not, ◌&&◌, ◌||◌, List, [], ◌∷◌, ◌++◌, length, map, replicate, get_or, Some, refl, sym, ap, ◌∙◌, subst, arith, append_assoc}
use Rattle.std.specs.Prelude.{nat_lt, if◌then◌else◌, slice_get, drop}
use Rattle.std.specs.List.{flat_map}
use Rattle.std.proofs.lemmas.Bool.{and_parts, or_left}
use Rattle.std.proofs.lemmas.Bool.Decides.{nat_tests}
use Rattle.std.proofs.lemmas.List.{append-nil, length-append, replicate-append-replicate}
use Rattle.yf_comments.specs.Comment.{CommentValue}
use Rattle.yf_props.specs.Props.{PropsValue}
use Rattle.yf_events.specs.Event.{EventInText, stream_starts, stream_ends, document_starts, document_ends, sequence_starts, sequence_ends, mapping_starts, mapping_ends}
use Rattle.yf_forms.specs.declared.form.decide.Form.{Form}
use Rattle.yf_forms.specs.declared.form.measure.Measure.{Measure}
use Rattle.yf_forms.specs.declared.style.Style.{Style}
use Rattle.yf_events.specs.declared.lists.Lists.{Lists}
use Rattle.yf_forms.specs.Passes.DecidePass.{is_leaf_at}
use Rattle.yf_forms.specs.NormalForms.Forms.{Site, site_at, key_site, value_site, no_form, forms_within, forms, forms_of_items, forms_of_pairs, document_forms, stream_forms}
use Rattle.yf_forms.specs.Nodes.OneLineFlows.{has_comment, may_be_kept, items_may_be_kept, pairs_may_be_kept}
use Rattle.yf_forms.specs.NormalForms.Measures.{up_to_greatest, AreMeasures, measure_of, no_measure, first_of, leaf_indices}
use Rattle.yf_forms.specs.NormalForms.Normal.{LayoutSetting, root_margins, inner_margins, fits, styled, styled_items, styled_pairs, settled, settled_items, settled_pairs, normal_document, setting_of, Normal}
use Rattle.yf_forms.specs.Passes.NormalEvents.{kept_until, is_flow_at, normal_from}
use Rattle.yf_forms.specs.NormalForms.Restyled.{restyled, SameButStyles, none_left, one_more}
use Rattle.yf_events.specs.Tree.{NodeOffsets, Node, scalar, alias, sequence, mapping, Items, no_items, item, Pairs, no_pairs, pair, DocumentTree, placed, unplaced, flat, flat_items, flat_pairs, flat_document, flat_stream, TreesOf}
use Rattle.yf_forms.proofs.Decide.AmongLemmas.{Among, node_at, front, back, after_first}
use Rattle.yf_forms.proofs.Decide.LeafLemmas.{items_above, not_first, pairs_above, same}
use Rattle.yf_forms.proofs.NormalForms.RestyledLemmas.{restyled_length}

-- only styles and brackets differ
pub pass_restyles : (q : Style) (ms : List Measure) (i u : ℕ) (fs : List Form) (es : List EventInText)
    → SameButStyles q es (normal_from q ms i u fs es)
pass_restyles q ms i u fs [] = none_left
pass_restyles q ms i u fs (e ∷ es) =
    let v = kept_until u (get_or ms i no_measure) (get_or fs 0 no_form) in
    one_more (is_flow_at i v (get_or ms i no_measure)) (pass_restyles q ms (i + 1) v (drop 1 fs) es)

-- the pass makes the events ys of the events xs, which have these forms and begin at the index i; before them the
-- last kept collection ends at the index u, and after them at v
pub record Becomes (q : Style) (ms : List Measure) (i u v : ℕ) (gs : List Form) (xs ys : List EventInText) : Type 0 where
  pub is : (fs : List Form) (es : List EventInText)
      → normal_from q ms i u (gs ++ fs) (xs ++ es) ≡ ys ++ normal_from q ms (i + length xs) v fs es

nothing : {q : Style} {ms : List Measure} {i u : ℕ} → Becomes q ms i u u [] [] []
nothing {q} {ms} {i} {u} = record { is = λ fs es. ap (λ n. normal_from q ms n u fs es) (omega arith) }

both : {q : Style} {ms : List Measure} {i u v w : ℕ} {gs hs : List Form} {xs ys zs rs : List EventInText}
    → Becomes q ms i u v gs xs ys → Becomes q ms (i + length xs) v w hs zs rs → Becomes q ms i u w (gs ++ hs) (xs ++ zs) (ys ++ rs)
both {q} {ms} {i} {u} {v} {w} {gs} {hs} {xs} {ys} {zs} {rs} a b = record {
  is = λ fs es.
      ap (λ l. normal_from q ms i u l ((xs ++ zs) ++ es)) (append_assoc gs hs fs)
      ∙ ap (λ l. normal_from q ms i u (gs ++ (hs ++ fs)) l) (append_assoc xs zs es)
      ∙ a.is (hs ++ fs) (zs ++ es)
      ∙ ap (λ l. ys ++ l) (b.is fs es)
      ∙ sym (append_assoc ys rs (normal_from q ms (i + length xs + length zs) w fs es))
      ∙ ap (λ n. (ys ++ rs) ++ normal_from q ms n w fs es) (far i xs zs);
} where
  far : (i : ℕ) (xs zs : List EventInText) → i + length xs + length zs ≡ i + length (xs ++ zs)
  far i xs zs = let l : length (xs ++ zs) ≡ length xs + length zs = length-append xs zs in omega (arith, l)

one : {q : Style} {ms : List Measure} {i u : ℕ} (v : ℕ) (b : Bool) (f : Form) (e : EventInText)
    → kept_until u (get_or ms i no_measure) f ≡ v → is_flow_at i v (get_or ms i no_measure) ≡ b → Becomes q ms i u v (f ∷ []) (e ∷ []) (restyled q b e ∷ [])
one {q} {ms} {i} {u} v b f e k l = record {
  is = λ fs es.
      ap (λ w. restyled q (is_flow_at i w (get_or ms i no_measure)) e ∷ normal_from q ms (i + 1) w fs es) k
      ∙ ap (λ c. restyled q c e ∷ normal_from q ms (i + 1) v fs es) l;
}

-- an event that begins no collection with entries
other : {q : Style} {ms : List Measure} {i u : ℕ} (f : Form) (e r : EventInText) → f.is_kept ≡ false → ((b : Bool) → restyled q b e ≡ r)
    → Becomes q ms i u u (f ∷ []) (e ∷ []) (r ∷ [])
other {q} {ms} {i} {u} f e r k h = record {
  is = λ fs es.
      ap (λ b. normal_at b fs es) k ∙ ap (λ w. w ∷ normal_from q ms (i + 1) u fs es) (h (is_flow_at i u (get_or ms i no_measure)));
} where
  until_if : Bool → ℕ
  until_if b = if b then (get_or ms i no_measure).last else u

  normal_at : Bool → List Form → List EventInText → List EventInText
  normal_at b fs es = restyled q (is_flow_at i (until_if b) (get_or ms i no_measure)) e ∷ normal_from q ms (i + 1) (until_if b) fs es

-- Within a collection on one line.

flow_within : (b : Bool) (i u : ℕ) → i < u → (b || nat_lt i u) ≡ true
flow_within true i u l = refl
flow_within false i u l = grind (arith, nat_tests)

abbrev none_of : List EventInText → List Form
none_of xs = replicate (length xs) no_form

none_joined : (xs zs : List EventInText) → none_of xs ++ none_of zs ≡ none_of (xs ++ zs)
none_joined xs zs = replicate-append-replicate (length xs) (length zs) no_form ∙ ap (λ n. replicate n no_form) (sym (length-append xs zs))

abbrev Within : Style → List Measure → ℕ → ℕ → List EventInText → List EventInText → Type 0
Within q ms i u xs ys = Becomes q ms i u u (none_of xs) xs ys

first_within : {q : Style} {ms : List Measure} {i u : ℕ} (e : EventInText) → i < u → Within q ms i u (e ∷ []) (restyled q true e ∷ [])
first_within {q} {ms} {i} {u} e l = one u true no_form e refl (flow_within (is_leaf_at i (get_or ms i no_measure).first_leaf) i u l)

both_within : {q : Style} {ms : List Measure} {i u : ℕ} {xs ys zs rs : List EventInText} → Within q ms i u xs ys
    → Within q ms (i + length xs) u zs rs → Within q ms i u (xs ++ zs) (ys ++ rs)
both_within {q} {ms} {i} {u} {xs} {ys} {zs} {rs} a b =
    subst (λ gs. Becomes q ms i u u gs (xs ++ zs) (ys ++ rs)) (none_joined xs zs) (both a b)

-- a collection with its brackets
around_within : {q : Style} {ms : List Measure} {i u : ℕ} {xs ys : List EventInText} (e z : EventInText) → i < u → ((b : Bool) → restyled q b z ≡ z)
    → Within q ms (i + 1) u xs ys → Within q ms i u (e ∷ (xs ++ (z ∷ []))) (restyled q true e ∷ (ys ++ (z ∷ [])))
around_within e z l h a = both_within (first_within e l) (both_within a (other no_form z z refl h))

shorter : (xs zs : List EventInText) (i u : ℕ) → i + length (xs ++ zs) ≤ u → (i + length xs ≤ u) × (i + length xs + length zs ≤ u)
shorter xs zs i u l = let n : length (xs ++ zs) ≡ length xs + length zs = length-append xs zs in (omega (arith, l, n), omega (arith, l, n))

inner : (xs : List EventInText) (e z : EventInText) (i u : ℕ) → i + length (e ∷ (xs ++ (z ∷ []))) ≤ u → (i < u) × (i + 1 + length xs ≤ u)
inner xs e z i u l = let n : length (xs ++ (z ∷ [])) ≡ length xs + 1 = length-append xs (z ∷ []) in (omega (arith, l, n), omega (arith, l, n))

-- the nodes within a collection that may be kept
but_first : (a x xs : Bool) → (a && x && xs) ≡ true → (x && xs) ≡ true
but_first true x xs h = h
but_first false x xs h = absurd cc

but_first_of : (a k v ps : Bool) → (a && k && v && ps) ≡ true → (k && v && ps) ≡ true
but_first_of true k v ps h = h
but_first_of false k v ps h = absurd cc

items_kept : (t : List ℕ) (cs : List CommentValue) (at : NodeOffsets) (flow : Bool) (props : PropsValue) (x : Node) (xs : Items)
    → may_be_kept t cs (sequence at flow props (item x xs)) ≡ true → items_may_be_kept t cs (item x xs) ≡ true
items_kept t cs at flow props x xs h =
    but_first (flow && not (has_comment t cs at.span props)) (may_be_kept t cs x) (items_may_be_kept t cs xs) h

pairs_kept : (t : List ℕ) (cs : List CommentValue) (at : NodeOffsets) (flow : Bool) (props : PropsValue) (k v : Node) (ps : Pairs)
    → may_be_kept t cs (mapping at flow props (pair k v ps)) ≡ true → pairs_may_be_kept t cs (pair k v ps) ≡ true
pairs_kept t cs at flow props k v ps h =
    but_first_of (flow && not (has_comment t cs at.span props)) (may_be_kept t cs k) (may_be_kept t cs v) (pairs_may_be_kept t cs ps) h

mutual
  within : (t : List ℕ) (c : LayoutSetting) {ms : List Measure} (i u : ℕ) (x : Node) → may_be_kept t c.comments x ≡ true → i + length (flat x) ≤ u
      → Within c.style ms i u (flat x) (flat (styled t c x))
  within t c i u (scalar at props style text lines) h l = first_within _ (omega (arith, l))
  within t c i u (alias at name) h l = first_within _ (omega (arith, l))
  within t c i u (sequence at flow props no_items) h l = around_within _ _ (omega (arith, l)) (λ b. refl) nothing
  within t c {ms} i u (sequence at flow props (item x xs)) h l =
      let n = inner (flat_items (item x xs)) (unplaced sequence_ends) (unplaced sequence_ends) i u l in
      let z = sequence at flow props (item x xs) in
      subst (λ b. Within c.style ms i u (flat z) (flat (sequence at b props (styled_items t c (item x xs))))) (sym h)
      (around_within _ _ n.0 (λ b. refl) (items_within t c (i + 1) u (item x xs) (items_kept t c.comments at flow props x xs h) n.1))
  within t c i u (mapping at flow props no_pairs) h l = around_within _ _ (omega (arith, l)) (λ b. refl) nothing
  within t c {ms} i u (mapping at flow props (pair k v ps)) h l =
      let n = inner (flat_pairs (pair k v ps)) (unplaced mapping_ends) (unplaced mapping_ends) i u l in
      let z = mapping at flow props (pair k v ps) in
      subst (λ b. Within c.style ms i u (flat z) (flat (mapping at b props (styled_pairs t c (pair k v ps))))) (sym h)
      (around_within _ _ n.0 (λ b. refl) (pairs_within t c (i + 1) u (pair k v ps) (pairs_kept t c.comments at flow props k v ps h) n.1))

  items_within : (t : List ℕ) (c : LayoutSetting) {ms : List Measure} (i u : ℕ) (xs : Items) → items_may_be_kept t c.comments xs ≡ true
      → i + length (flat_items xs) ≤ u → Within c.style ms i u (flat_items xs) (flat_items (styled_items t c xs))
  items_within t c i u no_items h l = nothing
  items_within t c i u (item x xs) h l =
      let p = and_parts _ _ h in
      let s = shorter (flat x) (flat_items xs) i u l in
      both_within (within t c i u x p.0 s.0) (items_within t c (i + length (flat x)) u xs p.1 s.1)

  pairs_within : (t : List ℕ) (c : LayoutSetting) {ms : List Measure} (i u : ℕ) (ps : Pairs) → pairs_may_be_kept t c.comments ps ≡ true
      → i + length (flat_pairs ps) ≤ u → Within c.style ms i u (flat_pairs ps) (flat_pairs (styled_pairs t c ps))
  pairs_within t c i u no_pairs h l = nothing
  pairs_within t c i u (pair k v ps) h l =
      let p = and_parts _ _ h in
      let o = and_parts _ _ p.0 in
      let s = shorter (flat k) (flat v ++ flat_pairs ps) i u l in
      let r = shorter (flat v) (flat_pairs ps) (i + length (flat k)) u s.1 in
      let others = pairs_within t c (i + length (flat k) + length (flat v)) u ps p.1 r.1 in
      both_within (within t c i u k o.0 s.0) (both_within (within t c (i + length (flat k)) u v o.1 r.0) others)

-- Outside of collections on one line.

-- outside of them, with nothing kept after them
record Outside (q : Style) (ms : List Measure) (i u : ℕ) (gs : List Form) (xs ys : List EventInText) : Type 0 where
  until : ℕ
  ended : until ≤ i + length xs
  becomes : Becomes q ms i u until gs xs ys

nothing_outside : {q : Style} {ms : List Measure} {i u : ℕ} → u ≤ i → Outside q ms i u [] [] []
nothing_outside {q} {ms} {i} {u} l = record { until = u; ended = omega (arith, l); becomes = nothing }

both_outside : {q : Style} {ms : List Measure} {i u : ℕ} {gs hs : List Form} {xs ys zs rs : List EventInText}
    (a : Outside q ms i u gs xs ys) → Outside q ms (i + length xs) a.until hs zs rs → Outside q ms i u (gs ++ hs) (xs ++ zs) (ys ++ rs)
both_outside {i = i} {xs = xs} {zs = zs} a b = record {
  until = b.until;
  ended = let n : length (xs ++ zs) ≡ length xs + length zs = length-append xs zs in omega (arith, n, b.ended);
  becomes = both a.becomes b.becomes;
}

other_outside : {q : Style} {ms : List Measure} {i u : ℕ} (f : Form) (e r : EventInText) → f.is_kept ≡ false → ((b : Bool) → restyled q b e ≡ r)
    → u ≤ i → Outside q ms i u (f ∷ []) (e ∷ []) (r ∷ [])
other_outside {i = i} {u = u} f e r k h l = record { until = u; ended = omega (arith, l); becomes = other f e r k h }

not_before : (b : Bool) (i u : ℕ) → b ≡ false → u ≤ i → (b || nat_lt i u) ≡ false
not_before true i u e l = absurd cc
not_before false i u e l = grind (arith, nat_tests)

longer : (xs : List EventInText) (e z : EventInText) → length (e ∷ (xs ++ (z ∷ []))) ≡ length xs + 2
longer xs e z = let n : length (xs ++ (z ∷ [])) ≡ length xs + 1 = length-append xs (z ∷ []) in omega (arith, n)

empty_outside : {q : Style} {ms : List Measure} {i u : ℕ} (f : Form) (e z : EventInText) → f.is_kept ≡ false
    → is_leaf_at i (get_or ms i no_measure).first_leaf ≡ true → u ≤ i → ((b : Bool) → restyled q b z ≡ z)
    → Outside q ms i u (f ∷ (no_form ∷ [])) (e ∷ (z ∷ [])) (restyled q true e ∷ (z ∷ []))
empty_outside {q} {ms} {i} {u} f e z k b l h = record {
  until = u;
  ended = omega (arith, l);
  becomes = both (one u true f e (rw k refl) (or_left _ _ b)) (other no_form z z refl h);
}

block_outside : {q : Style} {ms : List Measure} {i u : ℕ} {gs : List Form} {xs ys : List EventInText} (f : Form) (e z : EventInText) → f.is_kept ≡ false
    → is_leaf_at i (get_or ms i no_measure).first_leaf ≡ false → u ≤ i → ((b : Bool) → restyled q b z ≡ z) → Outside q ms (i + 1) u gs xs ys
    → Outside q ms i u (f ∷ (gs ++ (no_form ∷ []))) (e ∷ (xs ++ (z ∷ []))) (restyled q false e ∷ (ys ++ (z ∷ [])))
block_outside {q} {ms} {i} {u} {xs = xs} f e z k b l h a = record {
  until = a.until;
  ended = let n : length (e ∷ (xs ++ (z ∷ []))) ≡ length xs + 2 = longer xs e z in omega (arith, n, a.ended);
  becomes = both (one u false f e (rw k refl) (not_before _ i u b l)) (both a.becomes (other no_form z z refl h));
}

kept_outside : {q : Style} {ms : List Measure} {i u : ℕ} {gs : List Form} {xs ys : List EventInText} (f : Form) (e z : EventInText) → f.is_kept ≡ true
    → (get_or ms i no_measure).last ≡ i + 1 + length xs → gs ≡ none_of xs → ((b : Bool) → restyled q b z ≡ z)
    → Within q ms (i + 1) (i + 1 + length xs) xs ys
    → Outside q ms i u (f ∷ (gs ++ (no_form ∷ []))) (e ∷ (xs ++ (z ∷ []))) (restyled q true e ∷ (ys ++ (z ∷ [])))
kept_outside {q} {ms} {i} {u} {gs} {xs} {ys} f e z k m n h a = record {
  until = i + 1 + length xs;
  ended = let n : length (e ∷ (xs ++ (z ∷ []))) ≡ length xs + 2 = longer xs e z in omega (arith, n);
  becomes = both (one (i + 1 + length xs) true f e (rw k m) (flow_within _ i (i + 1 + length xs) (omega arith)))
      (both (rw n a) (other no_form z z refl h));
}

-- the measure of a node
got : {X : Type 0} (xs : List X) (i : ℕ) (d m : X) → slice_get xs i ≡ Some m → get_or xs i d ≡ m
got [] zero d m e = absurd cc
got [] (suc i) d m e = absurd cc
got (x ∷ xs) zero d m e = cc
got (x ∷ xs) (suc i) d m e = got xs i d m e

measure_at : {t : List ℕ} {c : LayoutSetting} {es : List EventInText} {ms : List Measure} → AreMeasures t c es ms → (i : ℕ) (x : Node) → Among es (flat x) i
    → get_or ms i no_measure ≡ measure_of t c i x
measure_at {t} {c} {es} {ms} m i x a = got ms i no_measure (measure_of t c i x) (m.each i x (node_at x a))

-- a list of events becomes one of equal length
same_length : {q : Style} {ms : List Measure} {i u v : ℕ} {gs : List Form} {xs ys : List EventInText} → Becomes q ms i u v gs xs ys → length ys ≡ length xs
same_length {q} {ms} {i} {u} {v} {gs} {xs} {ys} b =
    ap length (sym (append-nil ys) ∙ sym (b.is [] [])) ∙ restyled_length (pass_restyles q ms i u (gs ++ []) (xs ++ [])) ∙ ap length (append-nil xs)

-- a collection with entries; its form says whether it is kept
abbrev form : Bool → Site → Form
form r site = record { is_kept = r; is_implicit = site.is_implicit; key_comment = site.key_comment; column = up_to_greatest site.margins.entries }

filled_sequence : {q : Style} {ms : List Measure} {i u : ℕ} {gs : List Form} {xs : List EventInText} (site : Site) (at : NodeOffsets)
    (flow b : Bool) (props : PropsValue) (ys zs : Items) → is_leaf_at i (get_or ms i no_measure).first_leaf ≡ false
    → (get_or ms i no_measure).last ≡ i + 1 + length xs → u ≤ i → Outside q ms (i + 1) u gs xs (flat_items zs)
    → (b ≡ true → Within q ms (i + 1) (i + 1 + length xs) xs (flat_items ys)) → (r : Bool)
    → Outside q ms i u (form (b && r) site ∷ (forms_within (b && r) (length (flat_items ys)) gs ++ (no_form ∷ [])))
    (placed at (sequence_starts flow props) [] ∷ (xs ++ (unplaced sequence_ends ∷ [])))
    (flat (if b && r then sequence at b props ys else sequence at false props zs))
filled_sequence site at flow false props ys zs f m l o w r = block_outside (form false site) _ _ refl f l (λ b. refl) o
filled_sequence site at flow true props ys zs f m l o w false = block_outside (form false site) _ _ refl f l (λ b. refl) o
filled_sequence site at flow true props ys zs f m l o w true =
    kept_outside (form true site) _ _ refl m (ap (λ n. replicate n no_form) (same_length (w refl))) (λ b. refl) (w refl)

filled_mapping : {q : Style} {ms : List Measure} {i u : ℕ} {gs : List Form} {xs : List EventInText} (site : Site) (at : NodeOffsets)
    (flow b : Bool) (props : PropsValue) (ys zs : Pairs) → is_leaf_at i (get_or ms i no_measure).first_leaf ≡ false
    → (get_or ms i no_measure).last ≡ i + 1 + length xs → u ≤ i → Outside q ms (i + 1) u gs xs (flat_pairs zs)
    → (b ≡ true → Within q ms (i + 1) (i + 1 + length xs) xs (flat_pairs ys)) → (r : Bool)
    → Outside q ms i u (form (b && r) site ∷ (forms_within (b && r) (length (flat_pairs ys)) gs ++ (no_form ∷ [])))
    (placed at (mapping_starts flow props) [] ∷ (xs ++ (unplaced mapping_ends ∷ [])))
    (flat (if b && r then mapping at b props ys else mapping at false props zs))
filled_mapping site at flow false props ys zs f m l o w r = block_outside (form false site) _ _ refl f l (λ b. refl) o
filled_mapping site at flow true props ys zs f m l o w false = block_outside (form false site) _ _ refl f l (λ b. refl) o
filled_mapping site at flow true props ys zs f m l o w true =
    kept_outside (form true site) _ _ refl m (ap (λ n. replicate n no_form) (same_length (w refl))) (λ b. refl) (w refl)

-- the end of a node, and whether it is its own first leaf
last_at : {t : List ℕ} {c : LayoutSetting} {es : List EventInText} {ms : List Measure} → AreMeasures t c es ms → (i : ℕ) (x : Node) → Among es (flat x) i
    → (e z : EventInText) (xs : List EventInText) → flat x ≡ e ∷ (xs ++ (z ∷ [])) → (get_or ms i no_measure).last ≡ i + 1 + length xs
last_at {ms = ms} m i x a e z xs s =
    let k : (get_or ms i no_measure).last ≡ i + length (flat x) - 1 = ap (λ w. w.last) (measure_at m i x a) in
    let n : length (flat x) ≡ length xs + 2 = ap length s ∙ longer xs e z in omega (arith, k, n)

leaf_at : {t : List ℕ} {c : LayoutSetting} {es : List EventInText} {ms : List Measure} → AreMeasures t c es ms → (i : ℕ) (x : Node) → Among es (flat x) i
    → is_leaf_at i (get_or ms i no_measure).first_leaf ≡ is_leaf_at i (first_of (leaf_indices i x))
leaf_at m i x a = ap (λ w. is_leaf_at i w.first_leaf) (measure_at m i x a)

mutual
  node_outside : (t : List ℕ) (c : LayoutSetting) {es : List EventInText} {ms : List Measure} → AreMeasures t c es ms → (i u : ℕ) → u ≤ i
      → (site : Site) (x : Node) → Among es (flat x) i
      → Outside c.style ms i u (forms c site (styled t c x)) (flat x) (flat (settled c site.margins (styled t c x)))
  node_outside t c m i u l site (scalar at props style text lines) a = other_outside _ _ _ refl (λ b. refl) l
  node_outside t c m i u l site (alias at name) a = other_outside _ _ _ refl (λ b. refl) l
  node_outside t c m i u l site (sequence at flow props no_items) a =
      empty_outside _ _ _ refl (leaf_at m i (sequence at flow props no_items) a ∙ same i) l (λ b. refl)
  node_outside t c m i u l site (sequence at flow props (item x xs)) a =
      let z = sequence at flow props (item x xs) in
      let ys = styled_items t c (item x xs) in
      let inside = front (flat_items (item x xs)) (unplaced sequence_ends ∷ []) (after_first (placed at (sequence_starts flow props) []) _ a) in
      filled_sequence site at flow (may_be_kept t c.comments z) props ys (settled_items c site.margins.entries ys)
      (leaf_at m i z a ∙ not_first i _ (items_above i (i + 1) (item x xs) (omega arith)))
      (last_at m i z a (placed at (sequence_starts flow props) []) (unplaced sequence_ends) (flat_items (item x xs)) refl) l
      (items_outside t c m (i + 1) u (omega (arith, l)) site.margins.entries (item x xs) inside)
      (λ h. items_within t c (i + 1) (i + 1 + length (flat_items (item x xs))) (item x xs) (items_kept t c.comments at flow props x xs h) (omega arith))
      (fits c.style site.margins.column (styled t c z))
  node_outside t c m i u l site (mapping at flow props no_pairs) a =
      empty_outside _ _ _ refl (leaf_at m i (mapping at flow props no_pairs) a ∙ same i) l (λ b. refl)
  node_outside t c m i u l site (mapping at flow props (pair k v ps)) a =
      let z = mapping at flow props (pair k v ps) in
      let ys = styled_pairs t c (pair k v ps) in
      let inside = front (flat_pairs (pair k v ps)) (unplaced mapping_ends ∷ []) (after_first (placed at (mapping_starts flow props) []) _ a) in
      filled_mapping site at flow (may_be_kept t c.comments z) props ys (settled_pairs c site.margins.entries ys)
      (leaf_at m i z a ∙ not_first i _ (pairs_above i (i + 1) (pair k v ps) (omega arith)))
      (last_at m i z a (placed at (mapping_starts flow props) []) (unplaced mapping_ends) (flat_pairs (pair k v ps)) refl) l
      (pairs_outside t c m (i + 1) u (omega (arith, l)) site.margins.entries (pair k v ps) inside)
      (λ h. pairs_within t c (i + 1) (i + 1 + length (flat_pairs (pair k v ps))) (pair k v ps) (pairs_kept t c.comments at flow props k v ps h) (omega arith))
      (fits c.style site.margins.column (styled t c z))

  items_outside : (t : List ℕ) (c : LayoutSetting) {es : List EventInText} {ms : List Measure} → AreMeasures t c es ms → (i u : ℕ) → u ≤ i
      → (column : ℕ) (xs : Items) → Among es (flat_items xs) i
      → Outside c.style ms i u (forms_of_items c column (styled_items t c xs)) (flat_items xs)
      (flat_items (settled_items c column (styled_items t c xs)))
  items_outside t c m i u l column no_items a = nothing_outside l
  items_outside t c m i u l column (item x xs) a =
      let o = node_outside t c m i u l (site_at (inner_margins c.style column)) x (front (flat x) (flat_items xs) a) in
      both_outside o (items_outside t c m (i + length (flat x)) o.until o.ended column xs (back (flat x) (flat_items xs) a))

  pairs_outside : (t : List ℕ) (c : LayoutSetting) {es : List EventInText} {ms : List Measure} → AreMeasures t c es ms → (i u : ℕ) → u ≤ i
      → (column : ℕ) (ps : Pairs) → Among es (flat_pairs ps) i
      → Outside c.style ms i u (forms_of_pairs c column (styled_pairs t c ps)) (flat_pairs ps)
      (flat_pairs (settled_pairs c column (styled_pairs t c ps)))
  pairs_outside t c m i u l column no_pairs a = nothing_outside l
  pairs_outside t c m i u l column (pair k v ps) a =
      let rest = back (flat k) (flat v ++ flat_pairs ps) a in
      let of_value = value_site c column (styled t c k) (styled t c v) in
      let o = node_outside t c m i u l (key_site c.style column (styled t c k)) k (front (flat k) (flat v ++ flat_pairs ps) a) in
      let p = node_outside t c m (i + length (flat k)) o.until o.ended of_value v (front (flat v) (flat_pairs ps) rest) in
      let others = back (flat v) (flat_pairs ps) rest in
      both_outside o (both_outside p (pairs_outside t c m (i + length (flat k) + length (flat v)) p.until p.ended column ps others))

-- Documents.

document_outside : (t : List ℕ) (c : LayoutSetting) {es : List EventInText} {ms : List Measure} → AreMeasures t c es ms → (i u : ℕ) → u ≤ i
    → (d : DocumentTree) → Among es (flat_document d) i
    → Outside c.style ms i u (document_forms t c c d) (flat_document d) (flat_document (normal_document t c d))
document_outside t c m i u l d a =
    let first = unplaced (document_starts d.marked) in
    let last = unplaced (document_ends d.closed) in
    let inside = front (flat d.root) (last ∷ []) (after_first first _ a) in
    let s = other_outside no_form first first refl (λ b. refl) l in
    let o = node_outside t c m (i + 1) s.until s.ended (site_at (root_margins c.style)) d.root inside in
    both_outside s (both_outside o (other_outside no_form last last refl (λ b. refl) o.ended))

documents_outside : (t : List ℕ) (c : LayoutSetting) {es : List EventInText} {ms : List Measure} → AreMeasures t c es ms → (i u : ℕ) → u ≤ i
    → (ds : List DocumentTree) → Among es (flat_map flat_document ds) i
    → Outside c.style ms i u (flat_map (document_forms t c c) ds) (flat_map flat_document ds)
    (flat_map flat_document (map (normal_document t c) ds))
documents_outside t c m i u l [] a = nothing_outside l
documents_outside t c m i u l (d ∷ ds) a =
    let o = document_outside t c m i u l d (front (flat_document d) (flat_map flat_document ds) a) in
    both_outside o (documents_outside t c m (i + length (flat_document d)) o.until o.ended ds (back (flat_document d) (flat_map flat_document ds) a))

whole : {q : Style} {ms : List Measure} {gs : List Form} {xs ys : List EventInText} → Outside q ms 0 0 gs xs ys → normal_from q ms 0 0 gs xs ≡ ys
whole {q} {ms} {gs} {xs} {ys} o =
    ap (λ l. normal_from q ms 0 0 l xs) (sym (append-nil gs)) ∙ ap (λ l. normal_from q ms 0 0 (gs ++ []) l) (sym (append-nil xs))
    ∙ o.becomes.is [] [] ∙ append-nil ys

-- the pass over a reading makes the events of its documents with their forms settled
pub normal_stream : (t : List ℕ) (c : LayoutSetting) (ms : List Measure) (ds : List DocumentTree) → AreMeasures t c (flat_stream ds) ms
    → normal_from c.style ms 0 0 (stream_forms t c c ds) (flat_stream ds) ≡ flat_stream (map (normal_document t c) ds)
normal_stream t c ms ds m =
    let all : Among (flat_stream ds) (flat_map flat_document ds) 1 =
    record { before = unplaced stream_starts ∷ []; after = unplaced stream_ends ∷ []; is = refl; index = refl } in
    let start : 0 ≤ 0 = omega arith in
    let first = other_outside no_form (unplaced stream_starts) (unplaced stream_starts) refl (λ b. refl) start in
    let o = documents_outside t c m 1 first.until first.ended ds all in
    whole (both_outside first (both_outside o (other_outside no_form (unplaced stream_ends) (unplaced stream_ends) refl (λ b. refl) o.ended)))

-- a reading with these events is the normal form
pub normal_reading : (t : List ℕ) (r m : Lists) (s : Style) (ms : List Measure) (fs : List Form) (ds : List DocumentTree) → TreesOf r ds
    → AreMeasures t (setting_of r s) r.events ms → fs ≡ stream_forms t (setting_of r s) (setting_of r s) ds
    → m.events ≡ normal_from s ms 0 0 fs r.events → m ≡ record r { events = m.events } → Normal t r s m
normal_reading t r m s ms fs ds o d f e k = record {
  trees = ds;
  of_reading = o;
  is = k ∙ ap (λ es. record r { events = es }) (e ∙ ap (λ l. normal_from s ms 0 0 l r.events) f
      ∙ ap (λ es. normal_from s ms 0 0 (stream_forms t (setting_of r s) (setting_of r s) ds) es) o.events
      ∙ normal_stream t (setting_of r s) ms ds (subst (λ es. AreMeasures t (setting_of r s) es ms) o.events d));
}
