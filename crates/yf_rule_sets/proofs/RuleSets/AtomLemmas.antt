-- Laws of keys that are scalars or aliases with a `?`: the pass over the events and the keys themselves decide whether
-- the `?` is needless.
use Rattle.std.proofs.Common.{◌≡◌, ◌≢◌, ℕ, zero, suc, ◌+◌, ◌<◌, ◌≤◌, true, false, ◌&&◌, Bool, List, [], ◌∷◌, ◌++◌, Some, length, get_or, flat_map, refl, sym, ap, subst, ◌∙◌, append-nil, arith, true≢false}
use Rattle.std.specs.Prelude.{replicate, slice_get}
use Rattle.std.proofs.lemmas.Option.{same_Some}
use Rattle.yf_events.specs.Event.{EventValue, EventInText, document_ends, sequence_ends, mapping_ends, stream_ends}
use Rattle.yf_events.specs.Tree.{Node, scalar, alias, sequence, mapping, Items, no_items, item, Pairs, no_pairs, pair, DocumentTree, TreesOf, flat, flat_items, flat_pairs, flat_document, flat_stream, unplaced}
use Rattle.yf_events.specs.WellPlaced.{begins_node}
use Rattle.yf_events.specs.declared.lists.Lists.{Lists}
use Rattle.yf_forms.specs.declared.form.decide.Form.{Form}
use Rattle.yf_forms.specs.declared.style.Style.{Style}
use Rattle.yf_forms.specs.Nodes.ImplicitKeys.{is_atom, is_implicit_atom}
use Rattle.yf_forms.specs.Nodes.SingleNodes.{NodeAt}
use Rattle.yf_forms.specs.NormalForms.Forms.{Site, site_at, key_site, value_site, forms, forms_of_items, forms_of_pairs, no_form, document_forms, stream_forms}
use Rattle.yf_forms.specs.NormalForms.Normal.{LayoutSetting, inner_margins, is_implicit, root_margins, setting_of, styled, styled_items, styled_pairs}
use Rattle.yf_forms.proofs.Decide.AmongLemmas.{Among, after_first, back, front, node_at}
use Rattle.yf_forms.proofs.Decide.AtomKeys.{atom_key}
use Rattle.yf_forms.proofs.Decide.CountLemmas.{node_forms}
use Rattle.yf_forms.proofs.Decide.ValueLemmas.{event_of}
use Rattle.yf_rule_sets.specs.Passes.BlockKeys.{first_role, in_flow, is_key, roles}
use Rattle.yf_rule_sets.specs.Passes.OuterFlow.{IsOutsideFlow, is_flow}
use Rattle.yf_rule_sets.specs.declared.facts.block_keys.Role.{Role}
use Rattle.yf_rule_sets.specs.declared.facts.block_keys.Role.TheVariants.{InFlow, Item, Key, Value}
use Rattle.yf_rule_sets.proofs.RuleSets.BlockKeyLemmas.{all_in_mapping, all_in_sequence, roles_of, roles_of_document, roles_of_items, roles_of_pairs, roles_of_stream}

-- the event at the index is in a flow collection, and not its first one
abbrev pub Enclosed : List EventInText → ℕ → Type 0
Enclosed es i = (j : ℕ) × (y : Node) × NodeAt es j y × (is_flow y ≡ true) × (j < i) × (i < j + length (flat y))

pub not_enclosed : {es : List EventInText} {i : ℕ} → IsOutsideFlow es i → Enclosed es i → ⊥
not_enclosed o w = let b = o.outside w.0 w.1 w.2 w.3 w.4 in omega (arith, b, w.5)

-- whether the event v begins an implicit key, as far as its role decides it
pub record Tells (s : Style) (implicit : Bool) (n : Role) (v : EventValue) : Type 0 where
  pub node : implicit ≡ true → begins_node v ≡ true
  pub key : implicit ≡ true → is_key n ≡ true
  pub atom : is_atom v ≡ true → implicit ≡ (is_key n && is_implicit_atom s v)

-- Outside of flow collections, the forms of these events, from the index i on, agree with the roles of the pass.
data Agree (s : Style) (es : List EventInText) : ℕ → List Form → List Role → List EventInText → Type 0 where
  none_left : {i : ℕ} → Agree s es i [] [] []
  one_more : {i : ℕ} {f : Form} {n : Role} {e : EventInText} {fs : List Form} {ns : List Role} {ds : List EventInText}
      → (in_flow n ≡ true → Enclosed es i) → (in_flow n ≡ false → Tells s f.is_implicit n e.event)
      → Agree s es (i + 1) fs ns ds → Agree s es i (f ∷ fs) (n ∷ ns) (e ∷ ds)

-- an event that begins no key, and one that is not an atom either
no_key : {s : Style} (n : Role) (v : EventValue) → is_key n ≡ false → Tells s false n v
no_key {s} n v e = record { node = λ h. absurd (true≢false (sym h)); key = λ h. absurd (true≢false (sym h)); atom = λ h. sym (ap (λ b. b && is_implicit_atom s v) e) }

no_node : {s : Style} (n : Role) (v : EventValue) → is_atom v ≡ false → Tells s false n v
no_node n v e = record { node = λ h. absurd (true≢false (sym h)); key = λ h. absurd (true≢false (sym h)); atom = λ h. absurd (true≢false (sym h ∙ e)) }

-- one event in no flow collection
outer : {s : Style} {es : List EventInText} {i : ℕ} {f : Form} {n : Role} {e : EventInText} {fs : List Form} {ns : List Role} {ds : List EventInText}
    → in_flow n ≡ false → Tells s f.is_implicit n e.event → Agree s es (i + 1) fs ns ds → Agree s es i (f ∷ fs) (n ∷ ns) (e ∷ ds)
outer p t a = one_more (λ h. absurd (true≢false (sym h ∙ p))) (λ h. t) a

-- a single event that is not an atom, outside of flow collections
at_end : {s : Style} {es : List EventInText} {i : ℕ} {n : Role} {e : EventInText} → in_flow n ≡ false → is_atom e.event ≡ false → Agree s es i (no_form ∷ []) (n ∷ []) (e ∷ [])
at_end {n = n} {e = e} p q = outer p (no_node n e.event q) none_left

join : {s : Style} {es : List EventInText} {i j : ℕ} {fs gs : List Form} {ns ms : List Role} {ds hs : List EventInText} → Agree s es i fs ns ds → j ≡ i + length ds
    → Agree s es j gs ms hs → Agree s es i (fs ++ gs) (ns ++ ms) (ds ++ hs)
join {s} {es} {i} {j} {gs = gs} {ms = ms} {hs = hs} none_left e b = subst (λ k. Agree s es k gs ms hs) (let q : j ≡ i = omega (arith, e) in q) b
join (one_more p q a) e b = one_more p q (join a (omega (arith, e)) b)

in_one_flow : {s : Style} {es : List EventInText} (i k : ℕ) (fs : List Form) (ds : List EventInText) → length fs ≡ k → length ds ≡ k
    → ((m : ℕ) → i ≤ m → m < i + k → Enclosed es m) → Agree s es i fs (replicate k InFlow) ds
in_one_flow i zero [] [] p q g = none_left
in_one_flow i (suc k) (f ∷ fs) (d ∷ ds) p q g =
    one_more (λ h. g i (omega arith) (omega arith)) (λ h. absurd (true≢false h))
    (in_one_flow (i + 1) k fs ds (omega (arith, p)) (omega (arith, q)) (λ m a b. g m (omega (arith, a)) (omega (arith, b))))
in_one_flow i zero (f ∷ fs) ds p q g = absurd (omega (arith, p))
in_one_flow i zero [] (d ∷ ds) p q g = absurd (omega (arith, q))
in_one_flow i (suc k) [] ds p q g = absurd (omega (arith, p))
in_one_flow i (suc k) (f ∷ fs) [] p q g = absurd (omega (arith, q))

block_first : (n first : Role) → in_flow n ≡ false → first_role n false first ≡ first
block_first n first h = rw h refl

begins : (x : Node) → begins_node (event_of x) ≡ true
begins (scalar at props style text lines) = refl
begins (alias at name) = refl
begins (sequence at flow props items) = refl
begins (mapping at flow props pairs) = refl

module _ (t : List ℕ) (c : LayoutSetting) (es : List EventInText) where
  flow_agrees : (i : ℕ) (site : Site) (n : Role) (x : Node) (f : Form) (e : EventInText) (fs : List Form) (ns : List Role) (ds : List EventInText)
      → in_flow n ≡ false → is_flow x ≡ true → Tells c.style f.is_implicit n e.event → flat x ≡ e ∷ ds → forms c site (styled t c x) ≡ f ∷ fs
      → ns ≡ replicate (length ds) InFlow → Among es (flat x) i → Agree c.style es i (f ∷ fs) (n ∷ ns) (e ∷ ds)
  flow_agrees i site n x f e fs ns ds p w q d g r a =
      let l : suc (length ds) ≡ length (flat x) = sym (ap length d) in
      let k : length fs ≡ length ds = let z : suc (length fs) ≡ length (flat x) = sym (ap length g) ∙ node_forms c site t c x in omega (arith, z, l) in
      outer p q (subst (λ ms. Agree c.style es (i + 1) fs ms ds) (sym r)
      (in_one_flow (i + 1) (length ds) fs ds k refl (λ m b h. (i, x, node_at x a, w, omega (arith, b), omega (arith, h, l)))))

  mutual
    node_agrees : (x : Node) (i : ℕ) (site : Site) (n : Role) → in_flow n ≡ false → Tells c.style site.is_implicit n (event_of x) → Among es (flat x) i
        → Agree c.style es i (forms c site (styled t c x)) (roles_of n x) (flat x)
    node_agrees (scalar at props style text lines) i site n p q a = outer p q none_left
    node_agrees (alias at name) i site n p q a = outer p q none_left
    node_agrees (sequence at true props items) i site n p q a =
        flow_agrees i site n (sequence at true props items) _ _ _ _ _ p refl q refl refl (all_in_sequence items) a
    node_agrees (sequence at false props no_items) i site n p q a =
        let e : first_role n false Item ≡ Item = block_first n Item p in
        outer p q (at_end (ap in_flow e) refl)
    node_agrees (sequence at false props (item x xs)) i site n p q a =
        let e : first_role n false Item ≡ Item = block_first n Item p in
        let inside : Among es (flat_items (item x xs)) (i + 1) = front (flat_items (item x xs)) (unplaced sequence_ends ∷ []) (after_first _ _ a) in
        outer p q (subst (λ m. Agree c.style es (i + 1) (forms_of_items c site.margins.entries (styled_items t c (item x xs)) ++ (no_form ∷ []))
        (roles_of_items m (item x xs) ++ (m ∷ [])) (flat_items (item x xs) ++ (unplaced sequence_ends ∷ []))) (sym e)
        (join (items_agree (item x xs) (i + 1) site.margins.entries inside) refl (at_end refl refl)))
    node_agrees (mapping at true props pairs) i site n p q a =
        flow_agrees i site n (mapping at true props pairs) _ _ _ _ _ p refl q refl refl (all_in_mapping pairs) a
    node_agrees (mapping at false props no_pairs) i site n p q a =
        let e : first_role n false Key ≡ Key = block_first n Key p in
        outer p q (at_end (ap in_flow e) refl)
    node_agrees (mapping at false props (pair k v ps)) i site n p q a =
        let e : first_role n false Key ≡ Key = block_first n Key p in
        let inside : Among es (flat_pairs (pair k v ps)) (i + 1) = front (flat_pairs (pair k v ps)) (unplaced mapping_ends ∷ []) (after_first _ _ a) in
        outer p q (subst (λ m. Agree c.style es (i + 1) (forms_of_pairs c site.margins.entries (styled_pairs t c (pair k v ps)) ++ (no_form ∷ []))
        (roles_of_pairs m (pair k v ps) ++ (m ∷ [])) (flat_pairs (pair k v ps) ++ (unplaced mapping_ends ∷ []))) (sym e)
        (join (pairs_agree (pair k v ps) (i + 1) site.margins.entries inside) refl (at_end refl refl)))

    items_agree : (xs : Items) (i column : ℕ) → Among es (flat_items xs) i → Agree c.style es i (forms_of_items c column (styled_items t c xs)) (roles_of_items Item xs) (flat_items xs)
    items_agree no_items i column a = none_left
    items_agree (item x xs) i column a =
        join (node_agrees x i (site_at (inner_margins c.style column)) Item refl (no_key Item (event_of x) refl) (front (flat x) (flat_items xs) a)) refl
        (items_agree xs (i + length (flat x)) column (back (flat x) (flat_items xs) a))

    pairs_agree : (ps : Pairs) (i column : ℕ) → Among es (flat_pairs ps) i → Agree c.style es i (forms_of_pairs c column (styled_pairs t c ps)) (roles_of_pairs Key ps) (flat_pairs ps)
    pairs_agree no_pairs i column a = none_left
    pairs_agree (pair k v ps) i column a =
        let b : Among es (flat v ++ flat_pairs ps) (i + length (flat k)) = back (flat k) (flat v ++ flat_pairs ps) a in
        let key : Site = key_site c.style column (styled t c k) in
        let value : Site = value_site c column (styled t c k) (styled t c v) in
        join (node_agrees k i key Key refl (record { node = λ h. begins k; key = λ h. refl; atom = λ h. atom_key t c column k h })
        (front (flat k) (flat v ++ flat_pairs ps) a)) refl
        (join (node_agrees v (i + length (flat k)) value Value refl (no_key Value (event_of v) refl) (front (flat v) (flat_pairs ps) b)) refl
        (pairs_agree ps (i + length (flat k) + length (flat v)) column (back (flat v) (flat_pairs ps) b)))

  document_agrees : (d : DocumentTree) (i : ℕ) → Among es (flat_document d) i → Agree c.style es i (document_forms t c c d) (roles_of_document d) (flat_document d)
  document_agrees d i a =
      outer refl (no_key Item _ refl) (join (node_agrees d.root (i + 1) (site_at (root_margins c.style)) Item refl (no_key Item (event_of d.root) refl)
      (front (flat d.root) (unplaced (document_ends d.closed) ∷ []) (after_first _ _ a))) refl (at_end refl refl))

  documents_agree : (ds : List DocumentTree) (i : ℕ) → Among es (flat_map flat_document ds) i
      → Agree c.style es i (flat_map (document_forms t c c) ds) (flat_map roles_of_document ds) (flat_map flat_document ds)
  documents_agree [] i a = none_left
  documents_agree (d ∷ ds) i a =
      join (document_agrees d i (front (flat_document d) (flat_map flat_document ds) a)) refl
      (documents_agree ds (i + length (flat_document d)) (back (flat_document d) (flat_map flat_document ds) a))

  stream_agrees : (ds : List DocumentTree) → es ≡ flat_stream ds → Agree c.style es 0 (stream_forms t c c ds) (roles [] (flat_stream ds)) (flat_stream ds)
  stream_agrees ds e =
      let whole : Among es (flat_stream ds) 0 = record { before = []; after = []; is = e ∙ sym (append-nil (flat_stream ds)); index = refl } in
      subst (λ ns. Agree c.style es 0 (stream_forms t c c ds) ns (flat_stream ds)) (sym (roles_of_stream ds))
      (outer refl (no_key Item _ refl) (join (documents_agree ds 1 (front (flat_map flat_document ds) (unplaced stream_ends ∷ []) (after_first _ _ whole))) refl (at_end refl refl)))

-- at an index
agree_at : {s : Style} {es : List EventInText} {i : ℕ} {fs : List Form} {ns : List Role} {ds : List EventInText} (k : ℕ) (n : Role) (e : EventInText) → Agree s es i fs ns ds
    → slice_get ns k ≡ Some n → slice_get ds k ≡ Some e
    → (in_flow n ≡ true → Enclosed es (i + k)) × (in_flow n ≡ false → Tells s (get_or fs k no_form).is_implicit n e.event)
agree_at k n e none_left p q = absurd cc
agree_at {s} {es} {i} zero n e (one_more {f = f} {n = m} {e = d} g h a) p q =
    let same : m ≡ n = same_Some _ _ p in
    let there : d ≡ e = same_Some _ _ q in (
      (λ z. subst (Enclosed es) (let w : i ≡ i + 0 = omega arith in w) (g (ap in_flow same ∙ z))),
      (λ z. subst (λ (w : Role). Tells s f.is_implicit w e.event) same
          (subst (λ (x : EventInText). Tells s f.is_implicit m x.event) there (h (ap in_flow same ∙ z)))),
    )
agree_at {s} {es} {i} (suc k) n e (one_more g h a) p q =
    let w = agree_at k n e a p q in ((λ z. subst (Enclosed es) (let y : i + 1 + k ≡ i + suc k = omega arith in y) (w.0 z)), w.1)

-- the roles in a reading with trees
pub role_tells : (t : List ℕ) (r : Lists) (house : Style) (trees : List DocumentTree) (i : ℕ) (n : Role) (e : EventInText) → TreesOf r trees
    → slice_get (roles [] r.events) i ≡ Some n → slice_get r.events i ≡ Some e
    → (in_flow n ≡ true → Enclosed r.events i)
    × (in_flow n ≡ false → Tells house (get_or (stream_forms t (setting_of r house) (setting_of r house) trees) i no_form).is_implicit n e.event)
role_tells t r house trees i n e w p q =
    let a = agree_at i n e (stream_agrees t (setting_of r house) r.events trees w.events) (ap (λ es. slice_get (roles [] es) i) (sym w.events) ∙ p)
    (ap (λ es. slice_get es i) (sym w.events) ∙ q) in
    ((λ h. subst (Enclosed r.events) (let z : 0 + i ≡ i = omega arith in z) (a.0 h)), a.1)
