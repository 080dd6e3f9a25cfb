-- In trees that are their own normal form, with implicit keys without `?`, no mark is needless.
use Rattle.std.proofs.Common.{◌≡◌, ℕ, ◌+◌, ⊎_elim, Bool, true, false, true≢false, List, [], ◌∷◌, ◌++◌, Some, length, map, refl, sym, ap, ◌∙◌, subst}
use Rattle.std.specs.List.{Contains}
use Rattle.std.specs.Prelude.{slice_get, if◌then◌else◌}
use Rattle.std.proofs.lemmas.List.{length-map}
use Rattle.std.proofs.lemmas.List.Elements.{Contains-append_cases}
use Rattle.std.proofs.lemmas.Option.{same_Some}
use Rattle.yf_chars.specs.Class.{is_white_or_end}
use Rattle.yf_chars.specs.Text.{code}
use Rattle.yf_lines.specs.Lines.{Table}
use Rattle.yf_events.specs.Event.{EventInText}
use Rattle.yf_events.specs.Reading.{entries_of}
use Rattle.yf_events.specs.Tree.{Node, scalar, alias, sequence, mapping, Items, no_items, item, Pairs, no_pairs, pair, DocumentTree, TreesOf, flat, flat_document, standing}
use Rattle.yf_events.specs.declared.event.Entry.{Entry}
use Rattle.yf_events.proofs.TreeLemmas.{trees_unique}
use Rattle.yf_events.specs.declared.lists.Lists.{Lists}
use Rattle.yf_forms.specs.Nodes.SingleNodes.{NodeAt, keys, keys_of_documents, keys_of_items, keys_of_pairs}
use Rattle.yf_forms.specs.NormalForms.Normal.{Normal, LayoutSetting, Margins, inner_margins, is_implicit, key_margins, normal_document, root_margins, setting_of, value_of_implicit, value_margins}
use Rattle.yf_forms.specs.declared.style.Style.{Style}
use Rattle.yf_laws.proofs.SecondRun.FixedLawsHold.{formats_normal}
use Rattle.yf_laws.proofs.OutputLines.FormattedLines.{formed}
use Rattle.yf_laws.proofs.Columns.FormattedSet.{reading_set}
use Rattle.yf_laws.proofs.OfTexts.ReadingsOfTexts.{reading_is_textual}
use Rattle.yf_laws.proofs.Columns.SetMeant.{BlockAt}
use Rattle.yf_laws.proofs.Columns.SetNodes.{Blockless, entries_after, SetDocuments, no_set_documents, set_document, SetItems, no_set_items, set_item, SetNode, set_line, set_scalar, set_sequence, set_mapping, SetPairs, no_set_pairs, set_pair, Unquestioned}
use Rattle.yf_rule_sets.specs.RuleSets.Layouts.{NeedlessMark}
use Rattle.yf_laws.specs.Mended.{FormatsAreMended}
use Rattle.yf_rule_sets.specs.RuleSets.Nodes.{NumberedNode, IsNodeOf, items_from, pairs_from, roots_from}
use Rattle.yf_rule_sets.specs.RuleSets.Nodes.IsChildOf.{as_item, as_key, as_value}
use Rattle.yf_rule_sets.specs.RuleSets.Nodes.IsNodeOf.{is_root, is_inner}
use Rattle.yf_rule_sets.specs.RuleSets.QuestionMarks.{IsMarked}
use Rattle.yf_rule_sets.specs.RuleSets.QuestionMarks.IsMarked.{marked}
use Rattle.yf_rule_sets.specs.Rules.{key_mark}
use Rattle.yf_rule_sets.proofs.RuleSets.KeySetLemmas.{head_or_later, is_head, is_later, nothing_in}
use Rattle.yf_laws.proofs.Formatted.MendedLines.{exactly_none}
use Rattle.yf_rule_sets.proofs.Texts.NodePlaceLemmas.{node_there}

-- The entry that an event begins.

entry_got : (before after : List EventInText) (e : EventInText) → slice_get (map (λ (p : EventInText). p.entry) (before ++ (e ∷ after))) (length before) ≡ Some e.entry
entry_got [] after e = refl
entry_got (b ∷ before) after e = entry_got before after e

first_entry : (x : Node) (before after : List EventInText) → slice_get (map (λ (p : EventInText). p.entry) (before ++ (flat x ++ after))) (length before) ≡ Some (standing x).entry
first_entry (scalar at props style text lines) before after = entry_got before after _
first_entry (alias at name) before after = entry_got before after _
first_entry (sequence at flow props xs) before after = entry_got before _ _
first_entry (mapping at flow props ps) before after = entry_got before _ _

entry_at : (r : Lists) {i : ℕ} {x : Node} → NodeAt r.events i x → slice_get (entries_of r) i ≡ Some (standing x).entry
entry_at r {i} {x} a =
    ap (λ es. slice_get (map (λ (p : EventInText). p.entry) es) i) a.is ∙ subst (λ n. slice_get (map (λ (p : EventInText). p.entry) (a.before ++ (flat x ++ a.after))) n ≡ Some (standing x).entry) a.index
    (first_entry x a.before a.after)

-- Keys.

margin_entries : (b : Bool) (p q : Margins) → (if b then p else q).entries ≡ (if b then p.entries else q.entries)
margin_entries true p q = refl
margin_entries false p q = refl

module _ (t : List ℕ) (c : LayoutSetting) (trees : List DocumentTree) (Content : ℕ → Node → Type 0) where
  -- a key that is written without `?`
  record FreeKey (j : ℕ) : Type 0 where
    pub node : NumberedNode
    pub is_there : IsNodeOf trees node
    pub index : node.0 ≡ j
    pub free : Unquestioned t node.1

  line_free : (i : ℕ) (margins : Margins) (x : Node) (j : ℕ) → Blockless x → Contains (keys c i margins x) (j, true) → FreeKey j
  line_free i margins (scalar at props style text lines) j b q = absurd (nothing_in (j, true) q)
  line_free i margins (alias at name) j b q = absurd (nothing_in (j, true) q)
  line_free i margins (sequence at true props xs) j b q = absurd (nothing_in (j, true) q)
  line_free i margins (sequence at false props xs) j b q = absurd (true≢false (sym b.0))
  line_free i margins (mapping at true props ps) j b q = absurd (nothing_in (j, true) q)
  line_free i margins (mapping at false props ps) j b q = absurd (true≢false (sym b.0))

  mutual
    node_free : {m l : ℕ} (i : ℕ) (margins : Margins) (x : Node) (j : ℕ) → SetNode t c.style Content m l x → m ≡ margins.entries → IsNodeOf trees (i, x) → Contains (keys c i margins x) (j, true) → FreeKey j
    node_free i margins x j (set_line b) e a q = line_free i margins x j b q
    node_free i margins x j (set_scalar f d) e a q = absurd (nothing_in (j, true) q)
    node_free i margins x j (set_sequence {x = y} {xs = xs} o w) e a q = items_free (i + 1) margins.entries (item y xs) j w e (λ z g. is_inner a (as_item g)) q
    node_free i margins x j (set_mapping {k = k} {v = v} {ps = ps} o w) e a q =
        pairs_free (i + 1) margins.entries (pair k v ps) j w e (λ y z g. is_inner a (as_key g)) (λ y z g. is_inner a (as_value g)) q

    items_free : {m : ℕ} (i column : ℕ) (xs : Items) (j : ℕ) → SetItems t c.style Content m xs → m ≡ column → ((y : NumberedNode) → Contains (items_from i xs) y → IsNodeOf trees y)
        → Contains (keys_of_items c i column xs) (j, true) → FreeKey j
    items_free i column no_items j no_set_items e f q = absurd (nothing_in (j, true) q)
    items_free i column (item x xs) j (set_item o a more) e f q =
        let n = i + length (flat x) in
        ⊎_elim
        (λ (h : Contains (keys c i (inner_margins c.style column) x) (j, true)). node_free i (inner_margins c.style column) x j a (ap (λ k. k + c.style.indent) e) (f (i, x) (is_head (i, x) (items_from n xs))) h)
        (λ (h : Contains (keys_of_items c n column xs) (j, true)). items_free n column xs j more e (λ y g. f y (is_later (i, x) (items_from n xs) y g)) h)
        (Contains-append_cases (keys c i (inner_margins c.style column) x) (keys_of_items c n column xs) (j, true) q)

    pairs_free : {m : ℕ} (i column : ℕ) (ps : Pairs) (j : ℕ) → SetPairs t c.style Content m ps → m ≡ column → ((k v : NumberedNode) → Contains (pairs_from i ps) (k, v) → IsNodeOf trees k)
        → ((k v : NumberedNode) → Contains (pairs_from i ps) (k, v) → IsNodeOf trees v) → Contains (keys_of_pairs c i column ps) (j, true) → FreeKey j
    pairs_free i column no_pairs j no_set_pairs e f g q = absurd (nothing_in (j, true) q)
    pairs_free {m} i column (pair k v ps) j (set_pair o free other a b more) e f g q =
        let n = i + length (flat k) in
        let o = n + length (flat v) in
        let K = keys c i (key_margins c.style column k) k in
        let V = keys c n (value_margins c column k v) v in
        let Z = keys_of_pairs c o column ps in
        let first = is_head ((i, k), (n, v)) (pairs_from o ps) in
        let margins : entries_after c.style m k v ≡ (value_margins c column k v).entries =
        ap (λ z. entries_after c.style z k v) e ∙ sym (margin_entries (is_implicit c.style column k) (value_of_implicit c column k v) (inner_margins c.style column)) in
        ⊎_elim
        (λ (h : ◌≡◌ {A = ℕ × Bool} (i, is_implicit c.style column k) (j, true)). record {
          node = (i, k);
          is_there = f (i, k) (n, v) first;
          index = ap (λ (p : ℕ × Bool). p.0) h;
          free = free (ap (λ z. is_implicit c.style z k) e ∙ ap (λ (p : ℕ × Bool). p.1) h);
        })
        (λ (h : Contains (K ++ (V ++ Z)) (j, true)). ⊎_elim
        (λ (w : Contains K (j, true)). node_free i (key_margins c.style column k) k j a (ap (λ z. z + c.style.indent) e) (f (i, k) (n, v) first) w)
        (λ (w : Contains (V ++ Z) (j, true)). ⊎_elim
        (λ (y : Contains V (j, true)). node_free n (value_margins c column k v) v j b margins (g (i, k) (n, v) first) y)
        (λ (y : Contains Z (j, true)). pairs_free o column ps j more e (λ p r z. f p r (is_later ((i, k), (n, v)) (pairs_from o ps) (p, r) z)) (λ p r z. g p r (is_later ((i, k), (n, v)) (pairs_from o ps) (p, r) z)) y)
        (Contains-append_cases V Z (j, true) w))
        (Contains-append_cases K (V ++ Z) (j, true) h))
        (head_or_later (i, is_implicit c.style column k) (K ++ (V ++ Z)) (j, true) q)

  documents_free : (i : ℕ) (ds : List DocumentTree) (j : ℕ) → SetDocuments t c.style Content ds → ((y : NumberedNode) → Contains (roots_from i ds) y → IsNodeOf trees y)
      → Contains (keys_of_documents c i ds) (j, true) → FreeKey j
  documents_free i [] j no_set_documents f q = absurd (nothing_in (j, true) q)
  documents_free i (d ∷ ds) j (set_document a more) f q =
      let n = i + length (flat_document d) in
      ⊎_elim
      (λ (h : Contains (keys c (i + 1) (root_margins c.style) d.root) (j, true)). node_free (i + 1) (root_margins c.style) d.root j a refl (f (i + 1, d.root) (is_head (i + 1, d.root) (roots_from n ds))) h)
      (λ (h : Contains (keys_of_documents c n ds) (j, true)). documents_free n ds j more (λ y g. f y (is_later (i + 1, d.root) (roots_from n ds) y g)) h)
      (Contains-append_cases (keys c (i + 1) (root_margins c.style) d.root) (keys_of_documents c n ds) (j, true) q)

-- a mark of such a key
not_marked_there : {t : List ℕ} {r : Lists} {i o : ℕ} (x : Node) → NodeAt r.events i x → Unquestioned t x → IsMarked t r i o → ⊥
not_marked_there {t} {r} x a free (marked {entry = entry} e sign) =
    let one : (standing x).entry ≡ Some entry = same_Some _ _ (sym (entry_at r a) ∙ e) in
    let same : free.entry ≡ entry = same_Some _ _ (sym free.is ∙ one) in
    (subst (λ (z : Entry). (code t z.start ≡ 63 → is_white_or_end (code t (z.start + 1)) ≡ true → ⊥)) same free.none) sign.sign sign.white

pub none_needless : (src : Table) (r : Lists) (s : Style) (trees : List DocumentTree) (Content : ℕ → Node → Type 0) → TreesOf r trees → SetDocuments src.text s Content trees
    → map (normal_document src.text (setting_of r s)) trees ≡ trees → (i o : ℕ) → NeedlessMark src r s trees i o → ⊥
none_needless src r s trees Content of_reading w same i o a =
    let key : Contains (keys_of_documents (setting_of r s) 1 trees) (i, true) = subst (λ ds. Contains (keys_of_documents (setting_of r s) 1 ds) (i, true)) same a.key in
    let free = documents_free src.text (setting_of r s) trees Content 1 trees i w (λ y q. is_root q) key in
    not_marked_there free.node.1 (node_there of_reading free.is_there) free.free (subst (λ j. IsMarked src.text r j o) (sym free.index) a.marked)

-- The law.

pub normal_same : {u : List ℕ} {q : Lists} {s : Style} → Normal u q s q → (trees : List DocumentTree) → TreesOf q trees → map (normal_document u (setting_of q s)) trees ≡ trees
normal_same {u} {q} {s} n trees of_reading =
    let g : DocumentTree → DocumentTree = normal_document u (setting_of q s) in
    let made : TreesOf q (map g n.trees) = record { events = ap (λ (w : Lists). w.events) n.is; documents = n.of_reading.documents ∙ sym (length-map n.trees g) } in
    subst (λ z. map g z ≡ z) (trees_unique q n.trees trees n.of_reading of_reading) (trees_unique q (map g n.trees) n.trees made n.of_reading)

pub key_mark_mended : FormatsAreMended key_mark
key_mark_mended fixable src r s w offsets e =
    let u = (formed w.utf8 w.formats).utf8 in
    let textual = reading_is_textual u w.reads in
    let set = reading_set w.utf8 w.formats w.reads in
    let here : SetDocuments src.text s (BlockAt src.text) textual.trees =
    subst (λ z. SetDocuments src.text s (BlockAt src.text) z) (trees_unique r set.trees textual.trees set.of_reading textual.of_reading) set.set in
    let same = normal_same (formats_normal w.source src.text s w.utf8 w.formats r w.reads) textual.trees textual.of_reading in
    exactly_none offsets (λ i o m. none_needless src r s textual.trees (BlockAt src.text) textual.of_reading here same i o m) (e textual)
