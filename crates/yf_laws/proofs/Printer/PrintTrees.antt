-- The printer's pass over the events of any node of a normal form adds the rows of the node.
use Rattle.std.proofs.Common.{◌≡◌, ℕ, suc, ◌+◌, ◌-◌, ◌≤◌, Bool, true, false, not, ◌&&◌, List, [], ◌∷◌, ◌++◌, length, get_or, None, refl, sym, ap, ◌∙◌, subst, arith, true≢false}
use Rattle.std.specs.Prelude.{◌^◌, ◌*◌}
use Rattle.std.proofs.lemmas.Bool.{and_parts}
use Rattle.yf_props.specs.Props.{PropsValue}
use Rattle.yf_events.specs.Event.{EventInText, sequence_starts, sequence_ends, mapping_starts, mapping_ends}
use Rattle.yf_events.specs.Tree.{NodeOffsets, Node, sequence, mapping, Items, item, Pairs, pair, flat, flat_items, flat_pairs, is_block_collection, is_filled_flow, is_text, placed, props_of, standing, unplaced}
use Rattle.yf_forms.specs.declared.form.decide.Form.{Form}
use Rattle.yf_print.specs.declared.printer.FrameState.{FrameState}
use Rattle.yf_print.specs.declared.printer.FrameState.TheVariants.{Item}
use Rattle.yf_print.specs.declared.printer.PrintFrame.{PrintFrame}
use Rattle.yf_print.specs.declared.printer.Role as Printer
use Rattle.yf_laws.proofs.OfTexts.KeyEntries.{keys_begin, keys_begin_in_items, keys_begin_in_pairs}
use Rattle.yf_print.specs.Passes.Drafts.{Draft}
use Rattle.yf_forms.specs.NormalForms.Forms.{Site, forms, forms_of_items, forms_of_pairs, is_placed, items_are_placed, no_form, pairs_are_placed, site_at}
use Rattle.yf_forms.specs.NormalForms.Measures.{no_measure, up_to_greatest}
use Rattle.yf_forms.specs.Passes.MeasurePass.{setting}
use Rattle.yf_forms.specs.NormalForms.Normal.{inner_margins, settled_items, settled_pairs, styled_items, styled_pairs}
use Rattle.yf_forms.specs.Nodes.OneLine.{props_text}
use Rattle.yf_print.specs.Passes.PrintPass as Printing
use Rattle.yf_print.specs.Passes.PrintPass.{collection_begun, has_props, is_after_sign, level_of, frames_after, looked, sign, role_in, state, value_awaited}
use Rattle.yf_print.specs.Layouts.Rows.{Row, begins_below, props_row, rows}
use Rattle.yf_forms.proofs.Decide.AmongLemmas.{Among, back, after_first, front, node_at}
use Rattle.yf_forms.proofs.Decide.CountLemmas.{forms_count}
use Rattle.yf_laws.proofs.Printer.EntriesFed.{begun, collection_put, filled, is_key}
use Rattle.yf_laws.proofs.Printer.LeafFed.{ColumnAt, put, with_colon_of}
use Rattle.yf_laws.proofs.Printer.LeafPrinted.{measure, setting_in}
use Rattle.yf_laws.proofs.Printer.NotedLemmas.{Known, measure_there}
use Rattle.yf_laws.proofs.Printer.MeasureFacts.{asked, same_asked}
use Rattle.yf_laws.proofs.Printer.PrintNodes.{At, NodeReaches, form, form_there, items_nest, nests, node_draft, pairs_nest, role_of}
use Rattle.yf_laws.proofs.Printer.Reaching.{Part, Reaches, back_part, front_part, reaches_append, reaches_begun, reaches_event, reaches_same}

abbrev pub level : ℕ → FrameState → Bool → PrintFrame
level column awaited inline = record { column = column; awaited = awaited; is_inline = inline }

-- Block collections.

not_key : (k : Known) (x : Node) (sp : Printer.Role) (d : Draft) → is_key sp ≡ false → with_colon_of x sp d ≡ d
not_key k x Printer.Role.Root d e = refl
not_key k x (Printer.Role.After column) d e = refl
not_key k x (Printer.Role.Value column) d e = refl
not_key k x Printer.Role.Key d e = absurd (true≢false e)

-- the draft after a block collection with entries of these rows
block_draft : (k : Known) (i n : ℕ) (site : Site) (x : Node) (levels : List PrintFrame) (xs : List Row) (d : Draft) → At k i n site x levels → is_block_collection x ≡ true
    → is_text x ≡ false → is_filled_flow x ≡ false → filled xs ≡ true → rows (setting_in k) site.margins x ≡ props_row site.margins.column (props_text (props_of x)) ++ xs
    → begun k (not (has_props (props_of x)) && is_after_sign (role_of k site x levels)) xs
    (collection_begun k.work (props_of x) (role_of k site x levels) (sign k.work (form k site x) (standing x).entry levels d))
    ≡ node_draft k site x levels d
block_draft k i n site x levels xs d a b t f w r =
    let sp : Printer.Role = role_of k site x levels in
    let before : Draft = sign k.work (form k site x) (standing x).entry levels d in
    let none : site.key_comment ≡ None = a.sited.no_key t f in
    let key : is_key sp ≡ false = a.no_key b in
    collection_put k sp x site.margins.column xs before b w (subst (λ o. ColumnAt k.work.style.indent o sp site.margins.column) none a.sited.column) key
    ∙ (ap (λ o. put k o (begins_below x) sp (props_row site.margins.column (props_text (props_of x)) ++ xs) before) (sym none)
    ∙ (ap (λ w. put k site.key_comment (begins_below x) sp w before) (sym r)
    ∙ sym (not_key k x sp (put k site.key_comment (begins_below x) sp (rows (setting_in k) site.margins x) before) key)))

cut : (n m : ℕ) → n + 8 * m + 8 ≤ 2 ^ 64 - 1 → up_to_greatest n ≡ n
cut n m l = omega (arith, l)

-- its start and its end are around its entries
pub open_reaches : (k : Known) (i docs n : ℕ) (site : Site) (x : Node) (levels : List PrintFrame) (first : FrameState) (e end : EventInText) (ys : List EventInText) (xs : List Row) (d : Draft)
    → At k i n site x levels → flat x ≡ e ∷ (ys ++ (end ∷ []))
    → ((f : Form) (p : ℕ) → Printing.is_whole i (measure k i x) f ≡ false → Printing.past_event k.work i (measure k i x) f e e.event (state d levels docs p)
    ≡ state (collection_begun k.work (props_of x) (Printing.role f levels) (sign k.work f (standing x).entry levels d))
    (level_of f (has_props (props_of x)) first (Printing.role f levels) ∷ frames_after f (standing x).entry levels) docs i)
    → Printing.is_whole i (measure k i x) (form k site x) ≡ false
    → ((j p : ℕ) (c : Draft) (top : PrintFrame) (others : List PrintFrame) → looked k.work j end (state c (top ∷ others) docs p) ≡ state c others docs p)
    → is_block_collection x ≡ true → is_text x ≡ false → is_filled_flow x ≡ false → filled xs ≡ true
    → rows (setting_in k) site.margins x ≡ props_row site.margins.column (props_text (props_of x)) ++ xs
    → ((inline : Bool) (c : Draft) (others : List PrintFrame) → Reaches k.work (i + 1) ys docs c (begun k inline xs c) (level site.margins.entries first inline ∷ others) (level site.margins.entries first false ∷ others))
    → NodeReaches k i docs site x levels d
open_reaches k i docs n site x levels first e end ys xs d a q begins whole ends b t f w r inner =
    let fx : Form = form k site x in
    let sp : Printer.Role = role_of k site x levels in
    let props : PropsValue = props_of x in
    let follows : List PrintFrame = frames_after fx (standing x).entry levels in
    let inline : Bool = not (has_props props) && is_after_sign sp in
    let top : PrintFrame = level site.margins.entries first inline in
    let here : Draft = collection_begun k.work props sp (sign k.work fx (standing x).entry levels d) in
    let there : asked (get_or k.work.measures i no_measure) ≡ asked (measure k i x) = measure_there k i x (node_at x a.laid.among) in
    let its : get_or k.work.forms i no_form ≡ fx = form_there k i site x a.forms in
    let first_reaches : Reaches k.work i (e ∷ []) docs d here levels (top ∷ follows) =
    reaches_begun k.work i docs e d here levels (top ∷ follows) (λ p.
    same_asked k.work i (get_or k.work.measures i no_measure) (measure k i x) (get_or k.work.forms i no_form) e (state d levels docs p) there
    ∙ (ap (λ w. Printing.past_event k.work i (measure k i x) w e e.event (state d levels docs p)) its
    ∙ (begins fx p whole
    ∙ ap (λ c. state here (level c first inline ∷ follows) docs i) (cut site.margins.entries n a.room)))) in
    let last_reaches : Reaches k.work (i + 1 + length ys) (end ∷ []) docs (begun k inline xs here) (begun k inline xs here) (level site.margins.entries first false ∷ follows) follows =
    reaches_event k.work (i + 1 + length ys) docs end (begun k inline xs here) (begun k inline xs here) (level site.margins.entries first false ∷ follows) follows
    (λ p. ends (i + 1 + length ys) p (begun k inline xs here) (level site.margins.entries first false) follows) in
    let all : Reaches k.work i (e ∷ (ys ++ (end ∷ []))) docs d (begun k inline xs here) levels follows =
    reaches_append k.work i docs (e ∷ []) (ys ++ (end ∷ [])) d here (begun k inline xs here) levels (top ∷ follows) follows first_reaches
    (reaches_append k.work (i + 1) docs ys (end ∷ []) here (begun k inline xs here) (begun k inline xs here) (top ∷ follows) (level site.margins.entries first false ∷ follows) follows
    (inner inline here follows) last_reaches) in
    subst (λ w. Reaches k.work i w docs d (node_draft k site x levels d) levels follows) (sym q)
    (reaches_same k.work i docs (e ∷ (ys ++ (end ∷ []))) d (begun k inline xs here) (node_draft k site x levels d) levels follows (block_draft k i n site x levels xs d a b t f w r) all)

-- Entries.

-- items at their column
pub record ItemsAt (k : Known) (i n column : ℕ) (xs : Items) : Type 0 where
  pub are_placed : items_are_placed xs ≡ true
  pub begin : keys_begin_in_items xs ≡ true
  pub house : styled_items [] (setting k.work.style []) xs ≡ xs
  pub among : Among k.work.reading.events (flat_items xs) i
  pub forms : Part k.work.forms (forms_of_items (setting_in k) column xs) i
  pub settled : settled_items (setting_in k) column xs ≡ xs
  pub nest : items_nest n xs ≡ true
  pub room : column + 8 * n + 16 ≤ 2 ^ 64 - 1

pub record PairsAt (k : Known) (i n column : ℕ) (ps : Pairs) : Type 0 where
  pub are_placed : pairs_are_placed ps ≡ true
  pub begin : keys_begin_in_pairs ps ≡ true
  pub house : styled_pairs [] (setting k.work.style []) ps ≡ ps
  pub among : Among k.work.reading.events (flat_pairs ps) i
  pub forms : Part k.work.forms (forms_of_pairs (setting_in k) column ps) i
  pub settled : settled_pairs (setting_in k) column ps ≡ ps
  pub nest : pairs_nest n ps ≡ true
  pub room : column + 8 * n + 16 ≤ 2 ^ 64 - 1

-- parts of the events and forms of entries
pub next_part : (k : Known) (i j : ℕ) (site : Site) (x : Node) (fs : List Form) → Part k.work.forms (forms (setting_in k) site x ++ fs) i → j ≡ i + length (flat x) → Part k.work.forms fs j
next_part k i j site x fs a e = back_part (forms (setting_in k) site x) fs a (e ∙ ap (λ n. i + n) (sym (forms_count (setting_in k) site x)))

pub item_parts : {x y : Node} {xs ys : Items} → item x xs ≡ item y ys → (x ≡ y) × (xs ≡ ys)
item_parts e = (cc, cc)

pub pair_parts : {x y v w : Node} {ps qs : Pairs} → pair x v ps ≡ pair y w qs → (x ≡ y) × ((v ≡ w) × (ps ≡ qs))
pair_parts e = (cc, (cc, cc))

pub items_of : {at bt : NodeOffsets} {f g : Bool} {p q : PropsValue} {xs ys : Items} → sequence at f p xs ≡ sequence bt g q ys → xs ≡ ys
items_of e = cc

pub pairs_of : {at bt : NodeOffsets} {f g : Bool} {p q : PropsValue} {xs ys : Pairs} → mapping at f p xs ≡ mapping bt g q ys → xs ≡ ys
pairs_of e = cc

-- an item at its site
pub item_at : (k : Known) (i n column : ℕ) (inline : Bool) (x : Node) (xs : Items) (others : List PrintFrame) → ItemsAt k i n column (item x xs)
    → At k i n (site_at (inner_margins k.work.style column)) x (level column Item inline ∷ others)
item_at k i n column inline x xs others a = record {
  laid = record {
    placed = (and_parts (is_placed x) (items_are_placed xs) a.are_placed).0;
    begins = (and_parts (keys_begin x) (keys_begin_in_items xs) a.begin).0;
    house = (item_parts a.house).0;
    among = front (flat x) (flat_items xs) a.among;
  };
  forms = front_part (forms (setting_in k) (site_at (inner_margins k.work.style column)) x) (forms_of_items (setting_in k) column xs) a.forms;
  settled = (item_parts a.settled).0;
  sited = record { column = tt; lines = λ e. let r = a.room in let s = k.work.style.indent_to in omega (arith, r, s); no_key = λ e f. refl };
  no_key = λ e. refl;
  nests = (and_parts (nests n x) (items_nest n xs) a.nest).0;
  room = let r = a.room in let s = k.work.style.indent_to in omega (arith, r, s);
}

pub items_after : (k : Known) (i n column : ℕ) (x : Node) (xs : Items) → ItemsAt k i n column (item x xs) → ItemsAt k (i + length (flat x)) n column xs
items_after k i n column x xs a = record {
  are_placed = (and_parts (is_placed x) (items_are_placed xs) a.are_placed).1;
  begin = (and_parts (keys_begin x) (keys_begin_in_items xs) a.begin).1;
  house = (item_parts a.house).1;
  among = back (flat x) (flat_items xs) a.among;
  forms = next_part k i (i + length (flat x)) (site_at (inner_margins k.work.style column)) x (forms_of_items (setting_in k) column xs) a.forms refl;
  settled = (item_parts a.settled).1;
  nest = (and_parts (nests n x) (items_nest n xs) a.nest).1;
  room = a.room;
}

-- the entries of a block sequence, and of a block mapping
pub items_within : (k : Known) (i n : ℕ) (site : Site) (at : NodeOffsets) (props : PropsValue) (x : Node) (xs : Items) (levels : List PrintFrame)
    → At k i (suc n) site (sequence at false props (item x xs)) levels → ItemsAt k (i + 1) n site.margins.entries (item x xs)
items_within k i n site at props x xs levels a = record {
  are_placed = a.laid.placed;
  begin = a.laid.begins;
  house = items_of a.laid.house;
  among = front (flat_items (item x xs)) (unplaced sequence_ends ∷ []) (after_first (placed at (sequence_starts false props) []) (flat_items (item x xs) ++ (unplaced sequence_ends ∷ [])) a.laid.among);
  forms = front_part (forms_of_items (setting_in k) site.margins.entries (item x xs)) (no_form ∷ [])
      (back_part (form k site (sequence at false props (item x xs)) ∷ []) (forms_of_items (setting_in k) site.margins.entries (item x xs) ++ (no_form ∷ [])) a.forms refl);
  settled = items_of a.settled;
  nest = a.nests;
  room = let r = a.room in omega (arith, r);
}

pub pairs_within : (k : Known) (i n : ℕ) (site : Site) (at : NodeOffsets) (props : PropsValue) (x y : Node) (ps : Pairs) (levels : List PrintFrame)
    → At k i (suc n) site (mapping at false props (pair x y ps)) levels → PairsAt k (i + 1) n site.margins.entries (pair x y ps)
pairs_within k i n site at props x y ps levels a = record {
  are_placed = a.laid.placed;
  begin = a.laid.begins;
  house = pairs_of a.laid.house;
  among = front (flat_pairs (pair x y ps)) (unplaced mapping_ends ∷ []) (after_first (placed at (mapping_starts false props) []) (flat_pairs (pair x y ps) ++ (unplaced mapping_ends ∷ [])) a.laid.among);
  forms = front_part (forms_of_pairs (setting_in k) site.margins.entries (pair x y ps)) (no_form ∷ [])
      (back_part (form k site (mapping at false props (pair x y ps)) ∷ []) (forms_of_pairs (setting_in k) site.margins.entries (pair x y ps) ++ (no_form ∷ [])) a.forms refl);
  settled = pairs_of a.settled;
  nest = a.nests;
  room = let r = a.room in omega (arith, r);
}
