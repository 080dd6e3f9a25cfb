-- The printer's pass over the events of a node adds the rows of the node.
use Rattle.std.proofs.Common.{◌≡◌, ℕ, zero, suc, ◌+◌, ◌-◌, ◌≤◌, Bool, true, false, ◌&&◌, List, [], ◌∷◌, length, get_or, refl, sym, ap, ◌∙◌, subst, arith, true≢false}
use Rattle.std.specs.Prelude.{◌^◌, ◌*◌, if◌then◌else◌}
use Rattle.yf_events.specs.Tree.{Node, scalar, alias, sequence, mapping, Items, no_items, item, Pairs, no_pairs, pair, flat, is_block_collection, is_collection, is_filled_flow, props_of, standing}
use Rattle.yf_forms.specs.declared.form.decide.Form.{Form}
use Rattle.yf_forms.specs.declared.form.measure.Measure.{Measure}
use Rattle.yf_print.specs.declared.printer.FrameState.TheVariants.{Item, Key}
use Rattle.yf_print.specs.declared.printer.PrintFrame.{PrintFrame}
use Rattle.yf_print.specs.declared.printer.Role as Printer
use Rattle.yf_forms.specs.Passes.DecidePass.{is_leaf_at}
use Rattle.yf_print.specs.Passes.Drafts.{Draft}
use Rattle.yf_forms.specs.NormalForms.Forms.{Site, form_of, forms, is_placed, no_form}
use Rattle.yf_forms.specs.NormalForms.Measures.{first_of, leaf_indices, no_measure}
use Rattle.yf_forms.specs.NormalForms.Normal.{fits, settled}
use Rattle.yf_forms.specs.Nodes.OneLine.{props_text}
use Rattle.yf_print.specs.Passes.PrintPass as Printing
use Rattle.yf_print.specs.Passes.PrintPass.{PrintState, collection_begun, has_props, is_after_sign, level_of, frames_after, looked, sign, state}
use Rattle.yf_print.specs.Passes.PrintWork.{Work}
use Rattle.yf_print.specs.Layouts.Rows.{begins_below, rows}
use Rattle.yf_forms.specs.Nodes.Lines.{is_empty_text}
use Rattle.yf_forms.proofs.Decide.AmongLemmas.{node_at}
use Rattle.yf_laws.proofs.Printer.EntriesFed.{is_key}
use Rattle.yf_laws.proofs.Printer.LeafFed.{put, with_colon_of}
use Rattle.yf_forms.proofs.Decide.LeafLemmas.{is_own_leaf}
use Rattle.yf_laws.proofs.Printer.LeafPrinted.{Laid, IsSited, flat_is, head_of, leaf_printed, measure, setting_in, tail_of}
use Rattle.yf_laws.proofs.Printer.NotedLemmas.{Known, measure_there}
use Rattle.yf_laws.proofs.Printer.MeasureFacts.{asked, same_asked}
use Rattle.yf_forms.proofs.Texts.OneLineRuns.{flat_filled}
use Rattle.yf_laws.proofs.Printer.Reaching.{Part, Reaches, first_form, reaches_same, reaches_whole}

-- at most that many collections are open at once in a node
abbrev mutual
  pub nests : ℕ → Node → Bool
  nests n (scalar at props style text lines) = true
  nests n (alias at name) = true
  nests zero (sequence at flow props items) = false
  nests (suc n) (sequence at flow props items) = items_nest n items
  nests zero (mapping at flow props pairs) = false
  nests (suc n) (mapping at flow props pairs) = pairs_nest n pairs

  pub items_nest : ℕ → Items → Bool
  items_nest n no_items = true
  items_nest n (item x xs) = nests n x && items_nest n xs

  pub pairs_nest : ℕ → Pairs → Bool
  pairs_nest n no_pairs = true
  pairs_nest n (pair k v ps) = nests n k && (nests n v && pairs_nest n ps)

-- a node at its site, with the collections around it open
abbrev pub form : Known → Site → Node → Form
form k site x = form_of k.work.style site x

abbrev pub role_of : Known → Site → Node → List PrintFrame → Printer.Role
role_of k site x levels = Printing.role (form k site x) levels

pub record At (k : Known) (i n : ℕ) (site : Site) (x : Node) (levels : List PrintFrame) : Type 0 where
  pub laid : Laid k i x
  pub forms : Part k.work.forms (forms (setting_in k) site x) i
  pub settled : settled (setting_in k) site.margins x ≡ x
  pub sited : IsSited k site.key_comment (role_of k site x levels) site.margins x
  pub no_key : is_block_collection x ≡ true → is_key (role_of k site x levels) ≡ false
  pub nests : nests n x ≡ true
  pub room : site.margins.entries + 8 * n + 8 ≤ 2 ^ 64 - 1

-- the resulting draft
abbrev pub node_draft : Known → Site → Node → List PrintFrame → Draft → Draft
node_draft k site x levels d =
    with_colon_of x (role_of k site x levels)
    (put k site.key_comment (begins_below x) (role_of k site x levels) (rows (setting_in k) site.margins x) (sign k.work (form k site x) (standing x).entry levels d))

abbrev pub NodeReaches : Known → ℕ → ℕ → Site → Node → List PrintFrame → Draft → Type 0
NodeReaches k i docs site x levels d =
    Reaches k.work i (flat x) docs d (node_draft k site x levels d) levels (frames_after (form k site x) (standing x).entry levels)

-- The form at the index of a node.

pub form_there : (k : Known) (i : ℕ) (site : Site) (x : Node) → Part k.work.forms (forms (setting_in k) site x) i → get_or k.work.forms i no_form ≡ form k site x
form_there k i site (scalar at props style text lines) a = first_form _ [] a
form_there k i site (alias at name) a = first_form _ [] a
form_there k i site (sequence at flow props items) a = first_form _ _ a
form_there k i site (mapping at flow props pairs) a = first_form _ _ a

-- Nodes that are printed as a whole.

pub kept_where : (b : Bool) (x y : Node) → is_filled_flow x ≡ true → is_filled_flow y ≡ false → (if b then x else y) ≡ x → b ≡ true
kept_where true x y p q e = refl
kept_where false x y p q e = absurd (true≢false (sym p ∙ (ap is_filled_flow (sym e) ∙ q)))

whole_is : (k : Known) (i : ℕ) (site : Site) (x : Node) → is_placed x ≡ true → settled (setting_in k) site.margins x ≡ x → is_block_collection x ≡ false
    → is_collection x ≡ true → Printing.is_whole i (measure k i x) (form k site x) ≡ true
whole_is k i site (scalar at props style text lines) h s b c = absurd (true≢false (sym c))
whole_is k i site (alias at name) h s b c = absurd (true≢false (sym c))
whole_is k i site (sequence at flow props no_items) h s b c = is_own_leaf i (sequence at flow props no_items) h ∙ h
whole_is k i site (sequence at true props (item x xs)) h s b c =
    ap (λ w. if w then true else is_leaf_at i (first_of (leaf_indices i (sequence at true props (item x xs)))))
    (kept_where (fits k.work.style site.margins.column (sequence at true props (item x xs))) (sequence at true props (item x xs)) _ refl refl s)
whole_is k i site (sequence at false props (item x xs)) h s b c = absurd (true≢false b)
whole_is k i site (mapping at flow props no_pairs) h s b c = is_own_leaf i (mapping at flow props no_pairs) h ∙ h
whole_is k i site (mapping at true props (pair x y ps)) h s b c =
    ap (λ w. if w then true else is_leaf_at i (first_of (leaf_indices i (mapping at true props (pair x y ps)))))
    (kept_where (fits k.work.style site.margins.column (mapping at true props (pair x y ps))) (mapping at true props (pair x y ps)) _ refl refl s)
whole_is k i site (mapping at false props (pair x y ps)) h s b c = absurd (true≢false b)

whole_looked : (k : Known) (i : ℕ) (m : Measure) (f : Form) (x : Node) (d : Draft) (levels : List PrintFrame) (docs p : ℕ) → (is_collection x ≡ true → Printing.is_whole i m f ≡ true)
    → Printing.past_event k.work i m f (head_of x) (head_of x).event (state d levels docs p)
    ≡ state (Printing.leaf k.work i m f (head_of x) (Printing.role f levels) (sign k.work f (standing x).entry levels d)) (frames_after f (standing x).entry levels) docs m.last
whole_looked k i m f (scalar at props style text lines) d levels docs p h = refl
whole_looked k i m f (alias at name) d levels docs p h = refl
whole_looked k i m f (sequence at flow props items) d levels docs p h =
    ap (λ b. Printing.collection_if b k.work i m f (head_of (sequence at flow props items)) props Item (Printing.role f levels) (Printing.signed k.work f at.entry (state d levels docs p))) (h refl)
whole_looked k i m f (mapping at flow props pairs) d levels docs p h =
    ap (λ b. Printing.collection_if b k.work i m f (head_of (mapping at flow props pairs)) props Key (Printing.role f levels) (Printing.signed k.work f at.entry (state d levels docs p))) (h refl)

pub whole_reaches : (k : Known) (i docs n : ℕ) (site : Site) (x : Node) (levels : List PrintFrame) (d : Draft) → At k i n site x levels → is_block_collection x ≡ false
    → NodeReaches k i docs site x levels d
whole_reaches k i docs n site x levels d a b =
    let f : Form = form k site x in
    let m : Measure = measure k i x in
    let sp : Printer.Role = role_of k site x levels in
    let before : Draft = sign k.work f (standing x).entry levels d in
    let follows : List PrintFrame = frames_after f (standing x).entry levels in
    let long : length (flat x) ≡ suc (length (tail_of x)) = ap length (flat_is x) in
    let filled : 1 ≤ length (flat x) = flat_filled x in
    let last : m.last + 1 ≡ i + suc (length (tail_of x)) = omega (arith, long, filled) in
    let printed : Printing.leaf k.work i m f (head_of x) sp before ≡ node_draft k site x levels d =
    leaf_printed k i f sp site.margins x before a.laid a.sited b
    ∙ ap (λ w. with_colon_of x sp (put k site.key_comment (w && is_empty_text (props_text (props_of x))) sp (rows (setting_in k) site.margins x) before)) (sym b) in
    let there : asked (get_or k.work.measures i no_measure) ≡ asked m = measure_there k i x (node_at x a.laid.among) in
    let its : get_or k.work.forms i no_form ≡ f = form_there k i site x a.forms in
    subst (λ w. Reaches k.work i w docs d (node_draft k site x levels d) levels follows) (sym (flat_is x))
    (reaches_same k.work i docs (head_of x ∷ tail_of x) d (Printing.leaf k.work i m f (head_of x) sp before) (node_draft k site x levels d) levels follows printed
    (reaches_whole k.work i docs m.last (head_of x) (tail_of x) d (Printing.leaf k.work i m f (head_of x) sp before) levels follows last (λ p.
    same_asked k.work i (get_or k.work.measures i no_measure) m (get_or k.work.forms i no_form) (head_of x) (state d levels docs p) there
    ∙ (ap (λ w. Printing.past_event k.work i m w (head_of x) (head_of x).event (state d levels docs p)) its
    ∙ whole_looked k i m f x d levels docs p (whole_is k i site x a.laid.placed a.settled b)))))
