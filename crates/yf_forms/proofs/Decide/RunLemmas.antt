-- The pass over all events, one event at a time.
use Rattle.std.proofs.Common.{◌≡◌, ℕ, zero, suc, ◌+◌, ◌<◌, ◌≤◌, Bool, true, false, List, [], ◌∷◌, ◌++◌, length, map, get_or, Some, None, sym, ap, ◌∙◌, arith}
use Rattle.std.specs.Prelude.{drop, slice_get, nat_lt, if◌then◌else◌}
use Rattle.std.proofs.lemmas.List.{drop_all, length_push}
use Rattle.yf_events.specs.Event.{EventValue, EventInText, stream_starts, stream_ends, document_starts, document_ends, sequence_starts, sequence_ends, mapping_starts, mapping_ends, scalar_node, alias_node}
use Rattle.yf_forms.specs.declared.form.decide.Form.{Form}
use Rattle.yf_forms.specs.declared.form.layout_context.LayoutFrame.{LayoutFrame}
use Rattle.yf_forms.specs.declared.form.layout_context.LayoutContext.{LayoutContext}
use Rattle.yf_forms.specs.declared.form.measure.Measure.{Measure}
use Rattle.yf_forms.specs.Passes.DecidePass.{DecideInput, DecideState, state, past, next, pass, after_node, node_at, form_at, is_whole, is_kept, next_place, next_stack}
use Rattle.yf_forms.specs.NormalForms.Forms.{no_form}
use Rattle.yf_forms.specs.NormalForms.Measures.{no_measure}
use Rattle.yf_chars.proofs.Tests.{below, not_below}

-- an event that gets a look, and one that gets no look

pub looked_at : (g : DecideInput) (ms : List Measure) (e : EventValue) (i : ℕ) (list : List Form) (stack : List LayoutFrame) (done : ℕ) → done < i → length list ≡ i
    → next g ms e (state list stack done) ≡ past g e i (get_or ms i no_measure) list stack
looked_at g ms e i list stack done l q =
    ap (λ n. if nat_lt done n then past g e n (get_or ms n no_measure) list stack else state (list ++ no_form ∷ []) stack done) q
    ∙ ap (λ b. if b then past g e i (get_or ms i no_measure) list stack else state (list ++ no_form ∷ []) stack done) (below done i l)

pub passed_over : (g : DecideInput) (ms : List Measure) (e : EventValue) (list : List Form) (stack : List LayoutFrame) (done : ℕ) → length list ≤ done
    → next g ms e (state list stack done) ≡ state (list ++ no_form ∷ []) stack done
passed_over g ms e list stack done l =
    ap (λ b. if b then past g e (length list) (get_or ms (length list) no_measure) list stack else state (list ++ no_form ∷ []) stack done) (not_below done (length list) l)

-- one more form

node_long : (i : ℕ) (m : Measure) (is_map : Bool) (level : LayoutFrame) (list : List Form) (f : Form) (stack : List LayoutFrame) (b : Bool)
    → length (after_node i m is_map level (list ++ f ∷ []) stack b).list ≡ length list + 1
node_long i m is_map level list f stack true = length_push list f
node_long i m is_map level list f stack false = length_push list f

node_at_long : (g : DecideInput) (i : ℕ) (m : Measure) (is_map : Bool) (place : LayoutContext) (list : List Form) (stack : List LayoutFrame)
    → length (node_at g i m is_map place list stack).list ≡ length list + 1
node_at_long g i m is_map place list stack =
    node_long i m is_map (record { is_map = is_map; column = place.entries; key = None }) list (form_at g.style place m) stack (is_whole i m (is_kept g.style place.column m))

past_long : (g : DecideInput) (e : EventValue) (i : ℕ) (m : Measure) (list : List Form) (stack : List LayoutFrame) → length (past g e i m list stack).list ≡ length list + 1
past_long g (scalar_node props style text) i m list stack =
    node_at_long g i m false (next_place g (scalar_node props style text) i m stack) list (next_stack g (scalar_node props style text) i m stack)
past_long g (alias_node name) i m list stack =
    node_at_long g i m false (next_place g (alias_node name) i m stack) list (next_stack g (alias_node name) i m stack)
past_long g (sequence_starts flow props) i m list stack =
    node_at_long g i m false (next_place g (sequence_starts flow props) i m stack) list (next_stack g (sequence_starts flow props) i m stack)
past_long g (mapping_starts flow props) i m list stack =
    node_at_long g i m true (next_place g (mapping_starts flow props) i m stack) list (next_stack g (mapping_starts flow props) i m stack)
past_long g sequence_ends i m list stack = length_push list no_form
past_long g mapping_ends i m list stack = length_push list no_form
past_long g stream_starts i m list stack = length_push list no_form
past_long g stream_ends i m list stack = length_push list no_form
past_long g (document_starts b) i m list stack = length_push list no_form
past_long g (document_ends b) i m list stack = length_push list no_form

next_long : (g : DecideInput) (ms : List Measure) (e : EventValue) (f : DecideState) → length (next g ms e f).list ≡ length f.list + 1
next_long g ms e f = by (nat_lt f.done (length f.list)) where
  by : (b : Bool) → length (if b then past g e (length f.list) (get_or ms (length f.list) no_measure) f.list f.stack
      else state (f.list ++ no_form ∷ []) f.stack f.done).list ≡ length f.list + 1
  by true = past_long g e (length f.list) (get_or ms (length f.list) no_measure) f.list f.stack
  by false = length_push f.list no_form

-- the loop over the events

step_at : (g : DecideInput) (ms : List Measure) (es : List EventInText) (i : ℕ) (e : EventValue) (f : DecideState) → slice_get (map (λ e. e.event) es) i ≡ Some e
    → pass g ms (drop i es) f ≡ pass g ms (drop (i + 1) es) (next g ms e f)
unfolding pass
step_at g ms [] i e f q = absurd cc
step_at g ms (d ∷ es) zero e f q = let same : d.event ≡ e = cc in ap (λ w. pass g ms es (next g ms w f)) same
step_at g ms (d ∷ es) (suc i) e f q =
    let n : suc (i + 1) ≡ suc i + 1 = omega arith in
    step_at g ms es i e f q ∙ ap (λ n. pass g ms (drop n (d ∷ es)) (next g ms e f)) n

pub steps_on : (g : DecideInput) (ms : List Measure) (es : List EventInText) (i : ℕ) (e : EventValue) (list new : List Form) (stack others : List LayoutFrame) (done n : ℕ) (all : DecideState)
    → slice_get (map (λ e. e.event) es) i ≡ Some e → pass g ms (drop i es) (state list stack done) ≡ all
    → state new others n ≡ next g ms e (state list stack done)
    → pass g ms (drop (i + 1) es) (state new others n) ≡ all
steps_on g ms es i e list new stack others done n all q h s = ap (pass g ms (drop (i + 1) es)) s ∙ sym (step_at g ms es i e (state list stack done) q) ∙ h

pub steps_long : (g : DecideInput) (ms : List Measure) (e : EventValue) (list new : List Form) (stack others : List LayoutFrame) (done n i : ℕ) → length list ≡ i
    → state new others n ≡ next g ms e (state list stack done) → length new ≡ i + 1
steps_long g ms e list new stack others done n i l s =
    ap (λ (w : DecideState). length w.list) s ∙ next_long g ms e (state list stack done) ∙ ap (λ k. k + 1) l

pub at_end : (g : DecideInput) (ms : List Measure) (es : List EventInText) (i : ℕ) (list : List Form) (stack : List LayoutFrame) (done : ℕ) (all : DecideState) → length es ≤ i
    → pass g ms (drop i es) (state list stack done) ≡ all → list ≡ all.list
unfolding pass
at_end g ms es i list stack done all l h =
    ap (λ (w : DecideState). w.list) (ap (λ es. pass g ms es (state list stack done)) (sym (drop_all i es l)) ∙ h)
