-- The pass over the events of a node notes the forms of the node.
use Rattle.std.proofs.Common.{◌≡◌, ℕ, suc, ◌+◌, ◌-◌, ◌≤◌, Bool, true, false, List, [], ◌∷◌, ◌++◌, length, get_or, Option, Some, None, refl, sym, ap, ◌∙◌, subst, ⊎_elim, arith, append_assoc, append-nil}
use Rattle.std.specs.Prelude.{replicate, ◌==◌}
use Rattle.std.proofs.lemmas.Bool.{and_parts, cases_Bool}
use Rattle.std.proofs.lemmas.List.{length-append, length-replicate}
use Rattle.std.proofs.lemmas.Option.{get_or_from_slice_get}
use Rattle.yf_comments.specs.Comment.{CommentValue}
use Rattle.yf_events.specs.Event.{EventInText, sequence_starts, sequence_ends, mapping_starts, mapping_ends}
use Rattle.yf_props.specs.Props.{PropsValue}
use Rattle.yf_forms.specs.declared.form.decide.Form.{Form}
use Rattle.yf_forms.specs.declared.form.keys.PendingKey.{PendingKey}
use Rattle.yf_forms.specs.declared.form.layout_context.LayoutFrame.{LayoutFrame}
use Rattle.yf_forms.specs.declared.form.measure.Measure.{Measure}
use Rattle.yf_forms.specs.Passes.DecidePass as Deciding
use Rattle.yf_forms.specs.Passes.DecidePass.{DecideInput, given, DecideState, state, next, pass, past, node, after_node, is_leaf_at, is_whole, next_place, next_stack, key_of, may_be_implicit}
use Rattle.yf_forms.specs.NormalForms.Forms.{Site, site_at, key_site, value_site, forms, forms_of_items, forms_of_pairs, no_form, form_of, forms_within, is_kept_at, is_placed, items_are_placed, pairs_are_placed}
use Rattle.yf_forms.specs.NormalForms.Measures.{AreMeasures, measure_of, up_to_greatest, no_measure, leaf_indices, first_of}
use Rattle.yf_forms.specs.NormalForms.Normal.{LayoutSetting, styled, styled_items, styled_pairs, inner_margins}
use Rattle.yf_events.specs.Tree.{NodeOffsets, Node, scalar, alias, sequence, mapping, Items, no_items, item, Pairs, no_pairs, pair, flat, flat_items, flat_pairs, placed, unplaced, is_text}
use Rattle.yf_forms.proofs.Decide.AmongLemmas.{Among, node_at, front, back, after_first}
use Rattle.yf_forms.proofs.Decide.LeafLemmas.{is_own_leaf}
use Rattle.yf_forms.proofs.Decide.CountLemmas.{node_forms, items_count, pairs_count, items_forms, pairs_forms}
use Rattle.yf_forms.proofs.Decide.PlaceLemmas.{place_of, key_there, key_waits, value_there, item_there}
use Rattle.yf_forms.proofs.Decide.RunLemmas.{looked_at, passed_over}
use Rattle.yf_forms.proofs.Decide.SiteLemmas.{is_kept_there}
use Rattle.yf_forms.proofs.Decide.ValueLemmas.{event_of}
use Rattle.yf_forms.proofs.Decide.WholeLemmas.{last_one, not_last, whole_if_kept, whole_if_leaf, whole_if_last, open_if}

-- the input of the pass: the text, the comments of the measures, the layout's setting, all events, and their measures
pub record Known : Type 0 where
  pub text : List ℕ
  pub others : List CommentValue
  pub setting : LayoutSetting
  pub events : List EventInText
  pub measures : List Measure
  pub measured : AreMeasures text (record { style = setting.style; comments = others }) events measures

-- the setting with which it was measured
abbrev pub by_of : Known → LayoutSetting
by_of k = record { style = k.setting.style; comments = k.others }

abbrev pub given_of : Known → DecideInput
given_of k = given k.setting.style k.setting.comments k.events

abbrev pub run : Known → List EventInText → DecideState → DecideState
run k es f = pass (given_of k) k.measures es f

-- events within a node on one line get no look

skipped : (k : Known) (ys rest : List EventInText) (list : List Form) (stack : List LayoutFrame) (done : ℕ) → length list + length ys ≤ suc done
    → run k (ys ++ rest) (state list stack done) ≡ run k rest (state (list ++ replicate (length ys) no_form) stack done)
unfolding pass
skipped k [] rest list stack done l = ap (λ w. run k rest (state w stack done)) (sym (append-nil list))
skipped k (y ∷ ys) rest list stack done l =
    let a : length (list ++ no_form ∷ []) ≡ length list + 1 = length-append list (no_form ∷ []) in
    ap (run k (ys ++ rest)) (passed_over (given_of k) k.measures y.event list stack done (omega (arith, l)))
    ∙ skipped k ys rest (list ++ no_form ∷ []) stack done (omega (arith, a, l))
    ∙ ap (λ w. run k rest (state w stack done)) (append_assoc list (no_form ∷ []) (replicate (length ys) no_form))

pub enclosed : (list fs : List Form) (f g : Form) → ((list ++ (f ∷ [])) ++ fs) ++ (g ∷ []) ≡ list ++ (f ∷ (fs ++ (g ∷ [])))
enclosed list fs f g = append_assoc (list ++ (f ∷ [])) fs (g ∷ []) ∙ append_assoc list (f ∷ []) (fs ++ (g ∷ []))

skipped_within : (k : Known) (ys rest : List EventInText) (last : EventInText) (list : List Form) (f : Form) (stack : List LayoutFrame) (done : ℕ)
    → length list + length ys + 1 ≤ done
    → run k ((ys ++ (last ∷ [])) ++ rest) (state (list ++ (f ∷ [])) stack done)
    ≡ run k rest (state (list ++ (f ∷ (replicate (length ys) no_form ++ (no_form ∷ [])))) stack done)
skipped_within k ys rest last list f stack done l =
    let a : length (list ++ f ∷ []) ≡ length list + 1 = length-append list (f ∷ []) in
    let b : length ((list ++ f ∷ []) ++ replicate (length ys) no_form) ≡ length (list ++ f ∷ []) + length (replicate (length ys) no_form) = length-append (list ++ f ∷ []) _ in
    let n : length (replicate (length ys) no_form) ≡ length ys = length-replicate (length ys) no_form in
    ap (λ w. run k w (state (list ++ (f ∷ [])) stack done)) (append_assoc ys (last ∷ []) rest)
    ∙ skipped k ys (last ∷ rest) (list ++ (f ∷ [])) stack done (omega (arith, l, a))
    ∙ skipped k (last ∷ []) rest ((list ++ (f ∷ [])) ++ replicate (length ys) no_form) stack done (omega (arith, l, a, b, n))
    ∙ ap (λ w. run k rest (state w stack done)) (enclosed list (replicate (length ys) no_form) f no_form)

-- a node that begins

abbrev is_map : Node → Bool
is_map (scalar at props style text lines) = false
is_map (alias at name) = false
is_map (sequence at flow props items) = false
is_map (mapping at flow props pairs) = true

past_node : (g : DecideInput) (x : Node) (i : ℕ) (m : Measure) (list : List Form) (stack : List LayoutFrame)
    → past g (event_of x) i m list stack ≡ node g (event_of x) i m (is_map x) list stack
past_node g (scalar at props style text lines) i m list stack = refl
past_node g (alias at name) i m list stack = refl
past_node g (sequence at flow props items) i m list stack = refl
past_node g (mapping at flow props pairs) i m list stack = refl

abbrev level_at : Known → Site → Node → LayoutFrame
level_at k site x = record { is_map = is_map x; column = up_to_greatest site.margins.entries; key = None }

-- at its site, with the stack after it
pub record AtSite (k : Known) (x : Node) (i : ℕ) (stack follows : List LayoutFrame) (site : Site) : Type 0 where
  pub place : next_place (given_of k) (event_of x) i (measure_of k.text (by_of k) i x) stack ≡ place_of site
  pub stack_is : next_stack (given_of k) (event_of x) i (measure_of k.text (by_of k) i x) stack ≡ follows

begun : (k : Known) (x : Node) (p : ℕ) (list : List Form) (stack follows : List LayoutFrame) (site : Site) → Among k.events (flat x) (suc p)
    → length list ≡ suc p → AtSite k x (suc p) stack follows site
    → next (given_of k) k.measures (event_of x) (state list stack p)
    ≡ after_node (suc p) (measure_of k.text (by_of k) (suc p) x) (is_map x) (level_at k site x) (list ++ form_of k.setting.style site (styled k.text (by_of k) x) ∷ []) follows
    (is_whole (suc p) (measure_of k.text (by_of k) (suc p) x) (is_kept_at k.setting.style site.margins (styled k.text (by_of k) x)))
begun k x p list stack follows site a l s =
    let g : DecideInput = given_of k in
    let m : Measure = measure_of k.text (by_of k) (suc p) x in
    let kept = is_kept_there k.text (by_of k) site.margins (suc p) x in
    looked_at g k.measures (event_of x) (suc p) list stack p (omega arith) l
    ∙ ap (λ w. past g (event_of x) (suc p) w list stack) (get_or_from_slice_get k.measures (suc p) m no_measure (k.measured.each (suc p) x (node_at x a)))
    ∙ past_node g x (suc p) m list stack
    ∙ ap (λ w. Deciding.node_at g (suc p) m (is_map x) w list (next_stack g (event_of x) (suc p) m stack)) s.place
    ∙ ap (λ w. Deciding.node_at g (suc p) m (is_map x) (place_of site) list w) s.stack_is
    ∙ ap (λ b. after_node (suc p) m (is_map x) (level_at k site x)
    (list ++ record { is_kept = b; is_implicit = site.is_implicit; key_comment = site.key_comment; column = up_to_greatest site.margins.entries } ∷ []) follows (is_whole (suc p) m b)) kept

-- the form of a node at its site
abbrev form_there : Known → Site → Node → Form
form_there k site x = form_of k.setting.style site (styled k.text (by_of k) x)

abbrev is_kept_in : Known → Site → Node → Bool
is_kept_in k site x = is_kept_at k.setting.style site.margins (styled k.text (by_of k) x)

begun_whole : (k : Known) (x : Node) (p done : ℕ) (list : List Form) (stack follows : List LayoutFrame) (site : Site) → Among k.events (flat x) (suc p)
    → length list ≡ suc p → AtSite k x (suc p) stack follows site → is_whole (suc p) (measure_of k.text (by_of k) (suc p) x) (is_kept_in k site x) ≡ true
    → (measure_of k.text (by_of k) (suc p) x).last ≡ done
    → next (given_of k) k.measures (event_of x) (state list stack p) ≡ state (list ++ form_there k site x ∷ []) follows done
begun_whole k x p done list stack follows site a l s w e =
    begun k x p list stack follows site a l s
    ∙ ap (after_node (suc p) (measure_of k.text (by_of k) (suc p) x) (is_map x) (level_at k site x) (list ++ form_there k site x ∷ []) follows) w
    ∙ ap (state (list ++ form_there k site x ∷ []) follows) e

begun_open : (k : Known) (x : Node) (p : ℕ) (list : List Form) (stack follows : List LayoutFrame) (site : Site) → Among k.events (flat x) (suc p)
    → length list ≡ suc p → AtSite k x (suc p) stack follows site → is_whole (suc p) (measure_of k.text (by_of k) (suc p) x) (is_kept_in k site x) ≡ false
    → next (given_of k) k.measures (event_of x) (state list stack p) ≡ state (list ++ form_there k site x ∷ []) (level_at k site x ∷ follows) (suc p)
begun_open k x p list stack follows site a l s w =
    begun k x p list stack follows site a l s
    ∙ ap (after_node (suc p) (measure_of k.text (by_of k) (suc p) x) (is_map x) (level_at k site x) (list ++ form_there k site x ∷ []) follows) w

-- a collection with entries

within_kept : (b : Bool) (n m : ℕ) (inner : List Form) → b ≡ true → m ≡ n → replicate n no_form ≡ forms_within b m inner
within_kept true n m inner e q = ap (λ n. replicate n no_form) (sym q)
within_kept false n m inner e q = absurd cc

within_open : (b : Bool) (n : ℕ) (inner : List Form) → b ≡ false → inner ≡ forms_within b n inner
within_open true n inner e = absurd cc
within_open false n inner e = refl

-- these events between the first and the last one
abbrev between : EventInText → List EventInText → EventInText → List EventInText
between first ys last = first ∷ (ys ++ (last ∷ []))

between_count : (first last : EventInText) (ys : List EventInText) → length (between first ys last) ≡ length ys + 2
between_count first last ys = let e : length (ys ++ (last ∷ [])) ≡ length ys + 1 = length-append ys (last ∷ []) in omega (arith, e)

-- the facts about a collection with entries
record Collection (k : Known) (x : Node) (ys : List EventInText) (first last : EventInText) : Type 0 where
  flat_is : flat x ≡ between first ys last
  event : first.event ≡ event_of x
  no_leaf : is_text x ≡ false
  is_placed : is_placed x ≡ true
  ends : (l : List Form) (m : Measure) (level : LayoutFrame) (others : List LayoutFrame) (i : ℕ)
      → past (given_of k) last.event i m l (level ∷ others) ≡ state (l ++ no_form ∷ []) others i

first_passed : (k : Known) (x : Node) (ys : List EventInText) (first last : EventInText) (rest : List EventInText) (f : DecideState) → Collection k x ys first last
    → run k (flat x ++ rest) f ≡ run k ((ys ++ (last ∷ [])) ++ rest) (next (given_of k) k.measures (event_of x) f)
unfolding pass
first_passed k x ys first last rest f q =
    ap (λ w. run k (w ++ rest) f) q.flat_is ∙ ap (λ w. run k ((ys ++ (last ∷ [])) ++ rest) (next (given_of k) k.measures w f)) q.event

kept_passed : (k : Known) (x : Node) (ys : List EventInText) (first last : EventInText) (n p : ℕ) (list inner : List Form) (stack follows : List LayoutFrame) (site : Site)
    (rest : List EventInText) → Collection k x ys first last → n ≡ length ys → Among k.events (flat x) (suc p) → length list ≡ suc p
    → AtSite k x (suc p) stack follows site → is_kept_in k site x ≡ true
    → run k (flat x ++ rest) (state list stack p)
    ≡ run k rest (state (list ++ (form_there k site x ∷ (forms_within (is_kept_in k site x) n inner ++ (no_form ∷ [])))) follows (p + length (flat x)))
kept_passed k x ys first last n p list inner stack follows site rest q c a l s e =
    let long : length (flat x) ≡ length ys + 2 = ap length q.flat_is ∙ between_count first last ys in
    let done : suc p + length (flat x) - 1 ≡ p + length (flat x) = omega arith in
    first_passed k x ys first last rest (state list stack p) q
    ∙ ap (run k ((ys ++ (last ∷ [])) ++ rest)) (begun_whole k x p (p + length (flat x)) list stack follows site a l s (whole_if_kept (suc p) (measure_of k.text (by_of k) (suc p) x) (is_kept_in k site x) e) done)
    ∙ skipped_within k ys rest last list (form_there k site x) follows (p + length (flat x)) (omega (arith, long, l))
    ∙ ap (λ w. run k rest (state (list ++ (form_there k site x ∷ (w ++ (no_form ∷ [])))) follows (p + length (flat x)))) (within_kept _ (length ys) n inner e c)

open_passed : (k : Known) (x : Node) (ys : List EventInText) (first last : EventInText) (n p : ℕ) (list inner : List Form) (stack follows : List LayoutFrame) (site : Site)
    (rest : List EventInText) → Collection k x ys first last → length inner ≡ length ys → Among k.events (flat x) (suc p) → length list ≡ suc p
    → AtSite k x (suc p) stack follows site → is_kept_in k site x ≡ false
    → run k (ys ++ (last ∷ rest)) (state (list ++ form_there k site x ∷ []) (level_at k site x ∷ follows) (suc p))
    ≡ run k (last ∷ rest) (state ((list ++ form_there k site x ∷ []) ++ inner) (level_at k site x ∷ follows) (suc p + length ys))
    → run k (flat x ++ rest) (state list stack p)
    ≡ run k rest (state (list ++ (form_there k site x ∷ (forms_within (is_kept_in k site x) n inner ++ (no_form ∷ [])))) follows (p + length (flat x)))
unfolding pass
open_passed k x ys first last n p list inner stack follows site rest q c a l s e h =
    let long : length (flat x) ≡ length ys + 2 = ap length q.flat_is ∙ between_count first last ys in
    let f : Form = form_there k site x in
    let m : Measure = measure_of k.text (by_of k) (suc p) x in
    let all : List Form = (list ++ f ∷ []) ++ inner in
    let one : length (list ++ f ∷ []) ≡ length list + 1 = length-append list (f ∷ []) in
    let count : length all ≡ length (list ++ f ∷ []) + length inner = length-append (list ++ f ∷ []) inner in
    let leaf : is_leaf_at (suc p) (first_of (leaf_indices (suc p) x)) ≡ false = is_own_leaf (suc p) x q.is_placed ∙ q.no_leaf in
    let last_is : (suc p + length (flat x) - 1 == suc p) ≡ false = not_last (suc p) (length (flat x)) (omega (arith, long)) in
    let done : length all ≡ p + length (flat x) = omega (arith, count, one, long, l, c) in
    first_passed k x ys first last rest (state list stack p) q
    ∙ ap (run k ((ys ++ (last ∷ [])) ++ rest)) (begun_open k x p list stack follows site a l s (open_if (suc p) m (is_kept_in k site x) e leaf last_is))
    ∙ ap (λ w. run k w (state (list ++ f ∷ []) (level_at k site x ∷ follows) (suc p))) (append_assoc ys (last ∷ []) rest)
    ∙ h
    ∙ ap (run k rest) (looked_at (given_of k) k.measures last.event (length all) all (level_at k site x ∷ follows) (suc p + length ys) (omega (arith, count, one, l, c)) refl
    ∙ q.ends all (get_or k.measures (length all) no_measure) (level_at k site x) follows (length all))
    ∙ ap (λ w. run k rest (state w follows (length all))) (enclosed list inner f no_form)
    ∙ ap (λ w. run k rest (state (list ++ (f ∷ (w ++ (no_form ∷ [])))) follows (length all))) (within_open _ n inner e)
    ∙ ap (λ w. run k rest (state (list ++ (f ∷ (forms_within (is_kept_in k site x) n inner ++ (no_form ∷ [])))) follows w)) done

collection_passed : (k : Known) (x : Node) (ys : List EventInText) (first last : EventInText) (n p : ℕ) (list inner : List Form) (stack follows : List LayoutFrame) (site : Site)
    (rest : List EventInText) → Collection k x ys first last → n ≡ length ys → length inner ≡ length ys → Among k.events (flat x) (suc p) → length list ≡ suc p
    → AtSite k x (suc p) stack follows site
    → run k (ys ++ (last ∷ rest)) (state (list ++ form_there k site x ∷ []) (level_at k site x ∷ follows) (suc p))
    ≡ run k (last ∷ rest) (state ((list ++ form_there k site x ∷ []) ++ inner) (level_at k site x ∷ follows) (suc p + length ys))
    → run k (flat x ++ rest) (state list stack p)
    ≡ run k rest (state (list ++ (form_there k site x ∷ (forms_within (is_kept_in k site x) n inner ++ (no_form ∷ [])))) follows (p + length (flat x)))
collection_passed k x ys first last n p list inner stack follows site rest q c d a l s h =
    ⊎_elim (λ (e : is_kept_in k site x ≡ true). kept_passed k x ys first last n p list inner stack follows site rest q c a l s e)
    (λ (e : is_kept_in k site x ≡ false). open_passed k x ys first last n p list inner stack follows site rest q d a l s e h) (cases_Bool (is_kept_in k site x))

-- a leaf of one event, and an empty collection

one_passed : (k : Known) (x : Node) (e : EventInText) (p : ℕ) (list : List Form) (stack follows : List LayoutFrame) (site : Site) (rest : List EventInText) → flat x ≡ e ∷ []
    → e.event ≡ event_of x → Among k.events (flat x) (suc p) → length list ≡ suc p → AtSite k x (suc p) stack follows site
    → run k (flat x ++ rest) (state list stack p) ≡ run k rest (state (list ++ form_there k site x ∷ []) follows (p + length (flat x)))
unfolding pass
one_passed k x e p list stack follows site rest f v a l s =
    let m : Measure = measure_of k.text (by_of k) (suc p) x in
    let one : length (flat x) ≡ 1 = ap length f in
    let last : (suc p + length (flat x) - 1 == suc p) ≡ true = ap (λ n. suc p + n - 1 == suc p) one ∙ last_one (suc p) in
    let done : suc p + length (flat x) - 1 ≡ p + length (flat x) = omega arith in
    ap (λ w. run k (w ++ rest) (state list stack p)) f ∙ ap (λ w. run k rest (next (given_of k) k.measures w (state list stack p))) v
    ∙ ap (run k rest) (begun_whole k x p (p + length (flat x)) list stack follows site a l s (whole_if_last (suc p) m (is_kept_in k site x) last) done)

empty_passed : (k : Known) (x : Node) (first last : EventInText) (p : ℕ) (list : List Form) (stack follows : List LayoutFrame) (site : Site) (rest : List EventInText)
    → flat x ≡ between first [] last → first.event ≡ event_of x → is_text x ≡ true → is_placed x ≡ true
    → Among k.events (flat x) (suc p) → length list ≡ suc p → AtSite k x (suc p) stack follows site
    → run k (flat x ++ rest) (state list stack p) ≡ run k rest (state (list ++ (form_there k site x ∷ no_form ∷ [])) follows (p + length (flat x)))
unfolding pass
empty_passed k x first last p list stack follows site rest f v t h a l s =
    let m : Measure = measure_of k.text (by_of k) (suc p) x in
    let two : length (flat x) ≡ 2 = ap length f in
    let done : suc p + length (flat x) - 1 ≡ p + length (flat x) = omega arith in
    ap (λ w. run k (w ++ rest) (state list stack p)) f ∙ ap (λ w. run k (last ∷ rest) (next (given_of k) k.measures w (state list stack p))) v
    ∙ ap (run k (last ∷ rest)) (begun_whole k x p (p + length (flat x)) list stack follows site a l s (whole_if_leaf (suc p) m (is_kept_in k site x) (is_own_leaf (suc p) x h ∙ t)) done)
    ∙ skipped_within k [] rest last list (form_there k site x) follows (p + length (flat x)) (omega (arith, two, l))

-- The pass over the events of a node at its site notes its forms. The stack changes only in the key that its
-- innermost mapping waits for. The last event that needs no look is the one before the node at first, and the node's
-- last one at the end.

moved : {es ys : List EventInText} (p n : ℕ) → Among es ys (suc p + n) → Among es ys (suc (p + n))
moved {es} {ys} p n a = let e : suc p + n ≡ suc (p + n) = omega arith in subst (λ i. Among es ys i) e a

longer : (list fs : List Form) (p n : ℕ) → length list ≡ suc p → length fs ≡ n → length (list ++ fs) ≡ suc (p + n)
longer list fs p n l e = let a : length (list ++ fs) ≡ length list + length fs = length-append list fs in omega (arith, a, l, e)

sequence_is : (k : Known) (at : NodeOffsets) (flow : Bool) (props : PropsValue) (x : Node) (xs : Items)
    → is_placed (sequence at flow props (item x xs)) ≡ true
    → Collection k (sequence at flow props (item x xs)) (flat_items (item x xs)) (placed at (sequence_starts flow props) []) (unplaced sequence_ends)
sequence_is k at flow props x xs h =
    record { flat_is = refl; event = refl; no_leaf = refl; is_placed = h; ends = λ l m level others i. refl }

mapping_is : (k : Known) (at : NodeOffsets) (flow : Bool) (props : PropsValue) (x y : Node) (ps : Pairs)
    → is_placed (mapping at flow props (pair x y ps)) ≡ true
    → Collection k (mapping at flow props (pair x y ps)) (flat_pairs (pair x y ps)) (placed at (mapping_starts flow props) []) (unplaced mapping_ends)
mapping_is k at flow props x y ps h =
    record { flat_is = refl; event = refl; no_leaf = refl; is_placed = h; ends = λ l m level others i. refl }

abbrev level : Bool → ℕ → Option PendingKey → LayoutFrame
level is_map column key = record { is_map = is_map; column = up_to_greatest column; key = key }

mutual
  pub node_passed : (k : Known) (p : ℕ) (list : List Form) (stack follows : List LayoutFrame) (site : Site) (x : Node) (rest : List EventInText)
      → is_placed x ≡ true → Among k.events (flat x) (suc p) → length list ≡ suc p → AtSite k x (suc p) stack follows site
      → run k (flat x ++ rest) (state list stack p)
      ≡ run k rest (state (list ++ forms k.setting site (styled k.text (by_of k) x)) follows (p + length (flat x)))
  node_passed k p list stack follows site (scalar at props style text lines) rest h a l s =
      one_passed k (scalar at props style text lines) _ p list stack follows site rest refl refl a l s
  node_passed k p list stack follows site (alias at name) rest h a l s = one_passed k (alias at name) _ p list stack follows site rest refl refl a l s
  node_passed k p list stack follows site (sequence at flow props no_items) rest h a l s =
      empty_passed k (sequence at flow props no_items) _ _ p list stack follows site rest refl refl h h a l s
  node_passed k p list stack follows site (sequence at flow props (item x xs)) rest h a l s =
      let whole : Node = sequence at flow props (item x xs) in
      let ys : List EventInText = flat_items (item x xs) in
      let inner : List Form = forms_of_items k.setting site.margins.entries (styled_items k.text (by_of k) (item x xs)) in
      let first : List Form = list ++ form_there k site whole ∷ [] in
      let one : length first ≡ suc (suc p) = let e = length-append list (form_there k site whole ∷ []) in omega (arith, e, l) in
      let next_to : suc p + 1 ≡ suc (suc p) = omega arith in
      let within = front ys (unplaced sequence_ends ∷ []) (after_first _ (ys ++ (unplaced sequence_ends ∷ [])) a) in
      collection_passed k whole ys _ (unplaced sequence_ends) (length (flat_items (styled_items k.text (by_of k) (item x xs)))) p list inner stack follows site rest
      (sequence_is k at flow props x xs h) (items_count k.text (by_of k) (item x xs))
      (items_forms k.setting site.margins.entries (styled_items k.text (by_of k) (item x xs)) ∙ items_count k.text (by_of k) (item x xs)) a l s
      (items_passed k (suc p) first follows site.margins.entries (item x xs) (unplaced sequence_ends ∷ rest) h (subst (λ i. Among k.events ys i) next_to within) one)
  node_passed k p list stack follows site (mapping at flow props no_pairs) rest h a l s =
      empty_passed k (mapping at flow props no_pairs) _ _ p list stack follows site rest refl refl h h a l s
  node_passed k p list stack follows site (mapping at flow props (pair x y ps)) rest h a l s =
      let whole : Node = mapping at flow props (pair x y ps) in
      let ys : List EventInText = flat_pairs (pair x y ps) in
      let inner : List Form = forms_of_pairs k.setting site.margins.entries (styled_pairs k.text (by_of k) (pair x y ps)) in
      let first : List Form = list ++ form_there k site whole ∷ [] in
      let one : length first ≡ suc (suc p) = let e = length-append list (form_there k site whole ∷ []) in omega (arith, e, l) in
      let next_to : suc p + 1 ≡ suc (suc p) = omega arith in
      let within = front ys (unplaced mapping_ends ∷ []) (after_first _ (ys ++ (unplaced mapping_ends ∷ [])) a) in
      collection_passed k whole ys _ (unplaced mapping_ends) (length (flat_pairs (styled_pairs k.text (by_of k) (pair x y ps)))) p list inner stack follows site rest
      (mapping_is k at flow props x y ps h) (pairs_count k.text (by_of k) (pair x y ps))
      (pairs_forms k.setting site.margins.entries (styled_pairs k.text (by_of k) (pair x y ps)) ∙ pairs_count k.text (by_of k) (pair x y ps)) a l s
      (pairs_passed k (suc p) first follows site.margins.entries (pair x y ps) (unplaced mapping_ends ∷ rest) h (subst (λ i. Among k.events ys i) next_to within) one)

  items_passed : (k : Known) (p : ℕ) (list : List Form) (others : List LayoutFrame) (column : ℕ) (xs : Items) (rest : List EventInText)
      → items_are_placed xs ≡ true → Among k.events (flat_items xs) (suc p) → length list ≡ suc p
      → run k (flat_items xs ++ rest) (state list (level false column None ∷ others) p)
      ≡ run k rest (state (list ++ forms_of_items k.setting column (styled_items k.text (by_of k) xs)) (level false column None ∷ others) (p + length (flat_items xs)))
  items_passed k p list others column no_items rest h a l =
      let done : p ≡ p + 0 = omega arith in
      ap (λ w. run k rest (state w (level false column None ∷ others) p)) (sym (append-nil list))
      ∙ ap (λ n. run k rest (state (list ++ []) (level false column None ∷ others) n)) done
  items_passed k p list others column (item x xs) rest h a l =
      let site : Site = site_at (inner_margins k.setting.style column) in
      let fs : List Form = forms k.setting site (styled k.text (by_of k) x) in
      let gs : List Form = forms_of_items k.setting column (styled_items k.text (by_of k) xs) in
      let stack : List LayoutFrame = level false column None ∷ others in
      let here : AtSite k x (suc p) stack stack site = record { place = item_there k.setting.style column; stack_is = refl } in
      let n : length (flat x ++ flat_items xs) ≡ length (flat x) + length (flat_items xs) = length-append (flat x) (flat_items xs) in
      let done : p + length (flat x) + length (flat_items xs) ≡ p + length (flat x ++ flat_items xs) = omega (arith, n) in
      ap (λ w. run k w (state list stack p)) (append_assoc (flat x) (flat_items xs) rest)
      ∙ node_passed k p list stack stack site x (flat_items xs ++ rest) (and_parts _ _ h).0 (front (flat x) (flat_items xs) a) l here
      ∙ items_passed k (p + length (flat x)) (list ++ fs) others column xs rest (and_parts _ _ h).1 (moved p (length (flat x)) (back (flat x) (flat_items xs) a))
      (longer list fs p (length (flat x)) l (node_forms k.setting site k.text (by_of k) x))
      ∙ ap (λ w. run k rest (state w stack (p + length (flat x) + length (flat_items xs)))) (append_assoc list fs gs)
      ∙ ap (λ n. run k rest (state (list ++ (fs ++ gs)) stack n)) done

  pairs_passed : (k : Known) (p : ℕ) (list : List Form) (others : List LayoutFrame) (column : ℕ) (ps : Pairs) (rest : List EventInText)
      → pairs_are_placed ps ≡ true → Among k.events (flat_pairs ps) (suc p) → length list ≡ suc p
      → run k (flat_pairs ps ++ rest) (state list (level true column None ∷ others) p)
      ≡ run k rest (state (list ++ forms_of_pairs k.setting column (styled_pairs k.text (by_of k) ps)) (level true column None ∷ others) (p + length (flat_pairs ps)))
  pairs_passed k p list others column no_pairs rest h a l =
      let done : p ≡ p + 0 = omega arith in
      ap (λ w. run k rest (state w (level true column None ∷ others) p)) (sym (append-nil list))
      ∙ ap (λ n. run k rest (state (list ++ []) (level true column None ∷ others) n)) done
  pairs_passed k p list others column (pair x y ps) rest h a l =
      let X : Node = styled k.text (by_of k) x in
      let Y : Node = styled k.text (by_of k) y in
      let mx : Measure = measure_of k.text (by_of k) (suc p) x in
      let key : PendingKey = key_of k.events (event_of x) (suc p) mx (may_be_implicit k.setting.style (up_to_greatest column) mx.can_be_kept mx.width) in
      let at_key : Site = key_site k.setting.style column X in
      let at_value : Site = value_site k.setting column X Y in
      let fx : List Form = forms k.setting at_key X in
      let fy : List Form = forms k.setting at_value Y in
      let gs : List Form = forms_of_pairs k.setting column (styled_pairs k.text (by_of k) ps) in
      let waiting : List LayoutFrame = level true column None ∷ others in
      let stack : List LayoutFrame = level true column (Some key) ∷ others in
      let q : ℕ = p + length (flat x) in
      let r : ℕ = p + length (flat x) + length (flat y) in
      let follows = back (flat x) (flat y ++ flat_pairs ps) a in
      let ax : Among k.events (flat x) (suc p) = front (flat x) (flat y ++ flat_pairs ps) a in
      let ay : Among k.events (flat y) (suc q) = moved p (length (flat x)) (front (flat y) (flat_pairs ps) follows) in
      let rest_at : Among k.events (flat y ++ flat_pairs ps) (suc q) = moved p (length (flat x)) follows in
      let aps : Among k.events (flat_pairs ps) (suc r) = moved q (length (flat y)) (back (flat y) (flat_pairs ps) rest_at) in
      let hx = (and_parts _ _ h).0 in
      let hy = (and_parts _ _ (and_parts _ _ h).1).0 in
      let hp = (and_parts _ _ (and_parts _ _ h).1).1 in
      let lx : length (list ++ fx) ≡ suc q = longer list fx p (length (flat x)) l (node_forms k.setting at_key k.text (by_of k) x) in
      let ly : length ((list ++ fx) ++ fy) ≡ suc r = longer (list ++ fx) fy q (length (flat y)) lx (node_forms k.setting at_value k.text (by_of k) y) in
      let of_key : AtSite k x (suc p) waiting stack at_key =
      record { place = key_there k.setting k.events k.text k.others column x (suc p); stack_is = refl } in
      let of_value : AtSite k y (suc q) stack waiting at_value = record {
        place = value_there k.setting k.events k.text k.others column X y (suc q) key hy ay (key_waits k.setting k.events k.text k.others column x (suc p) hx ax);
        stack_is = refl;
      } in
      let n : length (flat x ++ (flat y ++ flat_pairs ps)) ≡ length (flat x) + length (flat y ++ flat_pairs ps) = length-append (flat x) _ in
      let m : length (flat y ++ flat_pairs ps) ≡ length (flat y) + length (flat_pairs ps) = length-append (flat y) _ in
      let done : p + length (flat x) + length (flat y) + length (flat_pairs ps) ≡ p + length (flat x ++ (flat y ++ flat_pairs ps)) = omega (arith, n, m) in
      ap (λ w. run k w (state list waiting p)) (append_assoc (flat x) (flat y ++ flat_pairs ps) rest ∙ ap (λ w. flat x ++ w) (append_assoc (flat y) (flat_pairs ps) rest))
      ∙ node_passed k p list waiting stack at_key x (flat y ++ (flat_pairs ps ++ rest)) hx ax l of_key
      ∙ node_passed k q (list ++ fx) stack waiting at_value y (flat_pairs ps ++ rest) hy ay lx of_value
      ∙ pairs_passed k r ((list ++ fx) ++ fy) others column ps rest hp aps ly
      ∙ ap (λ w. run k rest (state w waiting (r + length (flat_pairs ps)))) (append_assoc (list ++ fx) fy gs ∙ append_assoc list fx (fy ++ gs))
      ∙ ap (λ n. run k rest (state (list ++ (fx ++ (fy ++ gs))) waiting n)) done
