-- The pass over all events finds the measure of each node.
use Rattle.std.proofs.Common.{◌≡◌, ◌≢◌, ℕ, zero, suc, ◌+◌, ◌<◌, ◌≤◌, true, false, List, [], ◌∷◌, ◌++◌, length, set, Option, Some, refl, sym, ap, ◌∙◌, subst, arith}
use Rattle.std.specs.Prelude.{slice_get}
use Rattle.std.proofs.lemmas.List.{length-append}
use Rattle.std.proofs.lemmas.List.{length-set}
use Rattle.std.proofs.lemmas.Option.{slice_get_within}
use Rattle.yf_events.specs.Event.{EventValue, EventInText, stream_starts, stream_ends, document_starts, document_ends, sequence_starts, sequence_ends, mapping_starts, mapping_ends, scalar_node, alias_node}
use Rattle.yf_events.specs.declared.event.Span.{Span}
use Rattle.yf_forms.specs.declared.form.ended.Ended.{Ended}
use Rattle.yf_forms.specs.declared.form.measure.Measure.{Measure}
use Rattle.yf_forms.specs.declared.form.collection.Open.{Open}
use Rattle.yf_forms.specs.Nodes.SingleNodes.{NodeAt}
use Rattle.yf_forms.specs.NormalForms.Measures.{AreMeasures, measure_of, no_measure}
use Rattle.yf_forms.specs.Passes.MeasurePass.{MeasuredSoFar, found, opened, closed, handed, noted, popped, begun, passed, past, pass, have_texts, ended_scalar, ended_alias}
use Rattle.yf_forms.specs.NormalForms.Normal.{LayoutSetting}
use Rattle.yf_events.specs.Tree.{Node, scalar, alias, sequence, mapping, flat}
use Rattle.yf_forms.proofs.Texts.TreeTexts.{texts_join}
use Rattle.yf_forms.proofs.Measure.SumLemmas.{ended_of}
use Rattle.yf_forms.proofs.Measure.PassLemmas.{measures_in, node_passed}
use Rattle.yf_forms.proofs.ListLemmas.{at_append}

-- all open collections began before an index; none began at an index

pub data Below (n : ℕ) : List Open → Type 0 where
  none_below : Below n []
  one_below : {o : Open} {os : List Open} → o.start < n → Below n os → Below n (o ∷ os)

pub data Apart (i : ℕ) : List Open → Type 0 where
  none_apart : Apart i []
  one_apart : {o : Open} {os : List Open} → o.start ≢ i → Apart i os → Apart i (o ∷ os)

below_more : {n m : ℕ} {os : List Open} → n ≤ m → Below n os → Below m os
below_more l none_below = none_below
below_more l (one_below h b) = one_below (omega (arith, l, h)) (below_more l b)

below_handed : {n : ℕ} {os : List Open} (e : Ended) → Below n os → Below n (handed e os)
below_handed e none_below = none_below
below_handed e (one_below h b) = one_below h b

apart_handed : {i : ℕ} {os : List Open} (e : Ended) → Apart i os → Apart i (handed e os)
apart_handed e none_apart = none_apart
apart_handed e (one_apart h b) = one_apart h b

apart_from : {i : ℕ} {os : List Open} → Below i os → Apart i os
apart_from none_below = none_apart
apart_from {i} (one_below {o} h b) = one_apart (λ e. omega (arith, h, e)) (apart_from b)

-- lists

at_set : (xs : List Measure) (i j : ℕ) (m y : Measure) → j ≢ i → slice_get xs i ≡ Some m → slice_get (set xs j y) i ≡ Some m
at_set [] i j m y n e = absurd cc
at_set (x ∷ xs) zero zero m y n e = absurd (n refl)
at_set (x ∷ xs) zero (suc j) m y n e = e
at_set (x ∷ xs) (suc i) zero m y n e = e
at_set (x ∷ xs) (suc i) (suc j) m y n e = at_set xs i j m y (λ q. n (ap suc q)) e

at_seam : (xs ys : List Measure) (i : ℕ) (m : Measure) → length xs ≡ i → slice_get (xs ++ (m ∷ ys)) i ≡ Some m
at_seam xs ys i m e = ap (λ n. slice_get (xs ++ (m ∷ ys)) n) (sym e) ∙ here xs where
  here : (xs : List Measure) → slice_get (xs ++ (m ∷ ys)) (length xs) ≡ Some m
  here [] = refl
  here (x ∷ xs) = here xs

-- the parts that an event does not change
pub record Keeps (f g : MeasuredSoFar) : Type 0 where
  pub longer : length g.list ≡ length f.list + 1
  pub below : Below (length f.list) f.stack → Below (length g.list) g.stack
  pub at : (i : ℕ) (m : Measure) → slice_get f.list i ≡ Some m → Apart i f.stack → slice_get g.list i ≡ Some m
  pub apart : (i : ℕ) (m : Measure) → slice_get f.list i ≡ Some m → Apart i f.stack → Apart i g.stack

apart_end : (xs : List Measure) (i : ℕ) (m : Measure) → slice_get xs i ≡ Some m → length xs ≢ i
apart_end xs i m e q = let h = slice_get_within xs i m e in omega (arith, h, q)

keeps_node : (list : List Measure) (stack : List Open) (e : Ended) → Keeps (found list stack) (noted (length list) e (found (list ++ (no_measure ∷ [])) stack))
keeps_node list stack e = record {
  longer = longer;
  below = λ b. rw longer (below_handed e (below_more (omega arith) b));
  at = λ i m q a. at_set (list ++ (no_measure ∷ [])) i (length list) m e.measure (apart_end list i m q) (at_append list _ i m q);
  apart = λ i m q a. apart_handed e a;
} where
  longer : length (set (list ++ (no_measure ∷ [])) (length list) e.measure) ≡ length list + 1
  longer = length-set (list ++ (no_measure ∷ [])) (length list) e.measure ∙ length-append list (no_measure ∷ [])

keeps_start : (list : List Measure) (stack : List Open) (o : Open) → o.start ≡ length list
    → Keeps (found list stack) (begun o (found (list ++ (no_measure ∷ [])) stack))
keeps_start list stack o s = record {
  longer = longer;
  below = λ b. rw longer (one_below {o = o} (omega (arith, s)) (below_more (omega arith) b));
  at = λ i m q a. at_append list _ i m q;
  apart = λ i m q a. one_apart (λ e. apart_end list i m q (sym s ∙ e)) a;
} where
  longer : length (list ++ (no_measure ∷ [])) ≡ length list + 1
  longer = length-append list (no_measure ∷ [])

keeps_other : (list : List Measure) (stack : List Open) → Keeps (found list stack) (found (list ++ (no_measure ∷ [])) stack)
keeps_other list stack = record {
  longer = longer;
  below = λ b. rw longer (below_more (omega arith) b);
  at = λ i m q a. at_append list _ i m q;
  apart = λ i m q a. a;
} where
  longer : length (list ++ (no_measure ∷ [])) ≡ length list + 1
  longer = length-append list (no_measure ∷ [])

rest_below : {n : ℕ} {o : Open} {os : List Open} → Below n (o ∷ os) → Below n os
rest_below (one_below h b) = b

rest_apart : {i : ℕ} {o : Open} {os : List Open} → Apart i (o ∷ os) → Apart i os
rest_apart (one_apart h b) = b

first_apart : {i : ℕ} {o : Open} {os : List Open} → Apart i (o ∷ os) → o.start ≢ i
first_apart (one_apart h b) = h

keeps_end : (list : List Measure) (stack : List Open) (end : ℕ) → Keeps (found list stack) (popped end (list ++ (no_measure ∷ [])) stack)
keeps_end list [] end = keeps_other list []
keeps_end list (o ∷ os) end = record {
  longer = longer;
  below = λ b. rw longer (below_handed (closed o end) (below_more (omega arith) (rest_below b)));
  at = λ i m q a. at_set (list ++ (no_measure ∷ [])) i o.start m _ (first_apart a) (at_append list _ i m q);
  apart = λ i m q a. apart_handed (closed o end) (rest_apart a);
} where
  longer : length (set (list ++ (no_measure ∷ [])) o.start (closed o end).measure) ≡ length list + 1
  longer = length-set (list ++ (no_measure ∷ [])) o.start (closed o end).measure ∙ length-append list (no_measure ∷ [])

keeps_event : (t : List ℕ) (c : LayoutSetting) (span : Option Span) (e : EventValue) (list : List Measure) (stack : List Open)
    → Keeps (found list stack) (passed t c (length list) span e (found (list ++ (no_measure ∷ [])) stack))
keeps_event t c span stream_starts list stack = keeps_other list stack
keeps_event t c span stream_ends list stack = keeps_other list stack
keeps_event t c span (document_starts marked) list stack = keeps_other list stack
keeps_event t c span (document_ends marked) list stack = keeps_other list stack
keeps_event t c span (sequence_starts flow props) list stack = keeps_start list stack (opened t c.comments (length list) span props flow false) refl
keeps_event t c span sequence_ends list stack = keeps_end list stack (length list)
keeps_event t c span (mapping_starts flow props) list stack = keeps_start list stack (opened t c.comments (length list) span props flow true) refl
keeps_event t c span mapping_ends list stack = keeps_end list stack (length list)
keeps_event t c span (scalar_node props style text) list stack = keeps_node list stack (ended_scalar c.style (length list) span props style text)
keeps_event t c span (alias_node name) list stack = keeps_node list stack (ended_alias (length list) name)

-- whole lists of events

pub pass_append : (t : List ℕ) (c : LayoutSetting) (es fs : List EventInText) (f : MeasuredSoFar) → pass t c (es ++ fs) f ≡ pass t c fs (pass t c es f)
unfolding pass
pass_append t c [] fs f = refl
pass_append t c (e ∷ es) fs f = pass_append t c es fs (past t c e f)

pass_length : (t : List ℕ) (c : LayoutSetting) (es : List EventInText) (f : MeasuredSoFar) → length (pass t c es f).list ≡ length f.list + length es
unfolding pass
pass_length t c [] f = omega arith
pass_length t c (e ∷ es) f =
    let h = pass_length t c es (past t c e f) in
    let k = (keeps_event t c e.span e.event f.list f.stack).longer in
    h ∙ (omega (arith, k))

pass_below : (t : List ℕ) (c : LayoutSetting) (es : List EventInText) (f : MeasuredSoFar) → Below (length f.list) f.stack
    → Below (length (pass t c es f).list) (pass t c es f).stack
unfolding pass
pass_below t c [] f b = b
pass_below t c (e ∷ es) f b = pass_below t c es (past t c e f) ((keeps_event t c e.span e.event f.list f.stack).below b)

pass_keeps : (t : List ℕ) (c : LayoutSetting) (es : List EventInText) (f : MeasuredSoFar) (i : ℕ) (m : Measure) → slice_get f.list i ≡ Some m → Apart i f.stack
    → slice_get (pass t c es f).list i ≡ Some m
unfolding pass
pass_keeps t c [] f i m q a = q
pass_keeps t c (e ∷ es) f i m q a =
    let k = keeps_event t c e.span e.event f.list f.stack in pass_keeps t c es (past t c e f) i m (k.at i m q a) (k.apart i m q a)

-- the list holds the measure of each node
first_in : (t : List ℕ) (c : LayoutSetting) (i : ℕ) (x : Node) (list : List Measure) → length list ≡ i
    → slice_get (list ++ measures_in t c i x) i ≡ Some (measure_of t c i x)
first_in t c i (scalar at props style text lines) list e = at_seam list _ i _ e
first_in t c i (alias at name) list e = at_seam list _ i _ e
first_in t c i (sequence at flow props xs) list e = at_seam list _ i _ e
first_in t c i (mapping at flow props ps) list e = at_seam list _ i _ e

pub measured_all : (t : List ℕ) (c : LayoutSetting) (es : List EventInText) → have_texts es ≡ true → AreMeasures t c es (pass t c es (found [] [])).list
measured_all t c es h = record { each = each } where
  each : (i : ℕ) (x : Node) → NodeAt es i x → slice_get (pass t c es (found [] [])).list i ≡ Some (measure_of t c i x)
  each i x at =
      let f : MeasuredSoFar = pass t c at.before (found [] []) in
      let l : length f.list ≡ i = pass_length t c at.before (found [] []) ∙ omega (arith, at.index) in
      let texts = (texts_join (flat x) at.after (texts_join at.before _ (ap have_texts (sym at.is) ∙ h)).1).0 in
      let b : Below i f.stack = subst (λ n. Below n f.stack) l (pass_below t c at.before (found [] []) none_below) in
      let g : MeasuredSoFar = found (f.list ++ measures_in t c i x) (handed (ended_of t c i x) f.stack) in
      let run : pass t c es (found [] []) ≡ pass t c at.after g =
      ap (λ w. pass t c w (found [] [])) at.is ∙ pass_append t c at.before (flat x ++ at.after) (found [] [])
      ∙ node_passed t c i f.list f.stack x at.after texts l in
      ap (λ w. slice_get w.list i) run
      ∙ pass_keeps t c at.after g i (measure_of t c i x) (first_in t c i x f.list l) (apart_handed (ended_of t c i x) (apart_from b))

pub pass_longer : (t : List ℕ) (c : LayoutSetting) (e : EventInText) (f : MeasuredSoFar) → length (past t c e f).list ≡ length f.list + 1
pass_longer t c e f = (keeps_event t c e.span e.event f.list f.stack).longer
