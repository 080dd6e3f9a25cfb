-- The measuring pass finds for the normal events what it found for the original events, in what the printer uses.
use Rattle.std.proofs.Common.{◌≡◌, ℕ, zero, suc, Bool, true, false, ◌&&◌, List, [], ◌∷◌, ◌++◌, map, length, set, Option, Some, None, refl, sym, ap, ◌∙◌, subst}
use Rattle.std.specs.Prelude.{if◌then◌else◌}
use Rattle.std.proofs.lemmas.List.{length-map, map-append}
use Rattle.yf_events.specs.Event.{EventValue, EventInText, stream_starts, stream_ends, document_starts, document_ends, sequence_starts, sequence_ends, mapping_starts, mapping_ends, scalar_node, alias_node}
use Rattle.yf_events.specs.declared.event.Span.{Span}
use Rattle.yf_forms.specs.declared.style.Style.{Style}
use Rattle.yf_forms.specs.declared.form.collection.Open.{Open}
use Rattle.yf_forms.specs.declared.form.ended.Ended.{Ended}
use Rattle.yf_forms.specs.declared.form.measure.Measure.{Measure}
use Rattle.yf_forms.specs.NormalForms.Measures.{no_measure}
use Rattle.yf_forms.specs.Passes.MeasurePass.{MeasuredSoFar, closed, closed_empty, closed_filled, ended_alias, ended_scalar, found, handed, has_text, have_texts, noted, or_else, pass, passed, past, popped}
use Rattle.yf_forms.specs.NormalForms.Normal.{LayoutSetting}
use Rattle.yf_forms.specs.NormalForms.Restyled.{SameButStyles, none_left, one_more, restyled, restyled_event}
use Rattle.yf_forms.specs.Nodes.ScalarStyles.{wanted}
use Rattle.yf_laws.proofs.Printer.MeasureFacts.{asked}

-- open collections that began at the same index, both hold a node or neither does, and have equal first leaves
data AlikeOpen : List Open → List Open → Type 0 where
  none_open : AlikeOpen [] []
  one_open : {o p : Open} {os ps : List Open} → o.start ≡ p.start → o.is_empty ≡ p.is_empty → o.first_leaf ≡ p.first_leaf → AlikeOpen os ps
      → AlikeOpen (o ∷ os) (p ∷ ps)

record AlikeFound (f g : MeasuredSoFar) : Type 0 where
  lists : map asked f.list ≡ map asked g.list
  stacks : AlikeOpen f.stack g.stack

asked_set : (ms : List Measure) (i : ℕ) (m : Measure) → map asked (set ms i m) ≡ set (map asked ms) i (asked m)
asked_set [] i m = refl
asked_set (n ∷ ms) zero m = refl
asked_set (n ∷ ms) (suc i) m = ap (λ w. asked n ∷ w) (asked_set ms i m)

alike_handed : {os ps : List Open} (d e : Ended) → asked d.measure ≡ asked e.measure → AlikeOpen os ps → AlikeOpen (handed d os) (handed e ps)
alike_handed d e q none_open = none_open
alike_handed d e q (one_open {o} {p} s m l a) =
    one_open s refl (ap (λ w. or_else w d.measure.first_leaf) l ∙ ap (λ w. or_else p.first_leaf w.first_leaf) q) a

alike_noted : (i : ℕ) (d e : Ended) (f g : MeasuredSoFar) → asked d.measure ≡ asked e.measure → AlikeFound f g → AlikeFound (noted i d f) (noted i e g)
alike_noted i d e f g q a = record {
  lists = asked_set f.list i d.measure ∙ (ap (λ w. set w i (asked d.measure)) a.lists ∙ (ap (λ w. set (map asked g.list) i w) q ∙ sym (asked_set g.list i e.measure)));
  stacks = alike_handed d e q a.stacks;
}

abbrev closed_by : (b : Bool) (o : Open) (i : ℕ) → Measure
closed_by true o i = record { last = i; width = None; can_be_kept = false; first_leaf = Some o.start; last_leaf = None }
closed_by false o i = record { last = i; width = None; can_be_kept = false; first_leaf = o.first_leaf; last_leaf = None }

closed_asked : (o : Open) (i : ℕ) → asked (closed o i).measure ≡ closed_by o.is_empty o i
closed_asked o i = by o.is_empty where
  by : (b : Bool) → asked (if b then closed_empty o i else closed_filled o i).measure ≡ closed_by b o i
  by true = refl
  by false = refl

closed_alike : (b : Bool) (o p : Open) (i : ℕ) → o.start ≡ p.start → o.first_leaf ≡ p.first_leaf → closed_by b o i ≡ closed_by b p i
closed_alike true o p i s l = ap (λ w. record { last = i; width = None; can_be_kept = false; first_leaf = Some w; last_leaf = None }) s
closed_alike false o p i s l = ap (λ w. record { last = i; width = None; can_be_kept = false; first_leaf = w; last_leaf = None }) l

alike_popped : (i : ℕ) (ms ns : List Measure) {os ps : List Open} → map asked ms ≡ map asked ns → AlikeOpen os ps
    → AlikeFound (popped i ms os) (popped i ns ps)
alike_popped i ms ns e none_open = record { lists = e; stacks = none_open }
alike_popped i ms ns e (one_open {o} {p} {os} {ps} s m l a) =
    let q : asked (closed o i).measure ≡ asked (closed p i).measure =
    closed_asked o i ∙ (ap (λ b. closed_by b o i) m ∙ (closed_alike p.is_empty o p i s l ∙ sym (closed_asked p i))) in
    subst (λ n. AlikeFound (noted o.start (closed o i) (found ms os)) (noted n (closed p i) (found ns ps))) s
    (alike_noted o.start (closed o i) (closed p i) (found ms os) (found ns ps) q (record { lists = e; stacks = a }))

alike_passed : (t u : List ℕ) (c d : LayoutSetting) (q : Style) (flow : Bool) (i : ℕ) (span : Option Span) (v : EventValue) (f g : MeasuredSoFar) → AlikeFound f g
    → AlikeFound (passed t c i span v f) (passed u d i span (restyled_event q flow v) g)
alike_passed t u c d q flow i span (scalar_node props style text) f g a =
    alike_noted i (ended_scalar c.style i span props style text) (ended_scalar d.style i span props (wanted style text q) text) f g refl a
alike_passed t u c d q flow i span (alias_node name) f g a = alike_noted i (ended_alias i name) (ended_alias i name) f g refl a
alike_passed t u c d q flow i span (sequence_starts old props) f g a =
    record { lists = a.lists; stacks = one_open refl refl refl a.stacks }
alike_passed t u c d q flow i span (mapping_starts old props) f g a =
    record { lists = a.lists; stacks = one_open refl refl refl a.stacks }
alike_passed t u c d q flow i span sequence_ends f g a = alike_popped i f.list g.list a.lists a.stacks
alike_passed t u c d q flow i span mapping_ends f g a = alike_popped i f.list g.list a.lists a.stacks
alike_passed t u c d q flow i span stream_starts f g a = a
alike_passed t u c d q flow i span stream_ends f g a = a
alike_passed t u c d q flow i span (document_starts b) f g a = a
alike_passed t u c d q flow i span (document_ends b) f g a = a

same_length : (ms ns : List Measure) → map asked ms ≡ map asked ns → length ms ≡ length ns
same_length ms ns e = sym (length-map ms asked) ∙ (ap length e ∙ length-map ns asked)

alike_past : (t u : List ℕ) (c d : LayoutSetting) (q : Style) (flow : Bool) (e : EventInText) (f g : MeasuredSoFar) → AlikeFound f g
    → AlikeFound (past t c e f) (past u d (restyled q flow e) g)
alike_past t u c d q flow e f g a =
    subst (λ n. AlikeFound (past t c e f) (passed u d n e.span (restyled_event q flow e.event) (found (g.list ++ (no_measure ∷ [])) g.stack))) (same_length f.list g.list a.lists)
    (alike_passed t u c d q flow (length f.list) e.span e.event (found (f.list ++ (no_measure ∷ [])) f.stack) (found (g.list ++ (no_measure ∷ [])) g.stack)
    (record {
      lists = map-append asked f.list (no_measure ∷ []) ∙ (ap (λ w. w ++ (asked no_measure ∷ [])) a.lists ∙ sym (map-append asked g.list (no_measure ∷ [])));
      stacks = a.stacks;
    }))

alike_pass : (t u : List ℕ) (c d : LayoutSetting) {q : Style} {es ns : List EventInText} (f g : MeasuredSoFar) → SameButStyles q es ns → AlikeFound f g
    → AlikeFound (pass t c es f) (pass u d ns g)
unfolding pass
alike_pass t u c d f g none_left a = a
alike_pass t u c d {q} f g (one_more {e} flow r) a =
    alike_pass t u c d (past t c e f) (past u d (restyled q flow e) g) r (alike_past t u c d q flow e f g a)

pub same_measures : (t u : List ℕ) (c d : LayoutSetting) {q : Style} {es ns : List EventInText} → SameButStyles q es ns
    → map asked (pass t c es (found [] [])).list ≡ map asked (pass u d ns (found [] [])).list
same_measures t u c d r = (alike_pass t u c d (found [] []) (found [] []) r (record { lists = refl; stacks = none_open })).lists

-- and texts are still UTF-8

text_stays : (q : Style) (flow : Bool) (v : EventValue) → has_text (restyled_event q flow v) ≡ has_text v
text_stays q flow (scalar_node props style text) = refl
text_stays q flow (alias_node name) = refl
text_stays q flow (sequence_starts old props) = refl
text_stays q flow (mapping_starts old props) = refl
text_stays q flow sequence_ends = refl
text_stays q flow mapping_ends = refl
text_stays q flow stream_starts = refl
text_stays q flow stream_ends = refl
text_stays q flow (document_starts b) = refl
text_stays q flow (document_ends b) = refl

pub same_texts : {q : Style} {es ns : List EventInText} → SameButStyles q es ns → have_texts ns ≡ have_texts es
same_texts none_left = refl
same_texts {q} (one_more {e} {es} {fs} flow r) = ap (λ b. b && have_texts fs) (text_stays q flow e.event) ∙ ap (λ b. has_text e.event && b) (same_texts r)
