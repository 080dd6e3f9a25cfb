-- The floor that some events set for an offset: none of those that end after it, otherwise the last one.
use Rattle.std.proofs.Common.{◌≡◌, ℕ, ◌<◌, ◌≤◌, Bool, true, false, cond, nat_le, List, [], ◌∷◌, ◌++◌, Option, Some, refl, sym, ap, ◌∙◌, subst, arith}
use Rattle.std.proofs.lemmas.Bool.Decides.{nat_tests}
use Rattle.yf_props.specs.Props.{PropsValue}
use Rattle.yf_events.specs.Event.{EventValue, EventInText, stream_starts, stream_ends, document_starts, document_ends, sequence_starts, sequence_ends, mapping_starts, mapping_ends, scalar_node, alias_node}
use Rattle.yf_events.specs.declared.event.Entry.{Entry}
use Rattle.yf_events.specs.declared.event.ScalarStyle.TheVariants.{Plain, Single, Double, Literal, Folded}
use Rattle.yf_events.specs.declared.event.Span.{Span}
use Rattle.yf_grammar.specs.Productions.Meaning.{event_with, first_with, first_entering, span_since, from_to}
use Rattle.yf_grammar.specs.Productions.ReadParts.{floor_after_event, end_or}
use Rattle.yf_stream.specs.ReadingOf.{end_before, floor_at}
use Rattle.yf_stream.proofs.BlankNotes.CommentNotes.{Each, no_element, one_element}

-- an event that sets no floor; one that ends a block scalar after an offset and up to another
pub data FloorIn (i j : ℕ) (e : EventInText) : Type 0 where
  floor_kept : ((f : ℕ) (p : EventInText) → floor_after_event f p e.event ≡ f) → FloorIn i j e
  floor_set : (s : Span) → e.span ≡ Some s → ((f : ℕ) (p : EventInText) → floor_after_event f p e.event ≡ end_or f p.span) → i < s.end → s.end ≤ j → FloorIn i j e

pub floor_wider : {h i j k : ℕ} {es : List EventInText} → h ≤ i → j ≤ k → Each (FloorIn i j) es → Each (FloorIn h k) es
floor_wider {h} {i} {j} {k} l m no_element = no_element
floor_wider {h} {i} {j} {k} l m (one_element (floor_kept f) r) = one_element (floor_kept f) (floor_wider l m r)
floor_wider {h} {i} {j} {k} l m (one_element (floor_set s q f a b) r) = one_element (floor_set s q f (omega arith) (omega arith)) (floor_wider l m r)

-- the floor after one event
if_same : (b : Bool) (f : ℕ) → cond b f f ≡ f
if_same true f = refl
if_same false f = refl

pub end_same : (o f : ℕ) → end_before o f f ≡ f
end_same o f = if_same (nat_le f o) f

pub end_later : (o f e : ℕ) → o < e → end_before o f e ≡ f
end_later o f e l = grind (arith, nat_tests)

pub end_taken : (o f e : ℕ) → e ≤ o → end_before o f e ≡ e
end_taken o f e l = grind (arith, nat_tests)

either_upto : (b : Bool) (e f k : ℕ) → e ≤ k → f ≤ k → cond b e f ≤ k
either_upto true e f k l m = l
either_upto false e f k l m = m

pub set_end : (e : EventInText) (f : ℕ) (s : Span) → e.span ≡ Some s → ((f : ℕ) (p : EventInText) → floor_after_event f p e.event ≡ end_or f p.span) → floor_after_event f e e.event ≡ s.end
set_end e f s q k = k f e ∙ ap (λ z. end_or f z) q

-- before all ends
pub floor_early : {i j : ℕ} {es : List EventInText} (o f : ℕ) → o ≤ i → Each (FloorIn i j) es → floor_at o f es ≡ f
floor_early o f l no_element = refl
floor_early o f l (one_element {x = e} {xs = es} (floor_kept k) r) =
    ap (λ (z : ℕ). floor_at o z es) (ap (λ (z : ℕ). end_before o f z) (k f e) ∙ end_same o f) ∙ floor_early o f l r
floor_early o f l (one_element {x = e} {xs = es} (floor_set s q k a b) r) =
    ap (λ (z : ℕ). floor_at o z es) (ap (λ (z : ℕ). end_before o f z) (set_end e f s q k) ∙ end_later o f s.end (omega arith)) ∙ floor_early o f l r

-- events up to an offset set no floor after it
pub floor_upto : {i j k : ℕ} {es : List EventInText} (o f : ℕ) → f ≤ k → j ≤ k → Each (FloorIn i j) es → floor_at o f es ≤ k
floor_upto o f l m no_element = l
floor_upto {k = k} o f l m (one_element {x = e} {xs = es} (floor_kept n) r) =
    subst (λ (z : ℕ). floor_at o z es ≤ k) (sym (ap (λ (z : ℕ). end_before o f z) (n f e) ∙ end_same o f)) (floor_upto o f l m r)
floor_upto {k = k} o f l m (one_element {x = e} {xs = es} (floor_set s q n a b) r) =
    let x = set_end e f s q n in
    let y : end_before o f s.end ≤ k = either_upto (nat_le s.end o) s.end f k (omega arith) l in
    floor_upto o (end_before o f (floor_after_event f e e.event)) (subst (λ (z : ℕ). end_before o f z ≤ k) (sym x) y) m r

pub floor_join : (o f : ℕ) (x y : List EventInText) → floor_at o f (x ++ y) ≡ floor_at o (floor_at o f x) y
floor_join o f [] y = refl
floor_join o f (e ∷ x) y = floor_join o (end_before o f (floor_after_event f e e.event)) x y

-- properties and entries change no floor
pub kept_event : (props : PropsValue) (f : ℕ) (p : EventInText) (v : EventValue) → floor_after_event f p (event_with props v) ≡ floor_after_event f p v
kept_event props f p stream_starts = refl
kept_event props f p stream_ends = refl
kept_event props f p (document_starts b) = refl
kept_event props f p (document_ends b) = refl
kept_event props f p (sequence_starts b q) = refl
kept_event props f p sequence_ends = refl
kept_event props f p (mapping_starts b q) = refl
kept_event props f p mapping_ends = refl
kept_event props f p (scalar_node q Plain x) = refl
kept_event props f p (scalar_node q Single x) = refl
kept_event props f p (scalar_node q Double x) = refl
kept_event props f p (scalar_node q Literal x) = refl
kept_event props f p (scalar_node q Folded x) = refl
kept_event props f p (alias_node x) = refl

pub span_with : (a b : ℕ) {s : Span} {o : Option Span} → o ≡ Some s → span_since a b o ≡ Some (record { start = a; end = s.end })
unfolding from_to
span_with a b {s} {o} e = ap (λ z. span_since a b z) e

module _ {i j : ℕ} (props : PropsValue) (tag : Option ℕ) (a b : ℕ) where
  pub with_floors : {es : List EventInText} → Each (FloorIn i j) es → Each (FloorIn i j) (first_with props tag a b es)
  with_floors no_element = no_element
  with_floors (one_element {x = e} (floor_kept k) r) = one_element (floor_kept (λ f p. kept_event props f p e.event ∙ k f p)) r
  with_floors (one_element {x = e} (floor_set s q k l m) r) =
      one_element (floor_set (record { start = a; end = s.end }) (span_with a b q) (λ f p. kept_event props f p e.event ∙ k f p) l m) r

  pub with_floor : {es : List EventInText} (o f : ℕ) → Each (FloorIn i j) es → floor_at o f (first_with props tag a b es) ≡ floor_at o f es
  with_floor o f no_element = refl
  with_floor o f (one_element {x = e} {xs = es} (floor_kept k) r) =
      let e' : EventInText = record e { event = event_with props e.event; span = span_since a b e.span; tag_offset = tag } in
      ap (λ (z : ℕ). floor_at o (end_before o f z) es) (kept_event props f e' e.event ∙ k f e' ∙ sym (k f e))
  with_floor o f (one_element {x = e} {xs = es} (floor_set s q k l m) r) =
      let e' : EventInText = record e { event = event_with props e.event; span = span_since a b e.span; tag_offset = tag } in
      ap (λ (z : ℕ). floor_at o (end_before o f z) es) (kept_event props f e' e.event ∙ k f e' ∙ ap (λ z. end_or f z) (span_with a b q) ∙ sym (set_end e f s q k))

module _ {i j : ℕ} (entry : Entry) where
  pub entering_floors : {es : List EventInText} → Each (FloorIn i j) es → Each (FloorIn i j) (first_entering entry es)
  entering_floors no_element = no_element
  entering_floors (one_element (floor_kept k) r) = one_element (floor_kept k) r
  entering_floors (one_element (floor_set s q k l m) r) = one_element (floor_set s q k l m) r

  pub entering_floor : {es : List EventInText} (o f : ℕ) → Each (FloorIn i j) es → floor_at o f (first_entering entry es) ≡ floor_at o f es
  entering_floor o f no_element = refl
  entering_floor o f (one_element {x = e} {xs = es} (floor_kept k) r) =
      ap (λ (z : ℕ). floor_at o (end_before o f z) es) (k f (record e { entry = Some entry }) ∙ sym (k f e))
  entering_floor o f (one_element {x = e} {xs = es} (floor_set s q k l m) r) =
      ap (λ (z : ℕ). floor_at o (end_before o f z) es) (k f (record e { entry = Some entry }) ∙ sym (k f e))
