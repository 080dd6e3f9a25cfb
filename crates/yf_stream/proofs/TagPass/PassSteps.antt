-- The steps of the pass over the events of a stream: the results of its look-ups.
use Rattle.std.proofs.Common.{◌≡◌, ℕ, ◌+◌, ◌≤◌, ◌<◌, Bool, true, false, List, [], ◌∷◌, ◌++◌, drop, length, map, Option, Some, None, refl, sym, ap, ◌∙◌, subst, slice_get, option_map, get_or, is_ok, if◌then◌else◌, Result, Ok, Err}
use Rattle.std.proofs.Math.ListN.{drop_of_length-le}
use Rattle.std.proofs.lemmas.Option.{same_Some, slice_get-get_or, slice_get-map, slice_get_read}
use Rattle.std.specs.Borrow.{Bor}
use Rattle.std.specs.Result.{IfOk}
use Rattle.std.specs.Slice.{IsItemAt}
use Rattle.yf_props.specs.Handles.{Declaration}
use Rattle.yf_props.specs.Props.{PropsValue, TagValue}
use Rattle.yf_events.specs.Event.{EventValue, EventInText, alias_node, document_ends, document_starts, mapping_ends, mapping_starts, scalar_node, sequence_ends, sequence_starts, stream_ends, stream_starts, props_of}
use Rattle.yf_events.specs.Tags.{written_tag}
use Rattle.yf_events.specs.Tree.{unplaced}
use Rattle.yf_events.specs.declared.event.Span.{Span}
use Rattle.yf_events.specs.declared.directive.Directive.{Directive}
use Rattle.yf_events.specs.declared.document.Doc.{Doc}
use Rattle.yf_stream.specs.TagPass.{AllPassed, IsNameless, EventAt, FirstOfBoth, EventPassed, SameDeclarations, SameNames, StartsDocument, TagAdded, TagOf, directives_of, next_directives, starts_document}
use Rattle.yf_stream.specs.WellFormed.{alias_breaches, alias_of, breach_if, declarations, directive_breaches, is_unknown, offset_or, start_or, with_name}
use Rattle.yf_stream.specs.declared.breaches.Breach.{Breach}
use Rattle.yf_stream.specs.declared.breaches.BreachKind.TheVariants.{UnknownHandle}
use Rattle.yf_stream.proofs.TagPass.DeclaredLemmas.{same_itself}
use Rattle.yf_stream.proofs.TagPass.FirstLemmas.{finds_as, finds_nothing_more, finds_then}
use Rattle.yf_stream.proofs.TagPass.PassLemmas.{at_index, one_passed}

pub starts_at : {es : List EventInText} {j : ℕ} {starts : Bool} → EventAt es j (λ e. starts ≡ starts_document e.event) → starts ≡ true → StartsDocument (drop j es)
starts_at {es} {j} s t = subst StartsDocument (sym (at_index es j s.there)) (sym s.holds ∙ t)

pub none_starts : (es : List EventInText) (j : ℕ) → length es ≤ j → StartsDocument (drop j es)
none_starts es j l = subst StartsDocument (sym (drop_of_length-le es l)) tt

written : (v : EventValue) → written_tag v ≡ (props_of v).tag
written stream_starts = refl
written stream_ends = refl
written (document_starts b) = refl
written (document_ends b) = refl
written (sequence_starts flow props) = refl
written sequence_ends = refl
written (mapping_starts flow props) = refl
written mapping_ends = refl
written (scalar_node props style text) = refl
written (alias_node name) = refl

-- the element at an index of a list that is made of the events
same_at : {A : Type 0} (f : EventInText → A) (es : List EventInText) (j : ℕ) {e : EventInText} {x : A} → slice_get es j ≡ Some e → slice_get (map f es) j ≡ Some x → f e ≡ x
same_at f es j h g = sym (same_Some _ _ (sym g ∙ slice_get-map f es j ∙ ap (option_map f) h))

pub event_at : (es : List EventInText) (j : ℕ) {v : EventValue} → j < length es → slice_get (map (λ (e : EventInText). e.event) es) j ≡ Some v → EventAt es j (λ e. e.event ≡ v)
event_at es j l f =
    let h = slice_get-get_or es j (unplaced stream_starts) l in
    record { event = get_or es j (unplaced stream_starts); there = h; holds = same_at (λ (e : EventInText). e.event) es j h f }

pub span_at : (es : List EventInText) (j : ℕ) {s : Option Span} → j < length es → slice_get (map (λ (e : EventInText). e.span) es) j ≡ Some s → EventAt es j (λ e. e.span ≡ s)
span_at es j l f =
    let h = slice_get-get_or es j (unplaced stream_starts) l in
    record { event = get_or es j (unplaced stream_starts); there = h; holds = same_at (λ (e : EventInText). e.span) es j h f }

pub event_with : {es : List EventInText} {j : ℕ} {P Q : EventInText → Type 0} → EventAt es j P → ((e : EventInText) → P e → Q e) → EventAt es j Q
event_with h f = record { event = h.event; there = h.there; holds = f h.event h.holds }

-- an event that names nothing
pub bare_passed : {es : List EventInText} {j : ℕ} {v : EventValue} {first : Option Breach} {names : List (List ℕ)} {a b : List (Option (List ℕ))} (ds : List Declaration)
    → EventAt es j (λ e. e.event ≡ v) → IsNameless v → b ≡ a ++ None ∷ [] → EventAt es j (λ e. EventPassed ds e first first names names a b)
bare_passed {first = first} {names = names} {a = a} {b = b} ds h n l =
    event_with h (λ e s. let props = ap props_of s ∙ n.props in record {
      finds = finds_as (sym (ap (λ (p : PropsValue). breach_if (is_unknown ds p.tag) UnknownHandle (offset_or 0 e.tag_offset) ++ alias_breaches names (start_or 0 e.span) (alias_of e.event)) props
          ∙ ap (λ o. alias_breaches names (start_or 0 e.span) o) (ap alias_of s ∙ n.alias))) finds_nothing_more;
      same = subst (λ (p : PropsValue). SameNames names (with_name p.anchor names)) (sym props) (record { each = λ x. refl });
      tag = None;
      is_there = λ _. subst (λ (p : PropsValue). TagOf ds p.tag None) (sym props) tt;
      list = l;
    })

-- an event with a resolved tag
pub tag_added : {es : List EventInText} {j : ℕ} {first after : Option Breach} {a b : List (Option (List ℕ))} {o : Option TagValue} {place : Option ℕ} (ds : List Declaration)
    (tag : Option (List ℕ)) → slice_get (map (λ (e : EventInText). written_tag e.event) es) j ≡ Some o → EventAt es j (λ e. place ≡ e.tag_offset)
    → FirstOfBoth first after (breach_if (is_unknown ds o) UnknownHandle (offset_or 0 place)) → (is_unknown ds o ≡ false → TagOf ds o tag) → b ≡ a ++ tag ∷ []
    → EventAt es j (λ e. TagAdded ds e first after a b)
tag_added {es} {j} {o = o} {place = place} ds tag t p q k l =
    let e = p.event in
    let same : o ≡ (props_of e.event).tag = sym (same_at (λ (e : EventInText). written_tag e.event) es j p.there t) ∙ written e.event in
    record {
      event = e;
      there = p.there;
      holds = record {
        finds = finds_as
            (ap (λ z. breach_if (is_unknown ds z) UnknownHandle (offset_or 0 place)) same
            ∙ ap (λ z. breach_if (is_unknown ds (props_of e.event).tag) UnknownHandle (offset_or 0 z)) p.holds)
            q;
        tag = tag;
        is_there = subst (λ z. is_unknown ds z ≡ false → TagOf ds z tag) same k;
        list = l;
      };
    }

-- and with a noted anchor or alias
pub named_passed : {es : List EventInText} {j offset : ℕ} {v : EventValue} {first mid after : Option Breach} {names others : List (List ℕ)} {a b : List (Option (List ℕ))}
    {ds : List Declaration} → EventAt es j (λ e. TagAdded ds e first mid a b) → EventAt es j (λ e. e.event ≡ v) → EventAt es j (λ e. offset ≡ start_or 0 e.span)
    → FirstOfBoth mid after (alias_breaches names offset (alias_of v)) → SameNames others (with_name (props_of v).anchor names)
    → EventAt es j (λ e. EventPassed ds e first after names others a b)
named_passed {offset = offset} {v = v} {names = names} {others = others} t h s r n =
    let e = t.event in
    let event : e.event ≡ v = ap (λ (e : EventInText). e.event) (same_Some _ _ (sym t.there ∙ h.there)) ∙ h.holds in
    let start : offset ≡ start_or 0 e.span = s.holds ∙ ap (λ (e : EventInText). start_or 0 e.span) (same_Some _ _ (sym s.there ∙ t.there)) in
    record {
      event = e;
      there = t.there;
      holds = record {
        finds = finds_then t.holds.finds
            (finds_as (ap (λ z. alias_breaches names z (alias_of v)) start ∙ ap (λ z. alias_breaches names (start_or 0 e.span) (alias_of z)) (sym event)) r);
        same = subst (λ z. SameNames others (with_name (props_of z).anchor names)) (sym event) n;
        tag = t.holds.tag;
        is_there = t.holds.is_there;
        list = t.holds.list;
      };
    }

pub next_document : (docs : List Doc) (begun : ℕ) (o : Option (Bor Doc)) → IsItemAt docs begun o → directives_of o ≡ next_directives (drop begun docs)
next_document docs begun None m = sym (ap next_directives (drop_of_length-le docs m.3))
next_document docs begun (Some d) m = ap next_directives (sym (at_index docs begun (slice_get_read docs (length docs) begun d.now refl m.3.0 m.1)))

-- one more event
pub passing_step : {es : List EventInText} {i j : ℕ} {before first after : Option Breach} {a b c : List (Option (List ℕ))}
    {names between others : List (List ℕ)} {ds : List Declaration} {starts : Bool} → AllPassed es ds i j before first names between a b
    → EventAt es j (λ e. starts ≡ starts_document e.event) → starts ≡ false → EventAt es j (λ e. EventPassed ds e first after between others b c)
    → AllPassed es ds i (j + 1) before after names others a c
passing_step p s n q =
    one_passed p q.there (sym (s.holds ∙ ap (λ (e : EventInText). starts_document e.event) (same_Some _ _ (sym s.there ∙ q.there))) ∙ n) q.holds

-- if a growth was not refused
pub if_pushed : {T E A : Type 0} (r : Result T E) {x : A} (y z : A) {P : T → Type 0} → x ≡ (if is_ok r then y else z) → (x ≡ y → (t : T) → P t) → IfOk r P
if_pushed (Ok t) y z e f = f e t
if_pushed (Err w) y z e f = tt

-- two promises of one call
pub if_both : {T E : Type 0} (r : Result T E) {P Q R : T → Type 0} → IfOk r P → IfOk r Q → ((x : T) → P x → Q x → R x) → IfOk r R
if_both (Ok t) p q f = f t p q
if_both (Err w) p q f = tt

-- the handles of a document, and those without a document
pub declared_handles : {h : List Declaration} (a : List Declaration) {xs : List Directive} {o : Option (Bor Doc)} {d : Bor Doc} → xs ≡ d.now.directives → o ≡ Some d
    → SameDeclarations h (declarations a xs) → SameDeclarations h (declarations a (directives_of o))
declared_handles {h} a f g s =
    subst (λ z. SameDeclarations h (declarations a (directives_of z))) (sym g) (subst (λ z. SameDeclarations h (declarations a z)) f s)

pub declared_found : {before after : Option Breach} (a : List Declaration) {xs : List Directive} {o : Option (Bor Doc)} {d : Bor Doc} → xs ≡ d.now.directives → o ≡ Some d
    → FirstOfBoth before after (directive_breaches false a xs) → FirstOfBoth before after (directive_breaches false a (directives_of o))
declared_found {before} {after} a f g s =
    subst (λ z. FirstOfBoth before after (directive_breaches false a (directives_of z))) (sym g) (subst (λ z. FirstOfBoth before after (directive_breaches false a z)) f s)

pub no_handles : {a : List Declaration} {o : Option (Bor Doc)} → o ≡ None → SameDeclarations a (declarations a (directives_of o))
no_handles {a} g = subst (λ z. SameDeclarations a (declarations a (directives_of z))) (sym g) (same_itself a)

pub nothing_found : {before : Option Breach} (a : List Declaration) {o : Option (Bor Doc)} → o ≡ None → FirstOfBoth before before (directive_breaches false a (directives_of o))
nothing_found {before} a g = subst (λ z. FirstOfBoth before before (directive_breaches false a (directives_of z))) (sym g) finds_nothing_more
