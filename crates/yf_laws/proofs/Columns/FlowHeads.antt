-- A flow collection that is derived between two offsets has that span, and ends with its bracket.
use Rattle.std.proofs.Common.{◌≡◌, ℕ, ℤ, ◌+◌, ◌-◌, ◌⊎◌, inl, inr, Bool, true, false, true≢false, List, [], ◌∷◌, Option, Some, None, refl, sym, ap, ◌∙◌, subst, arith}
use Rattle.std.specs.Str.{IsUtf8}
use Rattle.yf_chars.specs.declared.context.Ctx.{Ctx}
use Rattle.yf_chars.specs.Text.{code}
use Rattle.yf_props.specs.Props.{PropsValue, no_props}
use Rattle.yf_props.proofs.NamesMade.{props_made}
use Rattle.yf_events.specs.Event.{EventValue, EventInText, stream_starts, stream_ends, document_starts, document_ends, sequence_starts, sequence_ends, mapping_starts, mapping_ends, scalar_node, alias_node}
use Rattle.yf_events.specs.declared.event.Entry.{Entry}
use Rattle.yf_events.specs.declared.event.Span.{Span}
use Rattle.yf_events.specs.Tree.{Node, scalar, alias, sequence, mapping, flat, props_of, standing}
use Rattle.yf_grammar.specs.Productions.Grammar.{Derives, JsonContent, NodeOf, closing}
use Rattle.yf_grammar.specs.Productions.Grammar.Derives.{an_alias, a_plain, a_plain_with, properties_alone, a_json, a_json_with, a_single, a_double, an_empty_collection, a_collection}
use Rattle.yf_grammar.specs.Productions.Meaning.{Meaning, alias_to, meaning_after, collection, empty_node, event_with, first_with, from_to, plain_event, scalar as scalar_meaning, span_since, start_of, with_props}
use Rattle.yf_grammar.proofs.NodesInText.MeantLemmas.{entered}
use Rattle.yf_laws.specs.Layouts.ReadableTrees.{FitProps, no_fit_props, some_fit_props}
use Rattle.yf_laws.proofs.Writable.PropsFits.{props_some}

-- whether a flow collection begins with the event, and its properties
abbrev pub opens_flow : EventValue → Bool
opens_flow (sequence_starts flow props) = flow
opens_flow (mapping_starts flow props) = flow
opens_flow _ = false

abbrev props_in : EventValue → PropsValue
props_in (sequence_starts flow props) = props
props_in (mapping_starts flow props) = props
props_in _ = no_props

-- for the first of these events
abbrev opens : List EventInText → Bool
opens [] = false
opens (e ∷ es) = opens_flow e.event

abbrev head_span : List EventInText → Option Span
head_span [] = None
head_span (e ∷ es) = e.span

abbrev head_props : List EventInText → PropsValue
head_props [] = no_props
head_props (e ∷ es) = props_in e.event

-- a flow collection from i to j
record Head (t : List ℕ) (i j : ℕ) (es : List EventInText) : Type 0 where
  span : head_span es ≡ from_to i j
  last : (code t (j - 1) ≡ 93) ⊎ (code t (j - 1) ≡ 125)
  props : FitProps (head_props es)

-- Its content.

closes : (t : List ℕ) (series : Bool) (j : ℕ) → code t j ≡ closing series → (code t (j + 1 - 1) ≡ 93) ⊎ (code t (j + 1 - 1) ≡ 125)
closes t true j e = inl (ap (code t) (omega arith) ∙ e)
closes t false j e = inr (ap (code t) (omega arith) ∙ e)

bare_start : (series : Bool) → FitProps (props_in (start_of series true))
bare_start true = no_fit_props
bare_start false = no_fit_props

json_head : {t : List ℕ} {h i j : ℕ} {n : ℤ} {c : Ctx} {x : Meaning} → Derives t h (JsonContent n c) i j x → opens x.events ≡ true → Head t i j x.events
unfolding collection plain_event scalar_meaning
json_head (a_single q) f = absurd (true≢false (sym f))
json_head (a_double q) f = absurd (true≢false (sym f))
json_head {t} (an_empty_collection {j = j} series b o m e) f = record { span = refl; last = closes t series j e; props = bare_start series }
json_head {t} (a_collection {j = j} series b o m d e) f = record { span = refl; last = closes t series j e; props = bare_start series }

-- With properties.

flow_with : (props : PropsValue) (e : EventValue) → opens_flow (event_with props e) ≡ opens_flow e
flow_with props stream_starts = refl
flow_with props stream_ends = refl
flow_with props (document_starts marked) = refl
flow_with props (document_ends closed) = refl
flow_with props (sequence_starts flow p) = refl
flow_with props sequence_ends = refl
flow_with props (mapping_starts flow p) = refl
flow_with props mapping_ends = refl
flow_with props (scalar_node p style text) = refl
flow_with props (alias_node name) = refl

given : (props : PropsValue) (e : EventValue) → opens_flow e ≡ true → props ≡ props_in (event_with props e)
given props stream_starts f = absurd (true≢false (sym f))
given props stream_ends f = absurd (true≢false (sym f))
given props (document_starts marked) f = absurd (true≢false (sym f))
given props (document_ends closed) f = absurd (true≢false (sym f))
given props (sequence_starts flow p) f = refl
given props sequence_ends f = absurd (true≢false (sym f))
given props (mapping_starts flow p) f = refl
given props mapping_ends f = absurd (true≢false (sym f))
given props (scalar_node p style text) f = absurd (true≢false (sym f))
given props (alias_node name) f = absurd (true≢false (sym f))

with_head : {t : List ℕ} (props : PropsValue) (o : Option ℕ) (i g k j : ℕ) (es : List EventInText) → FitProps props → (opens es ≡ true → Head t k j es) → opens (first_with props o i g es) ≡ true
    → Head t i j (first_with props o i g es)
unfolding from_to
with_head props o i g k j [] fit h f = absurd (true≢false (sym f))
with_head props o i g k j (e ∷ es) fit h f =
    let flow : opens_flow e.event ≡ true = sym (flow_with props e.event) ∙ f in
    let a = h flow in
    record { span = ap (span_since i g) a.span; last = a.last; props = subst (λ p. FitProps p) (given props e.event flow) fit }

node_head : {t : List ℕ} {h i j : ℕ} {json : Bool} {n : ℤ} {c : Ctx} {x : Meaning} → IsUtf8 t → Derives t h (NodeOf json n c) i j x → opens x.events ≡ true → Head t i j x.events
unfolding alias_to meaning_after empty_node plain_event scalar_meaning with_props
node_head u (an_alias b a) f = absurd (true≢false (sym f))
node_head u (a_plain a) f = absurd (true≢false (sym f))
node_head u (a_plain_with q s a) f = absurd (true≢false (sym f))
node_head u (properties_alone b q) f = absurd (true≢false (sym f))
node_head u (a_json d) f = json_head d f
node_head u (a_json_with {i = i} {g = g} {k = k} {j = j} {p = p} {x = x} q s d) f =
    with_head p.props p.tag_offset i g k j x.events (some_fit_props (props_made u q) (props_some q)) (λ z. json_head d z) f

-- Trees.

abbrev pub is_bracketed : Node → Bool
is_bracketed (scalar at props style text lines) = false
is_bracketed (alias at name) = false
is_bracketed (sequence at flow props xs) = flow
is_bracketed (mapping at flow props ps) = flow

pub record Bracketed (t : List ℕ) (i j : ℕ) (y : Node) : Type 0 where
  pub span : (standing y).span ≡ Some (record { start = i; end = j })
  pub last : (code t (j - 1) ≡ 93) ⊎ (code t (j - 1) ≡ 125)
  pub props : FitProps (props_of y)

pub bracketed : {t : List ℕ} {h i j : ℕ} {json : Bool} {n : ℤ} {c : Ctx} {x : Meaning} (y : Node) → IsUtf8 t → Derives t h (NodeOf json n c) i j x → x.events ≡ flat y → is_bracketed y ≡ true
    → Bracketed t i j y
unfolding from_to
bracketed (scalar at props style text lines) u d e f = absurd (true≢false (sym f))
bracketed (alias at name) u d e f = absurd (true≢false (sym f))
bracketed (sequence at flow props xs) u d e f =
    let a = node_head u d (ap opens e ∙ f) in record { span = sym (ap head_span e) ∙ a.span; last = a.last; props = subst (λ p. FitProps p) (ap head_props e) a.props }
bracketed (mapping at flow props ps) u d e f =
    let a = node_head u d (ap opens e ∙ f) in record { span = sym (ap head_span e) ∙ a.span; last = a.last; props = subst (λ p. FitProps p) (ap head_props e) a.props }

pub bracketed_entered : {t : List ℕ} {i j : ℕ} (e : Entry) (y : Node) → Bracketed t i j y → Bracketed t i j (entered e y)
bracketed_entered e (scalar at props style text lines) a = record { span = a.span; last = a.last; props = a.props }
bracketed_entered e (alias at name) a = record { span = a.span; last = a.last; props = a.props }
bracketed_entered e (sequence at flow props xs) a = record { span = a.span; last = a.last; props = a.props }
bracketed_entered e (mapping at flow props ps) a = record { span = a.span; last = a.last; props = a.props }

pub is_bracketed_entered : (e : Entry) (y : Node) → is_bracketed (entered e y) ≡ is_bracketed y
is_bracketed_entered e (scalar at props style text lines) = refl
is_bracketed_entered e (alias at name) = refl
is_bracketed_entered e (sequence at flow props xs) = refl
is_bracketed_entered e (mapping at flow props ps) = refl
