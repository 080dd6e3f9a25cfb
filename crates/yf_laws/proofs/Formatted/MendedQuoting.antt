-- In a formatted text, each scalar has the house style.
use Rattle.std.proofs.Common.{◌≡◌, ℕ, zero, suc, Bool, List, [], ◌∷◌, Some, sym, subst}
use Rattle.std.specs.Prelude.{slice_get}
use Rattle.std.specs.Str.{IsUtf8}
use Rattle.std.proofs.lemmas.Option.{same_Some}
use Rattle.yf_chars.proofs.Tests.{no_item}
use Rattle.yf_events.specs.Event.{EventValue, EventInText, stream_starts, stream_ends, document_starts, document_ends, sequence_starts, sequence_ends, mapping_starts, mapping_ends, scalar_node, alias_node}
use Rattle.yf_events.specs.Reading.{events_of}
use Rattle.yf_events.specs.declared.event.ScalarStyle.{ScalarStyle}
use Rattle.yf_events.specs.declared.lists.Lists.{Lists}
use Rattle.yf_lines.specs.Lines.{Table}
use Rattle.yf_props.specs.Props.{PropsValue}
use Rattle.yf_stream.specs.ReadingOf.{ReadingOf}
use Rattle.yf_stream.proofs.Existence.BreachLemmas.{values}
use Rattle.yf_forms.specs.NormalForms.Restyled.{SameButStyles, none_left, one_more, restyled_event}
use Rattle.yf_forms.specs.Nodes.ScalarStyles.{wanted}
use Rattle.yf_forms.specs.declared.style.Style.{Style}
use Rattle.yf_laws.proofs.NormalForms.NormalRestyled.{normal_restyled}
use Rattle.yf_laws.proofs.SameReading.SameContent.{bare, formats_values, unmarked, unmarked_value}
use Rattle.yf_laws.proofs.Texts.WantedLemmas.{wanted_stays}
use Rattle.yf_laws.specs.Format.{IsFormatting}
use Rattle.yf_laws.specs.Mended.{FormatsAreMended, IsFormatted}
use Rattle.yf_rule_sets.specs.Rules.{quoting}
use Rattle.yf_rule_sets.specs.RuleSets.Styles.{QuotingFault}
use Rattle.yf_rule_sets.specs.RuleSets.Styles.QuotingFault.{other_style}
use Rattle.yf_laws.proofs.Formatted.MendedLines.{exactly_none}

-- a scalar in the house style, or no scalar
abbrev IsStyled : Style → EventValue → Type 0
IsStyled q (scalar_node props style text) = wanted style text q ≡ style
IsStyled q stream_starts = Unit {0}
IsStyled q stream_ends = Unit {0}
IsStyled q (document_starts marked) = Unit {0}
IsStyled q (document_ends marked) = Unit {0}
IsStyled q (sequence_starts flow props) = Unit {0}
IsStyled q sequence_ends = Unit {0}
IsStyled q (mapping_starts flow props) = Unit {0}
IsStyled q mapping_ends = Unit {0}
IsStyled q (alias_node name) = Unit {0}

abbrev AreStyled : Style → List EventValue → Type 0
AreStyled q [] = Unit {0}
AreStyled q (v ∷ vs) = IsStyled q v × AreStyled q vs

-- a restyled event is in that style, also without its markers
restyled_styled : (q : Style) (flow : Bool) (v : EventValue) → IsStyled q (unmarked_value (restyled_event q flow v))
restyled_styled q flow (scalar_node props style text) = wanted_stays style text q
restyled_styled q flow stream_starts = tt
restyled_styled q flow stream_ends = tt
restyled_styled q flow (document_starts marked) = tt
restyled_styled q flow (document_ends marked) = tt
restyled_styled q flow (sequence_starts g props) = tt
restyled_styled q flow sequence_ends = tt
restyled_styled q flow (mapping_starts g props) = tt
restyled_styled q flow mapping_ends = tt
restyled_styled q flow (alias_node name) = tt

all_styled : {q : Style} {es fs : List EventInText} → SameButStyles q es fs → AreStyled q (bare fs)
all_styled none_left = tt
all_styled {q} (one_more {e = e} flow a) = (restyled_styled q flow e.event, all_styled a)

-- this holds for each event that differs by its marker
with_marker : (q : Style) (v : EventValue) → IsStyled q (unmarked_value v) → IsStyled q v
with_marker q (scalar_node props style text) a = a
with_marker q stream_starts a = tt
with_marker q stream_ends a = tt
with_marker q (document_starts marked) a = tt
with_marker q (document_ends marked) a = tt
with_marker q (sequence_starts g props) a = tt
with_marker q sequence_ends a = tt
with_marker q (mapping_starts g props) a = tt
with_marker q mapping_ends a = tt
with_marker q (alias_node name) a = tt

styled_at : (q : Style) (vs : List EventValue) (i : ℕ) (v : EventValue) → AreStyled q (unmarked vs) → slice_get vs i ≡ Some v → IsStyled q v
styled_at q [] i v a e = absurd (no_item i v e)
styled_at q (w ∷ vs) zero v a e = subst (λ z. IsStyled q z) (same_Some _ _ e) (with_marker q w a.0)
styled_at q (w ∷ vs) (suc i) v a e = styled_at q vs i v a.1 e

-- each scalar of a formatted text has the house style
pub styled_scalar : {t u : List ℕ} {s : Style} {r : Lists} → IsUtf8 t → IsFormatting t s u → ReadingOf u r → (i : ℕ) (props : PropsValue) (style : ScalarStyle) (text : List ℕ)
    → slice_get (events_of r) i ≡ Some (scalar_node props style text) → wanted style text s ≡ style
styled_scalar {s = s} {r = r} utf8 f a i props style text e =
    let styled : AreStyled s (bare f.normal.events) = all_styled (normal_restyled f.is_normal).events in
    let there : AreStyled s (bare r.events) = subst (λ vs. AreStyled s vs) (sym (formats_values utf8 f a)) styled in
    styled_at s (values r.events) i (scalar_node props style text) there e

none_misquoted : {src : Table} {r : Lists} {s : Style} {i x : ℕ} → IsFormatted src r s → QuotingFault src.text r s i x → ⊥
none_misquoted {i = i} w (other_style {props = props} {style = style} {text = text} e n) = n (styled_scalar w.utf8 w.formats w.reads i props style text e.event)

pub quoting_mended : FormatsAreMended quoting
quoting_mended fixable src r s w offsets e = exactly_none offsets (λ i x m. none_misquoted {s = s} w m) e
