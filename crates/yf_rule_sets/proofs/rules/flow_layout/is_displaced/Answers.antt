use Rattle.std.proofs.Common.{◌∙◌, ap, refl, sym}
use Rattle.std.specs.Prelude.{option_map, slice_range}
use Rattle.std.specs.String.{string_bytes}
use Rattle.yf_forms.specs.NormalForms.Normal.{setting_of}
use Rattle.yf_forms.proofs.Decide.ValueLemmas.{event_of}
use Rattle.yf_rule_sets.proofs.RuleSets.DisplacedLemmas.{empty_bare, empty_other, empty_same, kept_same}
use Rattle.yf_rule_sets.proofs.Texts.FlowLemmas.{event_there, same_flow}
use Rattle.yf_rule_sets.proofs.rules.flow_layout.is_displaced.Goals as goal

pub returns-then-is_text : goal.returns-then-is_text
returns-then-is_text c = λ x m n f.
    let e = c.if-is_empty.ensures _ _ _ x m n f in
    empty_same c.args.src.now (setting_of c.args.reading.now c.args.style.now) x c.args.inside e
    (ap (λ t. slice_range t c.args.inside.start c.args.inside.end) (sym c.text.ensures) ∙ c.if-is_text.ensures ∙ c.empty_text.ensures (event_of x) (event_there n) ∙ empty_bare c.args.style.now x f e)

pub returns-then-is_empty : goal.returns-then-is_empty
returns-then-is_empty c = λ x m n f.
    let e = c.if-is_empty.ensures _ _ _ x m n f in
    empty_other c.args.src.now (setting_of c.args.reading.now c.args.style.now) x c.args.inside e
    (λ h. c.if-is_text.ensures (ap (λ t. slice_range t c.args.inside.start c.args.inside.end) c.text.ensures ∙ h
    ∙ sym (empty_bare c.args.style.now x f e) ∙ sym (c.empty_text.ensures (event_of x) (event_there n))))

pub returns-then-is_text-2 : goal.returns-then-is_text-2
returns-then-is_text-2 c = λ x m n f.
    let s = setting_of c.args.reading.now c.args.style.now in
    kept_same c.args.src.now s x c.args.inside (string_bytes c.in-Some.text) c.ends_past_limit.result (c.if-is_empty.ensures _ _ _ x m n f)
    (ap (option_map string_bytes) (sym c.in-Some.is) ∙ c.in_ok-text.ensures.tells.tells c.args.src.now.text s refl m x n (same_flow x f))
    (ap (λ t. slice_range t c.args.inside.start c.args.inside.end) (sym c.text-in-Some.ensures) ∙ c.if-is_text-2.ensures ∙ c.as_str.ensures.value) c.ends_past_limit.ensures
