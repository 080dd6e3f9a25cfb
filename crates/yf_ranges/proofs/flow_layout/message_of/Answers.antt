use Rattle.std.proofs.Common.{◌∙◌, ap, refl, sym, subst}
use Rattle.std.specs.Prelude.{option_map}
use Rattle.std.specs.String.{string_bytes}
use Rattle.yf_forms.specs.NormalForms.Normal.{setting_of}
use Rattle.yf_forms.proofs.Decide.ValueLemmas.{event_of}
use Rattle.yf_ranges.specs.FlowDetails.{KeptMessage}
use Rattle.yf_ranges.specs.FlowDetails.FlowMessage.{in_a_block, on_one_line}
use Rattle.yf_ranges.proofs.FlowDetailLemmas.{empty_told}
use Rattle.yf_rule_sets.proofs.Texts.FlowLemmas.{event_there, same_flow}
use Rattle.yf_ranges.proofs.flow_layout.message_of.Goals as goal

pub returns-then-is_empty : goal.returns-then-is_empty
returns-then-is_empty c = λ x m n f.
    empty_told c.args.src.now (setting_of c.args.reading.now c.args.style.now) x c.args.inside _ _ c.text_message.result f
    (c.if-is_empty.ensures _ _ _ x m n f) c.text.ensures (c.empty_text.ensures (event_of x) (event_there n)) c.text_message.ensures

pub returns-in-Some : goal.returns-in-Some
returns-in-Some c = λ x m n f.
    let s = setting_of c.args.reading.now c.args.style.now in
    on_one_line (c.if-is_empty.ensures _ _ _ x m n f)
    (sym (ap (option_map string_bytes) (sym c.in-Some.is) ∙ c.in_ok-wanted.ensures.tells.tells c.args.src.now.text s refl m x n (same_flow x f)))
    (subst (λ w. KeptMessage c.args.src.now c.args.style.now.max_line c.args.inside w c.kept_message.result) c.as_str.ensures.value c.kept_message.ensures)

pub returns-in-None : goal.returns-in-None
returns-in-None c = λ x m n f.
    let s = setting_of c.args.reading.now c.args.style.now in
    in_a_block (c.if-is_empty.ensures _ _ _ x m n f)
    (sym (ap (option_map string_bytes) (sym c.in-None.is) ∙ c.in_ok-wanted.ensures.tells.tells c.args.src.now.text s refl m x n (same_flow x f)))
