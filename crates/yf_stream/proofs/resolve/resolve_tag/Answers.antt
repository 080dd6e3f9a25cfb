use Rattle.std.proofs.Common.{◌≡◌, true, sym, ap, ◌∙◌, ⊎_elim}
use Rattle.yf_props.specs.Props.{optional_tag_value, tag_value}
use Rattle.yf_props.specs.Handles.{UnknownHandleOf}
use Rattle.yf_lines.specs.declared.fault.Fault.TheVariants.{Memory, UnknownHandle as Unknown}
use Rattle.yf_lines.specs.declared.place.Position.{Position}
use Rattle.yf_stream.specs.WellFormed.{breach_if, is_unknown, offset_or}
use Rattle.yf_stream.specs.declared.breaches.BreachKind.TheVariants.{UnknownHandle}
use Rattle.yf_stream.proofs.TagPass.DeclaredLemmas.{known_by_text, offset_there, unknown_by_handle}
use Rattle.yf_stream.proofs.TagPass.FirstLemmas.{finds_as, finds_if}
use Rattle.yf_stream.proofs.resolve.resolve_tag.Goals as goal

pub returns-in-Ok-clause-found : goal.returns-in-Ok-clause-found
returns-in-Ok-clause-found c =
    finds_if (is_unknown c.args.handles.now (optional_tag_value c.args.tag)) UnknownHandle (offset_or 0 c.args.offset)
    (ap (λ z. is_unknown c.args.handles.now (optional_tag_value z)) c.in-Some.is ∙ known_by_text c.in-Ok.ensures.text)

pub returns-in-Err-UnknownHandle-clause-found : goal.returns-in-Err-UnknownHandle-clause-found
returns-in-Err-UnknownHandle-clause-found c =
    let place : Position = record { line = 1; column = 1 } in
    let fault = c.in-Err-UnknownHandle.field-0 in
    let ds = c.args.handles.now in
    let unknown : UnknownHandleOf ds (tag_value c.in-Some.tag) =
    ⊎_elim (λ (m : fault ≡ Memory). let e : Memory ≡ Unknown c.in-Err-UnknownHandle.field-0-0 = sym m ∙ c.in-Err-UnknownHandle.field-0-is in absurd cc)
    (λ (m : (fault ≡ Unknown place) × UnknownHandleOf ds (tag_value c.in-Some.tag)). m.1) c.in-Err-UnknownHandle.ensures.refused in
    let found = ap (λ z. is_unknown ds (optional_tag_value z)) c.in-Some.is ∙ unknown_by_handle unknown in
    finds_as (ap (λ z. breach_if true UnknownHandle z) (c.unwrap_or.ensures ∙ offset_there c.args.offset) ∙ ap (λ z. breach_if z UnknownHandle (offset_or 0 c.args.offset)) (sym found))
    c.keep_if.ensures
