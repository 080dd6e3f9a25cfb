-- A scalar without properties, pushed directly.
use Rattle.std.proofs.Common.{◌≡◌, ℕ, List, [], ◌∷◌, ◌++◌, Option, None, Result, Ok, Err, IfOk, if◌then◌else◌, sym, ap, ◌∙◌}
use Rattle.std.specs.Prelude.{is_ok}
use Rattle.std.specs.Borrow.{Bor}
use Rattle.yf_lines.specs.Text.{text_bytes}
use Rattle.yf_lines.specs.declared.text.Text.{Text}
use Rattle.yf_lines.specs.declared.text.Text.TheVariants.{Part}
use Rattle.yf_props.specs.declared.props.Tag.{Tag}
use Rattle.yf_events.specs.BareScalar.{bare_scalar}
use Rattle.yf_events.specs.Event.{EventInText}
use Rattle.yf_events.specs.declared.event.Entry.{Entry}
use Rattle.yf_events.specs.declared.event.ScalarStyle.{ScalarStyle}
use Rattle.yf_flow.specs.NodeStarts.{bare_lead, leaf_event}
use Rattle.yf_flow.specs.declared.node.Lead.{Lead}

pub bare_pushed : {X E : Type 0} {lead : Lead} {text : Text} {words : Bor (List ℕ)} {new : List EventInText} (style : ScalarStyle) (j : ℕ) (old : List EventInText) (r : Result X E)
    → text ≡ Part words → lead ≡ bare_lead lead.start lead.entry
    → new ≡ (if is_ok r then old ++ bare_scalar style words.now lead.start j lead.entry ∷ [] else old)
    → IfOk r (λ _. new ≡ old ++ (leaf_event lead style (text_bytes text) j ∷ []))
bare_pushed {lead = lead} {words = words} style j old (Ok x) same is pushed =
    pushed ∙ ap (λ w. old ++ leaf_event w style words.now j ∷ []) (sym is) ∙ ap (λ w. old ++ leaf_event lead style (text_bytes w) j ∷ []) (sym same)
bare_pushed style j old (Err e) same is pushed = tt

abbrev lead_with : ℕ → Option (Bor (List ℕ)) → Option Tag → Option ℕ → Option Entry → Lead
lead_with start anchor tag offset entry =
    record { start = start; props = record { anchor = anchor; tag = tag }; tag_offset = offset; entry = entry }

pub bare_is : (lead : Lead) → lead.props.anchor ≡ None → lead.props.tag ≡ None → lead.tag_offset ≡ None → lead ≡ bare_lead lead.start lead.entry
bare_is lead a t o =
    ap (λ w. lead_with lead.start w lead.props.tag lead.tag_offset lead.entry) a
    ∙ ap (λ w. lead_with lead.start None w lead.tag_offset lead.entry) t
    ∙ ap (λ w. lead_with lead.start None None w lead.entry) o
