-- The block scalars among events: those of two lists, and those of a node on one line, which has none.
use Rattle.std.proofs.Common.{◌≡◌, ℕ, Bool, false, List, [], ◌∷◌, ◌++◌, refl, ap, ◌∙◌, append-nil}
use Rattle.std.specs.Prelude.{if◌then◌else◌}
use Rattle.std.proofs.lemmas.Grind.{flat_map-append}
use Rattle.yf_events.specs.Event.{EventValue, EventInText, stream_starts, stream_ends, document_starts, document_ends, sequence_starts, sequence_ends, mapping_starts, mapping_ends, scalar_node, alias_node}
use Rattle.yf_events.specs.Tree.{unplaced}
use Rattle.yf_laws.specs.Layouts.ReadableTrees.{is_block_style}
use Rattle.yf_laws.specs.Preservation.TidyLines.{BlockScalar, block_scalar_of, block_scalars}
use Rattle.yf_laws.proofs.Columns.FlowEvents.{AllFlow, IsFlowEvent}

pub scalars_append : (es fs : List EventInText) → block_scalars (es ++ fs) ≡ block_scalars es ++ block_scalars fs
scalars_append es fs = flat_map-append (λ (e : EventInText). block_scalar_of e.event e.folded) es fs

-- before the event that ends a collection, a document or the stream
pub scalars_ended : (es : List EventInText) (e : EventValue) → block_scalar_of e [] ≡ [] → block_scalars (es ++ (unplaced e ∷ [])) ≡ block_scalars es
scalars_ended es e none = scalars_append es (unplaced e ∷ []) ∙ (ap (λ z. block_scalars es ++ (z ++ [])) none ∙ append-nil (block_scalars es))

either_none : (b : BlockScalar) (p : Bool) → p ≡ false → (if p then b ∷ [] else []) ≡ []
either_none b p e = ap (λ (z : Bool). if z then b ∷ [] else []) e

flow_event : (v : EventValue) (lines : List (List ℕ)) → IsFlowEvent v → block_scalar_of v lines ≡ []
flow_event stream_starts lines a = refl
flow_event stream_ends lines a = refl
flow_event (document_starts marked) lines a = refl
flow_event (document_ends marked) lines a = refl
flow_event (sequence_starts flow props) lines a = refl
flow_event sequence_ends lines a = refl
flow_event (mapping_starts flow props) lines a = refl
flow_event mapping_ends lines a = refl
flow_event (scalar_node props style text) lines a = either_none (record { style = style; text = text; lines = lines }) (is_block_style style) a
flow_event (alias_node name) lines a = refl

pub flow_none : (es : List EventInText) → AllFlow es → block_scalars es ≡ []
flow_none [] a = refl
flow_none (e ∷ es) a = ap (λ z. z ++ block_scalars es) (flow_event e.event e.folded a.0) ∙ flow_none es a.1
