-- The events at the end of a collection: an empty value if it awaits the `:` of a `?` entry, and the end itself.
use Rattle.std.specs.Prelude.{Bool, true, false, List, [], ◌∷◌, ◌++◌, None}
use Rattle.yf_props.specs.Props.{no_props}
use Rattle.yf_events.specs.Event.{EventValue, EventInText, sequence_ends, mapping_ends, scalar_node}
use Rattle.yf_events.specs.declared.event.ScalarStyle.TheVariants.{Plain}
use Rattle.yf_flow.specs.NodeStarts.{entry_event}
use Rattle.yf_block.specs.declared.frame.Frame.{Frame}
use Rattle.yf_block.specs.declared.frame.CollectionKind.{CollectionKind}
use Rattle.yf_block.specs.declared.frame.CollectionKind.TheVariants.{Sequence, Mapping}

abbrev pub end_event : CollectionKind → EventValue
end_event Sequence = sequence_ends
end_event Mapping = mapping_ends

abbrev pub value_missing : Bool → List EventInText
value_missing true = entry_event (scalar_node no_props Plain []) None ∷ []
value_missing false = []

abbrev pub closing : Frame → List EventInText
closing f = value_missing f.awaits_colon ++ entry_event (end_event f.kind) None ∷ []
