-- Each event has a resolved tag or none.
use Rattle.std.proofs.Common.{◌≡◌, suc, List, length, Option, ℕ, refl, ap}
use Rattle.yf_props.specs.Handles.{Declaration}
use Rattle.yf_events.specs.Event.{EventInText}
use Rattle.yf_events.specs.declared.document.Doc.{Doc}
use Rattle.yf_stream.specs.TagPass.{PassTags, document_begins, event_follows, no_event_left}

pub tag_for_each : {docs : List Doc} {ds : List Declaration} {es : List EventInText} {tags : List (Option (List ℕ))} → PassTags docs ds es tags → length tags ≡ length es
tag_for_each no_event_left = refl
tag_for_each (document_begins s p) = ap suc (tag_for_each p)
tag_for_each (event_follows s o p) = ap suc (tag_for_each p)
