-- Whether the `---` of the first document is left out.
use Rattle.std.specs.Prelude.{Bool, true, false, not, ◌&&◌, ◌==◌, List, [], ◌∷◌}
use Rattle.std.specs.List.{list_any}
use Rattle.yf_comments.specs.Comment.{CommentValue}
use Rattle.yf_events.specs.Event.{EventValue, EventInText, document_starts}
use Rattle.yf_events.specs.Reading.{documents_before, leaves_before}
use Rattle.yf_events.specs.declared.lists.Lists.{Lists}
use Rattle.yf_forms.specs.declared.style.DocumentStart.{DocumentStart}
use Rattle.yf_forms.specs.declared.style.DocumentStart.TheVariants.{Always, Keep}
use Rattle.yf_forms.specs.declared.style.Style.{Style}

abbrev pub keeps : DocumentStart → Bool
keeps Always = false
keeps Keep = true

abbrev pub keeps_starts : Style → Bool
keeps_starts s = keeps s.document_start

-- the event begins a document without `---`
abbrev pub is_unmarked : EventValue → Bool
is_unmarked (document_starts marked) = not marked
is_unmarked _ = false

-- the first document has no `---` in the text
abbrev pub begins_bare : List EventInText → Bool
begins_bare [] = false
begins_bare (e ∷ []) = false
begins_bare (e ∷ f ∷ es) = is_unmarked f.event

-- the comment is after the beginning of the first document, and before the first leaf with characters and the second
-- document
abbrev pub leads : Lists → CommentValue → Bool
leads r c = (documents_before r c.offset == 1) && (leaves_before r c.offset == 0)

abbrev pub has_lead : Lists → Bool
has_lead r = list_any (leads r) r.comments

-- the first document stays without `---`: it has none in the text, the style keeps that, and no comment would be moved
-- out of the document
abbrev pub is_bare : Lists → Style → Bool
is_bare r s = keeps_starts s && (begins_bare r.events && not (has_lead r))
