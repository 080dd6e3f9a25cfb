-- The comments of a reading as formatting keeps them: the text of each without the white space that ends it, and its
-- place: the numbers of documents, and of leaves with characters, that begin before it.
use Rattle.std.specs.Prelude.{ℕ, List, map}
use Rattle.yf_events.specs.Reading.{documents_before, leaves_before}
use Rattle.yf_events.specs.declared.lists.Lists.{Lists}
use Rattle.yf_forms.specs.Nodes.Lines.{trimmed}

abbrev pub KeptComment : Type 0
KeptComment = List ℕ × (ℕ × ℕ)

abbrev pub kept : Lists → List KeptComment
kept r = map (λ c. (trimmed c.text, (documents_before r c.offset, leaves_before r c.offset))) r.comments
