-- Steps of rows by what is counted on each: leaves with characters, or the starts of documents.
use Rattle.std.specs.Prelude.{Bool, true, false, List, [], ◌∷◌, ◌++◌}
use Rattle.yf_laws.specs.Layouts.RowComments.{carried_texts}
use Rattle.yf_laws.specs.Layouts.Decorated.{Deco, first, after}
use Rattle.yf_print.specs.Layouts.Rows.{Row, Ending, at_text_start, at_document_start, at_kept_tail, before_node, anywhere}
use Rattle.yf_laws.proofs.Derived.LayoutSteps.{Step, a_leaf, comment_steps, leaf_steps}

abbrev pub steps_with : (Row → List Step) → List Row → List Deco → List Step
steps_with f [] ds = []
steps_with f (x ∷ xs) ds = f x ++ (comment_steps (carried_texts (first ds)) ++ steps_with f xs (after ds))

abbrev pub leaves_begin : Row → List Step
leaves_begin row = leaf_steps row.leaves

-- a document begins at its `---`, or on a row that is marked so; a start is counted as a leaf is
abbrev pub begins_after : Ending → List Step
begins_after at_text_start = []
begins_after at_document_start = a_leaf ∷ []
begins_after at_kept_tail = []
begins_after before_node = []
begins_after anywhere = []

abbrev pub begins_on : Bool → Ending → List Step
begins_on true ending = a_leaf ∷ []
begins_on false ending = begins_after ending

abbrev pub documents_begin : Row → List Step
documents_begin row = begins_on row.begins row.ending
