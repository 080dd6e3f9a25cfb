-- Which documents `...` ends: a second function of a derivation of a whole text, by the names of its productions.
use Rattle.std.specs.Prelude.{ℕ, Bool, true, false, List, [], ◌∷◌}
use Rattle.yf_standard.specs.Notation.{Form}
use Rattle.yf_standard.specs.Notation.Form.{l-any-document, l-document-suffix, l-explicit-document, l-yaml-stream}
use Rattle.yf_standard.specs.Contents.{meant}
use Rattle.yf_standard.specs.Laws.{IsStandardStream}

-- A document, or a `...` with the rest of its line.
pub data Part : Type 0 where
  a_document : Part
  a_suffix : Part

-- 9.1.2 and 9.2: the parts of a stream are the documents (210, or 208 after another document) and the suffixes (205)
-- that 211 derives.
unfoldable pub parts_made : Form → List Part → List Part
parts_made l-document-suffix x = a_suffix ∷ []
parts_made l-explicit-document x = a_document ∷ []
parts_made l-any-document x = a_document ∷ []
parts_made l-yaml-stream x = x
parts_made f x = []

abbrev pub no_parts : ℕ → List Part
no_parts c = []

abbrev pub parts_by : {t : List ℕ} → IsStandardStream t → List Part
parts_by d = meant no_parts (λ e f i j d x. parts_made f x) d

-- For each document, whether the next part is a suffix.
abbrev pub begins_with_suffix : List Part → Bool
begins_with_suffix [] = false
begins_with_suffix (a_document ∷ x) = false
begins_with_suffix (a_suffix ∷ x) = true

abbrev pub ends_of : List Part → List Bool
ends_of [] = []
ends_of (a_document ∷ x) = begins_with_suffix x ∷ ends_of x
ends_of (a_suffix ∷ x) = ends_of x

-- The marks of the ends of a derivation's documents.
abbrev pub ends_by : {t : List ℕ} → IsStandardStream t → List Bool
ends_by d = ends_of (parts_by d)
