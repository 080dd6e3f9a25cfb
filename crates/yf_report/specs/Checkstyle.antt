-- The Checkstyle document of a list of problems: an element for each file, and in it one for each problem.
use Rattle.std.specs.Prelude.{ℕ, List, [], ◌∷◌, ◌++◌, codes, decimal, bytes_eq, Option, None, Some, if◌then◌else◌}
use Rattle.yf_report.specs.Problems.{Finding, severity_name}
use Rattle.yf_report.specs.Xml.{Attribute, Tag, open_tag, close_tag, empty_tag}
use Rattle.yf_report.specs.XmlText.{allowed}

abbrev pub attribute : List ℕ → List ℕ → Attribute
attribute name value = record { name = name; value = value }

-- standard input has a name in XML
abbrev pub name_or_stdin : Option (List ℕ) → List ℕ
name_or_stdin None = codes "stdin"
name_or_stdin (Some name) = name

unfoldable pub error_tag : Finding → Tag
error_tag f =
    empty_tag (codes "error")
    (attribute (codes "line") (decimal f.range.line)
    ∷ attribute (codes "column") (decimal f.range.column)
    ∷ attribute (codes "severity") (severity_name f.severity)
    ∷ attribute (codes "message") (allowed f.message)
    ∷ attribute (codes "source") (allowed f.rule) ∷ [])

abbrev pub file_start : List ℕ → Tag
file_start name = open_tag (codes "file") (attribute (codes "name") (allowed name) ∷ [])

abbrev pub file_end : Option (List ℕ) → List Tag
file_end None = []
file_end (Some name) = close_tag (codes "file") ∷ []

-- the tags before a problem of a file, after one of another file or of none
abbrev pub file_change : Option (List ℕ) → List ℕ → List Tag
file_change None name = file_start name ∷ []
file_change (Some last) name = if bytes_eq last name then [] else close_tag (codes "file") ∷ file_start name ∷ []

-- the tags of problems after one of a file or of none
unfoldable pub file_tags : Option (List ℕ) → List Finding → List Tag
file_tags last [] = file_end last
file_tags last (f ∷ fs) = file_change last (name_or_stdin f.file) ++ error_tag f
    ∷ file_tags (Some (name_or_stdin f.file)) fs

abbrev pub checkstyle_start : Tag
checkstyle_start = open_tag (codes "checkstyle") (attribute (codes "version") (codes "4.3") ∷ [])

unfoldable pub checkstyle_tags : List Finding → List Tag
checkstyle_tags fs = checkstyle_start ∷ (file_tags None fs ++ close_tag (codes "checkstyle") ∷ [])
