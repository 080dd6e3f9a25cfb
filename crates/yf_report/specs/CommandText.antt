-- The workflow command of each problem, and its text.
use Rattle.std.specs.Prelude.{ℕ, ◌==◌, List, [], ◌∷◌, ◌++◌, codes, decimal, flat_map}
use Rattle.std.specs.Prelude.{filter, Bool, true, false, not, Option, None, Some, if◌then◌else◌}
use Rattle.yf_report.specs.declared.problem.Range.{Range}
use Rattle.yf_report.specs.declared.problem.Severity.{Severity}
use Rattle.yf_report.specs.declared.problem.Severity.TheVariants.{Error, Warning}
use Rattle.yf_report.specs.Problems.{Finding, severity_name}
use Rattle.yf_report.specs.Commands.{Property, Command}

abbrev pub property : List ℕ → List ℕ → Property
property name value = record { name = name; value = value }

-- standard input has no file
abbrev pub file_properties : Option (List ℕ) → List Property
file_properties None = []
file_properties (Some name) = property (codes "file") name ∷ []

abbrev pub column_properties : Bool → Range → List Property
column_properties true r =
    property (codes "col") (decimal r.column) ∷ property (codes "endColumn") (decimal r.end_column) ∷ []
column_properties false r = []

-- GitHub takes columns only on a range of one line
abbrev pub range_properties : Range → List Property
range_properties r =
    property (codes "line") (decimal r.line) ∷ property (codes "endLine") (decimal r.end_line)
    ∷ column_properties (r.line == r.end_line) r

-- the command that annotates a problem
unfoldable pub command_of : Finding → Command
command_of f = record {
  name = severity_name f.severity;
  properties = property (codes "title") f.rule ∷ (file_properties f.file ++ range_properties f.range);
  message = f.message;
}

-- whether a problem is an error, or another one
abbrev pub is_among : Bool → Severity → Bool
is_among errors Error = errors
is_among errors Warning = not errors

-- the errors, and then the warnings, each in order
abbrev pub errors_first : List Finding → List Finding
errors_first fs = filter (λ f. is_among true f.severity) fs ++ filter (λ f. is_among false f.severity) fs

-- ---- for private clauses: the text

abbrev pub message_byte : ℕ → List ℕ
message_byte x =
    if x == 37 then 37 ∷ 50 ∷ 53 ∷ [] else
    (if x == 13 then 37 ∷ 48 ∷ 68 ∷ [] else
    (if x == 10 then 37 ∷ 48 ∷ 65 ∷ [] else x ∷ []))

abbrev pub value_byte : ℕ → List ℕ
value_byte x =
    if x == 58 then 37 ∷ 51 ∷ 65 ∷ [] else
    (if x == 44 then 37 ∷ 50 ∷ 67 ∷ [] else message_byte x)

abbrev pub message_text : List ℕ → List ℕ
message_text = flat_map message_byte

abbrev pub value_text : List ℕ → List ℕ
value_text = flat_map value_byte

abbrev pub property_text : Property → List ℕ
property_text p = p.name ++ 61 ∷ value_text p.value

-- properties after another one
abbrev pub more_text : List Property → List ℕ
more_text [] = []
more_text (p ∷ ps) = 44 ∷ (property_text p ++ more_text ps)

abbrev pub properties_text : List Property → List ℕ
properties_text [] = []
properties_text (p ∷ ps) = property_text p ++ more_text ps

-- the line of a command, without its end
unfoldable pub command_text : Command → List ℕ
command_text c = 58 ∷ 58 ∷ (c.name ++ 32 ∷ (properties_text c.properties ++ 58 ∷ 58 ∷ message_text c.message))

abbrev pub line_text : Command → List ℕ
line_text c = command_text c ++ 10 ∷ []

abbrev pub line_if : Bool → Finding → List ℕ
line_if errors f = if is_among errors f.severity then line_text (command_of f) else []

-- the lines of the errors, or of the others, in order
abbrev pub lines_text : Bool → List Finding → List ℕ
lines_text errors [] = []
lines_text errors (f ∷ fs) = line_if errors f ++ lines_text errors fs
