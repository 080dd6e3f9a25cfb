-- Workflow commands, as a runner of GitHub Actions reads them: `::name key=value,key=value::message` on a line.
-- A message has `%25`, `%0D` and `%0A` in it for `%`, CR and LF, and a value has `%3A` and `%2C` for `:` and `,` too.
use Rattle.std.specs.Prelude.{ℕ, ◌==◌, ◌&&◌, ◌||◌, List, [], ◌∷◌, Bool}
use Rattle.std.specs.Prelude.{Option, None}
use Rattle.std.specs.Prelude.{Some, option_map, option_and_then, if◌then◌else◌, map}
use Rattle.std.specs.List.{slice_split}

pub record Property : Type 0 where
  pub name : List ℕ
  pub value : List ℕ

pub record Command : Type 0 where
  pub name : List ℕ
  pub properties : List Property
  pub message : List ℕ

-- the values, if there is one in each
abbrev pub all_some : {A : Type 0} → List (Option A) → Option (List A)
all_some [] = Some []
all_some (o ∷ rest) = option_and_then (λ a. option_map (λ list. a ∷ list) (all_some rest)) o

-- ---- escapes

-- the character that two characters after a `%` mean in a message
abbrev pub message_escape : ℕ → ℕ → Option ℕ
message_escape y z =
    if y == 50 && z == 53 then Some 37 else
    (if y == 48 && z == 68 then Some 13 else
    (if y == 48 && z == 65 then Some 10 else None))

-- the character that two characters after a `%` mean in a value
abbrev pub value_escape : ℕ → ℕ → Option ℕ
value_escape y z =
    if y == 51 && z == 65 then Some 58 else
    (if y == 50 && z == 67 then Some 44 else message_escape y z)

abbrev pub unescaped : ℕ → Option ℕ → List ℕ → List ℕ → List ℕ
unescaped x None later longer = x ∷ longer
unescaped x (Some c) later longer = c ∷ later

unfoldable pub unescape : (ℕ → ℕ → Option ℕ) → List ℕ → List ℕ
unescape escape [] = []
unescape escape (x ∷ []) = x ∷ []
unescape escape (x ∷ y ∷ []) = x ∷ y ∷ []
unescape escape (x ∷ y ∷ z ∷ rest) = if x == 37 then
    unescaped x (escape y z) (unescape escape rest) (unescape escape (y ∷ z ∷ rest)) else x
    ∷ unescape escape (y ∷ z ∷ rest)

-- ---- the parts of a line

-- the parts before and after the first c
unfoldable pub split_once : ℕ → List ℕ → Option (List ℕ × List ℕ)
split_once c [] = None
split_once c (x ∷ xs) = if x == c then Some ([], xs) else option_map (λ p. (x ∷ p.0, p.1)) (split_once c xs)

-- the parts before and after the first `::`
unfoldable pub split_colons : List ℕ → Option (List ℕ × List ℕ)
split_colons [] = None
split_colons (x ∷ []) = None
split_colons (x ∷ y ∷ rest) = if x == 58 && y == 58 then
    Some ([], rest) else option_map (λ p. (x ∷ p.0, p.1)) (split_colons (y ∷ rest))

-- `name=value`
abbrev pub property_in : List ℕ → Option Property
property_in part = option_map (λ p. record { name = p.0; value = unescape value_escape p.1 }) (split_once 61 part)

abbrev pub properties_in : List ℕ → Option (List Property)
properties_in text = all_some (map property_in (slice_split (λ b. b == 44) text))

-- `name` or `name properties`, of a command with a message
abbrev pub headed : List ℕ → List ℕ → Option (List ℕ × List ℕ) → Option Command
headed message head None = Some (record { name = head; properties = []; message = unescape message_escape message })
headed message head (Some p) =
    option_map (λ ps. record { name = p.0; properties = ps; message = unescape message_escape message })
    (properties_in p.1)

-- nothing is before the first `::`
abbrev pub body_in : List ℕ → List ℕ → Option (List ℕ × List ℕ)
body_in [] after = split_colons after
body_in (x ∷ before) after = None

unfoldable pub command_in : List ℕ → Option Command
command_in line = option_and_then (λ p. option_and_then (λ q. headed q.1 q.0 (split_once 32 q.0)) (body_in p.0 p.1))
    (split_colons line)

-- ---- lines

-- a runner takes a CR for the end of a line too
abbrev pub is_line_end : ℕ → Bool
is_line_end b = b == 10 || b == 13

abbrev pub if_empty : List ℕ → Option (List Command)
if_empty [] = Some []
if_empty (x ∷ xs) = None

-- the commands of lines; the last line is empty
abbrev pub commands_of_lines : List (List ℕ) → Option (List Command)
commands_of_lines [] = None
commands_of_lines (line ∷ []) = if_empty line
commands_of_lines (line ∷ next ∷ more) =
    option_and_then (λ c. option_map (λ cs. c ∷ cs) (commands_of_lines (next ∷ more))) (command_in line)

-- the commands of a text, if each of its lines is one and has an end
abbrev pub commands_in : List ℕ → Option (List Command)
commands_in text = commands_of_lines (slice_split is_line_end text)
