-- The text of a baseline, and the entries that a text holds.
use Rattle.std.specs.Prelude.{ℕ, ◌<◌, ◌^◌, ◌&&◌, ◌==◌, Bool, true, false, nat_lt, if◌then◌else◌, ⊤}
use Rattle.std.specs.Prelude.{List, [], ◌∷◌, ◌++◌, length, codes, decimal, take, ◌-◌, slice_index}
use Rattle.std.specs.Prelude.{Option, None, Some, option_map, option_and_then, Result, Ok, Err}
use Rattle.std.specs.Str.{all_ascii_digits}
use Rattle.std.specs.Str.Parse.{digits_value, without_leading_plus}
use Rattle.json.specs.Json.{Json, number, string, array, object, Items, no_items, item, no_members, member, document}
use Rattle.json.specs.Find.{get, as_str, as_number, as_array}
use Rattle.json.specs.Print.{print}
use Rattle.json.specs.Tree.{json_tokens}
use Rattle.yf_baseline.specs.declared.entry.Entry.{Entry}
use Rattle.yf_baseline.specs.declared.refusal.Refusal.{Refusal}
use Rattle.yf_baseline.specs.declared.refusal.Refusal.TheVariants.{NotJson, Version, Shape}

-- ---- from entries to a text

unfoldable pub entry_json : Entry → Json
entry_json e =
    object (member (codes "file") (string e.file)
    (member (codes "hash") (string e.hash)
    (member (codes "ordinal") (number (decimal e.ordinal))
    (member (codes "rule") (string e.rule) no_members))))

-- an entry without white space
unfoldable pub entry_line : Entry → List ℕ
entry_line e = print (json_tokens (entry_json e))

abbrev pub entry_items : List Entry → Items
entry_items [] = no_items
entry_items (e ∷ es) = item (entry_json e) (entry_items es)

-- the value that the text is
abbrev pub baseline_json : List Entry → Json
baseline_json es =
    object (member (codes "findings") (array (entry_items es)) (member (codes "version") (number (codes "1")) no_members))

-- the text before a line: a comma after another line, and a line feed
abbrev pub separator : Bool → List ℕ
separator after = if after then codes ",\n" else codes "\n"

-- the lines of entries, which may come after another line
abbrev pub lines_text : Bool → List Entry → List ℕ
lines_text after [] = []
lines_text after (e ∷ es) = separator after ++ (entry_line e ++ lines_text true es)

-- the whole text
abbrev pub baseline_text : List Entry → List ℕ
baseline_text es = (codes "{\"findings\":[" ++ lines_text false es) ++ codes "\n],\"version\":1}\n"

-- ---- from a text to entries

-- the text without a line feed at its end
abbrev pub without_feed : List ℕ → List ℕ
without_feed text = if slice_index text (length text - 1) == 10 then take (length text - 1) text else text

-- the digits write a number of 64 bits
abbrev pub is_number : List ℕ → Bool
is_number digits =
    all_ascii_digits digits && (nat_lt 0 (length digits) && nat_lt (digits_value 10 digits) (2 ^ 64))

-- the number that a text of digits writes
abbrev pub number_from : List ℕ → Option ℕ
number_from text =
    if is_number (without_leading_plus text) then Some (digits_value 10 (without_leading_plus text)) else None

-- the text and the number of a member
abbrev pub text_in : List ℕ → Json → Option (List ℕ)
text_in name j = option_and_then as_str (get name j)

abbrev pub number_in : List ℕ → Json → Option ℕ
number_in name j = option_and_then number_from (option_and_then as_number (get name j))

-- an entry is an object with these four members; it may have others
unfoldable pub entry_in : Json → Option Entry
entry_in j =
    option_and_then (λ file. option_and_then (λ hash. option_and_then (λ ordinal. option_map
    (λ rule. record { file = file; rule = rule; hash = hash; ordinal = ordinal })
    (text_in (codes "rule") j))
    (number_in (codes "ordinal") j))
    (text_in (codes "hash") j))
    (text_in (codes "file") j)

-- the entries of an array, if each item is an entry
abbrev pub entries_from : Items → Option (List Entry)
entries_from no_items = Some []
entries_from (item j js) = option_and_then (λ e. option_map (λ es. e ∷ es) (entries_from js)) (entry_in j)

-- the entries of a value, if its member `findings` is an array of entries
abbrev pub entries_in : Json → Option (List Entry)
entries_in j = option_and_then entries_from (option_and_then as_array (get (codes "findings") j))

abbrev pub if_entries : Option (List Entry) → Result (List Entry) Refusal
if_entries None = Err Shape
if_entries (Some es) = Ok es

abbrev pub if_version : Json → Option ℕ → Result (List Entry) Refusal
if_version j None = Err Version
if_version j (Some n) = if n == 1 then if_entries (entries_in j) else Err Version

abbrev pub if_json : Option Json → Result (List Entry) Refusal
if_json None = Err NotJson
if_json (Some j) = if_version j (number_in (codes "version") j)

-- the entries of a text, or why it is not a baseline
abbrev pub baseline_in : List ℕ → Result (List Entry) Refusal
baseline_in text = if_json (document (without_feed text))

-- each ordinal has 64 bits
abbrev pub AllFit : List Entry → Type 0
AllFit [] = ⊤
AllFit (e ∷ es) = (e.ordinal < 2 ^ 64) × AllFit es
