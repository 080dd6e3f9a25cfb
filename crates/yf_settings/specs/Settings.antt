-- The settings in a TOML table: the value of each key, which keys are wrong, and the least wrong key.
use Rattle.std.specs.Prelude.{◌≡◌, ℕ, pos, Bool, true, false, ◌&&◌, nat_le, List, [], Option, Some, None}
use Rattle.std.specs.Prelude.{is_some, unwrap_or, option_and_then, if◌then◌else◌, codes, MatchOption, IsSomeAnd}
use Rattle.std.specs.Str.{bytes_eq}
use Rattle.std.specs.Ordering.{nat_cmp, is_le}
use Rattle.std.specs.Cmp.Lexicographic.{slice_cmp}
use Rattle.toml.specs.Data.{Data, string, integer, as_bool, Members, get_member}
use Rattle.toml.specs.Parse.{parse_document}
use Rattle.toml.specs.Errors.{IsBlank}
use Rattle.yf_forms.specs.declared.style.CommentColumns.{CommentColumns}
use Rattle.yf_forms.specs.declared.style.CommentColumns.TheVariants.{Block, Next}
use Rattle.yf_forms.specs.declared.style.DocumentStart.{DocumentStart}
use Rattle.yf_forms.specs.declared.style.DocumentStart.TheVariants.{Always, Keep}
use Rattle.yf_forms.specs.declared.style.Style.{Style}
use Rattle.yf_lines.specs.declared.invisible.Invisible.{Invisible}
use Rattle.yf_lines.specs.declared.invisible.Invisible.TheVariants.{Plain, Escaped}
use Rattle.yf_lines.specs.declared.quotes.Quotes.{Quotes}
use Rattle.yf_lines.specs.declared.quotes.Quotes.TheVariants.{Single, Double}
use Rattle.yf_lines.specs.declared.fault.Fault.{Fault}
use Rattle.yf_lines.specs.declared.fault.Fault.TheVariants.{Config, Memory}

-- An integer from `least` to `most`.
abbrev pub number_between : ℕ → ℕ → Data → Option ℕ
number_between least most (integer (pos n)) = if nat_le least n && nat_le n most then Some n else None
number_between least most _ = None

abbrev pub indent_of : Data → Option ℕ
indent_of = number_between 2 8

abbrev pub max_line_of : Data → Option ℕ
max_line_of = number_between 40 1000

-- The word `double` or `single`.
abbrev pub quotes_of : Data → Option Quotes
quotes_of (string word) =
    if bytes_eq word (codes "double") then Some Double
    else if bytes_eq word (codes "single") then Some Single
    else None
quotes_of _ = None

abbrev pub seq_indent_of : Data → Option Bool
seq_indent_of = as_bool

abbrev pub any_text_of : Data → Option Bool
any_text_of = as_bool

-- The word `always` or `keep`.
abbrev pub document_start_of : Data → Option DocumentStart
document_start_of (string word) =
    if bytes_eq word (codes "always") then Some Always
    else if bytes_eq word (codes "keep") then Some Keep
    else None
document_start_of _ = None

-- The word `next` or `block`.
abbrev pub comments_of : Data → Option CommentColumns
comments_of (string word) =
    if bytes_eq word (codes "next") then Some Next
    else if bytes_eq word (codes "block") then Some Block
    else None
comments_of _ = None

-- The word `plain` or `escaped`.
abbrev pub invisible_of : Data → Option Invisible
invisible_of (string word) =
    if bytes_eq word (codes "plain") then Some Plain
    else if bytes_eq word (codes "escaped") then Some Escaped
    else None
invisible_of _ = None

-- Whether the key is a setting, and the value is one that the setting can have.
-- (version, patterns: whether the values of `required_version` and `exclude` are right)
abbrev pub is_right : Bool → Bool → List ℕ → Data → Bool
is_right version patterns key value =
    if bytes_eq key (codes "indent") then is_some (indent_of value)
    else if bytes_eq key (codes "max_line") then is_some (max_line_of value)
    else if bytes_eq key (codes "quotes") then is_some (quotes_of value)
    else if bytes_eq key (codes "seq_indent") then is_some (seq_indent_of value)
    else if bytes_eq key (codes "document_start") then is_some (document_start_of value)
    else if bytes_eq key (codes "comments") then is_some (comments_of value)
    else if bytes_eq key (codes "invisible") then is_some (invisible_of value)
    else if bytes_eq key (codes "any_text") then is_some (any_text_of value)
    else if bytes_eq key (codes "required_version") then version
    else if bytes_eq key (codes "exclude") then patterns
    else false

-- A key that the table doesn't have, or that has a right value.
abbrev pub IsRight : Bool → Bool → Members → List ℕ → Type 0
IsRight version patterns table key =
    (value : Data) → get_member key table ≡ Some value → is_right version patterns key value ≡ true

-- A key of the table that is not a setting, or has a value that the setting can't have.
abbrev pub IsWrong : Bool → Bool → Members → List ℕ → Type 0
IsWrong version patterns table key =
    (value : Data) × (get_member key table ≡ Some value) × (is_right version patterns key value ≡ false)

-- The least wrong key, by its bytes.
pub record IsLeastWrong (version patterns : Bool) (table : Members) (key : List ℕ) : Type 0 where
  pub wrong : IsWrong version patterns table key
  pub least : (other : List ℕ) → IsWrong version patterns table other → is_le (slice_cmp nat_cmp key other) ≡ true

-- The value at a key. If the table doesn't have the key, the value of the house style.
abbrev pub setting : {X : Type 0} → (Data → Option X) → List ℕ → X → Members → X
setting read key house table = unwrap_or (option_and_then read (get_member key table)) house

-- The table sets this style, if its keys are right.
pub record StyleOfTable (table : Members) (style : Style) : Type 0 where
  pub indent : style.indent ≡ setting indent_of (codes "indent") 2 table
  pub max_line : style.max_line ≡ setting max_line_of (codes "max_line") 100 table
  pub quotes : style.quotes ≡ setting quotes_of (codes "quotes") Double table
  pub seq_indent : style.seq_indent ≡ setting seq_indent_of (codes "seq_indent") true table
  pub document_start : style.document_start ≡ setting document_start_of (codes "document_start") Always table
  pub comments : style.comments ≡ setting comments_of (codes "comments") Next table
  pub invisible : style.invisible ≡ setting invisible_of (codes "invisible") Plain table

-- The style without a settings file.
pub record IsHouse (style : Style) : Type 0 where
  pub indent : style.indent ≡ 2
  pub max_line : style.max_line ≡ 100
  pub quotes : style.quotes ≡ Double
  pub seq_indent : style.seq_indent ≡ true
  pub document_start : style.document_start ≡ Always
  pub comments : style.comments ≡ Next
  pub invisible : style.invisible ≡ Plain

-- The text is TOML, all keys of its table are right, and it sets the style. `required_version` and `exclude` are not
-- keys here.
abbrev pub SetsStyle : List ℕ → Style → Type 0
SetsStyle text style = IsSomeAnd (parse_document text)
    (λ table. ((key : List ℕ) → IsRight false false table key) × StyleOfTable table style)

-- The key is empty if the text is not TOML. Otherwise it is the least wrong key. Memory is refused only if the text has
-- a key.
abbrev pub RefusesSettings : List ℕ → Fault → Type 0
RefusesSettings text (Config key) =
    MatchOption (parse_document text) (key ≡ []) (λ table. IsLeastWrong false false table key)
RefusesSettings text Memory = IsBlank text → ⊥
RefusesSettings text _ = ⊥
