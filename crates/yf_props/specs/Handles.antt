-- The tag handles of a document (YAML 1.2.2, 6.8.2), and the text of a tag (6.9.1).
use Rattle.std.specs.Prelude.{◌≡◌, ℕ, List, ◌++◌, Bool, is_some, Option, Some, None, codes, cond}
use Rattle.std.specs.Borrow.{Bor}
use Rattle.std.specs.Map.{lookup}
use Rattle.std.specs.Str.{IsUtf8, bytes_eq}
use Rattle.percent_encoding.specs.Percent.{percent_decode}
use Rattle.yf_props.specs.Props.{TagValue}
use Rattle.yf_props.specs.Props.TagValue.{IsVerbatim, IsShort, IsNonSpecific}

-- a handle, with its exclamation marks, and its prefix
abbrev pub Declaration : Type 0
Declaration = List ℕ × List ℕ

-- the prefix that a handle is declared with
abbrev pub declared_prefix : List Declaration → List ℕ → Option (List ℕ)
declared_prefix ds handle = lookup (bytes_eq handle) ds

-- the prefix of a handle that is not declared
abbrev pub default_prefix : List ℕ → Option (List ℕ)
default_prefix handle = cond (bytes_eq handle (codes "!")) (Some (codes "!"))
    (cond (bytes_eq handle (codes "!!")) (Some (codes "tag:yaml.org,2002:")) None)

abbrev pub or_else : Option (List ℕ) → Option (List ℕ) → Option (List ℕ)
or_else None q = q
or_else (Some x) q = Some x

-- the prefix of a handle: the declared one, or else the default
abbrev pub prefix_of : List Declaration → List ℕ → Option (List ℕ)
prefix_of ds handle = or_else (declared_prefix ds handle) (default_prefix handle)

-- the meaning of a suffix: each % with two hexadecimal digits means a byte; if the bytes are then not UTF-8, the suffix
-- means itself
pub data SuffixText (suffix : List ℕ) : List ℕ → Type 0 where
  as_decoded : IsUtf8 (percent_decode suffix) → SuffixText suffix (percent_decode suffix)
  as_written : ¬ (IsUtf8 (percent_decode suffix)) → SuffixText suffix suffix

-- the meaning of a tag with these declarations
pub data TagText (ds : List Declaration) : TagValue → List ℕ → Type 0 where
  verbatim_text : {text : List ℕ} → TagText ds (IsVerbatim text) text
  shorthand_text : {handle prefix suffix x : List ℕ} → prefix_of ds handle ≡ Some prefix → SuffixText suffix x
      → TagText ds (IsShort handle suffix) (prefix ++ x)
  non_specific_text : TagText ds IsNonSpecific (codes "!")

-- the tag's handle is neither declared nor a default
pub data UnknownHandleOf (ds : List Declaration) : TagValue → Type 0 where
  no_prefix : {handle suffix : List ℕ} → prefix_of ds handle ≡ None → UnknownHandleOf ds (IsShort handle suffix)

-- whether the handle is declared
abbrev pub is_declared : List Declaration → List ℕ → Bool
is_declared ds handle = is_some (declared_prefix ds handle)

-- an entry of the map, as contracts see it
abbrev pub declaration : Bor (List ℕ) × Bor (List ℕ) → Declaration
declaration e = (e.0.now, e.1.now)
