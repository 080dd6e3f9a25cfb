-- Changes of a document, one after the other.
use Rattle.std.specs.Prelude.{ℕ, List, [], ◌∷◌, ◌++◌, nat_lt, take, drop, Option, None, Some, option_and_then, if◌then◌else◌}
use Rattle.yf_positions.specs.declared.encoding.Encoding.{Encoding}
use Rattle.yf_positions.specs.declared.position.LspRange.{LspRange}
use Rattle.yf_positions.specs.Offsets.{offset_of}

-- a change: the new text of a range, or of the whole document
pub record TextChange : Type 0 where
  pub range : Option LspRange
  pub text : List ℕ

-- the text with new bytes from one offset to another; none if these are in the other order
abbrev pub replaced : List ℕ → ℕ → ℕ → List ℕ → Option (List ℕ)
replaced t from to new = if nat_lt to from then None else Some (take from t ++ (new ++ drop to t))

abbrev pub changed_in : Encoding → List ℕ → Option LspRange → List ℕ → Option (List ℕ)
changed_in e t None new = Some new
changed_in e t (Some range) new = replaced t (offset_of e t range.start) (offset_of e t range.end) new

-- the text after a change; none if the end of its range is before the start
abbrev pub changed : Encoding → List ℕ → TextChange → Option (List ℕ)
changed e t x = changed_in e t x.range x.text

-- the text after all changes; each refers to the text after the one before it
abbrev pub all_changed : Encoding → List ℕ → List TextChange → Option (List ℕ)
all_changed e t [] = Some t
all_changed e t (x ∷ rest) = option_and_then (λ u. all_changed e u rest) (changed e t x)
