-- Properties as contracts see them: the bytes of their names, but not the addresses of these.
use Rattle.std.specs.Prelude.{ℕ, List, Option, Some, None}
use Rattle.std.specs.Borrow.{Bor}
use Rattle.yf_props.specs.declared.props.Props.{Props}
use Rattle.yf_props.specs.declared.props.Tag.{Tag}
use Rattle.yf_props.specs.declared.props.Tag.TheVariants.{Verbatim, Short, NonSpecific}

pub data TagValue : Type 0 where
  IsVerbatim : List ℕ → TagValue
  IsShort : List ℕ → List ℕ → TagValue
  IsNonSpecific : TagValue

pub record PropsValue : Type 0 where
  pub anchor : Option (List ℕ)
  pub tag : Option TagValue

abbrev pub tag_value : Tag → TagValue
tag_value (Verbatim text) = IsVerbatim text.now
tag_value (Short handle suffix) = IsShort handle.now suffix.now
tag_value NonSpecific = IsNonSpecific

-- an optional name
abbrev pub name_value : Option (Bor (List ℕ)) → Option (List ℕ)
name_value None = None
name_value (Some name) = Some name.now

abbrev pub optional_tag_value : Option Tag → Option TagValue
optional_tag_value None = None
optional_tag_value (Some tag) = Some (tag_value tag)

abbrev pub props_value : Props → PropsValue
props_value props = record { anchor = name_value props.anchor; tag = optional_tag_value props.tag }

-- the properties without an anchor or a tag
abbrev pub no_props : PropsValue
no_props = record { anchor = None; tag = None }
