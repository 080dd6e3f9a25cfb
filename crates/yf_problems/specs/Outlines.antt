-- The outline of a text.
use Rattle.std.specs.Prelude.{◌≡◌, ℕ, List, Option, Some, None}
use Rattle.yf_events.specs.Tree.{DocumentTree, TreesOf}
use Rattle.yf_events.specs.declared.lists.Lists.{Lists}
use Rattle.yf_outline.specs.Outline.{outline_of}
use Rattle.yf_problems.specs.Folds.{IsUnread}
use Rattle.yf_server.specs.declared.analysis.Part.{Part}
use Rattle.yf_stream.specs.StreamReader.{TheReading}

-- the text is accepted, and these are the parts of its reading
pub record HasOutline (text : List ℕ) (parts : List Part) : Type 0 where
  pub reading : Lists
  pub reads : TheReading text reading
  pub are : (trees : List DocumentTree) → TreesOf reading trees → parts ≡ outline_of text trees

-- the outline of a text, or none if the text is not read
abbrev pub FindsOutline : List ℕ → Option (List Part) → Type 0
FindsOutline text None = IsUnread text
FindsOutline text (Some parts) = HasOutline text parts
