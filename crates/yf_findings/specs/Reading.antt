-- The problems of the text from a reader, and the changes between it and its formatting.
use Rattle.std.specs.Prelude.{◌≤◌, ℕ, Bool, List, length, Option}
use Rattle.std.specs.Str.{IsUtf8}
use Rattle.yf_findings.specs.Changes.{ListedChanges}
use Rattle.yf_findings.specs.Texts.{TextProblems}
use Rattle.yf_findings.specs.declared.texts.CheckedText.{CheckedText}
use Rattle.yf_forms.specs.declared.style.Style.{Style}
use Rattle.yf_rules.specs.Runs.Run.{Gave}
use Rattle.yf_rules.specs.declared.run.TheConstants.{INPUT_LIMIT}

-- a text was read, and these are its problems, and its changes if they are asked for
pub record ReadProblems (asked : Bool) (without : List (List ℕ)) (style : Style) (known : Option (List ℕ))
    (c : CheckedText) : Type 0 where
  pub text : List ℕ
  pub gave : Gave known text
  pub within : length text ≤ INPUT_LIMIT
  pub utf8 : IsUtf8 text
  pub problems : TextProblems without style text c.problems.items
  pub changes : ListedChanges asked style text c.problems.items c.changes.items
