-- The output for two texts.
use Rattle.std.specs.Prelude.{◌≡◌, ℕ, true, List, ◌++◌}
use Rattle.yf_diff.specs.Script.{Edit, olds, news, in_order}
use Rattle.yf_diff.specs.Texts.{lines_of}
use Rattle.yf_diff.specs.Unified.{unified}

-- The output grew by the unified diff of a script from the lines of the old text to those of the new one. Between two
-- kept lines, dropped lines come before added ones.
pub record AddsDiff (old_name new_name old new before after : List ℕ) : Type 0 where
  pub script : List Edit
  pub olds : olds script ≡ lines_of old
  pub news : news script ≡ lines_of new
  pub order : in_order script ≡ true
  pub written : after ≡ before ++ unified old_name new_name script
