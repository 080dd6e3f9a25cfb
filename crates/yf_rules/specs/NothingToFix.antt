-- Findings that are all not fixable.
use Rattle.std.specs.Prelude.{◌≡◌, false, List}
use Rattle.std.specs.List.{Contains}
use Rattle.yf_rules.specs.declared.finding.Finding.{Finding}

-- none of these findings is fixable
pub record NoneFixable (findings : List Finding) : Type 0 where
  pub none : (f : Finding) → Contains findings f → f.fixable ≡ false
