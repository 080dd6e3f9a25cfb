-- Problems with the replacements that fix them, without the addresses of their texts.
use Rattle.std.specs.Prelude.{ℕ, List, [], ◌∷◌, map, ⊤}
use Rattle.yf_report.specs.declared.problem.Problem.{Problem}
use Rattle.yf_report.specs.declared.problem.Range.{Range}
use Rattle.yf_report.specs.declared.problem.Replacement.{Replacement}
use Rattle.yf_report.specs.Problems.{Finding, FindingFits, Fits, finding_of}

-- a range, and the text that replaces it
pub record Replaced : Type 0 where
  pub range : Range
  pub text : List ℕ

abbrev pub replaced : Replacement → Replaced
replaced r = record { range = r.range; text = r.text.now }

-- a finding or a refusal, and the replacements that fix it; without replacements it has no fix
pub record Fixed : Type 0 where
  pub finding : Finding
  pub fix : List Replaced

abbrev pub fixed_of : Problem → Fixed
fixed_of p = record { finding = finding_of p; fix = map replaced p.fix.now }

-- each number fits 64 bits
abbrev pub FixFits : List Replaced → Type 0
FixFits [] = ⊤
FixFits (r ∷ rs) = Fits r.range × FixFits rs

abbrev pub AllFitFixed : List Fixed → Type 0
AllFitFixed [] = ⊤
AllFitFixed (f ∷ fs) = (FindingFits f.finding × FixFits f.fix) × AllFitFixed fs
