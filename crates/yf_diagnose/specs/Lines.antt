-- The lines of quoted text and of brackets.
use Rattle.std.specs.Prelude.{ℕ, List}
use Rattle.yf_diagnose.specs.SecondReadings.{NotBefore}
use Rattle.yf_diagnose.specs.declared.lines.NextLine.{NextLine}
use Rattle.yf_diagnose.specs.declared.lines.NextLine.TheVariants.{Goes, Ends, Tab, Left}

-- the offset in the result is a boundary that is not before `at`
abbrev pub NextLineAt : List ℕ → ℕ → NextLine → Type 0
NextLineAt t at (Goes sign) = NotBefore t at sign
NextLineAt t at Ends = Unit {0}
NextLineAt t at (Tab tab) = NotBefore t at tab
NextLineAt t at (Left sign) = NotBefore t at sign
