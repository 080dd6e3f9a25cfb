-- Signs in quoted text.
use Rattle.std.specs.Prelude.{ℕ, List}
use Rattle.yf_diagnose.specs.SecondReadings.{IsAfter}
use Rattle.yf_diagnose.specs.declared.quoted.Sign.{Sign}
use Rattle.yf_diagnose.specs.declared.quoted.Sign.TheVariants.{Text, White, Quote, Break, EscapedBreak, Nothing, Wrong}

-- the offset after a sign is a boundary after `at`
abbrev pub SignAt : List ℕ → ℕ → Sign → Type 0
SignAt t at (Text next) = IsAfter t at next
SignAt t at (White next) = IsAfter t at next
SignAt t at (Quote next) = IsAfter t at next
SignAt t at (Break next) = IsAfter t at next
SignAt t at (EscapedBreak next) = IsAfter t at next
SignAt t at Nothing = Unit {0}
SignAt t at (Wrong why) = Unit {0}
