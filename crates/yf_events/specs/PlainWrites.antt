-- The effect of writing a text, with a plain `bool` as the result.
use Rattle.std.specs.Prelude.{ℕ, List, Bool, Option}
use Rattle.std.specs.Bool.{MatchBool}
use Rattle.yf_lines.specs.Output.{Wrote, Broke}

-- the text was written, or the writer failed
abbrev pub PlainWritten : Option (List ℕ) → Option (List ℕ) → Bool → Bool → List ℕ → Bool → Type 0
PlainWritten old new before after text done = MatchBool done (Wrote old new before after text) (Broke old new after text)
