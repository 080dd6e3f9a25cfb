-- The effect of writing a text to a writer.
use Rattle.std.specs.Prelude.{◌≡◌, ℕ, List, ◌++◌, Bool, true, Option, Result, MatchResult}
use Rattle.std.specs.Io.KnownBytes.{Appends}
use Rattle.std.specs.List.{flat_map}
use Rattle.std.specs.Borrow.{Bor}
use Rattle.yf_lines.specs.declared.fault.Fault.{Fault}
use Rattle.yf_lines.specs.declared.fault.Fault.TheVariants.{WriteFailed}

-- the whole text was appended, and the failure note is unchanged
pub record Wrote (old new : Option (List ℕ)) (before after : Bool) (text : List ℕ) : Type 0 where
  pub appended : Appends old new text
  pub same : after ≡ before

-- the writer has failed, and a prefix of the text was appended
pub record Broke (old new : Option (List ℕ)) (after : Bool) (text : List ℕ) : Type 0 where
  pub failed : after ≡ true
  pub front : List ℕ
  pub rest : List ℕ
  pub split : text ≡ front ++ rest
  pub appended : Appends old new front

-- the text was written, or the writer failed
abbrev pub TextWritten : Option (List ℕ) → Option (List ℕ) → Bool → Bool → List ℕ → Result Unit Fault → Type 0
TextWritten old new before after text outcome = MatchResult outcome
    (λ _. Wrote old new before after text)
    (λ fault. (fault ≡ WriteFailed) × Broke old new after text)

-- the concatenated texts
abbrev pub texts : List (Bor (List ℕ)) → List ℕ
texts parts = flat_map (λ part. part.now) parts
