-- What printing a reading writes to a writer: the text that the pass prints, all of it or a prefix. For the normal form
-- of a text's reading, this text is its layout.
use Rattle.std.specs.Prelude.{◌≡◌, ℕ, List, Bool, Option}
use Rattle.std.specs.Str.{IsUtf8}
use Rattle.yf_lines.specs.Output.{Wrote, Broke}
use Rattle.yf_lines.specs.declared.fault.Fault.{Fault}
use Rattle.yf_lines.specs.declared.fault.Fault.TheVariants.{Memory, WriteFailed}
use Rattle.yf_events.specs.declared.lists.Lists.{Lists}
use Rattle.yf_forms.specs.declared.style.Style.{Style}
use Rattle.yf_laws.specs.Passes.PrintedText.{IsPrinted}

-- the text of the reading m of the text t was made, and all of it was written
-- (old, new: what the writer holds; before, after: the note that it has failed)
pub record WroteMade (t : List ℕ) (m : Lists) (s : Style) (old new : Option (List ℕ)) (before after : Bool) : Type 0 where
  pub text : List ℕ
  pub is : IsPrinted t m s text
  pub utf8 : IsUtf8 text
  pub wrote : Wrote old new before after text

-- the text was made, the writer has failed, and a prefix of the text was written
pub record BrokeMade (t : List ℕ) (m : Lists) (s : Style) (old new : Option (List ℕ)) (after : Bool) : Type 0 where
  pub text : List ℕ
  pub is : IsPrinted t m s text
  pub utf8 : IsUtf8 text
  pub broke : Broke old new after text

-- why nothing is printed, or not everything
abbrev pub RefusedPrint : List ℕ → Lists → Style → Option (List ℕ) → Option (List ℕ) → Bool → Bool → Fault → Type 0
RefusedPrint t m s old new before after Memory = (new ≡ old) × (after ≡ before)
RefusedPrint t m s old new before after WriteFailed = BrokeMade t m s old new after
RefusedPrint t m s old new before after _ = ⊥
