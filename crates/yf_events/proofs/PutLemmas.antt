-- Writes with a plain `bool` as the result.
use Rattle.std.proofs.Common.{◌≡◌, ℕ, ◌++◌, Bool, true, false, List, Option, ◌∙◌, subst}
use Rattle.std.proofs.KnownBytes.{Appends-trans}
use Rattle.yf_lines.specs.Output.{Wrote}
use Rattle.yf_lines.proofs.OutputLemmas.{broke_second}
use Rattle.yf_events.specs.Event.{EventValue}
use Rattle.yf_events.specs.Notation.{event_line}
use Rattle.yf_events.specs.PlainWrites.{PlainWritten}

-- one text written, and then another
pub puts_second : (old mid new : Option (List ℕ)) (before between after : Bool) (text more : List ℕ) (done : Bool)
    → Wrote old mid before between text → PlainWritten mid new between after more done → PlainWritten old new before after (text ++ more) done
puts_second old mid new before between after text more true p q = record {
  appended = Appends-trans old mid new text more p.appended q.appended;
  same = q.same ∙ p.same;
}
puts_second old mid new before between after text more false p q = broke_second old mid new before between after text more p q

-- an equal text
pub puts_same : (old new : Option (List ℕ)) (before after : Bool) (text same : List ℕ) (done : Bool) → text ≡ same
    → PlainWritten old new before after text done → PlainWritten old new before after same done
puts_same old new before after text same done e p = subst (λ t. PlainWritten old new before after t done) e p

-- the line of an equal event
pub puts_line : (old new : Option (List ℕ)) (before after : Bool) (e same : EventValue) (tag : Option (List ℕ)) (done : Bool) → e ≡ same
    → PlainWritten old new before after (event_line e tag) done → PlainWritten old new before after (event_line same tag) done
puts_line old new before after e same tag done is p = subst (λ w. PlainWritten old new before after (event_line w tag) done) is p
