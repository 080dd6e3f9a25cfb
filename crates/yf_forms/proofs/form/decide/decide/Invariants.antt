use Rattle.std.proofs.Common.{◌≡◌, [], length, reverse}
use Rattle.std.specs.Prelude.{drop}
use Rattle.std.specs.List.Sorted.{IsNonDecreasingBy}
use Rattle.yf_forms.specs.Passes.DecidePass.{given, state, pass}
use Rattle.yf_forms.specs.Passes.Halving.{MayBegin}
use Rattle.yf_forms.proofs.form.decide.decide.Given as goal

abbrev pub invariant-loop-i : goal.invariant-loop-i
invariant-loop-i l = record {
  long : IsNonDecreasingBy (λ c. c.offset) l.reading.comments → length l.list ≡ l.i;
  runs : IsNonDecreasingBy (λ c. c.offset) l.reading.comments
      → pass (given l.style l.reading.comments l.reading.events) l.measures (drop l.i l.reading.events) (state l.list (reverse l.stack.items) l.done)
      ≡ pass (given l.style l.reading.comments l.reading.events) l.measures l.reading.events (state [] [] 0);
  begins : MayBegin (λ c. c.offset) l.reading.comments l.near;
}
