use Rattle.std.proofs.Common.{◌≡◌, ◌++◌}
use Rattle.std.specs.Prelude.{reverse}
use Rattle.std.specs.String.{string_bytes}
use Rattle.yf_forms.specs.Passes.OneLinePass.{between, run}
use Rattle.yf_forms.proofs.form.kept.push_between.Given as goal

abbrev pub invariant-loop-k : goal.invariant-loop-k
invariant-loop-k l =
    string_bytes l.text ++ run l.style (reverse l.brackets.open.items) (between l.k l.last l.reading.events)
    ≡ string_bytes l.initial.text ++ run l.style (reverse l.initial.brackets.open.items) (between l.first l.last l.reading.events)
