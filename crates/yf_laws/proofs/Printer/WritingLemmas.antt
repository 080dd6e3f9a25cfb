-- A text that is printed and written.
use Rattle.std.proofs.Common.{◌≡◌, ℕ, Bool, List, Option, sym, subst}
use Rattle.std.specs.Prelude.{IfErr, OnOk, Result, Ok, Err}
use Rattle.std.specs.Str.{IsUtf8}
use Rattle.yf_lines.specs.Output.{TextWritten}
use Rattle.yf_lines.specs.declared.fault.Fault.{Fault}
use Rattle.yf_events.specs.declared.lists.Lists.{Lists}
use Rattle.yf_forms.specs.declared.style.Style.{Style}
use Rattle.yf_laws.specs.Passes.WriterAfterPrint.{RefusedPrint, WroteMade}
use Rattle.yf_laws.specs.Passes.PrintedText.{IsPrinted}

pub all_written : (t : List ℕ) (m : Lists) (s : Style) (old new : Option (List ℕ)) (before after : Bool) (u v : List ℕ) (o : Result Unit Fault) → v ≡ u → IsPrinted t m s u → IsUtf8 v
    → TextWritten old new before after v o → OnOk o (WroteMade t m s old new before after)
all_written t m s old new before after u v (Ok x) e p g w = record { text = v; is = subst (IsPrinted t m s) (sym e) p; utf8 = g; wrote = w }
all_written t m s old new before after u v (Err f) e p g w = tt

pub part_written : (t : List ℕ) (m : Lists) (s : Style) (old new : Option (List ℕ)) (before after : Bool) (u v : List ℕ) (o : Result Unit Fault) → v ≡ u → IsPrinted t m s u → IsUtf8 v
    → TextWritten old new before after v o → IfErr o (RefusedPrint t m s old new before after)
part_written t m s old new before after u v (Ok x) e p g w = tt
part_written t m s old new before after u v (Err f) e p g w =
    subst (λ f. RefusedPrint t m s old new before after f) (sym w.0) (record { text = v; is = subst (IsPrinted t m s) (sym e) p; utf8 = g; broke = w.1 })
