-- The innermost open block collection, after the next node in it.
use Rattle.std.proofs.Common.{◌≡◌, ℕ, ◌-◌, ◌<◌, false, List, ◌∷◌, length, set, get_or, reverse, sym, ap, ◌∙◌}
use Rattle.std.specs.Prelude.{Option, Result, Ok, Err, OnOk}
use Rattle.yf_events.specs.declared.event.Entry.{Entry}
use Rattle.yf_forms.specs.declared.form.decide.Form.{Form}
use Rattle.yf_print.specs.declared.printer.PrintFrame.{PrintFrame}
use Rattle.yf_print.specs.Passes.PrintPass.{awaited_after, frames_after}
use Rattle.yf_forms.proofs.Measure.LevelLemmas.{top}

pub awaited_on_top : {R E : Type 0} (r : Result R E) (f : Form) (entry : Option Entry) (xs : List PrintFrame) (n : ℕ) (o w : PrintFrame)
    → n ≡ length xs → 0 < n → o ≡ get_or xs (n - 1) o
    → OnOk r (w ≡ record { column = o.column; awaited = awaited_after f entry o.awaited; is_inline = false })
    → OnOk r (reverse (set xs (n - 1) w) ≡ frames_after f entry (reverse xs))
awaited_on_top (Ok x) f entry xs n o w l q b h =
    let t = top xs n o l q b in t.changed w ∙ ap (λ v. v ∷ t.others) h ∙ ap (frames_after f entry) (sym t.is)
awaited_on_top (Err x) f entry xs n o w l q b h = tt
