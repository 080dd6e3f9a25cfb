use Rattle.std.proofs.Common.{◌∙◌, List, ℕ, inl, inr, refl, subst, sym}
use Rattle.yf_guarded.specs.Judged.{GivesText}
use Rattle.yf_rules.specs.Runs.Run.{Keeps}
use Rattle.yf_host.specs.Ends.{AreTold}
use Rattle.yf_program.proofs.judged.copy_text.Goals as goal

pub returns-in-Ok : goal.returns-in-Ok
returns-in-Ok g c =
    let known = g.R.Read.remaining c.args.reader.now in
    let gives = subst (λ (t : List ℕ). GivesText known t) (sym c.as_slice.ensures.value) c.in-Ok.ensures.text in
    inl (
      c.as_slice.result.now,
      gives,
      c.in-Ok.ensures.reader,
      subst (λ (line : List ℕ). AreTold 0 c.tell.result c.as_slice.result.now line c.args.streams.now c.tell.new.streams)
          (c.as_bytes.ensures.value ∙ c.left_out_line-line.ensures) c.tell.ensures,
    )

pub returns : goal.returns
returns g c =
    let keeps = subst (λ (b : List ℕ). Keeps (g.R.Read.remaining c.args.reader.now) b c.in-Err.fault) (sym c.as_slice-in-Err.ensures.value) c.in-Err.ensures.bytes in
    rw (← c.streams.view_is)
    (inr (c.in-Err.fault, c.in-Err.ensures.refusals, c.in-Err.ensures.unread, record { contents = refl; same = refl }, (c.as_slice-in-Err.result.now, keeps, c.report_input.ensures)))
