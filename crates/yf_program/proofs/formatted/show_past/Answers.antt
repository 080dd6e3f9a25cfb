use Rattle.std.proofs.Common.{List, ℕ, inl, inr, refl, subst, sym}
use Rattle.std.proofs.lemmas.Bool.{false≢true}
use Rattle.yf_guarded.specs.Formatted.{GivesFormatting, verdict_of}
use Rattle.yf_rules.specs.Runs.Run.{Keeps}
use Rattle.yf_program.proofs.ShownLemmas.{judged_of}
use Rattle.yf_program.proofs.formatted.show_past.Goals as goal

pub show_judged-requires : goal.show_judged-requires
show_judged-requires g c =
    let known = g.R.Read.remaining c.args.reader.now in
    let gives = subst (λ (t : List ℕ). GivesFormatting c.args.task.now.style known t c.in-Ok.judged) (sym c.as_slice.ensures.value) c.in-Ok.ensures.formatted in
    gives.holds.1

pub returns-in-Ok : goal.returns-in-Ok
returns-in-Ok g c =
    let known = g.R.Read.remaining c.args.reader.now in
    let gives = subst (λ (t : List ℕ). GivesFormatting c.args.task.now.style known t c.in-Ok.judged) (sym c.as_slice.ensures.value) c.in-Ok.ensures.formatted in
    inl (c.as_slice.result.now, verdict_of c.in-Ok.judged, judged_of c.args.task.now.style c.in-Ok.judged gives, c.in-Ok.ensures.reader, c.show_judged.ensures)

pub returns : goal.returns
returns g c =
    let keeps = subst (λ (b : List ℕ). Keeps (g.R.Read.remaining c.args.reader.now) b c.in-Err.fault) (sym c.as_slice-in-Err.ensures.value) c.in-Err.ensures.bytes in
    rw (← c.streams.view_is)
    (inr (c.in-Err.fault, c.in-Err.ensures.refusals, (λ unread. absurd (false≢true (sym unread))), record { contents = refl; same = refl }, (c.as_slice-in-Err.result.now, keeps, c.report_input.ensures)))
