use Rattle.std.proofs.Common.{◌∙◌, Bool, List, ℕ, inl, inr, refl, subst, sym}
use Rattle.yf_guarded.specs.Judged.{GivesJudged}
use Rattle.yf_rules.specs.Runs.Run.{Keeps}
use Rattle.yf_program.proofs.judged.judge_past.Goals as goal

pub returns-in-Ok : goal.returns-in-Ok
returns-in-Ok g c =
    let known = g.R.Read.remaining c.args.reader.now in
    let of_bytes = subst (λ (t : List ℕ). GivesJudged c.reads_first-reads.result known t c.in-Ok.verdict) (sym c.as_slice.ensures.value) c.in-Ok.ensures.judged in
    let judged = subst (λ (r : Bool). GivesJudged r known c.as_slice.result.now c.in-Ok.verdict) c.reads_first-reads.ensures of_bytes in
    rw (← c.name_of-name.ensures) (inl (c.as_slice.result.now, c.in-Ok.verdict, judged, c.in-Ok.ensures.reader, c.do_as_judged.ensures))

pub returns : goal.returns
returns g c =
    let keeps = subst (λ (b : List ℕ). Keeps (g.R.Read.remaining c.args.reader.now) b c.in-Err.fault) (sym c.as_slice-in-Err.ensures.value) c.in-Err.ensures.bytes in
    rw (← c.streams.view_is, ← c.name_of-name.ensures)
    (inr (c.in-Err.fault, c.in-Err.ensures.refusals, (λ unread. c.in-Err.ensures.unread (c.reads_first-reads.ensures ∙ unread)), record { contents = refl; same = refl }, (c.as_slice-in-Err.result.now, keeps, c.report_input.ensures)))
