use Rattle.std.proofs.Common.{◌≡◌, rules, refl}
use Rattle.yf_lines.proofs.OutputLemmas.{progress_more, progress_broke, Keeps-nothing}
use Rattle.yf_lines.proofs.output.write_text.Goals as goal

pub returns-in-Err : goal.returns-in-Err
returns-in-Err g c = (refl, progress_broke _ _ _ _ _ _ _ _ c.loop-rest.invariant c.in-Err.ensures.bytes c.in-Err.ensures.note)

pub returns-then-count-eq0 : goal.returns-then-count-eq0
returns-then-count-eq0 g c =
    let none : c.in-Ok.count ≡ 0 = c.if-count-eq0.true in
    (refl, progress_broke _ _ _ _ _ _ _ _ c.loop-rest.invariant (Keeps-nothing _ _ (rw none at c.in-Ok.ensures.bytes)) (c.in-Ok.ensures.note.0 (none, search rules)))

pub loop-rest-preserved : goal.loop-rest-preserved
loop-rest-preserved g c =
    progress_more _ _ _ _ _ _ _ _ c.in-Ok.count c.loop-rest.invariant c.in-Ok.ensures.bytes (c.in-Ok.ensures.note.1 (λ none. c.if-count-eq0.false none.0))
