use Rattle.std.proofs.Common.{◌∷◌, [], codes}
use Rattle.std.specs.List.{concat}
use Rattle.yf_lines.specs.Shown.{shown}
use Rattle.yf_lines.proofs.OutputLemmas.{broke_first, writes_refused, writes_second}
use Rattle.yf_program.specs.BaselineFile.{refusal_words}
use Rattle.yf_program.proofs.baseline_file.write_refused.Goals as goal

pub returns-in_err-write_shown : goal.returns-in_err-write_shown
returns-in_err-write_shown g c =
    let broke = c.in_err-write_shown.ensures in
    let rest = concat (codes ": not a baseline: " ∷ refusal_words c.args.refusal ∷ codes "\n" ∷ []) in
    writes_refused _ _ _ _ _ _ _ c.from_residual.ensures.1 broke.0 (broke_first _ _ _ (shown c.args.name.now) rest broke.1)

pub returns : goal.returns
returns g c =
    let rest = concat (codes ": not a baseline: " ∷ refusal_words c.args.refusal ∷ codes "\n" ∷ []) in
    writes_second _ _ _ _ _ _ (shown c.args.name.now) rest _ c.in_ok-write_shown.ensures (rw c.words_of.ensures at c.write_texts.ensures)
