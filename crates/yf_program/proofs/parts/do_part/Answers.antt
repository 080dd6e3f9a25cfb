use Rattle.std.proofs.Common.{[], List, ℕ}
use Rattle.std.specs.Prelude.{map}
use Rattle.yf_command_line.specs.declared.command.Input.TheVariants.{File}
use Rattle.yf_program.specs.Answer.{ScopedRewrite, host_in}
use Rattle.yf_program.proofs.AnswerLemmas.{no_files, no_more}
use Rattle.yf_program.proofs.parts.do_part.Goals as goal

pub returns-in-Print : goal.returns-in-Print
returns-in-Print g c = rw c.in-Print.is c.do_scoped.ensures.does

pub returns-in-Check : goal.returns-in-Check
returns-in-Check g c = rw c.in-Check.is c.do_only.ensures

pub returns-in-Diff : goal.returns-in-Diff
returns-in-Diff g c = rw c.in-Diff.is c.do_only-in-Diff.ensures

pub returns-in-Write : goal.returns-in-Write
returns-in-Write g c =
    let host = host_in g.I.Inputs.claim g.S.FileSystem.tells g.S.FileSystem.state g.S.Links.leads c.args.sources.now in
    let files = c.new.result.items in
    rw (c.in-Write.is, ← c.as_slice.ensures.value)
    (no_more c.args.scope.now (ScopedRewrite host c.args.scope.now c.args.explain _) _ _ c.rewrite_files.result (File c.in-Write.file)
    (map (λ (name : List ℕ). File name) files) (no_files files c.new.ensures.items) c.rewrite_files.ensures)
