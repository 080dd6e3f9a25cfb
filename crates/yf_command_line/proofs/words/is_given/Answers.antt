use Rattle.std.proofs.Common.{◌≡◌, ◌∙◌, Some, None, refl, sym}
use Rattle.clap.specs.Words.{first_of, found_of, rows_of}
use Rattle.clap.proofs.WalkLemmas.{first_value-rows}
use Rattle.yf_command_line.proofs.words.is_given.Goals as goal

pub returns-in-Some : goal.returns-in-Some
returns-in-Some c =
    let f = found_of c.args.given.now in
    let first : first_of c.args.id.now (rows_of f) ≡ Some c.in-Some.value.now =
    sym (first_value-rows f c.args.id.now) ∙ sym (rw c.in-Some.is at c.get_str.ensures) in
    rw first c.eq.ensures

pub returns-in-None : goal.returns-in-None
returns-in-None c =
    let f = found_of c.args.given.now in
    let first : first_of c.args.id.now (rows_of f) ≡ None =
    sym (first_value-rows f c.args.id.now) ∙ sym (rw c.in-None.is at c.get_str.ensures) in
    rw first refl
