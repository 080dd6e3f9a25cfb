use Rattle.std.proofs.Common.{◌≡◌, ◌∙◌, Some, None, ap, refl, sym}
use Rattle.clap.specs.Words.{first_of, found_of, rows_of}
use Rattle.clap.proofs.WalkLemmas.{first_value-rows}
use Rattle.yf_command_line.proofs.words.text_given.Goals as goal

pub returns-in_ok-from_str-in-Some : goal.returns-in_ok-from_str-in-Some
returns-in_ok-from_str-in-Some c =
    let f = found_of c.args.given.now in
    let first : first_of c.args.id.now (rows_of f) ≡ Some c.in-Some.text.now =
    sym (first_value-rows f c.args.id.now) ∙ sym (rw c.in-Some.is at c.get_str.ensures) in
    rw first (ap (λ t. Some t) (c.new.ensures ∙ c.in_ok-from_str-in-Some.ensures.ok))

pub returns-in-None : goal.returns-in-None
returns-in-None c =
    let f = found_of c.args.given.now in
    let first : first_of c.args.id.now (rows_of f) ≡ None =
    sym (first_value-rows f c.args.id.now) ∙ sym (rw c.in-None.is at c.get_str.ensures) in
    rw first refl
