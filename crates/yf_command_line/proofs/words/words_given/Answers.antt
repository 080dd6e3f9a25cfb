use Rattle.std.proofs.Common.{◌≡◌, ◌∙◌, ℕ, List, [], Option, Some, None, map, refl}
use Rattle.std.specs.Prelude.{option_map, unwrap_or}
use Rattle.std.specs.Borrow.{Bor}
use Rattle.std.specs.Option.{UnwrapsOrElse}
use Rattle.clap.specs.Words.{found_of}
use Rattle.clap.proofs.WalkLemmas.{raw_values-rows}
use Rattle.yf_command_line.proofs.words.words_given.Goals as goal

-- The values that the library found, or no values.
values_or_none : (found : Option (Bor (List (Bor (List ℕ))))) (values : Option (List (List ℕ)))
    (words : Bor (List (Bor (List ℕ)))) → option_map (λ s. map (λ v. v.now) s.now) found ≡ values
    → UnwrapsOrElse found (λ x. x.now ≡ []) words → map (λ w. w.now) words.now ≡ unwrap_or values []
values_or_none None values words same is = rw (← same, is) refl
values_or_none (Some slice) values words same is = rw (← same, is) refl

pub returns : goal.returns
returns c =
    let f = found_of c.args.given.now in
    values_or_none c.get_strs.result _ c.unwrap_or_default.result (c.get_strs.ensures ∙ raw_values-rows f c.args.id.now)
    c.unwrap_or_default.ensures
