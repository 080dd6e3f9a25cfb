use Rattle.std.proofs.Common.{◌≡◌, ◌≤◌, ◌∙◌, List, ℕ, inl, length, refl, rules, subst, sym}
use Rattle.std.specs.Str.{IsUtf8}
use Rattle.yf_program.proofs.ProgramLemmas.{text_refused}
use Rattle.yf_rules.specs.declared.run.TheConstants.{INPUT_LIMIT}
use Rattle.yf_rules.specs.Runs.ByteStream.{stream_of}
use Rattle.yf_rules.specs.Runs.Run.{Gave}
use Rattle.yf_program.proofs.program.read_settings.Goals as goal

pub returns-in-Err : goal.returns-in-Err
returns-in-Err g c =
    let none = subst (λ (t : List ℕ). ¬ IsUtf8 t) c.as_slice.ensures.value c.in-Err.ensures.0 in
    let within : length c.in_ok-bytes.bytes.items ≤ INPUT_LIMIT = search rules in
    rw c.no_key.ensures (c.in_ok-bytes.ensures.works, (c.in_ok-bytes.bytes.items, c.in_ok-bytes.ensures.whole, within, inl (none, refl)))

pub returns-in-Err-settings_from_toml : goal.returns-in-Err-settings_from_toml
returns-in-Err-settings_from_toml g c =
    let same : c.in-Ok.text.now ≡ c.in_ok-bytes.bytes.items = c.in-Ok.ensures.1 ∙ c.as_slice.ensures.value in
    let gave = subst (λ (t : List ℕ). Gave (g.R.Read.remaining c.args.reader.now) t) (sym same) c.in_ok-bytes.ensures.whole in
    let within_bytes : length c.in_ok-bytes.bytes.items ≤ INPUT_LIMIT = search rules in
    let within = subst (λ (t : List ℕ). length t ≤ INPUT_LIMIT) (sym same) within_bytes in
    let utf8 = subst (λ (t : List ℕ). IsUtf8 t) (sym c.in-Ok.ensures.1) c.in-Ok.ensures.0 in
    text_refused (stream_of g.R.Read.remaining g.R.Source.has_failed c.args.reader.now) c.in-Ok.text.now _ c.in_ok-bytes.ensures.works gave within utf8 c.in-Err-settings_from_toml.ensures
