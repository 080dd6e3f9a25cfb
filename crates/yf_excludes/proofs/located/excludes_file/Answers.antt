use Rattle.std.proofs.Common.{◌≡◌, ◌++◌, ◌∙◌, [], List, ℕ, Some, ap, subst, sym}
use Rattle.std.specs.Prelude.{option_map}
use Rattle.yf_excludes.specs.Located.{IsNoFolder, LeadsToFile, from_root}
use Rattle.yf_excludes.specs.Names.{Leads, texts}
use Rattle.yf_excludes.proofs.LocatedLemmas.{below, not_below, without_folder, without_names}
use Rattle.yf_excludes.proofs.located.excludes_file.Goals as goal

pub returns-in-None : goal.returns-in-None
returns-in-None c =
    let full : c.as_slice.result.now ≡ from_root c.args.current.now c.args.settings.now =
    c.as_slice.ensures.value ∙ c.in_ok-settings_path.ensures in
    without_folder c.args.patterns.now c.args.current.now c.args.settings.now c.args.file.now
    (subst (λ p. IsNoFolder p) full (rw c.in-None.is at c.in_ok-names.ensures))

pub returns-in-Some-names_below : goal.returns-in-Some-names_below
returns-in-Some-names_below c =
    let full : c.as_slice.result.now ≡ from_root c.args.current.now c.args.settings.now =
    c.as_slice.ensures.value ∙ c.in_ok-settings_path.ensures in
    let full_file : c.as_slice-2.result.now ≡ from_root c.args.current.now c.args.file.now =
    c.as_slice-2.ensures.value ∙ c.in_ok-file_path.ensures in
    let path = c.in-Some-names_below.path.now in
    below c.args.patterns.now c.args.current.now c.args.settings.now c.args.file.now (texts c.in-Some.names.items)
    (texts c.in-Some-2.names.items) path c.is_excluded.result
    (subst (λ p. LeadsToFile p (texts c.in-Some.names.items)) full (rw c.in-Some.is at c.in_ok-names.ensures))
    (subst (λ p. Leads [] p (Some (texts c.in-Some-2.names.items))) full_file
    (rw c.in-Some-2.is at c.in_ok-names-2.ensures))
    (ap (λ x. texts x) (sym c.as_slice-in-Some-2-2.ensures.value) ∙ c.in-Some-names_below.ensures
    ∙ ap (λ x. texts x ++ texts path) c.as_slice-in-Some-2.ensures.value)
    c.is_excluded.ensures

pub returns-in-Some-2 : goal.returns-in-Some-2
returns-in-Some-2 c =
    let full : c.as_slice.result.now ≡ from_root c.args.current.now c.args.settings.now =
    c.as_slice.ensures.value ∙ c.in_ok-settings_path.ensures in
    let full_file : c.as_slice-2.result.now ≡ from_root c.args.current.now c.args.file.now =
    c.as_slice-2.ensures.value ∙ c.in_ok-file_path.ensures in
    not_below c.args.patterns.now c.args.current.now c.args.settings.now c.args.file.now (texts c.in-Some.names.items)
    (texts c.in-Some-2.names.items)
    (subst (λ p. LeadsToFile p (texts c.in-Some.names.items)) full (rw c.in-Some.is at c.in_ok-names.ensures))
    (subst (λ p. Leads [] p (Some (texts c.in-Some-2.names.items))) full_file
    (rw c.in-Some-2.is at c.in_ok-names-2.ensures))
    (λ path same. c.in-None-names_below.ensures path
    (ap (λ x. texts x) c.as_slice-in-Some-2-2.ensures.value ∙ same
    ∙ ap (λ x. texts x ++ path) (sym c.as_slice-in-Some-2.ensures.value)))

pub returns : goal.returns
returns c =
    let full_file : c.as_slice-2.result.now ≡ from_root c.args.current.now c.args.file.now =
    c.as_slice-2.ensures.value ∙ c.in_ok-file_path.ensures in
    without_names c.args.patterns.now c.args.current.now c.args.settings.now c.args.file.now
    (option_map (λ v. texts v.items) c.in_ok-names-2.field-0)
    (subst (λ p. Leads [] p (option_map (λ v. texts v.items) c.in_ok-names-2.field-0)) full_file
    c.in_ok-names-2.ensures)
    (ap (λ o. option_map (λ v. texts v.items) o) c.in-None-2.is)
