-- The SARIF log gives the problems back, with their fixes.
use Rattle.std.proofs.Common.{◌≡◌, ℕ, List, [], ◌∷◌, map, Bool, Option, None, Some, option_and_then, codes}
use Rattle.std.proofs.Common.{refl, ap, ◌∙◌}
use Rattle.std.proofs.lemmas.Slice.Eq.{bytes_eq-Decides}
use Rattle.std.specs.Prelude.{bytes_eq}
use Rattle.json.specs.Json.{Json, Members, object, member, no_members, string, array, item, no_items, document}
use Rattle.yf_report.specs.declared.problem.Range.{Range}
use Rattle.yf_report.specs.declared.problem.Severity.{Severity}
use Rattle.yf_report.specs.declared.problem.Severity.TheVariants.{Error, Warning}
use Rattle.yf_report.specs.Problems.{Note, Fits, NoteFits, severity_name}
use Rattle.yf_report.specs.Fixes.{Fixed, Replaced, FixFits, AllFitFixed}
use Rattle.yf_report.specs.ProblemsJson.{member_named}
use Rattle.yf_report.specs.Sarif.{Described, uri_of, text_json, location_json, related_members, properties_json}
use Rattle.yf_report.specs.Sarif.{fix_members, replacement_json, replacement_items}
use Rattle.yf_report.specs.Sarif.{result_json, result_items, log_json}
use Rattle.yf_report.specs.SarifRead.{logged, result_from, results_from, results_in, members_in}
use Rattle.yf_report.specs.SarifRead.{all_replaced_in, fix_in, fixable_in, in_object, replaced_in}
use Rattle.yf_report.proofs.JsonLemmas.{range_back, read_range}

-- ---- the fix

abbrev swap : Range → List ℕ → Replaced
swap range text = record { range = range; text = text }

replaced_back : (range : Range) (text : List ℕ) → Fits range →
    option_and_then replaced_in (members_in (replacement_json (swap range text))) ≡ Some (swap range text)
replaced_back range [] fits = ap (λ q. Some (swap q [])) (range_back range fits)
replaced_back range (c ∷ text) fits = ap (λ q. Some (swap q (c ∷ text))) (range_back range fits)

all_replaced_back : (rs : List Replaced) → FixFits rs → all_replaced_in (replacement_items rs) ≡ Some rs
all_replaced_back [] fits = refl
all_replaced_back (r ∷ rs) fits = rw (replaced_back r.range r.text fits.0, all_replaced_back rs fits.1) refl

fix_back : (uri : List ℕ) (fix : List Replaced) (fixable : Bool) → FixFits fix →
    fix_in uri (member_named (codes "fixes") (fix_members uri fix
    (member (codes "properties") (properties_json fixable) no_members))) ≡ Some fix
fix_back uri [] fixable fits = refl
fix_back uri (r ∷ rs) fixable fits =
    rw ((bytes_eq-Decides uri uri).1 refl, all_replaced_back (r ∷ rs) fits) refl

-- the other members after a fix

fixable_back : (uri : List ℕ) (fix : List Replaced) (fixable : Bool) →
    in_object fixable_in (codes "properties") (fix_members uri fix
    (member (codes "properties") (properties_json fixable) no_members)) ≡ Some fixable
fixable_back uri [] fixable = refl
fixable_back uri (r ∷ rs) fixable = refl

none_related : (uri : List ℕ) (fix : List Replaced) (fixable : Bool) →
    member_named (codes "relatedLocations") (fix_members uri fix
    (member (codes "properties") (properties_json fixable) no_members)) ≡ None
none_related uri [] fixable = refl
none_related uri (r ∷ rs) fixable = refl

-- ---- the object of a result, with its parts as variables

abbrev result : List ℕ → Range → List ℕ → Severity → List ℕ → Option Note → Members → Json
result uri r rule s message related more =
    object (member (codes "ruleId") (string rule)
    (member (codes "level") (string (severity_name s))
    (member (codes "message") (text_json message)
    (member (codes "locations") (array (item (location_json uri r) no_items))
    (related_members uri related more)))))

abbrev found : List ℕ → Range → List ℕ → Severity → List ℕ → Bool → Option Note → List Replaced → Fixed
found uri r rule s message fixable related fix = record {
  finding = record {
    file = Some uri;
    range = r;
    rule = rule;
    severity = s;
    message = message;
    fixable = fixable;
    related = related;
  };
  fix = fix;
}

abbrev note_with : List ℕ → Range → Note
note_with message r = record { range = r; message = message }

module _ (uri : List ℕ) (r : Range) (rule : List ℕ) (message : List ℕ) (fixable : Bool) (fix : List Replaced)
    (more : Members) (fits : Fits r) (fixed : fix_in uri (member_named (codes "fixes") more) ≡ Some fix)
    (flag : in_object fixable_in (codes "properties") more ≡ Some fixable)
    (none : member_named (codes "relatedLocations") more ≡ None) where
  result_back : (s : Severity) (related : Option Note) → NoteFits related →
      option_and_then result_from (members_in (result uri r rule s message related more))
      ≡ Some (found uri r rule s message fixable related fix)
  result_back Error None other =
      rw (none, fixed, flag) (ap (λ q. Some (found uri q rule Error message fixable None fix)) (range_back r fits))
  result_back Warning None other =
      rw (none, fixed, flag) (ap (λ q. Some (found uri q rule Warning message fixable None fix)) (range_back r fits))
  result_back Error (Some n) other =
      rw (fixed, flag)
      (ap (λ q. Some (found uri q rule Error message fixable (Some (note_with n.message (read_range n.range))) fix))
      (range_back r fits)
      ∙ ap (λ q. Some (found uri r rule Error message fixable (Some (note_with n.message q)) fix))
      (range_back n.range other))
  result_back Warning (Some n) other =
      rw (fixed, flag)
      (ap (λ q. Some (found uri q rule Warning message fixable (Some (note_with n.message (read_range n.range))) fix))
      (range_back r fits)
      ∙ ap (λ q. Some (found uri r rule Warning message fixable (Some (note_with n.message q)) fix))
      (range_back n.range other))

-- ---- the log

items_back : (fs : List Fixed) → AllFitFixed fs → results_from (result_items fs) ≡ Some (map logged fs)
unfolding result_json
items_back [] fits = refl
items_back (f ∷ fs) fits =
    let uri = uri_of f.finding.file in
    let fixable = f.finding.fixable in
    let one = result_back uri f.finding.range f.finding.rule f.finding.message fixable f.fix
    (fix_members uri f.fix (member (codes "properties") (properties_json fixable) no_members)) fits.0.0.own
    (fix_back uri f.fix fixable fits.0.1) (fixable_back uri f.fix fixable) (none_related uri f.fix fixable)
    f.finding.severity f.finding.related fits.0.0.other in
    rw (one, items_back fs fits.1) refl

pub results_back : (rs : List Described) (fs : List Fixed) (text : List ℕ) → document text ≡ Some (log_json rs fs) →
    AllFitFixed fs → option_and_then results_in (document text) ≡ Some (map logged fs)
unfolding results_in
results_back rs fs text e fits = ap (option_and_then results_in) e ∙ items_back fs fits
