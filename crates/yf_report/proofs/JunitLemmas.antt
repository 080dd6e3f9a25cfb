-- The tags of a JUnit document are plain and nested.
use Rattle.std.proofs.Common.{◌≡◌, ℕ, ◌+◌, ◌≤◌, List, [], ◌∷◌, ◌++◌, length, map, true}
use Rattle.std.proofs.Common.{false, Some, flat_map, codes, decimal, refl}
use Rattle.std.proofs.Common.{sym, ap, ◌∙◌, append_assoc, append-nil, arith, if◌then◌else◌}
use Rattle.std.proofs.Common.{drop, ◌-◌}
use Rattle.std.proofs.lemmas.List.{drop_all, length-map}
use Rattle.std.proofs.lemmas.List.Concat.{flat_map-append}
use Rattle.yf_report.specs.declared.problem.Problem.{Problem}
use Rattle.yf_report.specs.declared.problem.Severity.{Severity}
use Rattle.yf_report.specs.declared.problem.Severity.TheVariants.{Error, Warning}
use Rattle.yf_report.specs.Problems.{Finding, finding_of, severity_name}
use Rattle.yf_report.specs.Xml.{Tag, open_tag, close_tag, empty_tag, declaration, is_nested, tags_in}
use Rattle.yf_report.specs.XmlText.{allowed, tag_text, document_text}
use Rattle.yf_report.specs.Checkstyle.{attribute, name_or_stdin}
use Rattle.yf_report.specs.Junit.{is_error, errors, outcome_name, outcome_tag, case_tags, suite_attributes, junit_tags}
use Rattle.yf_report.proofs.XmlLemmas.{AllPlain, PlainName, SomePlain}
use Rattle.yf_report.proofs.XmlLemmas.{plain-append, attribute_by_test, plain_by_test, document_back, severity_allowed}

outcome_plain : (s : Severity) → PlainName (outcome_name s)
outcome_plain Error = plain_by_test 101 (codes "rror") refl
outcome_plain Warning = plain_by_test 102 (codes "ailure") refl

case_plain : (f : Finding) → AllPlain (case_tags f)
unfolding case_tags
case_plain f = (
  (
    plain_by_test 116 (codes "estcase") refl,
    (
      attribute_by_test (codes "name") (allowed f.rule) refl,
      (
        attribute_by_test (codes "classname") (allowed (name_or_stdin f.file)) refl,
        (
          attribute_by_test (codes "line") (decimal f.range.line) refl,
          (attribute_by_test (codes "column") (decimal f.range.column) refl, tt),
        ),
      ),
    ),
  ),
  (
    (
      outcome_plain f.severity,
      (
        attribute_by_test (codes "type") (severity_name f.severity) refl,
        (attribute_by_test (codes "message") (allowed f.message) refl, tt),
      ),
    ),
    (plain_by_test 116 (codes "estcase") refl, tt),
  ),
)

cases_plain : (fs : List Finding) → AllPlain (flat_map case_tags fs)
cases_plain [] = tt
cases_plain (f ∷ fs) = plain-append (case_tags f) (flat_map case_tags fs) (case_plain f) (cases_plain fs)

suite_plain : (fs : List Finding) → SomePlain (suite_attributes fs)
suite_plain fs = (
  attribute_by_test (codes "name") (codes "yamlfmt") refl,
  (
    attribute_by_test (codes "tests") (decimal (length fs)) refl,
    (
      attribute_by_test (codes "failures") [] refl,
      (attribute_by_test (codes "errors") (decimal (errors fs)) refl, tt),
    ),
  ),
)

abbrev last_tags : List Tag
last_tags = close_tag (codes "testsuite") ∷ close_tag (codes "testsuites") ∷ []

all_plain : (fs : List Finding) → AllPlain (junit_tags fs)
unfolding junit_tags
all_plain fs = (
  (plain_by_test 116 (codes "estsuites") refl, suite_plain fs),
  (
    (plain_by_test 116 (codes "estsuite") refl, suite_plain fs),
    plain-append (flat_map case_tags fs) last_tags (cases_plain fs)
        (plain_by_test 116 (codes "estsuite") refl, (plain_by_test 116 (codes "estsuites") refl, tt)),
  ),
)

-- ---- nesting

abbrev open_names : List (List ℕ)
open_names = codes "testsuite" ∷ codes "testsuites" ∷ []

case_nested : (f : Finding) (rest : List Tag) → is_nested open_names rest ≡ true →
    is_nested open_names (case_tags f ++ rest) ≡ true
unfolding case_tags
case_nested f rest h = h

cases_nested : (fs : List Finding) → is_nested open_names (flat_map case_tags fs ++ last_tags) ≡ true
cases_nested [] = refl
cases_nested (f ∷ fs) =
    ap (is_nested open_names) (append_assoc (case_tags f) (flat_map case_tags fs) last_tags)
    ∙ case_nested f (flat_map case_tags fs ++ last_tags) (cases_nested fs)

pub junit_nested : (fs : List Finding) → is_nested [] (junit_tags fs) ≡ true
unfolding junit_tags
junit_nested fs = cases_nested fs

-- ---- the text

abbrev suites : List Finding → Tag
suites fs = open_tag (codes "testsuites") (suite_attributes fs)

abbrev suite : List Finding → Tag
suite fs = open_tag (codes "testsuite") (suite_attributes fs)

-- the parts of the document, one after another
parts : (d s s' middle close close' : List ℕ) {a b b' c e e' g : List ℕ} → a ≡ d ++ 62 ∷ [] → b ≡ a ++ s →
    b' ≡ b ++ s' → c ≡ b' ++ middle → e ≡ c ++ close → e' ≡ e ++ close' → g ≡ e' ++ 10 ∷ [] →
    g ≡ d ++ 62 ∷ ((s ++ (s' ++ (middle ++ (close ++ close')))) ++ 10 ∷ [])
parts d s s' middle close close' p q q' r t t' u = rw (u, t', t, r, q', q, p) (simp append_assoc)

pub junit_back : (fs : List Finding) {a b b' c e e' g : List ℕ} → a ≡ declaration ++ 62 ∷ [] →
    b ≡ a ++ tag_text (suites fs) → b' ≡ b ++ tag_text (suite fs) →
    c ≡ b' ++ flat_map tag_text (flat_map case_tags fs) → e ≡ c ++ tag_text (close_tag (codes "testsuite")) →
    e' ≡ e ++ tag_text (close_tag (codes "testsuites")) → g ≡ e' ++ 10 ∷ [] → tags_in g ≡ Some (junit_tags fs)
unfolding junit_tags document_text
junit_back fs {a} {b} {b'} {c} {e} {e'} {g} p q q' r s s' t =
    let one = tag_text (close_tag (codes "testsuite")) in
    let two = tag_text (close_tag (codes "testsuites")) in
    document_back (junit_tags fs) g (all_plain fs)
    (parts declaration _ _ _ one two p q q' r s s' t
    ∙ ap (λ l. declaration ++ 62 ∷ ((tag_text (suites fs) ++ (tag_text (suite fs) ++ l)) ++ 10 ∷ []))
    (ap (λ l. flat_map tag_text (flat_map case_tags fs) ++ (one ++ l)) (sym (append-nil two))
    ∙ sym (flat_map-append tag_text (flat_map case_tags fs) last_tags)))

pub errors-le : (fs : List Finding) → errors fs ≤ length fs
errors-le [] = omega arith
errors-le (f ∷ fs) = elim (is_error f.severity) as
    (λ b. (if b then 1 else 0) + errors fs ≤ length (f ∷ fs))
    [ true ↦ omega (arith, errors-le fs) | false ↦ omega (arith, errors-le fs) ]

pub outcome_tag_is : (f : Finding) (name severity : List ℕ) → name ≡ outcome_name f.severity →
    severity ≡ severity_name f.severity →
    empty_tag name
    (attribute (codes "type") (allowed severity) ∷ attribute (codes "message") (allowed f.message) ∷ [])
    ≡ outcome_tag f
outcome_tag_is f name severity e k =
    let message = attribute (codes "message") (allowed f.message) in
    ap (λ n. empty_tag n (attribute (codes "type") (allowed severity) ∷ message ∷ [])) e
    ∙ ap (λ v. empty_tag (outcome_name f.severity) (attribute (codes "type") v ∷ message ∷ []))
    (ap allowed k ∙ severity_allowed f.severity)

three_tags : (a x y z : List ℕ) {b c d : List ℕ} → b ≡ a ++ x → c ≡ b ++ y → d ≡ c ++ z →
    d ≡ a ++ (x ++ (y ++ (z ++ [])))
three_tags a x y z p q r = rw (r, q, p) (simp (append_assoc, append-nil))

pub case_written : (f : Finding) (class a : List ℕ) {b c d : List ℕ} → class ≡ name_or_stdin f.file →
    b ≡ a ++ tag_text (open_tag (codes "testcase")
    (attribute (codes "name") (allowed f.rule)
    ∷ attribute (codes "classname") (allowed class)
    ∷ attribute (codes "line") (decimal f.range.line)
    ∷ attribute (codes "column") (decimal f.range.column) ∷ [])) →
    c ≡ b ++ tag_text (outcome_tag f) → d ≡ c ++ tag_text (close_tag (codes "testcase")) →
    d ≡ a ++ flat_map tag_text (case_tags f)
unfolding case_tags
case_written f class a e p q r =
    three_tags a _ _ _ (p ∙ ap (λ n. a ++ tag_text (open_tag (codes "testcase")
    (attribute (codes "name") (allowed f.rule)
    ∷ attribute (codes "classname") (allowed n)
    ∷ attribute (codes "line") (decimal f.range.line)
    ∷ attribute (codes "column") (decimal f.range.column) ∷ []))) e) q r

pub suite_is : (ps : List Problem) (count : ℕ) → count ≡ errors (map finding_of ps) →
    attribute (codes "name") (allowed (codes "yamlfmt"))
    ∷ attribute (codes "tests") (decimal (length ps))
    ∷ attribute (codes "failures") (decimal (length ps - count))
    ∷ attribute (codes "errors") (decimal count) ∷ [] ≡ suite_attributes (map finding_of ps)
unfolding allowed
suite_is ps count e = rw (e, length-map ps finding_of) refl

pub cases_end : (i : ℕ) (ps : List Problem) (a : List ℕ) {all : List ℕ} → length ps ≤ i →
    a ++ flat_map tag_text (flat_map case_tags (map finding_of (drop i ps))) ≡ all → a ≡ all
cases_end i ps a all before =
    sym (append-nil a)
    ∙ ap (λ l. a ++ flat_map tag_text (flat_map case_tags (map finding_of l))) (sym (drop_all i ps all)) ∙ before
