-- The tags of a Checkstyle document are plain and nested.
use Rattle.std.proofs.Common.{◌≡◌, ℕ, List, [], ◌∷◌, ◌++◌, Bool, true, false, Option, None}
use Rattle.std.proofs.Common.{Some, flat_map, codes, decimal, refl}
use Rattle.std.proofs.Common.{sym, ap, ◌∙◌, append_assoc, append-nil, if◌then◌else◌}
use Rattle.std.proofs.Common.{◌+◌, ◌<◌, ◌≤◌, length, map, drop, get_or}
use Rattle.std.specs.Prelude.{bytes_eq}
use Rattle.std.proofs.lemmas.List.{drop_all, drop_more}
use Rattle.std.proofs.lemmas.List.Concat.{flat_map-append}
use Rattle.yf_report.specs.declared.problem.Problem.{Problem}
use Rattle.yf_report.specs.Problems.{Finding, finding_of, severity_name}
use Rattle.yf_report.specs.Xml.{Tag, close_tag, empty_tag, declaration, is_nested, tags_in}
use Rattle.yf_report.specs.XmlText.{allowed, tag_text, document_text}
use Rattle.yf_report.specs.Checkstyle.{attribute, name_or_stdin, error_tag, file_start, file_end}
use Rattle.yf_report.specs.Checkstyle.{file_change, file_tags, checkstyle_start, checkstyle_tags}
use Rattle.yf_report.proofs.XmlLemmas.{IsPlain, AllPlain, plain-append}
use Rattle.yf_report.proofs.XmlLemmas.{attribute_by_test, plain_by_test}
use Rattle.yf_report.proofs.XmlLemmas.{document_back, document_written, severity_allowed}

error_plain : (f : Finding) → IsPlain (error_tag f)
unfolding error_tag
error_plain f = (
  plain_by_test 101 (codes "rror") refl,
  (
    attribute_by_test (codes "line") (decimal f.range.line) refl,
    (
      attribute_by_test (codes "column") (decimal f.range.column) refl,
      (
        attribute_by_test (codes "severity") (severity_name f.severity) refl,
        (
          attribute_by_test (codes "message") (allowed f.message) refl,
          (attribute_by_test (codes "source") (allowed f.rule) refl, tt),
        ),
      ),
    ),
  ),
)

close_plain : IsPlain (close_tag (codes "file"))
close_plain = plain_by_test 102 (codes "ile") refl

start_plain : (name : List ℕ) → IsPlain (file_start name)
start_plain name = (plain_by_test 102 (codes "ile") refl, (attribute_by_test (codes "name") (allowed name) refl, tt))

end_plain : (last : Option (List ℕ)) → AllPlain (file_end last)
end_plain None = tt
end_plain (Some name) = (close_plain, tt)

other_plain : (b : Bool) (name : List ℕ) → AllPlain (if b then [] else close_tag (codes "file") ∷ file_start name ∷ [])
other_plain true name = tt
other_plain false name = (close_plain, (start_plain name, tt))

change_plain : (last : Option (List ℕ)) (name : List ℕ) → AllPlain (file_change last name)
change_plain None name = (start_plain name, tt)
change_plain (Some before) name = other_plain (bytes_eq before name) name

files_plain : (last : Option (List ℕ)) (fs : List Finding) → AllPlain (file_tags last fs)
unfolding file_tags
files_plain last [] = end_plain last
files_plain last (f ∷ fs) =
    plain-append (file_change last (name_or_stdin f.file)) _ (change_plain last (name_or_stdin f.file))
    (error_plain f, files_plain (Some (name_or_stdin f.file)) fs)

all_plain : (fs : List Finding) → AllPlain (checkstyle_tags fs)
unfolding checkstyle_tags
all_plain fs = (
  (plain_by_test 99 (codes "heckstyle") refl, (attribute_by_test (codes "version") (codes "4.3") refl, tt)),
  plain-append (file_tags None fs) _ (files_plain None fs) (plain_by_test 99 (codes "heckstyle") refl, tt),
)

-- ---- nesting

abbrev open_names : Option (List ℕ) → List (List ℕ)
open_names None = codes "checkstyle" ∷ []
open_names (Some name) = codes "file" ∷ codes "checkstyle" ∷ []

abbrev last_tags : List Tag
last_tags = close_tag (codes "checkstyle") ∷ []

other_nested : (b : Bool) (name : List ℕ) (rest : List Tag) →
    is_nested (codes "file" ∷ codes "checkstyle" ∷ []) rest ≡ true →
    is_nested (codes "file" ∷ codes "checkstyle" ∷ [])
    ((if b then [] else close_tag (codes "file") ∷ file_start name ∷ []) ++ rest) ≡ true
other_nested true name rest h = h
other_nested false name rest h = h

change_nested : (last : Option (List ℕ)) (name : List ℕ) (rest : List Tag) →
    is_nested (codes "file" ∷ codes "checkstyle" ∷ []) rest ≡ true →
    is_nested (open_names last) (file_change last name ++ rest) ≡ true
change_nested None name rest h = h
change_nested (Some before) name rest h = other_nested (bytes_eq before name) name rest h

end_nested : (last : Option (List ℕ)) → is_nested (open_names last) (file_end last ++ last_tags) ≡ true
end_nested None = refl
end_nested (Some name) = refl

error_nested : (f : Finding) (names : List (List ℕ)) (rest : List Tag) → is_nested names rest ≡ true →
    is_nested names (error_tag f ∷ rest) ≡ true
unfolding error_tag
error_nested f [] rest h = h
error_nested f (name ∷ names) rest h = h

files_nested : (last : Option (List ℕ)) (fs : List Finding) →
    is_nested (open_names last) (file_tags last fs ++ last_tags) ≡ true
unfolding file_tags
files_nested last [] = end_nested last
files_nested last (f ∷ fs) =
    let name = name_or_stdin f.file in
    let rest = file_tags (Some name) fs ++ last_tags in
    ap (is_nested (open_names last))
    (append_assoc (file_change last name) (error_tag f ∷ file_tags (Some name) fs) last_tags)
    ∙ change_nested last name (error_tag f ∷ rest) (error_nested f _ rest (files_nested (Some name) fs))

pub checkstyle_nested : (fs : List Finding) → is_nested [] (checkstyle_tags fs) ≡ true
unfolding checkstyle_tags
checkstyle_nested fs = files_nested None fs

pub checkstyle_back : (fs : List Finding) {a b c e g : List ℕ} → a ≡ declaration ++ 62 ∷ [] →
    b ≡ a ++ tag_text checkstyle_start → c ≡ b ++ flat_map tag_text (file_tags None fs) →
    e ≡ c ++ tag_text (close_tag (codes "checkstyle")) → g ≡ e ++ 10 ∷ [] → tags_in g ≡ Some (checkstyle_tags fs)
unfolding checkstyle_tags document_text
checkstyle_back fs {a} {b} {c} {e} {g} p q r s t =
    document_back (checkstyle_tags fs) g (all_plain fs)
    (document_written declaration _ _ _ p q r s t
    ∙ ap (λ l. declaration ++ 62 ∷ ((tag_text checkstyle_start ++ l) ++ 10 ∷ []))
    (ap (λ l. flat_map tag_text (file_tags None fs) ++ l) (sym (append-nil (tag_text (close_tag (codes "checkstyle")))))
    ∙ sym (flat_map-append tag_text (file_tags None fs) last_tags)))

-- ---- the text

-- the tag of a problem, with a name equal to its severity's
pub error_tag_is : (f : Finding) (name : List ℕ) → name ≡ severity_name f.severity →
    empty_tag (codes "error")
    (attribute (codes "line") (decimal f.range.line)
    ∷ attribute (codes "column") (decimal f.range.column)
    ∷ attribute (codes "severity") (allowed name)
    ∷ attribute (codes "message") (allowed f.message)
    ∷ attribute (codes "source") (allowed f.rule) ∷ []) ≡ error_tag f
unfolding error_tag
error_tag_is f name e =
    ap (λ v. empty_tag (codes "error")
    (attribute (codes "line") (decimal f.range.line)
    ∷ attribute (codes "column") (decimal f.range.column)
    ∷ attribute (codes "severity") v
    ∷ attribute (codes "message") (allowed f.message)
    ∷ attribute (codes "source") (allowed f.rule) ∷ []))
    (ap allowed e ∙ severity_allowed f.severity)

-- a list after three parts; the last of them is taken together with the list
three_parts : (a x y z : List ℕ) {b c : List ℕ} → b ≡ a ++ x → c ≡ b ++ y → c ++ z ≡ a ++ (x ++ (y ++ z))
three_parts a x y z p q = rw (q, p) (simp append_assoc)

pub files_more : (i : ℕ) (ps : List Problem) (d : Problem) (last : Option (List ℕ)) (name : List ℕ) (a : List ℕ)
    {b c all : List ℕ} → i < length ps → name ≡ name_or_stdin (finding_of (get_or ps i d)).file →
    b ≡ a ++ flat_map tag_text (file_change last name) → c ≡ b ++ tag_text (error_tag (finding_of (get_or ps i d))) →
    a ++ flat_map tag_text (file_tags last (map finding_of (drop i ps))) ≡ all →
    c ++ flat_map tag_text (file_tags (Some name) (map finding_of (drop (i + 1) ps))) ≡ all
unfolding file_tags
files_more i ps d last name a {b} {c} within e p q before =
    let f = finding_of (get_or ps i d) in
    let rest = map finding_of (drop (i + 1) ps) in
    let more = λ (n : List ℕ). error_tag f ∷ file_tags (Some n) rest in
    three_parts a (flat_map tag_text (file_change last name)) (tag_text (error_tag f))
    (flat_map tag_text (file_tags (Some name) rest)) p q
    ∙ ap (λ l. a ++ l) (sym (flat_map-append tag_text (file_change last name) (more name)))
    ∙ ap (λ n. a ++ flat_map tag_text (file_change last n ++ more n)) e
    ∙ ap (λ l. a ++ flat_map tag_text (file_tags last (map finding_of l))) (sym (drop_more ps i d within))
    ∙ before

pub files_end : (i : ℕ) (ps : List Problem) (last : Option (List ℕ)) (a : List ℕ) {b all : List ℕ} →
    length ps ≤ i → b ≡ a ++ flat_map tag_text (file_end last) →
    a ++ flat_map tag_text (file_tags last (map finding_of (drop i ps))) ≡ all → b ≡ all
unfolding file_tags
files_end i ps last a all e before =
    e ∙ ap (λ l. a ++ flat_map tag_text (file_tags last (map finding_of l))) (sym (drop_all i ps all)) ∙ before
