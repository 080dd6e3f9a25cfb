-- The written tags are read as these tags.
use Rattle.std.proofs.Common.{◌≡◌, ℕ, ◌<◌, List, [], ◌∷◌, ◌++◌}
use Rattle.std.proofs.Common.{length, Bool, true, false, ◌||◌, ◌==◌}
use Rattle.std.proofs.Common.{None, Some, option_map, option_and_then, flat_map, refl, sym}
use Rattle.std.proofs.Common.{ap, ◌∙◌, subst, inl, inr, arith, append_assoc, append-nil, if◌then◌else◌}
use Rattle.std.specs.Prelude.{⊤, bytes_eq}
use Rattle.std.specs.List.{slice_split, list_any}
use Rattle.std.proofs.lemmas.Bool.{or_from, or_parts}
use Rattle.std.proofs.lemmas.Bool.Decides.{eqb_tells}
use Rattle.std.proofs.lemmas.List.Splits.{slice_split_at, slice_split_none, length-slice_split}
use Rattle.yf_report.specs.Xml.{Attribute, Tag, open_tag, close_tag}
use Rattle.yf_report.specs.Xml.{empty_tag, value_in, name_in, attribute_in, attributes_in}
use Rattle.yf_report.specs.Xml.{tag_with, tag_from, tag_in}
use Rattle.yf_report.specs.Xml.{tags_of_parts, tags_after, tags_in}
use Rattle.yf_report.specs.Commands.{split_once}
use Rattle.yf_report.specs.declared.problem.Severity.{Severity}
use Rattle.yf_report.specs.declared.problem.Severity.TheVariants.{Error, Warning}
use Rattle.yf_report.specs.Problems.{severity_name}
use Rattle.yf_report.specs.XmlText.{allowed, xml_byte, xml_text, attribute_text, inner_text, tag_text, document_text}
use Rattle.yf_report.proofs.FreeLemmas.{Free, all_free, free-append, free-flat_map}
use Rattle.yf_report.proofs.FreeLemmas.{free_weaker, none_pass, free_by_test, split_once_at}

-- ---- the value of an attribute

value_step : (x : ℕ) (rest : List ℕ) → value_in None (xml_byte x ++ rest) ≡ option_map (λ l. x ∷ l) (value_in None rest)
unfolding value_in
value_step x rest =
    let P : ℕ → Type 0 = λ v. value_in None (xml_byte v ++ rest) ≡ option_map (λ l. v ∷ l) (value_in None rest) in
    elim (eqb_tells x 38) [
      | inl a ↦ subst P (sym a.1) refl
      | inr a ↦ elim (eqb_tells x 60) [
        | inl b ↦ subst P (sym b.1) refl
        | inr b ↦ elim (eqb_tells x 62) [
          | inl c ↦ subst P (sym c.1) refl
          | inr c ↦ elim (eqb_tells x 34) [
            | inl d ↦ subst P (sym d.1) refl
            | inr d ↦ elim (eqb_tells x 9) [
              | inl e ↦ subst P (sym e.1) refl
              | inr e ↦ elim (eqb_tells x 10) [
                | inl f ↦ subst P (sym f.1) refl
                | inr f ↦ elim (eqb_tells x 13) [
                  | inl g ↦ subst P (sym g.1) refl
                  | inr g ↦ rw (a.0, b.0, c.0, d.0, e.0, f.0, g.0, a.0) refl
                ]
              ]
            ]
          ]
        ]
      ]
    ]

value_back : (s : List ℕ) → value_in None (xml_text s) ≡ Some s
unfolding value_in
value_back [] = refl
value_back (x ∷ s) = value_step x (xml_text s) ∙ ap (option_map (λ l. x ∷ l)) (value_back s)

-- ---- no byte ends the part that contains it

abbrev pub is_angle : ℕ → Bool
is_angle b = b == 60 || b == 62

-- a byte that ends a value
abbrev pub is_mark : ℕ → Bool
is_mark b = is_angle b || b == 34

-- a byte that ends a name
abbrev pub is_sign : ℕ → Bool
is_sign b = is_mark b || (b == 61 || (b == 32 || b == 47))

xml_byte_free : (x : ℕ) → Free is_mark (xml_byte x)
xml_byte_free x =
    let P : ℕ → Type 0 = λ v. Free is_mark (xml_byte v) in
    elim (eqb_tells x 38) [
      | inl a ↦ subst P (sym a.1) (free_by_test is_mark (xml_byte 38) refl)
      | inr a ↦ elim (eqb_tells x 60) [
        | inl b ↦ subst P (sym b.1) (free_by_test is_mark (xml_byte 60) refl)
        | inr b ↦ elim (eqb_tells x 62) [
          | inl c ↦ subst P (sym c.1) (free_by_test is_mark (xml_byte 62) refl)
          | inr c ↦ elim (eqb_tells x 34) [
            | inl d ↦ subst P (sym d.1) (free_by_test is_mark (xml_byte 34) refl)
            | inr d ↦ elim (eqb_tells x 9) [
              | inl e ↦ subst P (sym e.1) (free_by_test is_mark (xml_byte 9) refl)
              | inr e ↦ elim (eqb_tells x 10) [
                | inl f ↦ subst P (sym f.1) (free_by_test is_mark (xml_byte 10) refl)
                | inr f ↦ elim (eqb_tells x 13) [
                  | inl g ↦ subst P (sym g.1) (free_by_test is_mark (xml_byte 13) refl)
                  | inr g ↦ rw (a.0, b.0, c.0, d.0, e.0, f.0, g.0) (or_from _ _ (or_from _ _ b.0 c.0) d.0, tt)
                ]
              ]
            ]
          ]
        ]
      ]
    ]

no_angle : (b : ℕ) → is_mark b ≡ false → is_angle b ≡ false
no_angle b h = (or_parts (is_angle b) (b == 34) h).0

no_quote : (b : ℕ) → is_mark b ≡ false → (b == 34) ≡ false
no_quote b h = (or_parts (is_angle b) (b == 34) h).1

no_mark : (b : ℕ) → is_sign b ≡ false → is_mark b ≡ false
no_mark b h = (or_parts (is_mark b) (b == 61 || (b == 32 || b == 47)) h).0

no_equals : (b : ℕ) → is_sign b ≡ false → (b == 61) ≡ false
no_equals b h = (or_parts (b == 61) (b == 32 || b == 47) (or_parts (is_mark b) (b == 61 || (b == 32 || b == 47)) h).1).0

no_space : (b : ℕ) → is_sign b ≡ false → (b == 32) ≡ false
no_space b h = (or_parts (b == 32) (b == 47)
    (or_parts (b == 61) (b == 32 || b == 47) (or_parts (is_mark b) (b == 61 || (b == 32 || b == 47)) h).1).1).0

no_slash : (b : ℕ) → is_sign b ≡ false → (b == 47) ≡ false
no_slash b h = (or_parts (b == 32) (b == 47)
    (or_parts (b == 61) (b == 32 || b == 47) (or_parts (is_mark b) (b == 61 || (b == 32 || b == 47)) h).1).1).1

abbrev pub is_quote : ℕ → Bool
is_quote b = b == 34

quote_free : (s : List ℕ) → Free is_quote (xml_text s)
quote_free s = free_weaker is_mark is_quote no_quote (xml_text s) (free-flat_map is_mark xml_byte xml_byte_free s)

-- ---- attributes

abbrev pub PlainAttribute : Attribute → Type 0
PlainAttribute a = Free is_sign a.name

abbrev pub ArePlain : List Attribute → Type 0
ArePlain [] = ⊤
ArePlain (a ∷ more) = PlainAttribute a × ArePlain more

-- ` name=`
abbrev front : Attribute → List ℕ
front a = 32 ∷ (a.name ++ 61 ∷ [])

front_free : (a : Attribute) → PlainAttribute a → Free is_mark (front a)
front_free a plain = (
  refl,
  free-append is_mark a.name (61 ∷ []) (free_weaker is_sign is_mark no_mark a.name plain)
      (refl, tt),
)

-- the parts between the quotes
abbrev parts : List Attribute → List ℕ → List (List ℕ)
parts [] tail = tail ∷ []
parts (a ∷ more) tail = front a ∷ xml_text a.value ∷ parts more tail

attribute_joined : (a : Attribute) (rest : List ℕ) → attribute_text a ++ rest ≡ front a ++ 34
    ∷ (xml_text a.value ++ 34 ∷ rest)
attribute_joined a rest = simp append_assoc

split_attributes : (list : List Attribute) (tail : List ℕ) → ArePlain list → Free is_quote tail →
    slice_split is_quote (flat_map attribute_text list ++ tail) ≡ parts list tail
split_attributes [] tail plain free = slice_split_none is_quote tail (all_free is_quote tail free)
split_attributes (a ∷ more) tail plain free =
    let rest = flat_map attribute_text more ++ tail in
    let text = xml_text a.value in
    ap (slice_split is_quote)
    (append_assoc (attribute_text a) (flat_map attribute_text more) tail ∙ attribute_joined a rest)
    ∙ slice_split_at is_quote (front a) 34 (text ++ 34 ∷ rest)
    (all_free is_quote (front a) (free_weaker is_mark is_quote no_quote (front a) (front_free a plain.0))) refl
    ∙ ap (λ l. front a ∷ l)
    (slice_split_at is_quote text 34 rest (all_free is_quote text (quote_free a.value)) refl
    ∙ ap (λ l. text ∷ l) (split_attributes more tail plain.1 free))

name_back : (name : List ℕ) → Free is_sign name → name_in (32 ∷ (name ++ 61 ∷ [])) ≡ Some name
name_back name plain =
    ap (option_and_then (λ p. if bytes_eq p.1 [] then Some p.0 else None))
    (split_once_at 61 name [] refl (free_weaker is_sign (λ b. b == 61) no_equals name plain))

attribute_back : (a : Attribute) → PlainAttribute a → attribute_in (front a) (xml_text a.value) ≡ Some a
attribute_back a plain = rw (name_back a.name plain, value_back a.value) refl

attributes_back : (list : List Attribute) (tail : List ℕ) (empty : Bool) → ArePlain list →
    attributes_in (tail ∷ []) ≡ Some ([], empty) → attributes_in (parts list tail) ≡ Some (list, empty)
attributes_back [] tail empty plain last = last
attributes_back (a ∷ more) tail empty plain last =
    rw (attribute_back a plain.0, attributes_back more tail empty plain.1 last) refl

value_free : (s : List ℕ) → Free is_angle (xml_text s)
value_free s = free_weaker is_mark is_angle no_angle (xml_text s) (free-flat_map is_mark xml_byte xml_byte_free s)

attributes_free : (list : List Attribute) → ArePlain list → Free is_angle (flat_map attribute_text list)
attributes_free [] plain = tt
attributes_free (a ∷ more) plain =
    let rest = flat_map attribute_text more in
    subst (Free is_angle) (sym (attribute_joined a rest))
    (free-append is_angle (front a) (34 ∷ (xml_text a.value ++ 34 ∷ rest))
    (free_weaker is_mark is_angle no_angle (front a) (front_free a plain.0)) (
      refl,
      free-append is_angle (xml_text a.value) (34 ∷ rest) (value_free a.value)
          (refl, attributes_free more plain.1),
    ))

-- ---- a tag

-- a name with a first character, and no sign in it
abbrev pub PlainName : List ℕ → Type 0
PlainName [] = ⊥
PlainName (x ∷ xs) = Free is_sign (x ∷ xs)

abbrev pub SomePlain : List Attribute → Type 0
SomePlain [] = ⊥
SomePlain (a ∷ more) = PlainAttribute a × ArePlain more

abbrev pub IsPlain : Tag → Type 0
IsPlain (open_tag name list) = PlainName name × SomePlain list
IsPlain (close_tag name) = PlainName name
IsPlain (empty_tag name list) = PlainName name × SomePlain list

-- a name, its attributes and the rest of the tag
element_back : (name : List ℕ) (list : List Attribute) (tail : List ℕ) (empty : Bool) → PlainName name →
    SomePlain list → Free is_quote tail → attributes_in (tail ∷ []) ≡ Some ([], empty) →
    tag_from (name ++ (flat_map attribute_text list ++ tail)) ≡ Some (tag_with name (list, empty))
element_back [] list tail empty named plain free last = absurd named
element_back (x ∷ xs) [] tail empty named plain free last = absurd plain
element_back (x ∷ xs) (a ∷ more) tail empty named plain free last =
    let list = a ∷ more in
    let inner = (a.name ++ 61 ∷ 34 ∷ (xml_text a.value ++ 34 ∷ [])) ++ flat_map attribute_text more ++ tail in
    let found : split_once 32 ((x ∷ xs) ++ 32 ∷ inner) ≡ Some (x ∷ xs, inner) =
    split_once_at 32 (x ∷ xs) inner refl (free_weaker is_sign (λ b. b == 32) no_space (x ∷ xs) named) in
    rw (no_slash x named.0) (
    ap (option_and_then (λ p. option_map (tag_with p.0) (attributes_in (slice_split is_quote (32 ∷ p.1))))) found
    ∙ ap (λ l. option_map (tag_with (x ∷ xs)) (attributes_in l)) (split_attributes list tail plain free)
    ∙ ap (option_map (tag_with (x ∷ xs))) (attributes_back list tail empty plain last))

close_back : (name : List ℕ) → tag_from (47 ∷ name) ≡ Some (close_tag name)
close_back name = refl

inner_back : (t : Tag) → IsPlain t → tag_from (inner_text t) ≡ Some t
inner_back (open_tag name list) plain =
    ap (λ l. tag_from (name ++ l)) (sym (append-nil (flat_map attribute_text list)))
    ∙ element_back name list [] false plain.0 plain.1 tt refl
inner_back (close_tag name) plain = close_back name
inner_back (empty_tag name list) plain = element_back name list (47 ∷ []) true plain.0 plain.1 (refl, tt) refl

all_plain : (list : List Attribute) → SomePlain list → ArePlain list
all_plain [] plain = absurd plain
all_plain (a ∷ more) plain = plain

name_free : (name : List ℕ) → PlainName name → Free is_angle name
name_free [] named = absurd named
name_free (x ∷ xs) named = free_weaker is_sign is_angle (λ b h. no_angle b (no_mark b h)) (x ∷ xs) named

inner_free : (t : Tag) → IsPlain t → Free is_angle (inner_text t)
inner_free (open_tag name list) plain =
    free-append is_angle name (flat_map attribute_text list) (name_free name plain.0)
    (attributes_free list (all_plain list plain.1))
inner_free (close_tag name) plain = (refl, name_free name plain)
inner_free (empty_tag name list) plain =
    free-append is_angle name (flat_map attribute_text list ++ 47 ∷ []) (name_free name plain.0)
    (free-append is_angle (flat_map attribute_text list) (47 ∷ []) (attributes_free list (all_plain list plain.1))
    (refl, tt))

no_start : (b : ℕ) → is_angle b ≡ false → (b == 60) ≡ false
no_start b h = (or_parts (b == 60) (b == 62) h).0

no_end : (b : ℕ) → is_angle b ≡ false → (b == 62) ≡ false
no_end b h = (or_parts (b == 60) (b == 62) h).1

not_any : (p : ℕ → Bool) (xs : List ℕ) → Free p xs → list_any p xs ≡ false
not_any p [] free = refl
not_any p (x ∷ xs) free = rw free.0 (not_any p xs free.1)

tag_back : (t : Tag) → IsPlain t → tag_in (10 ∷ 60 ∷ inner_text t) ≡ Some t
unfolding tag_in split_once
tag_back t plain = rw
    (not_any (λ b. b == 60) (inner_text t)
    (free_weaker is_angle (λ b. b == 60) no_start (inner_text t) (inner_free t plain))) (inner_back t plain)

-- ---- a document

abbrev pub AllPlain : List Tag → Type 0
AllPlain [] = ⊤
AllPlain (t ∷ ts) = IsPlain t × AllPlain ts

pub plain-append : (ts us : List Tag) → AllPlain ts → AllPlain us → AllPlain (ts ++ us)
plain-append [] us h k = k
plain-append (t ∷ ts) us h k = (h.0, plain-append ts us h.1 k)

parts_step : (part : List ℕ) (rest : List (List ℕ)) → 0 < length rest →
    tags_of_parts (part ∷ rest) ≡ option_and_then (λ t. option_map (λ ts. t ∷ ts) (tags_of_parts rest)) (tag_in part)
parts_step part [] h = absurd (omega arith)
parts_step part (next ∷ more) h = refl

tag_joined : (t : Tag) (more last : List ℕ) → (tag_text t ++ more) ++ last ≡ (10 ∷ 60 ∷ inner_text t) ++ 62
    ∷ (more ++ last)
unfolding tag_text
tag_joined t more last = simp append_assoc

tags_back : (ts : List Tag) → AllPlain ts →
    tags_of_parts (slice_split (λ b. b == 62) (flat_map tag_text ts ++ 10 ∷ [])) ≡ Some ts
tags_back [] plain = refl
tags_back (t ∷ ts) plain =
    let p : ℕ → Bool = λ b. b == 62 in
    let rest = flat_map tag_text ts ++ 10 ∷ [] in
    ap (λ l. tags_of_parts (slice_split p l)) (tag_joined t (flat_map tag_text ts) (10 ∷ []))
    ∙ ap tags_of_parts (slice_split_at p (10 ∷ 60 ∷ inner_text t) 62 rest
    (all_free p (10 ∷ 60 ∷ inner_text t)
    (refl, (refl, free_weaker is_angle p no_end (inner_text t) (inner_free t plain.0)))) refl)
    ∙ parts_step (10 ∷ 60 ∷ inner_text t) (slice_split p rest) (omega (arith, length-slice_split p rest))
    ∙ rw (tag_back t plain.0, tags_back ts plain.1) refl

pub document_back : (ts : List Tag) (text : List ℕ) → AllPlain ts → text ≡ document_text ts → tags_in text ≡ Some ts
unfolding tags_in document_text
document_back ts text plain e = ap (λ l. tags_after (slice_split (λ b. b == 62) l)) e ∙ tags_back ts plain

-- the parts of a document, one after another; `middle` is the text of the tags between the first and the last ones
pub document_written : (d s middle close : List ℕ) {a b c e g : List ℕ} → a ≡ d ++ 62 ∷ [] → b ≡ a ++ s →
    c ≡ b ++ middle → e ≡ c ++ close → g ≡ e ++ 10 ∷ [] → g ≡ d ++ 62 ∷ ((s ++ (middle ++ close)) ++ 10 ∷ [])
document_written d s middle close p q r t u = rw (u, t, r, q, p) (simp append_assoc)

pub severity_allowed : (s : Severity) → allowed (severity_name s) ≡ severity_name s
unfolding allowed
severity_allowed Error = refl
severity_allowed Warning = refl

-- a name that is written, by a test that computes
pub plain_by_test : (x : ℕ) (xs : List ℕ) → none_pass is_sign (x ∷ xs) ≡ true → PlainName (x ∷ xs)
plain_by_test x xs h = free_by_test is_sign (x ∷ xs) h

pub attribute_by_test : (name value : List ℕ) → none_pass is_sign name ≡ true →
    PlainAttribute (record { name = name; value = value })
attribute_by_test name value h = free_by_test is_sign name h
