-- Written workflow commands are read as these commands.
use Rattle.std.proofs.Common.{◌≡◌, ℕ, ◌<◌, List, [], ◌∷◌, ◌++◌}
use Rattle.std.proofs.Common.{length, map, Bool, true, false, ◌||◌, ◌==◌}
use Rattle.std.proofs.Common.{Option, None, Some, option_map, option_and_then, flat_map, codes, refl}
use Rattle.std.proofs.Common.{sym, ap, ◌∙◌, subst, inl, inr, arith, append_assoc, append-nil, if◌then◌else◌}
use Rattle.std.specs.Prelude.{filter, All, ⊤}
use Rattle.std.specs.List.{slice_split}
use Rattle.std.proofs.lemmas.Bool.{or_from, or_parts}
use Rattle.std.proofs.lemmas.Bool.Decides.{eqb_tells}
use Rattle.std.proofs.lemmas.List.Splits.{slice_split_at, slice_split_none, length-slice_split}
use Rattle.std.proofs.lemmas.List.Concat.{flat_map-append}
use Rattle.std.proofs.lemmas.List.{map-append}
use Rattle.yf_report.proofs.FreeLemmas.{Free, all_free, free-append}
use Rattle.yf_report.proofs.FreeLemmas.{free-flat_map, free_weaker, free_by_test, split_once_at}
use Rattle.yf_report.specs.declared.problem.Range.{Range}
use Rattle.yf_report.specs.declared.problem.Severity.{Severity}
use Rattle.yf_report.specs.declared.problem.Severity.TheVariants.{Error, Warning}
use Rattle.yf_report.specs.Problems.{Finding, severity_name}
use Rattle.yf_report.specs.Commands.{Property, Command, all_some, message_escape}
use Rattle.yf_report.specs.Commands.{value_escape, unescape, split_once, split_colons}
use Rattle.yf_report.specs.Commands.{property_in, properties_in, headed}
use Rattle.yf_report.specs.Commands.{command_in, is_line_end, commands_of_lines, commands_in}
use Rattle.yf_report.specs.CommandText.{property, file_properties, column_properties, range_properties, command_of}
use Rattle.yf_report.specs.CommandText.{is_among, errors_first, message_byte, value_byte}
use Rattle.yf_report.specs.CommandText.{message_text, value_text, property_text, more_text}
use Rattle.yf_report.specs.CommandText.{properties_text, command_text, line_text, lines_text}

-- ---- escapes

plain_step : (escape : ℕ → ℕ → Option ℕ) (x : ℕ) (rest : List ℕ) → (x == 37) ≡ false → unescape escape (x ∷ rest) ≡ x
    ∷ unescape escape rest
unfolding unescape
plain_step escape x [] n = refl
plain_step escape x (y ∷ []) n = refl
plain_step escape x (y ∷ z ∷ rest) n = rw n refl

message_step : (x : ℕ) (rest : List ℕ) → unescape message_escape (message_byte x ++ rest) ≡ x
    ∷ unescape message_escape rest
unfolding unescape
message_step x rest =
    let P : ℕ → Type 0 = λ v. unescape message_escape (message_byte v ++ rest) ≡ v ∷ unescape message_escape rest in
    elim (eqb_tells x 37) [
      | inl a ↦ subst P (sym a.1) refl
      | inr a ↦ elim (eqb_tells x 13) [
        | inl b ↦ subst P (sym b.1) refl
        | inr b ↦ elim (eqb_tells x 10) [
          | inl c ↦ subst P (sym c.1) refl
          | inr c ↦ rw (a.0, b.0, c.0) (plain_step message_escape x rest a.0)
        ]
      ]
    ]

value_step : (x : ℕ) (rest : List ℕ) → unescape value_escape (value_byte x ++ rest) ≡ x ∷ unescape value_escape rest
unfolding unescape
value_step x rest =
    let P : ℕ → Type 0 = λ v. unescape value_escape (value_byte v ++ rest) ≡ v ∷ unescape value_escape rest in
    elim (eqb_tells x 58) [
      | inl d ↦ subst P (sym d.1) refl
      | inr d ↦ elim (eqb_tells x 44) [
        | inl e ↦ subst P (sym e.1) refl
        | inr e ↦ elim (eqb_tells x 37) [
          | inl a ↦ subst P (sym a.1) refl
          | inr a ↦ elim (eqb_tells x 13) [
            | inl b ↦ subst P (sym b.1) refl
            | inr b ↦ elim (eqb_tells x 10) [
              | inl c ↦ subst P (sym c.1) refl
              | inr c ↦ rw (d.0, e.0, a.0, b.0, c.0) (plain_step value_escape x rest a.0)
            ]
          ]
        ]
      ]
    ]

message_back : (s : List ℕ) → unescape message_escape (message_text s) ≡ s
unfolding unescape
message_back [] = refl
message_back (x ∷ s) = message_step x (message_text s) ∙ ap (λ l. x ∷ l) (message_back s)

value_back : (s : List ℕ) → unescape value_escape (value_text s) ≡ s
unfolding unescape
value_back [] = refl
value_back (x ∷ s) = value_step x (value_text s) ∙ ap (λ l. x ∷ l) (value_back s)

-- ---- no byte ends the part that contains it

-- a byte that ends a value
abbrev is_mark : ℕ → Bool
is_mark b = is_line_end b || (b == 44 || b == 58)

-- a byte that ends a name
abbrev is_sign : ℕ → Bool
is_sign b = is_mark b || (b == 61 || b == 32)

message_byte_free : (x : ℕ) → Free is_line_end (message_byte x)
message_byte_free x =
    let P : ℕ → Type 0 = λ v. Free is_line_end (message_byte v) in
    elim (eqb_tells x 37) [
      | inl a ↦ subst P (sym a.1) (refl, (refl, (refl, tt)))
      | inr a ↦ elim (eqb_tells x 13) [
        | inl b ↦ subst P (sym b.1) (refl, (refl, (refl, tt)))
        | inr b ↦ elim (eqb_tells x 10) [
          | inl c ↦ subst P (sym c.1) (refl, (refl, (refl, tt)))
          | inr c ↦ rw (a.0, b.0, c.0) (or_from _ _ c.0 b.0, tt)
        ]
      ]
    ]

value_byte_free : (x : ℕ) → Free is_mark (value_byte x)
value_byte_free x =
    let P : ℕ → Type 0 = λ v. Free is_mark (value_byte v) in
    elim (eqb_tells x 58) [
      | inl d ↦ subst P (sym d.1) (refl, (refl, (refl, tt)))
      | inr d ↦ elim (eqb_tells x 44) [
        | inl e ↦ subst P (sym e.1) (refl, (refl, (refl, tt)))
        | inr e ↦ elim (eqb_tells x 37) [
          | inl a ↦ subst P (sym a.1) (refl, (refl, (refl, tt)))
          | inr a ↦ elim (eqb_tells x 13) [
            | inl b ↦ subst P (sym b.1) (refl, (refl, (refl, tt)))
            | inr b ↦ elim (eqb_tells x 10) [
              | inl c ↦ subst P (sym c.1) (refl, (refl, (refl, tt)))
              | inr c ↦ rw (d.0, e.0, a.0, b.0, c.0) (or_from _ _ (or_from _ _ c.0 b.0) (or_from _ _ e.0 d.0), tt)
            ]
          ]
        ]
      ]
    ]

-- ---- the parts of a line

split_colons_at : (xs ys : List ℕ) → Free (λ b. b == 58) xs → split_colons (xs ++ 58 ∷ 58 ∷ ys) ≡ Some (xs, ys)
unfolding split_colons
split_colons_at [] ys h = refl
split_colons_at (x ∷ []) ys h = rw h.0 refl
split_colons_at (x ∷ y ∷ xs) ys h = rw (h.0, split_colons_at (y ∷ xs) ys h.1) refl

-- ---- a property

abbrev NamedProperty : Property → Type 0
NamedProperty p = Free is_sign p.name

abbrev AllNamed : List Property → Type 0
AllNamed [] = ⊤
AllNamed (p ∷ ps) = NamedProperty p × AllNamed ps

no_mark : (b : ℕ) → is_sign b ≡ false → is_mark b ≡ false
no_mark b h = (or_parts (is_mark b) (b == 61 || b == 32) h).0

no_equals : (b : ℕ) → is_sign b ≡ false → (b == 61) ≡ false
no_equals b h = (or_parts (b == 61) (b == 32) (or_parts (is_mark b) (b == 61 || b == 32) h).1).0

no_space : (b : ℕ) → is_sign b ≡ false → (b == 32) ≡ false
no_space b h = (or_parts (b == 61) (b == 32) (or_parts (is_mark b) (b == 61 || b == 32) h).1).1

no_comma : (b : ℕ) → is_mark b ≡ false → (b == 44) ≡ false
no_comma b h = (or_parts (b == 44) (b == 58) (or_parts (is_line_end b) (b == 44 || b == 58) h).1).0

no_colon : (b : ℕ) → is_mark b ≡ false → (b == 58) ≡ false
no_colon b h = (or_parts (b == 44) (b == 58) (or_parts (is_line_end b) (b == 44 || b == 58) h).1).1

no_line_end : (b : ℕ) → is_mark b ≡ false → is_line_end b ≡ false
no_line_end b h = (or_parts (is_line_end b) (b == 44 || b == 58) h).0

property_back : (p : Property) → NamedProperty p → property_in (property_text p) ≡ Some p
property_back p named =
    ap (option_map (λ q. property q.0 (unescape value_escape q.1)))
    (split_once_at 61 p.name (value_text p.value) refl (free_weaker is_sign (λ b. b == 61) no_equals p.name named))
    ∙ ap (λ v. Some (property p.name v)) (value_back p.value)

property_free : (p : Property) → NamedProperty p → Free is_mark (property_text p)
property_free p named =
    free-append is_mark p.name (61 ∷ value_text p.value) (free_weaker is_sign is_mark no_mark p.name named)
    (refl, free-flat_map is_mark value_byte value_byte_free p.value)

-- text that no comma ends
comma_free : (p : Property) → NamedProperty p → All (λ b. (b == 44) ≡ false) (property_text p)
comma_free p named = all_free (λ b. b == 44) (property_text p)
    (free_weaker is_mark (λ b. b == 44) no_comma _ (property_free p named))

split_properties : (p : Property) (ps : List Property) → NamedProperty p → AllNamed ps →
    slice_split (λ b. b == 44) (property_text p ++ more_text ps) ≡ property_text p ∷ map property_text ps
split_properties p [] named more = ap (slice_split (λ b. b == 44)) (append-nil (property_text p))
    ∙ slice_split_none (λ b. b == 44) (property_text p) (comma_free p named)
split_properties p (q ∷ qs) named more =
    slice_split_at (λ b. b == 44) (property_text p) 44 (property_text q ++ more_text qs) (comma_free p named) refl
    ∙ ap (λ l. property_text p ∷ l) (split_properties q qs more.0 more.1)

all_back : (ps : List Property) → AllNamed ps → all_some (map property_in (map property_text ps)) ≡ Some ps
all_back [] named = refl
all_back (p ∷ ps) named = rw (property_back p named.0, all_back ps named.1) refl

properties_back : (p : Property) (ps : List Property) → NamedProperty p → AllNamed ps →
    properties_in (properties_text (p ∷ ps)) ≡ Some (p ∷ ps)
properties_back p ps named more =
    ap (λ l. all_some (map property_in l)) (split_properties p ps named more) ∙ all_back (p ∷ ps) (named, more)

-- ---- a command

abbrev HasNamed : List Property → Type 0
HasNamed [] = ⊥
HasNamed (p ∷ ps) = NamedProperty p × AllNamed ps

more_free : (ps : List Property) → AllNamed ps → Free (λ b. is_line_end b || b == 58) (more_text ps)
more_free [] named = tt
more_free (p ∷ ps) named = (
  refl,
  free-append _ (property_text p) (more_text ps)
      (free_weaker is_mark (λ b. is_line_end b || b == 58) (λ b h. or_from _ _ (no_line_end b h) (no_colon b h)) _
      (property_free p named.0)) (more_free ps named.1),
)

properties_free : (ps : List Property) → HasNamed ps → Free (λ b. is_line_end b || b == 58) (properties_text ps)
properties_free [] named = absurd named
properties_free (p ∷ ps) named =
    free-append _ (property_text p) (more_text ps)
    (free_weaker is_mark (λ b. is_line_end b || b == 58) (λ b h. or_from _ _ (no_line_end b h) (no_colon b h)) _
    (property_free p named.0)) (more_free ps named.1)

some_properties : (ps : List Property) → HasNamed ps → properties_in (properties_text ps) ≡ Some ps
some_properties [] named = absurd named
some_properties (p ∷ ps) named = properties_back p ps named.0 named.1

record IsNamed (c : Command) : Type 0 where
  name : Free is_sign c.name
  properties : HasNamed c.properties

head_free : (c : Command) → IsNamed c →
    Free (λ b. is_line_end b || b == 58) (c.name ++ 32 ∷ properties_text c.properties)
head_free c named =
    free-append _ c.name (32 ∷ properties_text c.properties)
    (free_weaker is_sign (λ b. is_line_end b || b == 58)
    (λ b h. or_from _ _ (no_line_end b (no_mark b h)) (no_colon b (no_mark b h))) c.name named.name)
    (refl, properties_free c.properties named.properties)

-- the head of a command, and the message after it
joined : (c : Command) → c.name ++ 32
    ∷ (properties_text c.properties ++ 58 ∷ 58 ∷ message_text c.message) ≡
    (c.name ++ 32 ∷ properties_text c.properties) ++ 58 ∷ 58 ∷ message_text c.message
joined c = sym (append_assoc c.name (32 ∷ properties_text c.properties) (58 ∷ 58 ∷ message_text c.message))

command_free : (c : Command) → IsNamed c → Free is_line_end (command_text c)
unfolding command_text
command_free c named = (
  refl,
  (
    refl,
    subst (Free is_line_end) (sym (joined c)) (free-append is_line_end _ (58 ∷ 58 ∷ message_text c.message)
        (free_weaker (λ b. is_line_end b || b == 58) is_line_end (λ b h. (or_parts (is_line_end b) (b == 58) h).0) _
        (head_free c named))
        (refl, (refl, free-flat_map is_line_end message_byte message_byte_free c.message))),
  ),
)

head_back : (c : Command) → IsNamed c →
    headed (message_text c.message) (c.name ++ 32 ∷ properties_text c.properties)
    (split_once 32 (c.name ++ 32 ∷ properties_text c.properties)) ≡ Some c
head_back c named =
    ap (headed (message_text c.message) (c.name ++ 32 ∷ properties_text c.properties))
    (split_once_at 32 c.name (properties_text c.properties) refl
    (free_weaker is_sign (λ b. b == 32) no_space c.name named.name))
    ∙ ap (option_map (λ ps. record
    { name = c.name; properties = ps; message = unescape message_escape (message_text c.message) }))
    (some_properties c.properties named.properties)
    ∙ ap (λ m. Some (record { name = c.name; properties = c.properties; message = m })) (message_back c.message)

colons_back : (c : Command) → IsNamed c →
    split_colons (c.name ++ 32 ∷ (properties_text c.properties ++ 58 ∷ 58 ∷ message_text c.message)) ≡ Some
    (c.name ++ 32 ∷ properties_text c.properties, message_text c.message)
colons_back c named =
    ap split_colons (joined c)
    ∙ split_colons_at (c.name ++ 32 ∷ properties_text c.properties) (message_text c.message)
    (free_weaker (λ b. is_line_end b || b == 58) (λ b. b == 58) (λ b h. (or_parts (is_line_end b) (b == 58) h).1) _
    (head_free c named))

command_back : (c : Command) → IsNamed c → command_in (command_text c) ≡ Some c
unfolding command_in command_text split_colons
command_back c named =
    ap (option_and_then (λ q. headed q.1 q.0 (split_once 32 q.0))) (colons_back c named) ∙ head_back c named

-- ---- lines

lines_step : (line : List ℕ) (rest : List (List ℕ)) → 0 < length rest →
    commands_of_lines (line ∷ rest) ≡ option_and_then (λ c. option_map (λ cs. c ∷ cs) (commands_of_lines rest))
    (command_in line)
lines_step line [] h = absurd (omega arith)
lines_step line (next ∷ more) h = refl

abbrev AreNamed : List Command → Type 0
AreNamed [] = ⊤
AreNamed (c ∷ cs) = IsNamed c × AreNamed cs

commands_back : (cs : List Command) → AreNamed cs → commands_in (flat_map line_text cs) ≡ Some cs
commands_back [] named = refl
commands_back (c ∷ cs) named =
    let rest = flat_map line_text cs in
    ap commands_in (append_assoc (command_text c) (10 ∷ []) rest)
    ∙ ap commands_of_lines
    (slice_split_at is_line_end (command_text c) 10 rest (all_free is_line_end _ (command_free c named.0)) refl)
    ∙ lines_step (command_text c) (slice_split is_line_end rest) (omega (arith, length-slice_split is_line_end rest))
    ∙ rw (command_back c named.0, commands_back cs named.1) refl

-- ---- the commands of problems

file_named : (file : Option (List ℕ)) → AllNamed (file_properties file)
file_named None = tt
file_named (Some name) = (free_by_test is_sign (codes "file") refl, tt)

columns_named : (b : Bool) (r : Range) → AllNamed (column_properties b r)
columns_named true r = (free_by_test is_sign (codes "col") refl, (free_by_test is_sign (codes "endColumn") refl, tt))
columns_named false r = tt

named-append : (ps qs : List Property) → AllNamed ps → AllNamed qs → AllNamed (ps ++ qs)
named-append [] qs h k = k
named-append (p ∷ ps) qs h k = (h.0, named-append ps qs h.1 k)

severity_named : (s : Severity) → Free is_sign (severity_name s)
severity_named Error = free_by_test is_sign (codes "error") refl
severity_named Warning = free_by_test is_sign (codes "warning") refl

range_named : (r : Range) → AllNamed (range_properties r)
range_named r = (
  free_by_test is_sign (codes "line") refl,
  (free_by_test is_sign (codes "endLine") refl, columns_named (r.line == r.end_line) r),
)

named : (f : Finding) → IsNamed (command_of f)
unfolding command_of
named f = record {
  name = severity_named f.severity;
  properties = (
    free_by_test is_sign (codes "title") refl,
    named-append (file_properties f.file)
        (range_properties f.range) (file_named f.file) (range_named f.range),
  );
}

all_named : (fs : List Finding) → AreNamed (map command_of fs)
all_named [] = tt
all_named (f ∷ fs) = (named f, all_named fs)

-- the lines of the errors, or of the others, are the lines of their commands
lines_as : (errors : Bool) (fs : List Finding) →
    lines_text errors fs ≡ flat_map line_text (map command_of (filter (λ f. is_among errors f.severity) fs))
lines_as errors [] = refl
lines_as errors (f ∷ fs) =
    let rest = filter (λ g. is_among errors g.severity) fs in
    elim (is_among errors f.severity) as
    (λ b. (if b then line_text (command_of f) else []) ++ lines_text errors fs ≡ flat_map line_text
    (map command_of (if b then f ∷ rest else rest))) [
      | true ↦ ap (λ l. line_text (command_of f) ++ l) (lines_as errors fs)
      | false ↦ lines_as errors fs
    ]

-- the commands read from the lines of the errors and the lines of the others
pub report_back : (fs : List Finding) (text : List ℕ) → text ≡ lines_text true fs ++ lines_text false fs →
    commands_in text ≡ Some (map command_of (errors_first fs))
report_back fs text e =
    let errors = filter (λ f. is_among true f.severity) fs in
    let others = filter (λ f. is_among false f.severity) fs in
    let one : text ≡ flat_map line_text (map command_of (errors_first fs)) =
    e ∙ ap (λ l. l ++ lines_text false fs) (lines_as true fs)
    ∙ ap (λ l. flat_map line_text (map command_of errors) ++ l) (lines_as false fs)
    ∙ sym (flat_map-append line_text (map command_of errors) (map command_of others))
    ∙ ap (flat_map line_text) (sym (map-append command_of errors others)) in
    ap commands_in one ∙ commands_back (map command_of (errors_first fs)) (all_named (errors_first fs))

-- ---- the text of a line

pub more_text-append : (ps qs : List Property) → more_text (ps ++ qs) ≡ more_text ps ++ more_text qs
more_text-append [] qs = refl
more_text-append (p ∷ ps) qs = ap (λ l. 44 ∷ (property_text p ++ l)) (more_text-append ps qs)
    ∙ ap (λ l. 44 ∷ l) (sym (append_assoc (property_text p) (more_text ps) (more_text qs)))

-- the parts of a line, one after another
line_glue : (a p sev q title files ranges message n : List ℕ) {b c d e g h i j k : List ℕ} → b ≡ a ++ p →
    c ≡ b ++ sev → d ≡ c ++ q → e ≡ d ++ title → g ≡ e ++ files → h ≡ g ++ ranges → i ≡ h ++ p →
    j ≡ i ++ message → k ≡ j ++ n →
    k ≡ a ++ (p ++ ((sev ++ (q ++ ((title ++ (files ++ ranges)) ++ (p ++ message)))) ++ n))
line_glue a p sev q title files ranges message n p1 p2 p3 p4 p5 p6 p7 p8 p9 =
    rw (p9, p8, p7, p6, p5, p4, p3, p2, p1) (simp append_assoc)

-- the parts of a problem's line are written one after another
pub line_written : (f : Finding) (a : List ℕ) {b c d e g h i j k : List ℕ} → b ≡ a ++ codes "::" →
    c ≡ b ++ severity_name f.severity → d ≡ c ++ codes " title=" → e ≡ d ++ value_text f.rule →
    g ≡ e ++ more_text (file_properties f.file) → h ≡ g ++ more_text (range_properties f.range) →
    i ≡ h ++ codes "::" → j ≡ i ++ message_text f.message → k ≡ j ++ 10 ∷ [] → k ≡ a ++ line_text (command_of f)
unfolding command_of command_text
line_written f a p q r s t u v w x =
    let sev = severity_name f.severity in
    let title = value_text f.rule in
    let files = more_text (file_properties f.file) in
    let ranges = more_text (range_properties f.range) in
    let message = message_text f.message in
    line_glue a (codes "::") sev (codes " title=") title files ranges message (10 ∷ []) p q r s t u v w x
    ∙ ap (λ l. a ++ (codes "::" ++
    ((sev ++ (codes " title=" ++ ((title ++ l) ++ (codes "::" ++ message)))) ++ 10 ∷ [])))
    (sym (more_text-append (file_properties f.file) (range_properties f.range)))
