-- Directives (6.8): from the relations of the standard's productions to `DirectiveLines`. A name, a number and a word
-- end before white space or the end of the line, so each is as long as possible.
use Rattle.std.proofs.Common.{◌≡◌, ◌≢◌, ℕ, ◌+◌, ◌<◌, Bool, true, false, true≢false, List, [], ◌∷◌, codes, slice_range, refl, sym, ap, ◌∙◌, subst, ◌⊎◌, inl, inr, ⊎_elim, arith}
use Rattle.std.proofs.lemmas.Bool.{cases_Bool, eq-eqb}
use Rattle.std.specs.Str.{IsUtf8}
use Rattle.yf_chars.specs.Text.{code, next}
use Rattle.yf_chars.specs.Class.{is_ns_char, is_nb_char, is_printable, is_between, is_break_char, is_white, is_digit, is_white_or_end}
use Rattle.yf_chars.specs.Chain.{Chain, One, Many}
use Rattle.yf_chars.specs.Chain.Chain.{done, step}
use Rattle.yf_chars.specs.Chain.One.{one}
use Rattle.yf_lines.specs.Basic.{SeparateInLine}
use Rattle.yf_lines.specs.Basic.SeparateInLine.{by_whites, at_start}
use Rattle.yf_comments.specs.Comment.{CommentValue}
use Rattle.yf_comments.specs.Comments.{LineEnd}
use Rattle.yf_comments.specs.Comments.LineEnd.{past_rest, from_start}
use Rattle.yf_props.specs.Names.{Run, Handle, TagPrefix}
use Rattle.yf_stream.specs.Stream.{ReservedParameter, Parameters, Directives, DirectiveLines}
use Rattle.yf_stream.specs.Stream.ReservedParameter.{reserved_parameter}
use Rattle.yf_stream.specs.Stream.Parameters.{version_parameter, tag_parameters, reserved_parameters}
use Rattle.yf_stream.specs.Stream.DirectiveLines.{last_directive}
use Rattle.yf_standard.specs.Rules.{is_name_yaml, is_name_tag}
use Rattle.yf_standard.proofs.Reading.{Star}
use Rattle.yf_standard.proofs.Reading.Star.{none, more}
use Rattle.yf_standard.proofs.Basics.{SomeOf}
use Rattle.yf_standard.proofs.Texts.{some_first}
use Rattle.yf_standard.proofs.DirectiveNames.{yaml_name, tag_name, yaml_slice, tag_slice}
use Rattle.yf_chars.proofs.TextLemmas.{next_ascii}
use Rattle.yf_lines.proofs.BasicLemmas.{ends_by_white}
use Rattle.yf_props.proofs.NameLemmas.{run_of}
use Rattle.yf_block_scalar.proofs.HeaderLemmas.{rest_stop}
use Rattle.yf_grammar.proofs.Ends.BlankRuns.{ContentBefore, after_byte, no_start_past}
use Rattle.yf_stream.proofs.Uniqueness.OneDirective.{run_after, digit_ns}
use Rattle.yf_grammar.proofs.BlockOutcomes.BlockKeys.{end_not_ns}

-- one or more characters of a class
abbrev pub SomeChars : List ℕ → (ℕ → Bool) → ℕ → ℕ → Type 0
SomeChars t p i j = (w : List ℕ) × (Many t p i j w × (i < j))

-- [87] and [86]
pub record YamlRead (t : List ℕ) (i j : ℕ) : Type 0 where
  pub y : code t i ≡ 89
  pub a : code t (i + 1) ≡ 65
  pub m : code t (i + 2) ≡ 77
  pub l : code t (i + 3) ≡ 76
  pub at : ℕ
  pub separation : SeparateInLine t (i + 4) at
  pub point : ℕ
  pub major : SomeChars t is_digit at point
  pub dot : code t point ≡ 46
  pub minor : SomeChars t is_digit (point + 1) j

-- [88]
pub record TagRead (t : List ℕ) (i j : ℕ) : Type 0 where
  pub t1 : code t i ≡ 84
  pub a : code t (i + 1) ≡ 65
  pub g : code t (i + 2) ≡ 71
  pub at : ℕ
  pub separation : SeparateInLine t (i + 3) at
  pub ends : ℕ
  pub handle : Handle t at ends
  pub from : ℕ
  pub again : SeparateInLine t ends from
  pub prefix : SomeOf (TagPrefix t) from j

-- [85]
abbrev pub Word : List ℕ → ℕ → ℕ → Type 0
Word t i j = (k : ℕ) × (SeparateInLine t i k × ((code t k ≢ 35) × SomeChars t is_ns_char k j))

abbrev pub words_of : {t : List ℕ} {i k : ℕ} → Star (Word t) i k → List (List ℕ)
words_of none = []
words_of {t} (more {k = h} d r) = slice_range t d.0 h ∷ words_of r

-- [83]
pub record ReservedRead (t : List ℕ) (i j : ℕ) : Type 0 where
  pub no_yaml : is_name_yaml t i ≡ false
  pub no_tag : is_name_tag t i ≡ false
  pub at : ℕ
  pub name : SomeChars t is_ns_char i at
  pub words : Star (Word t) at j

no_digit_46 : is_digit 46 ≡ false
unfolding is_digit is_between
no_digit_46 = refl

ns_89 : is_ns_char 89 ≡ true
unfolding is_ns_char is_nb_char is_printable is_between is_break_char is_white
ns_89 = refl

ns_84 : is_ns_char 84 ≡ true
unfolding is_ns_char is_nb_char is_printable is_between is_break_char is_white
ns_84 = refl

pub ns_65 : is_ns_char 65 ≡ true
unfolding is_ns_char is_nb_char is_printable is_between is_break_char is_white
ns_65 = refl

pub ns_77 : is_ns_char 77 ≡ true
unfolding is_ns_char is_nb_char is_printable is_between is_break_char is_white
ns_77 = refl

pub ns_76 : is_ns_char 76 ≡ true
unfolding is_ns_char is_nb_char is_printable is_between is_break_char is_white
ns_76 = refl

pub ns_71 : is_ns_char 71 ≡ true
unfolding is_ns_char is_nb_char is_printable is_between is_break_char is_white
ns_71 = refl

-- a letter and what follows it
ns_step : (t : List ℕ) (i h k c : ℕ) → i + 1 ≡ h → code t i ≡ c → c < 128 → is_ns_char c ≡ true → (w : List ℕ) × Many t is_ns_char h k w → (w : List ℕ) × Many t is_ns_char i k w
ns_step t i h k c q e l n r =
    let x : next t i ≡ h = next_ascii t i (omega (arith, e, l)) ∙ q in
    (code t i ∷ r.0, step (one (ap is_ns_char e ∙ n)) (subst (λ z. Many t is_ns_char z k r.0) (sym x) r.1))

module _ {t : List ℕ} (u : IsUtf8 t) where
  separate_stop : {i j : ℕ} → ContentBefore t i → SeparateInLine t i j → is_white_or_end (code t i) ≡ true
  separate_stop {i} b (by_whites m l) = ends_by_white (code t i) (some_first m l)
  separate_stop b (at_start s) = absurd (no_start_past u b s)

  line_stop : {i j : ℕ} {w : List CommentValue} → ContentBefore t i → LineEnd t i j w → is_white_or_end (code t i) ≡ true
  line_stop b (past_rest r c) = rest_stop (λ s. no_start_past u b s) r
  line_stop b (from_start s c) = absurd (no_start_past u b s)

  words_stop : {i k j : ℕ} {w : List CommentValue} → ContentBefore t i → Star (Word t) i k → LineEnd t k j w → is_white_or_end (code t i) ≡ true
  words_stop b none l = line_stop b l
  words_stop b (more d r) l = separate_stop b d.1.0

  ns_run : {i j : ℕ} → SomeChars t is_ns_char i j → is_white_or_end (code t j) ≡ true → Run (One t is_ns_char) i j
  ns_run {i} {j} d e = run_of t is_ns_char d.1.0 d.1.1 (end_not_ns (code t j) e)

  words_read : {i k j : ℕ} {w : List CommentValue} → Star (Word t) i k → LineEnd t k j w → SomeOf (Chain (ReservedParameter t)) i k
  words_read none l = ([], done)
  words_read (more {k = h} d r) l =
      let b : ContentBefore t h = run_after u (λ c e. e) d.1.1.1.1.0 d.1.1.1.1.1 in
      let rest = words_read r l in
      (_, step (reserved_parameter d.1.0 d.1.1.0 (ns_run d.1.1.1 (words_stop b r l))) rest.1)

  name_yaml : {a k : ℕ} → Run (One t is_ns_char) a k → is_white_or_end (code t k) ≡ true → is_name_yaml t a ≡ false → slice_range t a k ≢ codes "YAML"
  unfolding is_name_yaml
  name_yaml {a} {k} r e n q =
      let y = yaml_name t a k u r q in
      let w : is_white_or_end (code t (a + 4)) ≡ true = ap (λ z. is_white_or_end (code t z)) (sym y.end) ∙ e in
      true≢false (sym (rw (eq-eqb (code t a) 89 y.y, eq-eqb (code t (a + 1)) 65 y.a1, eq-eqb (code t (a + 2)) 77 y.m, eq-eqb (code t (a + 3)) 76 y.l, w) refl) ∙ n)

  name_tag : {a k : ℕ} → Run (One t is_ns_char) a k → is_white_or_end (code t k) ≡ true → is_name_tag t a ≡ false → slice_range t a k ≢ codes "TAG"
  unfolding is_name_tag
  name_tag {a} {k} r e n q =
      let y = tag_name t a k u r q in
      let w : is_white_or_end (code t (a + 3)) ≡ true = ap (λ z. is_white_or_end (code t z)) (sym y.end) ∙ e in
      true≢false (sym (rw (eq-eqb (code t a) 84 y.t1, eq-eqb (code t (a + 1)) 65 y.a1, eq-eqb (code t (a + 2)) 71 y.g, w) refl) ∙ n)

  digits_run : {i j : ℕ} → SomeChars t is_digit i j → is_digit (code t j) ≡ false → Run (One t is_digit) i j
  digits_run d e = run_of t is_digit d.1.0 d.1.1 e

  no_digit : (c : ℕ) → is_white_or_end c ≡ true → is_digit c ≡ false
  no_digit c e = ⊎_elim (λ (d : is_digit c ≡ true). absurd (true≢false (sym (digit_ns c d) ∙ end_not_ns c e))) (λ (d : is_digit c ≡ false). d) (cases_Bool (is_digit c))

  record NameRead (a k l : ℕ) : Type 0 where
    pub name : Run (One t is_ns_char) a k
    pub words : (v : List (List ℕ)) × Parameters t (slice_range t a k) k l v

  yaml_read : {a l j : ℕ} {w : List CommentValue} → YamlRead t a l → LineEnd t l j w → NameRead a (a + 4) l
  yaml_read {a} {l} d e =
      let two : a + 1 + 1 ≡ a + 2 = omega arith in
      let three : a + 2 + 1 ≡ a + 3 = omega arith in
      let four : a + 3 + 1 ≡ a + 4 = omega arith in
      let b : ContentBefore t (a + 4) = subst (λ z. ContentBefore t z) four (after_byte (a + 3) u d.l (omega arith) ns_76) in
      let s = separate_stop b d.separation in
      let c = ns_step t a (a + 1) (a + 4) 89 refl d.y (omega arith) ns_89 (ns_step t (a + 1) (a + 2) (a + 4) 65 two d.a (omega arith) ns_65 (ns_step t (a + 2) (a + 3) (a + 4) 77 three d.m (omega arith) ns_77
      (ns_step t (a + 3) (a + 4) (a + 4) 76 four d.l (omega arith) ns_76 ([], done)))) in
      let m : is_digit (code t d.point) ≡ false = ap is_digit d.dot ∙ no_digit_46 in
      let f : ContentBefore t l = run_after u digit_ns d.minor.1.0 d.minor.1.1 in
      record {
        name = ns_run (c.0, (c.1, omega arith)) s;
        words = (_, version_parameter (yaml_slice t a u d.y d.a d.m d.l) d.separation (digits_run d.major m) d.dot (digits_run d.minor (no_digit (code t l) (line_stop f e))));
      }

  tag_read : {a l : ℕ} → TagRead t a l → NameRead a (a + 3) l
  tag_read {a} {l} d =
      let two : a + 1 + 1 ≡ a + 2 = omega arith in
      let three : a + 2 + 1 ≡ a + 3 = omega arith in
      let b : ContentBefore t (a + 3) = subst (λ z. ContentBefore t z) three (after_byte (a + 2) u d.g (omega arith) ns_71) in
      let s = separate_stop b d.separation in
      let c = ns_step t a (a + 1) (a + 3) 84 refl d.t1 (omega arith) ns_84 (ns_step t (a + 1) (a + 2) (a + 3) 65 two d.a (omega arith) ns_65 (ns_step t (a + 2) (a + 3) (a + 3) 71 three d.g (omega arith) ns_71 ([], done))) in
      record {
        name = ns_run (c.0, (c.1, omega arith)) s;
        words = (_, tag_parameters (tag_slice t a u d.t1 d.a d.g) d.separation d.handle d.again d.prefix.1);
      }

  reserved_read : {a l j : ℕ} {w : List CommentValue} (d : ReservedRead t a l) → LineEnd t l j w → NameRead a d.at l
  reserved_read {a} {l} d e =
      let b : ContentBefore t d.at = run_after u (λ c q. q) d.name.1.0 d.name.1.1 in
      let s = words_stop b d.words e in
      let r = ns_run d.name s in
      record { name = r; words = (_, reserved_parameters (name_yaml r s d.no_yaml) (name_tag r s d.no_tag) (words_read d.words e).1) }

  lined : {i a k l j : ℕ} {w : List CommentValue} → code t i ≡ 37 → i + 1 ≡ a → NameRead a k l → LineEnd t l j w → (ds : Directives) × DirectiveLines t i j ds
  lined {i} {a} {k} {l} e q n d =
      let m : NameRead (i + 1) k l = subst (λ z. NameRead z k l) (sym q) n in
      (_, last_directive e m.name m.words.1 d)

  -- [82]
  pub directive_read : (i j : ℕ) → (a : ℕ) × (((code t i ≡ 37) × (i + 1 ≡ a)) × ((l : ℕ) × ((YamlRead t a l ⊎ (TagRead t a l ⊎ ReservedRead t a l)) × SomeOf (LineEnd t) l j))) → (ds : Directives) × DirectiveLines t i j ds
  directive_read i j d = go d.1.1.1.0 where
    go : YamlRead t d.0 d.1.1.0 ⊎ (TagRead t d.0 d.1.1.0 ⊎ ReservedRead t d.0 d.1.1.0) → (ds : Directives) × DirectiveLines t i j ds
    go (inl y) = lined d.1.0.0 d.1.0.1 (yaml_read y d.1.1.1.1.1) d.1.1.1.1.1
    go (inr (inl y)) = lined d.1.0.0 d.1.0.1 (tag_read y) d.1.1.1.1.1
    go (inr (inr y)) = lined d.1.0.0 d.1.0.1 (reserved_read y d.1.1.1.1.1) d.1.1.1.1.1

  -- [82], with the words of each kind
  pub yaml_line : {i l j : ℕ} {w : List CommentValue} → code t i ≡ 37 → (d : YamlRead t (i + 1) l) → LineEnd t l j w
      → DirectiveLines t i j (record { directives = record { offset = i; words = codes "YAML" ∷ slice_range t d.at l ∷ [] } ∷ []; comments = w })
  unfolding yaml_read
  yaml_line {i} {l} {j} {w} e d r =
      subst (λ z. DirectiveLines t i j (record { directives = record { offset = i; words = z ∷ slice_range t d.at l ∷ [] } ∷ []; comments = w })) (yaml_slice t (i + 1) u d.y d.a d.m d.l)
      (last_directive e (yaml_read d r).name (yaml_read d r).words.1 r)

  pub tag_line : {i l j : ℕ} {w : List CommentValue} → code t i ≡ 37 → (d : TagRead t (i + 1) l) → LineEnd t l j w
      → DirectiveLines t i j (record { directives = record { offset = i; words = codes "TAG" ∷ slice_range t d.at d.ends ∷ slice_range t d.from l ∷ [] } ∷ []; comments = w })
  unfolding tag_read
  tag_line {i} {l} {j} {w} e d r =
      subst (λ z. DirectiveLines t i j (record { directives = record { offset = i; words = z ∷ slice_range t d.at d.ends ∷ slice_range t d.from l ∷ [] } ∷ []; comments = w })) (tag_slice t (i + 1) u d.t1 d.a d.g)
      (last_directive e (tag_read d).name (tag_read d).words.1 r)

  words_are : {i k j : ℕ} {w : List CommentValue} (s : Star (Word t) i k) (l : LineEnd t k j w) → (words_read s l).0 ≡ words_of s
  unfolding words_read
  words_are none l = refl
  words_are (more {k = h} d r) l = ap (λ z. slice_range t d.0 h ∷ z) (words_are r l)

  pub reserved_line : {i l j : ℕ} {w : List CommentValue} → code t i ≡ 37 → (d : ReservedRead t (i + 1) l) → LineEnd t l j w
      → DirectiveLines t i j (record { directives = record { offset = i; words = slice_range t (i + 1) d.at ∷ words_of d.words } ∷ []; comments = w })
  unfolding reserved_read
  reserved_line {i} {l} {j} {w} e d r =
      subst (λ z. DirectiveLines t i j (record { directives = record { offset = i; words = slice_range t (i + 1) d.at ∷ z } ∷ []; comments = w })) (words_are d.words r)
      (last_directive e (reserved_read d r).name (reserved_read d r).words.1 r)
