-- Directives (6.8): their tokens state their words and the comments after them.
use Rattle.std.proofs.Common.{◌≡◌, ◌≢◌, ℕ, ◌+◌, false, List, [], ◌∷◌, ◌++◌, codes, slice_range, refl, sym, ap, ◌∙◌, subst, append_assoc, append-nil, arith}
use Rattle.yf_chars.specs.Text.{code}
use Rattle.yf_chars.specs.Class.{is_ns_char}
use Rattle.yf_chars.specs.Chain.{Chain}
use Rattle.yf_chars.specs.Chain.Chain.{done, step}
use Rattle.std.specs.Str.{IsUtf8}
use Rattle.yf_lines.specs.Basic.{SeparateInLine}
use Rattle.yf_comments.specs.Comment.{CommentValue}
use Rattle.yf_comments.specs.Comments.{LineEnd}
use Rattle.yf_props.specs.Names.{TagPrefix}
use Rattle.yf_events.specs.declared.directive.Directive.{Directive}
use Rattle.yf_stream.specs.Stream.{Directives, DirectiveLines}
use Rattle.yf_stream.specs.Stream.DirectiveLines.{more_directives}
use Rattle.yf_standard.specs.Characters.{x}
use Rattle.yf_standard.specs.Rules.{is_name_yaml, is_name_tag}
use Rattle.yf_standard.specs.Tokens.{Token, note_of, notes, notes_of, no_tokens, words_among, comments_among}
use Rattle.yf_standard.specs.Tokens.Token.{a_comment, a_handle, a_word, a_directive}
use Rattle.yf_standard.specs.Readings.{StreamSaid, stream_said}
use Rattle.yf_standard.proofs.Meant.{Then, Either, Several, Here, Character}
use Rattle.yf_standard.proofs.Meant.Then.{both}
use Rattle.yf_standard.proofs.Meant.Either.{left, right}
use Rattle.yf_standard.proofs.Meant.Several.{several}
use Rattle.yf_standard.proofs.Meant.Here.{here}
use Rattle.yf_standard.proofs.Reading.{Star}
use Rattle.yf_standard.proofs.Reading.Star.{none, more}
use Rattle.yf_standard.proofs.Basics.{SomeOf}
use Rattle.yf_standard.proofs.BasicsMeant.{Puts, Quiet}
use Rattle.yf_standard.proofs.BasicsMeant.Puts.{puts}
use Rattle.yf_standard.proofs.CommentsMeant.{Noted}
use Rattle.yf_standard.proofs.CommentsMeant.Noted.{noted}
use Rattle.yf_standard.proofs.NamesMeant.{Handled}
use Rattle.yf_standard.proofs.NamesMeant.Handled.{handled}
use Rattle.yf_standard.proofs.DirectivesRead.{SomeChars, Word, words_of, YamlRead, TagRead, ReservedRead, yaml_line, tag_line, reserved_line}
use Rattle.yf_standard.proofs.PartsRead.{VersionRead}
use Rattle.yf_standard.proofs.SaidParts.{comments_joined}
use Rattle.yf_standard.proofs.FlowSaid.{signed}

abbrev pub with_stream : List CommentValue → StreamSaid → StreamSaid
with_stream cs s = record s { comments = notes_of cs ++ s.comments }

abbrev with_first : CommentValue → StreamSaid → StreamSaid
with_first c s = record s { comments = note_of c ∷ s.comments }

pub notes_streamed : (ds : List Directive) (cs : List CommentValue) (z : List Token) → stream_said ds (notes cs ++ z) ≡ with_stream cs (stream_said ds z)
unfolding stream_said
notes_streamed ds [] z = refl
notes_streamed ds (c ∷ cs) z = ap (λ s. with_first c s) (notes_streamed ds cs z)

-- a word
abbrev pub Worded : List ℕ → (ℕ → ℕ → Type 0) → ℕ → ℕ → List Token → Type 0
Worded t R i j y = Puts (a_word (slice_range t i j) ∷ []) R i j y

abbrev pub word_tokens : List (List ℕ) → List Token
word_tokens [] = []
word_tokens (w ∷ ws) = a_word w ∷ word_tokens ws

words_back : (ws : List (List ℕ)) (cs : List CommentValue) → words_among (word_tokens ws ++ notes cs) ≡ ws
words_back [] [] = refl
words_back [] (c ∷ cs) = words_back [] cs
words_back (w ∷ ws) cs = ap (λ z. w ∷ z) (words_back ws cs)

comments_back : (ws : List (List ℕ)) (cs : List CommentValue) → comments_among (word_tokens ws ++ notes cs) ≡ notes cs
comments_back [] [] = refl
comments_back [] (c ∷ cs) = ap (λ z. a_comment c.offset c.text ∷ z) (comments_back [] cs)
comments_back (w ∷ ws) cs = comments_back ws cs

-- a word after a part
record WordAfter (t : List ℕ) (P R : ℕ → ℕ → Type 0) (i j : ℕ) (y : List Token) : Type 0 where
  pub at : ℕ
  pub before : P i at
  pub word : R at j
  pub tokens : y ≡ a_word (slice_range t at j) ∷ []

word_after : {t : List ℕ} {P R : ℕ → ℕ → Type 0} {i j : ℕ} {y : List Token} → Then (Quiet P) (Worded t R) i j y → WordAfter t P R i j y
word_after {t} {P} {R} {i} {j} (both (puts s) w) = go s w where
  go : {k : ℕ} {y : List Token} → P i k → Worded t R k j y → WordAfter t P R i j y
  go {k} s (puts v) = record { at = k; before = s; word = v; tokens = refl }

-- [86]
pub data YamlSaid (t : List ℕ) (i j : ℕ) : List Token → Type 0 where
  yaml_said : (d : YamlRead t i j) → YamlSaid t i j (a_word (codes "YAML") ∷ a_word (slice_range t d.at j) ∷ [])

pub yaml_means : {t : List ℕ} {i j : ℕ} {y : List Token}
    → Then (Character t no_tokens (x 89)) (Then (Character t no_tokens (x 65)) (Then (Character t no_tokens (x 77)) (Then (Character t no_tokens (x 76))
    (Then (Quiet (SeparateInLine t)) (Worded t (VersionRead t)))))) i j y → YamlSaid t i j (a_word (codes "YAML") ∷ y)
yaml_means {t} {i} {j} d =
    let a = signed (omega arith) d in
    let b = signed (omega arith) a.rest in
    let c = signed (omega arith) b.rest in
    let e = signed (omega arith) c.rest in
    let two : i + 2 ≡ i + 1 + 1 = omega arith in
    let three : i + 3 ≡ i + 1 + 1 + 1 = omega arith in
    go a.sign b.sign (ap (code t) two ∙ c.sign) (ap (code t) three ∙ e.sign) (omega arith) e.rest
  where
    go : {p : ℕ} {y : List Token} → code t i ≡ 89 → code t (i + 1) ≡ 65 → code t (i + 2) ≡ 77 → code t (i + 3) ≡ 76 → p ≡ i + 4 → Then (Quiet (SeparateInLine t)) (Worded t (VersionRead t)) p j y
        → YamlSaid t i j (a_word (codes "YAML") ∷ y)
    go a b c e q d =
        let w = word_after d in
        let v = w.word in
        subst (λ z. YamlSaid t i j (a_word (codes "YAML") ∷ z)) (sym w.tokens)
        (yaml_said (record { y = a; a = b; m = c; l = e; at = w.at; separation = subst (λ z. SeparateInLine t z w.at) q w.before; point = v.point; major = v.major; dot = v.dot; minor = v.minor }))

-- [88]
pub data TagSaid (t : List ℕ) (i j : ℕ) : List Token → Type 0 where
  tag_said : (d : TagRead t i j) → TagSaid t i j (a_word (codes "TAG") ∷ a_handle (slice_range t d.at d.ends) ∷ a_word (slice_range t d.from j) ∷ [])

abbrev TagParts : List ℕ → ℕ → ℕ → List Token → Type 0
TagParts t = Then (Quiet (SeparateInLine t)) (Then (Handled t) (Then (Quiet (SeparateInLine t)) (Worded t (SomeOf (TagPrefix t)))))

pub tag_means : {t : List ℕ} {i j : ℕ} {y : List Token}
    → Then (Character t no_tokens (x 84)) (Then (Character t no_tokens (x 65)) (Then (Character t no_tokens (x 71))
    (Then (Quiet (SeparateInLine t)) (Then (Handled t) (Then (Quiet (SeparateInLine t)) (Worded t (SomeOf (TagPrefix t)))))))) i j y → TagSaid t i j (a_word (codes "TAG") ∷ y)
tag_means {t} {i} {j} d =
    let a = signed (omega arith) d in
    let b = signed (omega arith) a.rest in
    let c = signed (omega arith) b.rest in
    let two : i + 2 ≡ i + 1 + 1 = omega arith in
    go a.sign b.sign (ap (code t) two ∙ c.sign) (omega arith) c.rest
  where
    go : {p : ℕ} {y : List Token} → code t i ≡ 84 → code t (i + 1) ≡ 65 → code t (i + 2) ≡ 71 → p ≡ i + 3 → TagParts t p j y → TagSaid t i j (a_word (codes "TAG") ∷ y)
    go {p} a b c q (both (puts s) (both f r)) = parts s f (word_after r) where
      parts : {k h : ℕ} {v w : List Token} → SeparateInLine t p k → Handled t k h v → WordAfter t (SeparateInLine t) (SomeOf (TagPrefix t)) h j w → TagSaid t i j (a_word (codes "TAG") ∷ (v ++ w))
      parts {k} {h} s (handled f) w =
          subst (λ z. TagSaid t i j (a_word (codes "TAG") ∷ a_handle (slice_range t k h) ∷ z)) (sym w.tokens)
          (tag_said (record { t1 = a; a = b; g = c; at = k; separation = subst (λ z. SeparateInLine t z k) q s; ends = h; handle = f; from = w.at; again = w.before; prefix = w.word }))

-- [83]
pub data ReservedSaid (t : List ℕ) (i j : ℕ) : List Token → Type 0 where
  reserved_said : (d : ReservedRead t i j) → ReservedSaid t i j (a_word (slice_range t i d.at) ∷ word_tokens (words_of d.words))

abbrev pub Parameter : List ℕ → ℕ → ℕ → List Token → Type 0
Parameter t = Worded t (λ i j. (code t i ≢ 35) × SomeChars t is_ns_char i j)

parameters : {t : List ℕ} {i j : ℕ} {y : List Token} → Chain (Then (Quiet (SeparateInLine t)) (Parameter t)) i j y → (s : Star (Word t) i j) × (y ≡ word_tokens (words_of s))
parameters done = (none, refl)
parameters {t} (step {h = h} {y = y} d r) =
    let w = word_after d in
    let q = parameters r in
    (more (w.at, (w.before, w.word)) q.0, ap (λ z. z ++ y) w.tokens ∙ ap (λ z. a_word (slice_range t w.at h) ∷ z) q.1)

pub reserved_means : {t : List ℕ} {i j : ℕ} {y : List Token}
    → Then (Here (λ i. (is_name_yaml t i ≡ false) × (is_name_tag t i ≡ false))) (Then (Worded t (SomeChars t is_ns_char)) (Chain (Then (Quiet (SeparateInLine t)) (Parameter t)))) i j y → ReservedSaid t i j y
reserved_means {t} {i} {j} (both (here o) (both n c)) = go n (parameters c) where
  go : {k : ℕ} {v w : List Token} → Worded t (SomeChars t is_ns_char) i k v → (s : Star (Word t) k j) × (w ≡ word_tokens (words_of s)) → ReservedSaid t i j (v ++ w)
  go {k} (puts n) p =
      subst (λ z. ReservedSaid t i j (a_word (slice_range t i k) ∷ z)) (sym p.1) (reserved_said (record { no_yaml = o.0; no_tag = o.1; at = k; name = n; words = p.0 }))

-- [82] and [209]
pub record LinesSaid (t : List ℕ) (i j : ℕ) (y : List Token) : Type 0 where
  pub value : Directives
  pub lines : DirectiveLines t i j value
  pub says : (ds : List Directive) (z : List Token) → stream_said ds (y ++ z) ≡ with_stream value.comments (stream_said (ds ++ value.directives) z)

line_said : {t : List ℕ} {i j : ℕ} (ws : List (List ℕ)) (cs : List CommentValue) → DirectiveLines t i j (record { directives = record { offset = i; words = ws } ∷ []; comments = cs })
    → LinesSaid t i j (a_directive i ws ∷ notes cs)
unfolding stream_said
line_said {i = i} ws cs d = record { value = _; lines = d; says = λ ds z. notes_streamed (ds ++ record { offset = i; words = ws } ∷ []) cs z }

pub directive_means : {t : List ℕ} {i j : ℕ} {y : List Token} → IsUtf8 t → Then (Character t no_tokens (x 37)) (Then (Either (YamlSaid t) (Either (TagSaid t) (ReservedSaid t))) (Noted (LineEnd t))) i j y
    → LinesSaid t i j (a_directive i (words_among y) ∷ comments_among y)
directive_means {t} {i} {j} u d = let f = signed (omega arith) d in go f.sign f.rest where
  made : (ws : List (List ℕ)) (cs : List CommentValue) {vs : List (List ℕ)} {w : List Token} → vs ≡ ws → w ≡ notes cs
      → DirectiveLines t i j (record { directives = record { offset = i; words = ws } ∷ []; comments = cs }) → LinesSaid t i j (a_directive i vs ∷ w)
  made ws cs {vs} {w} p q d = subst (λ z. LinesSaid t i j (a_directive i z ∷ w)) (sym p) (subst (λ z. LinesSaid t i j (a_directive i ws ∷ z)) (sym q) (line_said ws cs d))

  yaml : {l : ℕ} {v w : List Token} → code t i ≡ 37 → YamlSaid t (i + 1) l v → Noted (LineEnd t) l j w → LinesSaid t i j (a_directive i (words_among (v ++ w)) ∷ comments_among (v ++ w))
  yaml {l} o (yaml_said d) (noted {x = cs} r) =
      let v : List ℕ = slice_range t d.at l in
      made (codes "YAML" ∷ v ∷ []) cs (ap (λ z. codes "YAML" ∷ v ∷ z) (words_back [] cs)) (comments_back [] cs) (yaml_line u o d r)

  tag : {l : ℕ} {v w : List Token} → code t i ≡ 37 → TagSaid t (i + 1) l v → Noted (LineEnd t) l j w → LinesSaid t i j (a_directive i (words_among (v ++ w)) ∷ comments_among (v ++ w))
  tag {l} o (tag_said d) (noted {x = cs} r) =
      let h : List ℕ = slice_range t d.at d.ends in
      let v : List ℕ = slice_range t d.from l in
      made (codes "TAG" ∷ h ∷ v ∷ []) cs (ap (λ z. codes "TAG" ∷ h ∷ v ∷ z) (words_back [] cs)) (comments_back [] cs) (tag_line u o d r)

  reserved : {l : ℕ} {v w : List Token} → code t i ≡ 37 → ReservedSaid t (i + 1) l v → Noted (LineEnd t) l j w → LinesSaid t i j (a_directive i (words_among (v ++ w)) ∷ comments_among (v ++ w))
  reserved o (reserved_said d) (noted {x = cs} r) =
      made (slice_range t (i + 1) d.at ∷ words_of d.words) cs (ap (λ z. slice_range t (i + 1) d.at ∷ z) (words_back (words_of d.words) cs)) (comments_back (words_of d.words) cs) (reserved_line u o d r)

  go : {y : List Token} → code t i ≡ 37 → Then (Either (YamlSaid t) (Either (TagSaid t) (ReservedSaid t))) (Noted (LineEnd t)) (i + 1) j y → LinesSaid t i j (a_directive i (words_among y) ∷ comments_among y)
  go o (both (left d) r) = yaml o d r
  go o (both (right (left d)) r) = tag o d r
  go o (both (right (right d)) r) = reserved o d r

lines_join : {t : List ℕ} {i k j : ℕ} {y z : List Token} → LinesSaid t i k y → LinesSaid t k j z → LinesSaid t i j (y ++ z)
lines_join {y = y} {z = z} a b = record {
  value = record { directives = a.value.directives ++ b.value.directives; comments = a.value.comments ++ b.value.comments };
  lines = more_directives a.lines b.lines;
  says = λ ds w.
      ap (λ v. stream_said ds v) (append_assoc y z w) ∙ a.says ds (z ++ w) ∙ ap (λ s. with_stream a.value.comments s) (b.says (ds ++ a.value.directives) w)
      ∙ ap (λ v. with_stream a.value.comments (with_stream b.value.comments (stream_said v w))) (append_assoc ds a.value.directives b.value.directives)
      ∙ streams_join a.value.comments b.value.comments (stream_said (ds ++ (a.value.directives ++ b.value.directives)) w);
} where
  streams_join : (cs es : List CommentValue) (s : StreamSaid) → with_stream cs (with_stream es s) ≡ with_stream (cs ++ es) s
  streams_join cs es s = λ k. record { documents = s.documents; comments = comments_joined cs es s.comments k }

pub all_lines : {t : List ℕ} {i j : ℕ} {y : List Token} → Several (LinesSaid t) i j y → LinesSaid t i j y
all_lines {t} (several a r) = go a r where
  go : {i k j : ℕ} {y z : List Token} → LinesSaid t i k y → Chain (LinesSaid t) k j z → LinesSaid t i j (y ++ z)
  go {i} {j = j} {y = y} a done = subst (λ z. LinesSaid t i j z) (sym (append-nil y)) a
  go {i} {j = j} {y = y} a (step {x = v} {y = w} b r) = subst (λ z. LinesSaid t i j z) (append_assoc y v w) (go (lines_join a b) r)
