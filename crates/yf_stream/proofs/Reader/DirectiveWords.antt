-- The parameters of a directive as a reader finds them: as far as they go, or none.
use Rattle.std.proofs.Common.{◌≡◌, ◌≢◌, ℕ, ◌+◌, Bool, false, List, [], ◌∷◌, ◌++◌, slice_range, codes, refl, sym, ap, ◌∙◌, subst, arith, true≢false, append_assoc, Option, Some, None, MatchOption}
use Rattle.std.specs.Str.{IsUtf8}
use Rattle.yf_chars.specs.Text.{code}
use Rattle.yf_chars.specs.Class.{is_white, is_digit, is_ns_char}
use Rattle.yf_chars.specs.Chain.{Chain, Chosen, Many, One, Stuck}
use Rattle.yf_chars.proofs.ChainLemmas.{many_unique, one_functional}
use Rattle.yf_lines.specs.Basic.{LineStart, SeparateInLine}
use Rattle.yf_comments.proofs.RowLemmas.{no_separation, separate_whites}
use Rattle.yf_props.specs.Names.{Run}
use Rattle.yf_props.proofs.NameLemmas.{run_unique}
use Rattle.yf_stream.specs.DirectiveReaders.{ReservedRead, WordsRead}
use Rattle.yf_stream.specs.Stream.{Parameters, ReservedParameter}
use Rattle.yf_stream.specs.Stream.Parameters.{version_parameter, tag_parameters, reserved_parameters}
use Rattle.yf_stream.specs.Stream.ReservedParameter.{reserved_parameter}
use Rattle.yf_stream.proofs.Uniqueness.OneDirective.{digit_ns, no_ns_white, run_first, yaml_no_tag}

module _ {t : List ℕ} where
  -- white space up to another character
  pub same_start : {i k l : ℕ} {w : List ℕ} → Many t is_white i k w → is_white (code t k) ≡ false → SeparateInLine t i l → is_white (code t l) ≡ false → l ≡ k
  same_start m e s f = (many_unique t is_white (separate_whites s).1 f m e).0

-- the parameter of a YAML directive
record Version (t : List ℕ) (i j : ℕ) (x : List (List ℕ)) : Type 0 where
  start : ℕ
  dot : ℕ
  separate : SeparateInLine t i start
  major : Run (One t is_digit) start dot
  point : code t dot ≡ 46
  minor : Run (One t is_digit) (dot + 1) j
  is : x ≡ slice_range t start j ∷ []

module _ {t : List ℕ} (u : IsUtf8 t) where
  -- without a character of a class, no run of it begins
  pub no_run : (p : ℕ → Bool) {i j : ℕ} → p (code t i) ≡ false → Run (One t p) i j → ⊥
  no_run p e r = true≢false (sym (run_first u r.chain r.some) ∙ e)

  version_of : {name : List ℕ} {i j : ℕ} {x : List (List ℕ)} → name ≡ codes "YAML" → Parameters t name i j x → Version t i j x
  version_of e (version_parameter {k = k} {d = d} f s a q b) = record { start = k; dot = d; separate = s; major = a; point = q; minor = b; is = refl }
  version_of e (tag_parameters f s a q b) = absurd (yaml_no_tag (sym e ∙ f))
  version_of e (reserved_parameters f g c) = absurd (f e)

  no_parameter : {i : ℕ} → ((j : ℕ) (x : List (List ℕ)) → Version t i j x → ⊥) → Stuck (Parameters t (codes "YAML") i)
  no_parameter n = record { none = λ j x p. n j x (version_of refl p) }

  digit_no_white : {k d : ℕ} → Run (One t is_digit) k d → is_white (code t k) ≡ false
  digit_no_white {k} r = no_ns_white u k (digit_ns (code t k) (run_first u r.chain r.some))

  pub unseparated_version : {i : ℕ} → is_white (code t i) ≡ false → (LineStart t i → ⊥) → Stuck (Parameters t (codes "YAML") i)
  unseparated_version e n = no_parameter (λ j x v. no_separation e n v.separate)

  module _ {i k : ℕ} {w : List ℕ} (m : Many t is_white i k w) (e : is_white (code t k) ≡ false) where
    major_at : {j : ℕ} {x : List (List ℕ)} (v : Version t i j x) → Run (One t is_digit) k v.dot
    major_at v = subst (λ z. Run (One t is_digit) z v.dot) (same_start m e v.separate (digit_no_white v.major)) v.major

    pub no_major : is_digit (code t k) ≡ false → Stuck (Parameters t (codes "YAML") i)
    no_major f = no_parameter (λ j x v. no_run is_digit f (major_at v))

    module _ {d : ℕ} (r : Run (One t is_digit) k d) where
      dot_at : {j : ℕ} {x : List (List ℕ)} (v : Version t i j x) → v.dot ≡ d
      dot_at v = run_unique (one_functional t is_digit) (major_at v) r

      pub no_point : code t d ≢ 46 → Stuck (Parameters t (codes "YAML") i)
      no_point f = no_parameter (λ j x v. f (ap (code t) (sym (dot_at v)) ∙ v.point))

      minor_at : {j : ℕ} {x : List (List ℕ)} → Version t i j x → Run (One t is_digit) (d + 1) j
      minor_at {j} v = subst (λ z. Run (One t is_digit) (z + 1) j) (dot_at v) v.minor

      pub no_minor : is_digit (code t (d + 1)) ≡ false → Stuck (Parameters t (codes "YAML") i)
      no_minor f = no_parameter (λ j x v. no_run is_digit f (minor_at v))

      pub version_chosen : {j : ℕ} → SeparateInLine t i k → code t d ≡ 46 → Run (One t is_digit) (d + 1) j
          → Chosen (Parameters t (codes "YAML") i) j (slice_range t k j ∷ [])
      version_chosen {j} s q b = record {
        derived = version_parameter refl s r q b;
        longest = λ l x p. let v = version_of refl p in let same = run_unique (one_functional t is_digit) (minor_at v) b in omega arith;
        only = λ x p. let v = version_of refl p in v.is ∙ ap (λ z. slice_range t z j ∷ []) (same_start m e v.separate (digit_no_white v.major));
      }

  -- the words of other directives
  word_no_white : {k l : ℕ} → Run (One t is_ns_char) k l → is_white (code t k) ≡ false
  word_no_white {k} r = no_ns_white u k (run_first u r.chain r.some)

  pub unseparated_word : {i : ℕ} → is_white (code t i) ≡ false → (LineStart t i → ⊥) → Stuck (ReservedParameter t i)
  unseparated_word {i} e n = record { none = λ j x p. go p } where
    go : {j : ℕ} {x : List (List ℕ)} → ReservedParameter t i j x → ⊥
    go (reserved_parameter s h r) = no_separation e n s

  module _ {i k : ℕ} {w : List ℕ} (m : Many t is_white i k w) (e : is_white (code t k) ≡ false) where
    pub no_word_at_hash : code t k ≡ 35 → Stuck (ReservedParameter t i)
    no_word_at_hash f = record { none = λ j x p. go p } where
      go : {j : ℕ} {x : List (List ℕ)} → ReservedParameter t i j x → ⊥
      go (reserved_parameter s h r) = h (ap (code t) (same_start m e s (word_no_white r)) ∙ f)

    pub no_word : is_ns_char (code t k) ≡ false → Stuck (ReservedParameter t i)
    no_word f = record { none = λ j x p. go p } where
      go : {j : ℕ} {x : List (List ℕ)} → ReservedParameter t i j x → ⊥
      go (reserved_parameter {j = j} s h r) = no_run is_ns_char f (subst (λ z. Run (One t is_ns_char) z j) (same_start m e s (word_no_white r)) r)

  words_of : {name : List ℕ} {i j : ℕ} {x : List (List ℕ)} → name ≢ codes "YAML" → name ≢ codes "TAG" → Parameters t name i j x → Chain (ReservedParameter t) i j x
  words_of f g (version_parameter e s a q b) = absurd (f e)
  words_of f g (tag_parameters e s a q b) = absurd (g e)
  words_of f g (reserved_parameters e h c) = c

  pub words_chosen : {name : List ℕ} {i j : ℕ} {x : List (List ℕ)} → name ≢ codes "YAML" → name ≢ codes "TAG" → Chosen (Chain (ReservedParameter t) i) j x
      → Chosen (Parameters t name i) j x
  words_chosen f g h =
      record {
        derived = reserved_parameters f g h.derived;
        longest = λ k y p. h.longest k y (words_of f g p);
        only = λ y p. h.only y (words_of f g p);
      }

-- words at the end of a list
pub one_word : (a : List (List ℕ)) {b : List (List ℕ)} {v x : List ℕ} → b ≡ a ++ v ∷ [] → v ≡ x → b ≡ a ++ x ∷ []
one_word a e f = e ∙ ap (λ w. a ++ w ∷ []) f

pub word_after : (a x : List (List ℕ)) {b c : List (List ℕ)} {v w : List ℕ} → b ≡ a ++ x → c ≡ b ++ v ∷ [] → v ≡ w → c ≡ a ++ (x ++ w ∷ [])
word_after a x {v = v} e f g = f ∙ ap (λ z. z ++ v ∷ []) e ∙ append_assoc a x (v ∷ []) ∙ ap (λ z. a ++ (x ++ z ∷ [])) g

pub two_words : (a : List (List ℕ)) {b c : List (List ℕ)} {v w x y : List ℕ} → b ≡ a ++ v ∷ [] → v ≡ x → c ≡ b ++ w ∷ [] → w ≡ y → c ≡ a ++ (x ∷ y ∷ [])
two_words a {x = x} e f g h = word_after a (x ∷ []) (one_word a e f) g h

-- the results of the readers of parameters
pub reserved_read : {t name : List ℕ} {i j : ℕ} {a b : List (List ℕ)} → IsUtf8 t → name ≢ codes "YAML" → name ≢ codes "TAG" → ReservedRead t i j a b → WordsRead t name i j a b
reserved_read u f g r = record { words = r.words; read = words_chosen u f g r.read; list = r.list }

pub may_reserved : {t name : List ℕ} (i : ℕ) (a b : List (List ℕ)) → IsUtf8 t → name ≢ codes "YAML" → name ≢ codes "TAG" → (o : Option ℕ)
    → MatchOption o ⊥ (λ j. ReservedRead t i j a b) → MatchOption o (Stuck (Parameters t name i)) (λ j. WordsRead t name i j a b)
may_reserved i a b u f g None r = absurd r
may_reserved i a b u f g (Some j) r = reserved_read u f g r
