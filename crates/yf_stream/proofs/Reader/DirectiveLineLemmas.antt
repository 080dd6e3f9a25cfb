-- Directives as a reader finds them: each up to the end of its line, with all comment lines after it.
use Rattle.std.proofs.Common.{◌≡◌, ◌≢◌, ℕ, ◌+◌, ◌≤◌, List, [], ◌∷◌, ◌++◌, slice_range, false, refl, sym, ap, ◌∙◌, subst, arith, append_assoc, append-nil}
use Rattle.std.proofs.lemmas.List.Elements.{All-append, All-cons, All-nil}
use Rattle.std.proofs.lemmas.Bool.{true_from_ne_false}
use Rattle.std.specs.List.{All}
use Rattle.std.specs.Str.{IsCharBoundary, IsUtf8}
use Rattle.yf_chars.specs.Text.{begins, code}
use Rattle.yf_chars.specs.Class.{is_ns_char}
use Rattle.yf_chars.specs.Chain.{Chain, Chosen, One, Stuck}
use Rattle.yf_chars.specs.Chain.Chain.{done, step}
use Rattle.yf_chars.proofs.ChainLemmas.{chain_forward, chain_meet, one_functional, Meets}
use Rattle.yf_chars.proofs.ChainLemmas.Meets.{goes_on, falls_short}
use Rattle.yf_chars.proofs.TextLemmas.{boundary_from_begins, code-nowhere}
use Rattle.yf_comments.specs.Comment.{CommentValue}
use Rattle.yf_comments.specs.Comments.{LineEnd}
use Rattle.yf_grammar.proofs.Ends.BlankRuns.{ContentBefore}
use Rattle.yf_props.specs.Names.{Run}
use Rattle.yf_props.proofs.NameLemmas.{run_unique}
use Rattle.yf_events.specs.declared.directive.Directive.{Directive}
use Rattle.yf_stream.specs.DirectiveReaders.{DirectivesEnd, DirectivesUpto, IsDirective, LongestDirectives, no_directives, one_directive, WordsRead}
use Rattle.yf_stream.specs.RefusalPlaces.{DirectivesAt}
use Rattle.yf_stream.specs.Stream.{Directives, Parameters, ReservedParameter}
use Rattle.yf_stream.specs.Stream.Parameters.{version_parameter, tag_parameters, reserved_parameters}
use Rattle.yf_stream.proofs.Reader.DirectiveWords.{no_run}
use Rattle.yf_stream.proofs.Uniqueness.OneDirective.{no_end_before, parameters_one, reserved_functional, run_after, version_one, words_after, yaml_no_tag}
use Rattle.yf_stream.proofs.Uniqueness.OneTag.{tag_end}

module _ {t : List ℕ} (u : IsUtf8 t) where
  -- words that end before the end of a line leave no words over
  words_end : {i j k n : ℕ} {x y : List (List ℕ)} {b : List CommentValue} → ContentBefore t i → Chain (ReservedParameter t) i j x → Chain (ReservedParameter t) i k y → k ≤ j
      → LineEnd t k n b → k ≡ j
  words_end {i} {j} {k} {n} {x} {y} {b} h c d l e = go (chain_meet (reserved_functional u) c d) where
    stays : {k j : ℕ} {z : List (List ℕ)} → ContentBefore t k → LineEnd t k n b → Chain (ReservedParameter t) k j z → k ≡ j
    stays o w done = refl
    stays o w (step s r) = absurd (no_end_before u o s w)

    go : Meets (ReservedParameter t) j k x y → k ≡ j
    go (goes_on z r q) = let f = chain_forward (reserved_functional u) r in omega arith
    go (falls_short z r q) = stays (words_after u d h) e r

  parameters_end : {name : List ℕ} {i j k n : ℕ} {x y : List (List ℕ)} {b : List CommentValue} → ContentBefore t i → Chosen (Parameters t name i) j x
      → Parameters t name i k y → LineEnd t k n b → k ≡ j
  parameters_end {name} {i} {j} {k} {n} {x} {y} {b} h c p e = go c.derived p (c.longest k y p) where
    go : {x y : List (List ℕ)} → Parameters t name i j x → Parameters t name i k y → k ≤ j → k ≡ j
    go (version_parameter q s a v z) (version_parameter r o d w g) l = (version_one u o d g s a z).1
    go (version_parameter q s a v z) (reserved_parameters r o d) l = absurd (r q)
    go (version_parameter q s a v z) (tag_parameters r o d w g) l = absurd (yaml_no_tag (sym q ∙ r))
    go (reserved_parameters q o d) (version_parameter r s a v z) l = absurd (q r)
    go (reserved_parameters q o d) (reserved_parameters r s g) l = words_end h d g l e
    go (reserved_parameters q o d) (tag_parameters r s a v z) l = absurd (o r)
    go (tag_parameters q s a v z) r l = tag_end u q (tag_parameters q s a v z) r l e

  name_after : {i k : ℕ} → Run (One t is_ns_char) i k → ContentBefore t k
  name_after r = run_after u (λ c q. q) r.chain r.some

  module _ {i k : ℕ} (e : code t i ≡ 37) (r : Run (One t is_ns_char) (i + 1) k) where
    same_name : {j : ℕ} {x : Directives} (d : IsDirective t i j x) → d.name_end ≡ k
    same_name d = run_unique (one_functional t is_ns_char) d.name r

    parameters_there : {j : ℕ} {x : Directives} (d : IsDirective t i j x) → Parameters t (slice_range t (i + 1) k) k d.words_end d.words
    parameters_there d = subst (λ z. Parameters t (slice_range t (i + 1) z) z d.words_end d.words) (same_name d) d.parameters

    pub no_parameters : Stuck (Parameters t (slice_range t (i + 1) k) k) → Stuck (IsDirective t i)
    no_parameters n = record { none = λ j x d. n.none d.words_end d.words (parameters_there d) }

    pub no_line_end : {l : ℕ} {name : List ℕ} {a b : List (List ℕ)} → name ≡ slice_range t (i + 1) k → WordsRead t name k l a b → Stuck (LineEnd t l)
        → Stuck (IsDirective t i)
    no_line_end {name} n v s = record {
      none = λ j x d.
          let p : Parameters t name k d.words_end d.words = subst (λ z. Parameters t z k d.words_end d.words) (sym n) (parameters_there d) in
          let same = parameters_end (name_after r) v.read p d.ends in
          s.none j x.comments (subst (λ z. LineEnd t z j x.comments) same d.ends);
    }

    module _ {l : ℕ} {w : List (List ℕ)} where
      pub directive_chosen : {j : ℕ} {cs : List CommentValue} → Parameters t (slice_range t (i + 1) k) k l w → Chosen (LineEnd t l) j cs
          → Chosen (IsDirective t i) j (record { directives = record { offset = i; words = slice_range t (i + 1) k ∷ w } ∷ []; comments = cs })
      directive_chosen {j} {cs} p c = record {
        derived = record { name_end = k; words_end = l; words = w; percent = e; name = r; parameters = p; ends = c.derived; is = refl };
        longest = λ m x d. c.longest m x.comments (ends d);
        only = λ x d. ap (λ z. record { directives = z; comments = x.comments }) (words d)
            ∙ ap (λ z. record { directives = record { offset = i; words = slice_range t (i + 1) k ∷ w } ∷ []; comments = z }) (c.only x.comments (ends d));
      }
        where
          same : {m : ℕ} {x : Directives} (d : IsDirective t i m x) → (l ≡ d.words_end) × (w ≡ d.words)
          same d = parameters_one u (name_after r) p c.derived (parameters_there d) d.ends

          ends : {m : ℕ} {x : Directives} (d : IsDirective t i m x) → LineEnd t l m x.comments
          ends {m} {x} d = subst (λ z. LineEnd t z m x.comments) (sym (same d).0) d.ends

          words : {m : ℕ} {x : Directives} (d : IsDirective t i m x) → x.directives ≡ record { offset = i; words = slice_range t (i + 1) k ∷ w } ∷ []
          words d = d.is ∙ ap (λ z. record { offset = i; words = slice_range t (i + 1) z ∷ d.words } ∷ []) (same_name d)
              ∙ ap (λ z. record { offset = i; words = slice_range t (i + 1) k ∷ z } ∷ []) (sym (same d).1)

  pub directive_read : {i k l j : ℕ} {name : List ℕ} {a b w : List (List ℕ)} {cs : List CommentValue} → code t i ≡ 37 → Run (One t is_ns_char) (i + 1) k
      → name ≡ slice_range t (i + 1) k → a ≡ [] → b ≡ a ++ name ∷ [] → WordsRead t name k l b w → Chosen (LineEnd t l) j cs
      → Chosen (IsDirective t i) j (record { directives = record { offset = i; words = w } ∷ []; comments = cs })
  directive_read {i} {k} {l} {j} {name} {a} {b} {w} {cs} e r n f g v c =
      let p : Parameters t (slice_range t (i + 1) k) k l v.words = subst (λ z. Parameters t z k l v.words) n v.read.derived in
      let same : slice_range t (i + 1) k ∷ v.words ≡ w = sym (v.list ∙ ap (λ z. z ++ v.words) (g ∙ ap (λ z. z ++ name ∷ []) f) ∙ ap (λ z. z ∷ v.words) n) in
      subst (λ z. Chosen (IsDirective t i) j (record { directives = record { offset = i; words = z } ∷ []; comments = cs })) same (directive_chosen e r p c)

  pub no_name : {i : ℕ} → is_ns_char (code t (i + 1)) ≡ false → Stuck (IsDirective t i)
  no_name f = record { none = λ j x d. no_run u is_ns_char f d.name }

pub no_percent : {t : List ℕ} {i : ℕ} → code t i ≢ 37 → Stuck (IsDirective t i)
no_percent f = record { none = λ j x d. f d.percent }

-- one more directive
pub directives_more : {t : List ℕ} {i k j : ℕ} {ds : List Directive} {cs : List CommentValue} {x : Directives} → LongestDirectives t i k ds cs → Chosen (IsDirective t k) j x
    → LongestDirectives t i j (ds ++ x.directives) (cs ++ x.comments)
directives_more {t} {i} {k} {j} {x = x} no_directives c = moved (append-nil x.directives) (append-nil x.comments) (one_directive c no_directives) where
  moved : {ds es : List Directive} {cs fs : List CommentValue} → ds ≡ es → cs ≡ fs → LongestDirectives t i j ds cs → LongestDirectives t i j es fs
  moved {ds} {es} {cs} {fs} e f d = subst (λ z. LongestDirectives t i j es z) f (subst (λ z. LongestDirectives t i j z cs) e d)
directives_more {t} {i} {k} {j} {x = x} (one_directive {x = y} {ds = ds} {cs = cs} d r) c =
    subst (λ z. LongestDirectives t i j z ((y.comments ++ cs) ++ x.comments)) (sym (append_assoc y.directives ds x.directives))
    (subst (λ z. LongestDirectives t i j (y.directives ++ (ds ++ x.directives)) z) (sym (append_assoc y.comments cs x.comments)) (one_directive d (directives_more r c)))

-- the directives that have been read
pub directives_empty : {t : List ℕ} {ds : List Directive} (i : ℕ) (a : List CommentValue) → ds ≡ [] → DirectivesUpto t i i ds a a
directives_empty {t} i a e = record { comments = []; longest = subst (λ z. LongestDirectives t i i z []) (sym e) no_directives; list = sym (append-nil a) }

pub directives_read : {t : List ℕ} {i k j : ℕ} {d : Directive} {ds es : List Directive} {a b c x : List CommentValue} → DirectivesUpto t i k ds a b
    → Chosen (IsDirective t k) j (record { directives = d ∷ []; comments = x }) → es ≡ ds ++ d ∷ [] → c ≡ b ++ x → DirectivesUpto t i j es a c
directives_read {t} {i} {j = j} {a = a} {x = x} r d e f = record {
  comments = r.comments ++ x;
  longest = subst (λ z. LongestDirectives t i j z (r.comments ++ x)) (sym e) (directives_more r.longest d);
  list = f ∙ ap (λ z. z ++ x) r.list ∙ append_assoc a r.comments x;
}

pub directives_end : {t : List ℕ} {i p : ℕ} {ds : List Directive} {a b : List CommentValue} → DirectivesUpto t i p ds a b → code t p ≡ 37 → Stuck (IsDirective t p) → DirectivesEnd t i p
directives_end {ds = ds} r e n = record { before = record { directives = ds; comments = r.comments }; longest = r.longest; percent = e; none = n }

-- each directive begins between characters
percent_boundary : (t : List ℕ) (i : ℕ) → code t i ≡ 37 → IsCharBoundary t i
percent_boundary t i e = boundary_from_begins t i (true_from_ne_false (begins t i) (λ b. let c = code-nowhere t i b in absurd (omega arith)))

pub directives_at : {t : List ℕ} {i j : ℕ} {ds : List Directive} {cs : List CommentValue} → LongestDirectives t i j ds cs → DirectivesAt t ds
directives_at {t} no_directives = All-nil (λ (d : Directive). IsCharBoundary t d.offset)
directives_at {t} (one_directive {i = i} {x = x} {ds = ds} c r) =
    let d = c.derived in
    let P = λ (d : Directive). IsCharBoundary t d.offset in
    All-append P x.directives ds
    (subst (λ z. All P z) (sym d.is) (All-cons P _ [] (percent_boundary t i d.percent) (All-nil P)))
    (directives_at r)
